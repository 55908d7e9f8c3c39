-- The shipped session, the examples of the grounds and the session's history, settled. Assumes nothing.
use Rattle.std.proofs.Common.{◌≡◌, ℕ, zero, suc, ◌<◌, [], ◌∷◌, get_or, None, codes, Option, refl, ap, arith}
use Rattle.std.specs.Fmt.{digits}
use Rattle.std.proofs.lemmas.List.Sorted.{IsPermutation-swap}
use Rattle.rulebook.specs.Texts.{Text}
use Rattle.rulebook.specs.Dates.{is_earlier}
use Rattle.rulebook.specs.Misreading.{replaced, exchanged, twinned}
use Rattle.rulebook.specs.Requests.{Order, asked}
use Rattle.rulebook.specs.Entries.{has_holder, has_namesake}
use Rattle.rulebook.specs.Outcomes.{other_holder, may_name, misfit}
use Rattle.rulebook.specs.Histories.{by, granted_at, registers, dates, activates}
use Rattle.rulebook.specs.Lasting.{CreatedAt}
use Rattle.rulebook.specs.Records.{RegistrationTexts}
use Rattle.rulebook.specs.Sessions.{SessionSettled, HistorySettled, session_history, alpha, alpha_registration}
use Rattle.rulebook.proofs.Entries.{none_some}

pub session_settled : SessionSettled
unfolding digits asked is_earlier has_holder has_namesake other_holder may_name misfit
session_settled = record { session = refl; examples = refl; full = refl }

-- no position of the history created that code
unissued_at : (i : ℕ) (d : Text) (r : RegistrationTexts) → CreatedAt (codes "9Q") session_history i d (codes "9QX0000000000011") r → ⊥
unfolding asked
unissued_at zero d r e = none_some _ e
unissued_at (suc zero) d r e = let z : ◌≡◌ {A = ℕ} 0 1 = cc in omega arith
unissued_at (suc (suc zero)) d r e = none_some _ e
unissued_at (suc (suc (suc zero))) d r e = let z : codes "9QYNORTH-------T" ≡ codes "9QX0000000000011" = cc in let y = ap (λ (t : Text). get_or t 2 0) z in omega arith
unissued_at (suc (suc (suc (suc zero)))) d r e = let z : codes "9QXALPHA-------9" ≡ codes "9QX0000000000011" = cc in let y = ap (λ (t : Text). get_or t 3 0) z in omega arith
unissued_at (suc (suc (suc (suc (suc i))))) d r e = none_some _ e

-- what the lines after the creation, and after the deactivation, say
silent_since : (j : ℕ) → j < 4 → by (registers alpha) (granted_at (codes "9Q") session_history j) ≡ None
unfolding asked
silent_since zero h = refl
silent_since (suc zero) h = refl
silent_since (suc (suc zero)) h = refl
silent_since (suc (suc (suc zero))) h = refl
silent_since (suc (suc (suc (suc j)))) h = absurd (omega arith)

silent_first : {X : Type 0} (f : Order → Option X) (j : ℕ) → j < 1 → by f (granted_at (codes "9Q") session_history j) ≡ None
unfolding asked
silent_first f zero h = refl
silent_first f (suc j) h = absurd (omega arith)

pub history_settled : HistorySettled
unfolding asked
history_settled = record {
  issued = record { position = 4; date = codes "2026-03-01"; registration = alpha_registration; created = refl };
  names = record { position = 4; registration = alpha_registration; granted = refl; object = refl; function = refl };
  registration = record { position = 4; said = refl; last = silent_since };
  date = record { position = 1; said = refl; last = silent_first (dates alpha) };
  active = record { position = 1; said = refl; last = silent_first (activates alpha) };
  unissued = λ i. unissued_at i.position i.date i.registration i.created;
  replaced = replaced 7 66 (omega arith) (λ e. omega arith);
  exchanged = exchanged 3 4 (omega arith) (omega arith) (λ e. omega arith);
  twinned = twinned 3 4 49 (omega arith) (omega arith) (λ e. omega arith) refl (λ e. omega arith);
  shuffled = λ e f. IsPermutation-swap (e ∷ f ∷ []) (f ∷ e ∷ []) 0 1 (omega arith) (omega arith) refl;
}

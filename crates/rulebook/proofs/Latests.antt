-- What the latest of the granted orders says, one event later. Assumes nothing.
use Rattle.std.proofs.Common.{◌≡◌, ℕ, zero, suc, ◌<◌, ◌∷◌, Some, None, Option, ◌∙◌, arith}
use Rattle.rulebook.specs.Texts.{Text}
use Rattle.rulebook.specs.Requests.{Order}
use Rattle.rulebook.specs.Histories.{Event, History, order_of, granted_at, by, Latest}

abbrev pub or_else : {X : Type 0} → Option X → Option X → Option X
or_else (Some x) o = Some x
or_else None o = o

module _ {X : Type 0} (office : Text) (f : Order → Option X) (e : Event) (h : History) where
  later : (x : X) → by f (order_of office e) ≡ None → (p : Latest office h f x) → (j : ℕ) → j < suc p.position → by f (granted_at office (e ∷ h) j) ≡ None
  later x q p zero l = q
  later x q p (suc j) l = p.last j (omega arith)

  -- what the event says, else what was said before
  pub latest_more : (x : X) (w o : Option X) → by f (order_of office e) ≡ w → or_else w o ≡ Some x → (o ≡ Some x → Latest office h f x) → Latest office (e ∷ h) f x
  latest_more x (Some y) o q s ih = record { position = 0; said = q ∙ s; last = λ j l. absurd (omega arith) }
  latest_more x None o q s ih = let p = ih s in record { position = suc p.position; said = p.said; last = later x q p }

-- A text whose bytes all pass a test. Assumes nothing.
use Rattle.std.proofs.Common.{◌≡◌, ℕ, ◌<◌, ◌≤◌, Bool, true, false, ◌&&◌, leb, [], ◌∷◌, length, refl, ap, arith}
use Rattle.std.proofs.lemmas.Bool.{and_parts, leb-true}
use Rattle.std.proofs.lemmas.Bool.Decides.{nat_tests}
use Rattle.std.specs.List.{list_all}
use Rattle.rulebook.specs.Texts.{Text}
use Rattle.rulebook.specs.Fields.{all_of, up_to}

-- the library's word for it
pub all_is : (p : ℕ → Bool) (t : Text) → list_all p t ≡ all_of p t
all_is p [] = refl
all_is p (b ∷ bs) = ap (λ (x : Bool). p b && x) (all_is p bs)

-- a text of 1 to n bytes has up to n that pass where they all do
pub up_to_is : (n : ℕ) (p : ℕ → Bool) (t : Text) → 1 ≤ length t → length t ≤ n → list_all p t ≡ up_to n p t
up_to_is n p t lo hi = grind (arith, nat_tests, all_is p t)

pub not_up_to : (n : ℕ) (p : ℕ → Bool) (t : Text) → (1 ≤ length t → length t ≤ n → ⊥) → up_to n p t ≡ false
not_up_to n p t h = grind (arith, nat_tests)

pub up_to_some : (n : ℕ) (p : ℕ → Bool) (t : Text) → up_to n p t ≡ true → 0 < length t
up_to_some n p t e = leb-true 1 (length t) (and_parts (leb 1 (length t)) _ e).0

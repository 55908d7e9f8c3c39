-- A text with zeroes after it. Assumes nothing.
use Rattle.std.proofs.Common.{◌≡◌, ℕ, ◌+◌, ◌-◌, ◌≤◌, ◌++◌, length, take, drop, replicate, refl, ap, ◌∙◌, arith, length-append}
use lib.ListN.{length-replicate}
use Rattle.std.proofs.lemmas.List.{drop_at, take_at}
use Rattle.rulebook.specs.Texts.{Text}

module _ (n : ℕ) (bytes t : Text) (e : bytes ≡ t ++ replicate (n - length t) 0) where
  pub pad_clear : drop (length t) bytes ≡ replicate (n - length t) 0
  pad_clear = ap (drop (length t)) e ∙ drop_at t (replicate (n - length t) 0) (length t) refl

  pub pad_text : take (length t) bytes ≡ t
  pad_text = ap (take (length t)) e ∙ take_at t (replicate (n - length t) 0) (length t) refl

  pub pad_long : length t ≤ n → length bytes ≡ n
  pad_long h = ap length e ∙ length-append t (replicate (n - length t) 0) ∙ ap (λ (k : ℕ). length t + k) (length-replicate (n - length t) 0) ∙ omega arith

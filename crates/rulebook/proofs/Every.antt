-- A rule of every number below a bound, by one test that antt computes. Assumes nothing.
use Rattle.std.proofs.Common.{◌≡◌, ℕ, zero, suc, ◌<◌, Bool, true, ◌&&◌, refl}
use Rattle.std.proofs.lemmas.Bool.Decides.{Decides-below_and}

abbrev pub every : (ℕ → Bool) → ℕ → Bool
every p zero = true
every p (suc n) = p n && every p n

pub every_at : (p : ℕ → Bool) (n : ℕ) → every p n ≡ true → (k : ℕ) → k < n → p k ≡ true
every_at p n e = (Decides-below_and p (λ k. p k ≡ true) (every p) (λ k. (λ h. h, λ h. h)) refl (λ _. refl) n).0 e

pub every_two : (p : ℕ → ℕ → Bool) (m n : ℕ) → every (λ i. every (p i) n) m ≡ true → (i k : ℕ) → i < m → k < n → p i k ≡ true
every_two p m n e i k hi hk = every_at (p i) n (every_at (λ j. every (p j) n) m e i hi) k hk

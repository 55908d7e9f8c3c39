-- What a write comes to, by what it meets, and what a place that is told by a test says of it. Assumes nothing.
use Rattle.std.proofs.Common.{◌≡◌, ℕ, ◌<◌, ◌≤◌, Bool, true, false, cond, List, length, Ok, Err, refl, arith}
use Rattle.std.proofs.lemmas.Bool.{lt-ltb, le-ltb}
use Rattle.rulebook.specs.Entries.{is_held}
use Rattle.rulebook.specs.Stores.{limit}
use Rattle.eic.specs.Views.{code_text}
use Rattle.records.specs.declared.Record.{Record}
use Rattle.stores.specs.Rows.{held_in, by_case}

module _ {X : Type 0} (r : Record) (n : ℕ) (xs : List Record) (same new full : X) where
  pub by_held : is_held (code_text r.code) (held_in n xs) ≡ true → same ≡ by_case r n xs same new full
  by_held t = rw t refl

  pub by_free : is_held (code_text r.code) (held_in n xs) ≡ false → n < limit (length xs) → new ≡ by_case r n xs same new full
  by_free t lt = let u = lt-ltb n (limit (length xs)) lt in rw (t, u) refl

  pub by_full : is_held (code_text r.code) (held_in n xs) ≡ false → limit (length xs) ≤ n → full ≡ by_case r n xs same new full
  by_full t le = let u = le-ltb n (limit (length xs)) le in rw (t, u) refl

pub ok_is : (b : Bool) (x y p : ℕ) → cond b (Ok x) (Err y) ≡ Ok p → (b ≡ true) × (p ≡ x)
ok_is true x y p e = (refl, (cc))
ok_is false x y p e = absurd (let z : ◌≡◌ {A = ℕ} 0 1 = cc in omega arith)

pub err_is : (b : Bool) (x y p : ℕ) → cond b (Ok x) (Err y) ≡ Err p → (b ≡ false) × (p ≡ y)
err_is true x y p e = absurd (let z : ◌≡◌ {A = ℕ} 0 1 = cc in omega arith)
err_is false x y p e = (refl, (cc))

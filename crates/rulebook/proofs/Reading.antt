-- What the reading of a code tells of its text. Assumes nothing.
use Rattle.std.proofs.Common.{◌≡◌, ℕ, ◌%◌, Bool, true, false, cond, ◌&&◌, eqb, length, is_ok, Some, None, Ok, Err, Option, Result, refl, ap, ◌∙◌, arith}
use Rattle.std.proofs.lemmas.Bool.{eqb-true, eq-eqb, and_from}
use Rattle.grounds.specs.declared.Ground.TheVariants.{CodeForm, CheckCharacter}
use Rattle.rulebook.specs.Texts.{Text, refused, viewed, onward}
use Rattle.rulebook.specs.Schemes.{weighted_sum, first_unlawful, unless_at, weighed, is_multiple}
use Rattle.rulebook.specs.Codes.{eic, is_sound, placed_as, sum_of, checked, read_code}

-- no refusal is a value
pub err_ok : {X Y E : Type 0} {e : E} {x : X} → ◌≡◌ {A = Result X E} (Err e) (Ok x) → Y
err_ok e = let z : ◌≡◌ {A = ℕ} 0 1 = cc in absurd (omega arith)

pub record Weighed (n : ℕ) (t : Text) (sum : ℕ) : Type 0 where
  pub long : length t ≡ n
  pub lawful : first_unlawful eic 0 t ≡ None
  pub sums : weighted_sum eic 0 t ≡ sum

weighed_parts : (n sum : ℕ) (t : Text) (l : Bool) (o : Option ℕ) → eqb (length t) n ≡ l → first_unlawful eic 0 t ≡ o →
    cond l (placed_as (unless_at o (weighted_sum eic 0 t))) (refused CodeForm 0) ≡ Ok sum → Weighed n t sum
weighed_parts n sum t true None l o e = record { long = eqb-true (length t) n l; lawful = o; sums = cc }
weighed_parts n sum t true (Some p) l o e = err_ok e
weighed_parts n sum t false p l o e = err_ok e

-- where the sum of n characters is told, they are n lawful characters with that sum
pub sum_parts : (n sum : ℕ) (t : Text) → sum_of n t ≡ Ok sum → Weighed n t sum
sum_parts n sum t e = weighed_parts n sum t (eqb (length t) n) (first_unlawful eic 0 t) refl refl e

-- and the sum of n lawful characters is told
pub sum_from : (n : ℕ) (t : Text) → length t ≡ n → first_unlawful eic 0 t ≡ None → sum_of n t ≡ Ok (weighted_sum eic 0 t)
sum_from n t l o =
    ap (λ (b : Bool). cond b (placed_as (weighed eic t)) (refused CodeForm 0)) (eq-eqb (length t) n l)
    ∙ ap (λ (p : Option ℕ). placed_as (unless_at p (weighted_sum eic 0 t))) o

-- sixteen lawful characters whose sum is a multiple of 37 are sound
pub sound_from : (sum : ℕ) (t : Text) → Weighed 16 t sum → sum % 37 ≡ 0 → is_sound t ≡ true
sound_from sum t w e =
    and_from (eqb (length t) 16) (is_multiple 37 (weighed eic t)) (eq-eqb (length t) 16 w.long)
    (ap (λ (o : Option ℕ). is_multiple 37 (unless_at o (weighted_sum eic 0 t))) w.lawful ∙ eq-eqb (weighted_sum eic 0 t % 37) 0 (ap (λ (n : ℕ). n % 37) w.sums ∙ e))

checked_ok : (t : Text) (b : Bool) → is_ok (cond b (Ok t) (refused {X = Text} CheckCharacter 0)) ≡ b
checked_ok t true = refl
checked_ok t false = refl

read_sound_by : (t : Text) (l : Bool) (o : Option ℕ) → is_ok (onward (cond l (placed_as (unless_at o (weighted_sum eic 0 t))) (refused CodeForm 0)) (checked t)) ≡ (l && is_multiple 37 (unless_at o (weighted_sum eic 0 t)))
read_sound_by t true None = checked_ok t (eqb (weighted_sum eic 0 t % 37) 0)
read_sound_by t true (Some p) = refl
read_sound_by t false o = refl

-- a text is read as a code exactly if it is sound
pub read_sound : (t : Text) → is_ok (read_code t) ≡ is_sound t
read_sound t = read_sound_by t (eqb (length t) 16) (first_unlawful eic 0 t)

pub viewed_ok : {X Y E : Type 0} (f : X → Y) (r : Result X E) → is_ok (viewed f r) ≡ is_ok r
viewed_ok f (Ok x) = refl
viewed_ok f (Err e) = refl

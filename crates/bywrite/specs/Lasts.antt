-- Records of which one goes to the end: no code twice.
use Rattle.std.specs.Prelude.{◌≡◌, suc, Bool, true, false, cond, not, ◌&&◌, List, [], ◌∷◌, ◌++◌, take, drop, is_some, Some, None, Option, refl}
use Rattle.std.specs.List.{remove}
use Rattle.std.specs.Str.{bytes_eq}
use Rattle.std.proofs.Common.{ℕ, get_or, sym, ap, ◌∙◌}
use Rattle.std.proofs.lemmas.Slice.Eq.{bytes_eq-Decides}
use Rattle.std.proofs.lemmas.List.{append-nil, set-get_or, set_split}
use Rattle.std.proofs.lemmas.Bool.Decides.{same_from_decides, Decides-like}
use Rattle.rulebook.specs.Texts.{Text}
use Rattle.rulebook.specs.Records.{Entry}
use Rattle.rulebook.specs.Entries.{find, is_held}
use Rattle.stores.specs.Orders.{Stands}
use Rattle.bywrite.specs.Places.{is_distinct}

-- ---- where a record stands does not matter to what is held, nor to whether a code stands twice
held_by : (s t : Bool) (x z : Entry) (o p : Option Entry) → is_some o ≡ is_some (cond t (Some x) p) → is_some (cond s (Some z) o) ≡ is_some (cond t (Some x) (cond s (Some z) p))
held_by true true x z o p e = refl
held_by true false x z o p e = refl
held_by false t x z o p e = e

held_first : (c : Text) (a b : List Entry) (x : Entry) → is_held c (a ++ x ∷ b) ≡ is_held c (x ∷ (a ++ b))
held_first c [] b x = refl
held_first c (z ∷ a) b x = held_by (bytes_eq z.code c) (bytes_eq x.code c) x z (find c (a ++ x ∷ b)) (find c (a ++ b)) (held_first c a b x)

distinct_by : (s : Bool) (x z : Entry) (o p : Option Entry) (d : Bool) → (not (is_some (cond s (Some x) o)) && (not (is_some p) && d)) ≡ (not (is_some (cond s (Some z) p)) && (not (is_some o) && d))
distinct_by true x z o p d = refl
distinct_by false x z None p d = refl
distinct_by false x z (Some y) None d = refl
distinct_by false x z (Some y) (Some w) d = refl

same_sym : (t u : Text) → bytes_eq t u ≡ bytes_eq u t
same_sym t u = same_from_decides (bytes_eq t u) (bytes_eq u t) (bytes_eq-Decides t u) (Decides-like (bytes_eq u t) sym sym (bytes_eq-Decides u t))

distinct_first : (a b : List Entry) (x : Entry) → is_distinct (a ++ x ∷ b) ≡ is_distinct (x ∷ (a ++ b))
distinct_first [] b x = refl
distinct_first (z ∷ a) b x =
    let o = find z.code (a ++ b) in
    let p = find x.code (a ++ b) in
    let d = is_distinct (a ++ b) in
    ap (λ (h : Bool). not h && is_distinct (a ++ x ∷ b)) (held_first z.code a b x)
    ∙ ap (λ (d : Bool). not (is_held z.code (x ∷ (a ++ b))) && d) (distinct_first a b x)
    ∙ ap (λ (s : Bool). not (is_some (cond s (Some x) o)) && (not (is_some p) && d)) (same_sym x.code z.code)
    ∙ distinct_by (bytes_eq z.code x.code) x z o p d

pub distinct_last : (es : List Entry) (e : Entry) → is_distinct (es ++ e ∷ []) ≡ is_distinct (e ∷ es)
distinct_last es e = distinct_first es [] e ∙ ap (λ (ys : List Entry). is_distinct (e ∷ ys)) (append-nil es)

-- ---- the record with a code that is held goes, and one with its code stands last
pub renewed_distinct : (e : Entry) (es : List Entry) (p : ℕ) → Stands e.code es p → is_distinct (remove es p ++ e ∷ []) ≡ is_distinct es
renewed_distinct e es p s =
    let left = remove es p in
    let x = get_or es p e in
    distinct_last left e
    ∙ ap (λ (c : Text). not (is_held c left) && is_distinct left) (sym (s.code e))
    ∙ sym (distinct_first (take p es) (drop (suc p) es) x)
    ∙ ap is_distinct (sym (set_split es p x s.inside) ∙ set-get_or es p e)

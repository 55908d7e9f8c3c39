-- What a code's slot says of records in ascending order, and what a write keeps.
use Rattle.std.specs.Prelude.{◌≡◌, ℕ, zero, suc, ◌<◌, ◌≤◌, Bool, true, false, cond, ◌&&◌, List, [], ◌∷◌, length, is_some, Some, None, refl}
use Rattle.std.specs.List.{insert}
use Rattle.std.specs.Str.{bytes_eq}
use Rattle.std.proofs.Common.{get_or, set, sym, ap, ◌∙◌, subst, arith}
use Rattle.std.proofs.lemmas.Bool.{and_parts, and_from, both_ways}
use Rattle.rulebook.specs.Texts.{Text, precedes}
use Rattle.rulebook.specs.Records.{Entry}
use Rattle.rulebook.specs.Entries.{find, is_held}
use Rattle.rulebook.proofs.Entries.{same_true, same_from, unlike_from}
use Rattle.rulebook.proofs.Orders.{precedes_irrefl, precedes_trans, precedes_total}
use Rattle.stores.specs.Orders.{Stands}
use Rattle.bycode.specs.Order.{is_after, is_ascending, slot}
use Rattle.bycode.specs.Apart.{after_at}

-- a text that stands before another is not it
unlike : (t u : Text) → precedes t u ≡ true → bytes_eq t u ≡ false
unlike t u p = unlike_from t u (λ e. both_ways (precedes t t) (precedes_irrefl t) (ap (precedes t) e ∙ p))

unlike_back : (t u : Text) → precedes u t ≡ true → bytes_eq t u ≡ false
unlike_back t u p = unlike_from t u (λ e. both_ways (precedes u u) (precedes_irrefl u) (ap (precedes u) (sym e) ∙ p))

suc_le : (b : Bool) (m n : ℕ) → m ≤ n → cond b (suc m) 0 ≤ suc n
suc_le true m n h = omega arith
suc_le false m n h = omega arith

pub slot_le : (c : Text) (es : List Entry) → slot c es ≤ length es
slot_le c [] = omega arith
slot_le c (e ∷ es) = suc_le (precedes e.code c) (slot c es) (length es) (slot_le c es)

-- ---- one look into the records
slot_upto_by : (b : Bool) (m i : ℕ) → m ≤ i → cond b (suc m) 0 ≤ suc i
slot_upto_by true m i h = omega arith
slot_upto_by false m i h = omega arith

pub slot_upto : (c : Text) (es : List Entry) (i : ℕ) (d : Entry) → i < length es → precedes (get_or es i d).code c ≡ false → slot c es ≤ i
slot_upto c [] i d h p = omega arith
slot_upto c (e ∷ es) zero d h p = rw p (omega arith)
slot_upto c (e ∷ es) (suc i) d h p = slot_upto_by (precedes e.code c) (slot c es) i (slot_upto c es i d (omega arith) p)

pub slot_past : (c : Text) (es : List Entry) (i : ℕ) (d : Entry) → is_ascending es ≡ true → i < length es → precedes (get_or es i d).code c ≡ true → i < slot c es
slot_past c [] i d u h p = absurd (omega arith)
slot_past c (e ∷ es) zero d u h p = rw p (omega arith)
slot_past c (e ∷ es) (suc i) d u h p =
    let q = and_parts (is_after e.code es) (is_ascending es) u in
    let t = precedes_trans e.code (get_or es i d).code c (after_at e.code es i d q.0 (omega arith)) p in
    let ih = slot_past c es i d q.1 (omega arith) p in
    rw t (omega arith)

-- a code before all others is not held
before_all : (c : Text) (es : List Entry) → is_after c es ≡ true → find c es ≡ None
before_all c [] a = refl
before_all c (x ∷ es) a =
    let p = and_parts (precedes c x.code) (is_after c es) a in
    let ne = unlike_back x.code c p.0 in
    rw ne (before_all c es p.1)

after_less : (b c : Text) (es : List Entry) → precedes b c ≡ true → is_after c es ≡ true → is_after b es ≡ true
after_less b c [] h a = refl
after_less b c (x ∷ es) h a =
    let p = and_parts (precedes c x.code) (is_after c es) a in
    and_from (precedes b x.code) (is_after b es) (precedes_trans b c x.code h p.0) (after_less b c es h p.1)

-- ---- a held code stands at its slot
stands_by : (c : Text) (x : Entry) (es : List Entry) (b s : Bool) → precedes x.code c ≡ b → bytes_eq x.code c ≡ s
    → (is_some (find c es) ≡ true → Stands c es (slot c es)) → is_after x.code es ≡ true → is_some (cond s (Some x) (find c es)) ≡ true
    → Stands c (x ∷ es) (cond b (suc (slot c es)) 0)
stands_by c x es true true t s ih a h = absurd (both_ways (bytes_eq x.code c) (unlike x.code c t) s)
stands_by c x es true false t s ih a h = let w = ih h in let i = w.inside in record { inside = omega arith; code = λ d. w.code d }
stands_by c x es false true t s ih a h = record { inside = omega arith; code = λ d. same_true x.code c s }
stands_by c x es false false t s ih a h =
    let n : x.code ≡ c → ⊥ = λ z. both_ways (bytes_eq x.code c) s (same_from x.code c z) in
    absurd (both_ways (is_some (find c es)) (ap is_some (before_all c es (after_less c x.code es (precedes_total x.code c t n) a))) h)

pub stands : (c : Text) (es : List Entry) → is_ascending es ≡ true → is_held c es ≡ true → Stands c es (slot c es)
stands c [] u h = absurd (both_ways false refl h)
stands c (x ∷ es) u h =
    let p = and_parts (is_after x.code es) (is_ascending es) u in
    stands_by c x es (precedes x.code c) (bytes_eq x.code c) refl refl (stands c es p.1) p.0 h

-- ---- one record in another's place
after_set : (c : Text) (es : List Entry) (p : ℕ) (r d : Entry) → (get_or es p d).code ≡ r.code → is_after c es ≡ true → is_after c (set es p r) ≡ true
after_set c [] p r d e a = refl
after_set c (x ∷ es) zero r d e a = subst (λ (k : Text). (precedes c k && is_after c es) ≡ true) e a
after_set c (x ∷ es) (suc p) r d e a =
    let q = and_parts (precedes c x.code) (is_after c es) a in
    and_from (precedes c x.code) (is_after c (set es p r)) q.0 (after_set c es p r d e q.1)

pub ascending_set : (es : List Entry) (p : ℕ) (r d : Entry) → (get_or es p d).code ≡ r.code → is_ascending es ≡ true → is_ascending (set es p r) ≡ true
ascending_set [] p r d e u = refl
ascending_set (x ∷ es) zero r d e u = subst (λ (k : Text). (is_after k es && is_ascending es) ≡ true) e u
ascending_set (x ∷ es) (suc p) r d e u =
    let q = and_parts (is_after x.code es) (is_ascending es) u in
    and_from (is_after x.code (set es p r)) (is_ascending (set es p r)) (after_set x.code es p r d e q.0) (ascending_set es p r d e q.1)

-- ---- one record more
after_in : (c : Text) (es : List Entry) (p : ℕ) (r : Entry) → precedes c r.code ≡ true → is_after c es ≡ true → is_after c (insert es p r) ≡ true
after_in c [] zero r h a = and_from (precedes c r.code) true h refl
after_in c [] (suc p) r h a = and_from (precedes c r.code) true h refl
after_in c (x ∷ es) zero r h a = and_from (precedes c r.code) (is_after c (x ∷ es)) h a
after_in c (x ∷ es) (suc p) r h a =
    let q = and_parts (precedes c x.code) (is_after c es) a in
    and_from (precedes c x.code) (is_after c (insert es p r)) q.0 (after_in c es p r h q.1)

ascending_in_by : (r x : Entry) (es : List Entry) (b : Bool) → precedes x.code r.code ≡ b → bytes_eq x.code r.code ≡ false
    → is_ascending (insert es (slot r.code es) r) ≡ true → is_after x.code es ≡ true → is_ascending es ≡ true
    → is_ascending (insert (x ∷ es) (cond b (suc (slot r.code es)) 0) r) ≡ true
ascending_in_by r x es true t n ih a u =
    and_from (is_after x.code (insert es (slot r.code es) r)) (is_ascending (insert es (slot r.code es) r)) (after_in x.code es (slot r.code es) r t a) ih
ascending_in_by r x es false t n ih a u =
    let lt = precedes_total x.code r.code t (λ z. both_ways (bytes_eq x.code r.code) n (same_from x.code r.code z)) in
    and_from (is_after r.code (x ∷ es)) (is_ascending (x ∷ es))
    (and_from (precedes r.code x.code) (is_after r.code es) lt (after_less r.code x.code es lt a))
    (and_from (is_after x.code es) (is_ascending es) a u)

new_by : (c : Text) (x : Entry) (es : List Entry) (s : Bool) → is_some (cond s (Some x) (find c es)) ≡ false → (s ≡ false) × (is_held c es ≡ false)
new_by c x es true h = absurd (both_ways true h refl)
new_by c x es false h = (refl, h)

pub ascending_in : (r : Entry) (es : List Entry) → is_ascending es ≡ true → is_held r.code es ≡ false → is_ascending (insert es (slot r.code es) r) ≡ true
ascending_in r [] u h = refl
ascending_in r (x ∷ es) u h =
    let p = and_parts (is_after x.code es) (is_ascending es) u in
    let w = new_by r.code x es (bytes_eq x.code r.code) h in
    ascending_in_by r x es (precedes x.code r.code) refl w.0 (ascending_in r es p.1 w.1) p.0 p.1

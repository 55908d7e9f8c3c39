-- Records in ascending order have codes apart.
use Rattle.std.specs.Prelude.{◌≡◌, ℕ, zero, suc, ◌<◌, true, List, [], ◌∷◌, length, slice_index_or}
use Rattle.std.proofs.Common.{ap, ◌∙◌, arith}
use Rattle.std.proofs.lemmas.Bool.{and_parts, both_ways}
use Rattle.rulebook.specs.Texts.{Text, precedes}
use Rattle.rulebook.specs.Records.{Entry}
use Rattle.rulebook.specs.Entries.{Apart}
use Rattle.rulebook.proofs.Orders.{precedes_irrefl}
use Rattle.bycode.specs.Order.{is_after, is_ascending}

pub after_at : (c : Text) (es : List Entry) (j : ℕ) (d : Entry) → is_after c es ≡ true → j < length es → precedes c (slice_index_or es j d).code ≡ true
after_at c [] j d a h = absurd (omega arith)
after_at c (e ∷ es) zero d a h = (and_parts (precedes c e.code) (is_after c es) a).0
after_at c (e ∷ es) (suc j) d a h = after_at c es j d (and_parts (precedes c e.code) (is_after c es) a).1 (omega arith)

pub ascending_at : (es : List Entry) (i j : ℕ) (d : Entry) → is_ascending es ≡ true → i < j → j < length es → precedes (slice_index_or es i d).code (slice_index_or es j d).code ≡ true
ascending_at [] i j d u lt h = absurd (omega arith)
ascending_at (e ∷ es) zero zero d u lt h = absurd (omega arith)
ascending_at (e ∷ es) zero (suc j) d u lt h = after_at e.code es j d (and_parts (is_after e.code es) (is_ascending es) u).0 (omega arith)
ascending_at (e ∷ es) (suc i) zero d u lt h = absurd (omega arith)
ascending_at (e ∷ es) (suc i) (suc j) d u lt h = ascending_at es i j d (and_parts (is_after e.code es) (is_ascending es) u).1 (omega arith) (omega arith)

pub ascending_apart : (es : List Entry) → is_ascending es ≡ true → Apart es
ascending_apart es u i j d lt h e =
    both_ways (precedes (slice_index_or es i d).code (slice_index_or es i d).code) (precedes_irrefl (slice_index_or es i d).code)
    (ap (precedes (slice_index_or es i d).code) e ∙ ascending_at es i j d u lt h)

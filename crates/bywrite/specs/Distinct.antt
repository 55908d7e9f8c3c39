-- Where no code stands twice, codes are apart.
use Rattle.std.specs.Prelude.{◌≡◌, zero, suc, true, false, not, List, [], ◌∷◌, is_some, Some, None, Option, refl}
use Rattle.std.proofs.Common.{sym, arith}
use Rattle.std.proofs.lemmas.Bool.{true≢false, not-true, and_parts}
use Rattle.rulebook.specs.Records.{Entry}
use Rattle.rulebook.specs.Entries.{is_held, Apart}
use Rattle.rulebook.proofs.Entries.{find_none}
use Rattle.bywrite.specs.Places.{is_distinct}

none_from : (o : Option Entry) → is_some o ≡ false → o ≡ None
none_from None e = refl
none_from (Some x) e = absurd (true≢false e)

pub distinct_apart : (es : List Entry) → is_distinct es ≡ true → Apart es
distinct_apart [] u i j d lt h e = omega arith
distinct_apart (x ∷ es) u i zero d lt h e = omega arith
distinct_apart (x ∷ es) u zero (suc j) d lt h e =
    let p = and_parts (not (is_held x.code es)) (is_distinct es) u in
    find_none x.code es (none_from _ (not-true _ p.0)) j d (omega arith) (sym e)
distinct_apart (x ∷ es) u (suc i) (suc j) d lt h e =
    distinct_apart es (and_parts (not (is_held x.code es)) (is_distinct es) u).1 i j d (omega arith) (omega arith) e

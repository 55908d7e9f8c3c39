-- The derived order of codes, byte by byte, is the order of their texts. Assumes nothing.
use Rattle.std.proofs.Common.{◌≡◌, ℕ, ◌<◌, true, [], ◌∷◌, sym, refl, ap, ◌∙◌, arith}
use Rattle.std.specs.Cmp.{ranks}
use Rattle.std.specs.Cmp.Lexicographic.{slice_cmp, slice_partial_cmp}
use Rattle.std.specs.Ordering.{MatchOrdering, nat_cmp, ordering_then, is_lt, partial_lt, as_partial_cmp}
use Rattle.std.specs.declared.cmp.Ordering.{Ordering}
use Rattle.std.specs.declared.cmp.Ordering.TheVariants.{Less, Equal, Greater}
use Rattle.std.proofs.lemmas.Bool.{or_left, or_right, and_from, lt-ltb, eq-eqb}
use Rattle.std.proofs.lemmas.Bool.Decides.{nat_tests}
use Rattle.rulebook.specs.Texts.{Text, precedes}
use Rattle.rulebook.proofs.Orders.{precedes_irrefl, precedes_asym}

ranked_by : (a b : ℕ) (t u : Text) (o q : Ordering) → MatchOrdering o (a < b) (a ≡ b) (b < a) → MatchOrdering q (precedes t u ≡ true) (t ≡ u) (precedes u t ≡ true)
    → MatchOrdering (ordering_then o q) (precedes (a ∷ t) (b ∷ u) ≡ true) (a ∷ t ≡ b ∷ u) (precedes (b ∷ u) (a ∷ t) ≡ true)
ranked_by a b t u Less q l m = or_left _ _ (lt-ltb a b l)
ranked_by a b t u Greater q l m = or_left _ _ (lt-ltb b a l)
ranked_by a b t u Equal Less e m = or_right _ _ (and_from _ _ (eq-eqb a b e) m)
ranked_by a b t u Equal Equal e m = cc
ranked_by a b t u Equal Greater e m = or_right _ _ (and_from _ _ (eq-eqb b a (sym e)) m)

pub ranked : (t u : Text) → MatchOrdering (slice_cmp nat_cmp t u) (precedes t u ≡ true) (t ≡ u) (precedes u t ≡ true)
ranked [] [] = refl
ranked [] (b ∷ u) = refl
ranked (a ∷ t) [] = refl
ranked (a ∷ t) (b ∷ u) = ranked_by a b t u (nat_cmp a b) (slice_cmp nat_cmp t u) (ranks a b) (ranked t u)

lt_by : (t u : Text) (o : Ordering) → MatchOrdering o (precedes t u ≡ true) (t ≡ u) (precedes u t ≡ true) → is_lt o ≡ precedes t u
lt_by t u Less p = sym p
lt_by t u Equal e = sym (ap (precedes t) (sym e) ∙ precedes_irrefl t)
lt_by t u Greater p = sym (precedes_asym u t p)

-- what `cmp` answers at lists of bytes
pub cmp_precedes : (t u : Text) → is_lt (slice_cmp nat_cmp t u) ≡ precedes t u
cmp_precedes t u = lt_by t u (slice_cmp nat_cmp t u) (ranked t u)

-- and `<`
pub lt_precedes : (t u : Text) → partial_lt (slice_partial_cmp (as_partial_cmp nat_cmp)) t u ≡ precedes t u
lt_precedes [] [] = refl
lt_precedes [] (b ∷ u) = refl
lt_precedes (a ∷ t) [] = refl
lt_precedes (a ∷ t) (b ∷ u) = let ih = lt_precedes t u in grind (arith, nat_tests)

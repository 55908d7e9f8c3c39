-- A line's fields are what `split` cuts it into at its commas. Assumes nothing.
use Rattle.std.proofs.Common.{◌≡◌, ℕ, ◌+◌, ◌<◌, Bool, true, false, cond, eqb, List, [], ◌∷◌, length, Bor, refl, ap, subst, ◌∙◌, arith}
use Rattle.std.proofs.lemmas.Iterator.{YieldsList}
use Rattle.std.proofs.lemmas.Iterator.Splits.{YieldsList-from_slice_split}
use Rattle.std.specs.Fn.{CalledAt}
use Rattle.std.specs.List.{filter, slice_split, onto_first}
use Rattle.std.specs.Slice.Iter.{split_rest, split_done, split_callee, split_steps}
use Rattle.rulebook.specs.Texts.{Text, on_first, fields}
use denote.Param.Members.{Mut}

onto_on : (b : ℕ) (fs : List Text) → onto_first b fs ≡ on_first b fs
onto_on b [] = refl
onto_on b (f ∷ fs) = refl

split_fields : (t : Text) → slice_split (λ b. eqb b 44) t ≡ fields t
split_fields [] = refl
split_fields (b ∷ bs) = ap (λ (fs : List Text). cond (eqb b 44) ([] ∷ fs) (onto_first b fs)) (split_fields bs) ∙ ap (λ (fs : List Text). cond (eqb b 44) ([] ∷ fields bs) fs) (onto_on b (fields bs))

pub yields_fields : {F : Type 0} {s : _} (g : Mut F (Bor ℕ × Unit {0}) Bool) {f : F} (t : Text) → split_rest s ≡ t → split_done s ≡ false → split_callee s ≡ f → ((x : ℕ) (b : Bool) (q : F) → CalledAt g f x b q → (q ≡ f) × (b ≡ eqb x 44)) → YieldsList (split_steps g) (λ x. x.now) s (fields t)
yields_fields {s = s} g t rest done closure tests = subst (λ (fs : List Text). YieldsList (split_steps g) (λ x. x.now) s fs) (split_fields t) (YieldsList-from_slice_split g (λ b. eqb b 44) t rest done closure tests)

-- a line has one field more than commas
length_on_first : (b : ℕ) (fs : List Text) → 0 < length fs → length (on_first b fs) ≡ length fs
length_on_first b [] h = absurd (omega arith)
length_on_first b (f ∷ fs) h = refl

more_by : (c : Bool) (b : ℕ) (bs : Text) (fs : List Text) → length fs ≡ length bs + 1 → length (cond c ([] ∷ fs) (on_first b fs)) ≡ length (cond c (b ∷ bs) bs) + 1
more_by true b bs fs e = omega (arith, e)
more_by false b bs fs e = length_on_first b fs (omega (arith, e)) ∙ e

pub one_more : (t : Text) → length (fields t) ≡ length (filter (λ b. eqb b 44) t) + 1
one_more [] = refl
one_more (b ∷ bs) = more_by (eqb b 44) b (filter (λ b. eqb b 44) bs) (fields bs) (one_more bs)

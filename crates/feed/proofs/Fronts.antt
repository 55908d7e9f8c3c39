-- The first n of what is kept and what comes after, and an input that is read up to its first byte 10. Assumes nothing.
use Rattle.std.proofs.Common.{◌≡◌, ℕ, zero, suc, ◌+◌, ◌-◌, ◌≤◌, Bool, true, false, cond, true, false, not, is_some, [], ◌∷◌, ◌++◌, length, take, drop, is_some, Some, None, Option, sym, refl, ap, ◌∙◌, subst, append_assoc, add-one, zero-le, arith}
use Rattle.std.specs.Prelude.{position, slice_range, MatchOption, ◌==◌}
use Rattle.std.specs.Option.{option_map}
use Rattle.std.specs.List.{position_from}
use Rattle.std.proofs.lemmas.List.{take_all, append-nil, nil_from_length, length-take, drop-drop, drop-take}
use Rattle.std.proofs.lemmas.Iterator.Adapters.{position_from-zero}
use Rattle.std.proofs.lemmas.Bool.{eqb-true, not-false, cond-true, cond-false}
use Rattle.rulebook.specs.Texts.{Text}
use Rattle.feed.specs.Cuts.{Cuts}
use Rattle.feed.specs.Readers.{Begun, Next, NextBy}
use Rattle.rulebook.specs.Lines.{to_end, after_end, lines_after}

-- a cut that is made again is made once
pub take_front : (n : ℕ) (xs zs : Text) → take n (take n xs ++ zs) ≡ take n (xs ++ zs)
take_front zero xs zs = refl
take_front (suc n) [] zs = refl
take_front (suc n) (x ∷ xs) zs = ap (λ (l : Text). x ∷ l) (take_front n xs zs)

-- with nothing more to come, all that is kept stays
pub kept_whole : (n : ℕ) (line : Text) → length line ≤ n → take n (line ++ []) ≡ line
kept_whole n line h = rw append-nil (take_all n line h)

-- a line that goes on with another piece
pub begun_more : (n : ℕ) (unread more next line : Text) → line ≡ take n (unread ++ more) → take n (line ++ next) ≡ take n (unread ++ (more ++ next))
begun_more n unread more next line e =
    ap (λ (l : Text). take n (l ++ next)) e ∙ take_front n (unread ++ more) next ∙ ap (take n) (append_assoc unread more next)

-- the place after the first byte 10 is one after its place
after_by : (i : ℕ) (c : Bool) (o : Option ℕ) → cond c (Some (suc i)) (option_map suc o) ≡ option_map suc (cond c (Some i) o)
after_by i true o = refl
after_by i false o = refl

after_from : (i : ℕ) (t : Text) → after_end i t ≡ option_map suc (position_from (λ b. b == 10) i t)
after_from i [] = refl
after_from i (b ∷ bs) = rw (after_from (suc i) bs) (rw add-one (after_by i (b == 10) _))

place_suc : (i : ℕ) (t : Text) → position_from (λ b. b == 10) (suc i) t ≡ option_map suc (position_from (λ b. b == 10) i t)
place_suc i [] = refl
place_suc i (b ∷ bs) = rw (add-one, add-one) (rw (place_suc (suc i) bs) (after_by i (b == 10) _))

-- a line that goes on with a text up to its first byte 10, by that byte's place
abbrev Fills : ℕ → Text → Text → Option ℕ → Type 0
Fills n line t o =
    MatchOption o ((to_end t ≡ t) × Cuts n line t None (take n (line ++ t)))
    (λ at. (to_end t ≡ take at t) × Cuts n line t (Some (suc at)) (take n (line ++ take at t)))

module _ (n b : ℕ) (line bs : Text) (other : (b == 10) ≡ false) where
  longer : (more : Text) → take n (take n (line ++ (b ∷ [])) ++ more) ≡ take n (line ++ (b ∷ more))
  longer more = take_front n (line ++ (b ∷ [])) more ∙ ap (take n) (append_assoc line (b ∷ []) more)

  fills_more : (o : Option ℕ) → Fills n (take n (line ++ (b ∷ []))) bs o → Fills n line (b ∷ bs) (option_map suc o)
  fills_more None f =
      (cond-false _ _ _ other ∙ ap (λ (l : Text). b ∷ l) f.0, λ more. cond-false _ _ _ other ∙ f.1 more ∙ ap (λ (l : Text). lines_after n l more) (longer bs))
  fills_more (Some at) f =
      (cond-false _ _ _ other ∙ ap (λ (l : Text). b ∷ l) f.0, λ more. cond-false _ _ _ other ∙ f.1 more ∙ ap (λ (l : Text). l ∷ lines_after n [] (drop (suc at) bs ++ more)) (longer (take at bs)))

fills_by : (n b : ℕ) (line bs : Text) (c : Bool) → (b == 10) ≡ c → length line ≤ n → Fills n (take n (line ++ (b ∷ []))) bs (position_from (λ x. x == 10) 0 bs) →
    Fills n line (b ∷ bs) (cond c (Some 0) (position_from (λ x. x == 10) 1 bs))
fills_by n b line bs true e h f =
    (cond-true _ _ _ e, λ more. cond-true _ _ _ e ∙ ap (λ (l : Text). l ∷ lines_after n [] (bs ++ more)) (sym (kept_whole n line h)))
fills_by n b line bs false e h f = rw (place_suc 0 bs) (fills_more n b line bs e _ f)

fills_from : (n : ℕ) (line t : Text) → length line ≤ n → Fills n line t (position_from (λ b. b == 10) 0 t)
fills_from n line [] h = (refl, λ more. ap (λ (l : Text). lines_after n l more) (sym (kept_whole n line h)))
fills_from n line (b ∷ bs) h = fills_by n b line bs (b == 10) refl h (fills_from n (take n (line ++ (b ∷ []))) bs (omega (arith, length-take n (line ++ (b ∷ [])))))

-- what filling comes to, where the place of the first byte 10 is known
pub record Filled (n : ℕ) (line t : Text) (o : Option ℕ) (line' : Text) : Type 0 where
  pub done : o ≡ after_end 0 t
  pub cuts : Cuts n line t o line'
  pub kept : line' ≡ take n (line ++ to_end t)

module _ (n : ℕ) (line line' t : Text) (h : length line ≤ n) where
  placed : (o : Option ℕ) → position (λ b. b == 10) t ≡ o → (after_end 0 t ≡ option_map suc o) × Fills n line t o
  placed o e =
      let p = sym (position_from-zero (λ (b : ℕ). b == 10) t) ∙ e in
      (after_from 0 t ∙ ap (option_map suc) p, subst (Fills n line t) p (fills_from n line t h))

  pub filled_none : position (λ b. b == 10) t ≡ None → line' ≡ take n (line ++ t) → Filled n line t None line'
  filled_none e k =
      let p = placed None e in
      record { done = sym p.0; cuts = rw k p.1.1; kept = rw p.1.0 k }

  pub filled_some : (at : ℕ) → position (λ b. b == 10) t ≡ Some at → line' ≡ take n (line ++ take at t) → Filled n line t (Some (at + 1)) line'
  filled_some at e k =
      let p = placed (Some at) e in
      record { done = rw add-one (sym p.0); cuts = rw (k, add-one) p.1.1; kept = rw p.1.0 k }

-- a text without byte 10 is all before its end
whole_by : (t : Text) (o : Option ℕ) → option_map suc o ≡ None → Fills 0 [] t o → to_end t ≡ t
whole_by t None e f = f.0
whole_by t (Some at) e f = cc

none_from : {X : Type 0} (o : Option X) → is_some o ≡ false → o ≡ None
none_from None e = refl
none_from (Some x) e = cc

-- a line begins with what was unread, where that has no end
pub begun_first : (n : ℕ) (unread cleared line : Text) → is_some (after_end 0 unread) ≡ false → cleared ≡ [] → line ≡ take n (cleared ++ to_end unread) →
    (after_end 0 unread ≡ None) × (more : Text) × (line ≡ take n (unread ++ more))
begun_first n unread cleared line none c e =
    let o = none_from (after_end 0 unread) none in
    let w = whole_by unread _ (sym (after_from 0 unread) ∙ o) (fills_from 0 [] unread zero-le) in
    (o, [], e ∙ rw (c, w, append-nil) refl)

-- an empty line is none
pub none_left : (empty : Bool) (line : Text) → empty ≡ (length line == 0) → not empty ≡ false → line ≡ []
none_left empty line e h = nil_from_length line (eqb-true (length line) 0 (sym e ∙ not-false empty h))

-- what was unread has no end, and the line that it began goes on
pub begun : (n : ℕ) (unread : Text) (some : Bool) (line left : Text) → after_end 0 unread ≡ None → Begun n unread some line → Next n unread some line left
begun n unread some line left none b = subst (λ (o : Option ℕ). NextBy o n unread some line left) (sym none) b

-- what is left of a part of a text after its first n bytes
pub part_left : (xs : Text) (from to n : ℕ) → from + n ≤ to → slice_range xs (from + n) to ≡ drop n (slice_range xs from to)
part_left xs from to n h =
    let e : to - from ≡ n + (to - (from + n)) = omega arith in
    ap (take (to - (from + n))) (sym (drop-drop n from xs)) ∙ sym (ap (λ (k : ℕ). drop n (take k (drop from xs))) e ∙ drop-take n (to - (from + n)) (drop from xs))

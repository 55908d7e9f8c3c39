-- The lines of an input whose bytes are known, as they are read. Assumes nothing.
use Rattle.std.proofs.Common.{◌≡◌, ℕ, ◌+◌, ◌<◌, ◌≤◌, ◌^◌, Bool, true, false, not, cond, is_some, [], ◌∷◌, ◌++◌, length, length-append, Some, None, Option, sym, refl, ap, ◌∙◌, arith}
use Rattle.std.specs.Io.KnownBytes.{Consumes, IsAtEnd}
use Rattle.std.proofs.lemmas.List.{length-drop}
use Rattle.rulebook.specs.Texts.{Text, is_blank}
use Rattle.rulebook.specs.Lines.{lines_after, lines_of}
use Rattle.feed.specs.Cuts.{Cuts}
use Rattle.feed.specs.Known.{Reads}
use Rattle.feed.specs.Readers.{left_of}

-- a cut that ends the line, and one that does not
cut_some : (n : ℕ) (line piece line' left : Text) (o : Option ℕ) → is_some o ≡ true → Cuts n line piece o line' → left ≡ left_of o piece →
    (more : Text) → (lines_after n line (piece ++ more) ≡ line' ∷ lines_of n (left ++ more)) × (length left ≤ length piece)
cut_some n line piece line' left None e c l more = cc
cut_some n line piece line' left (Some m) e c l more = rw l (c more, omega (arith, length-drop m piece))

cut_none : (n : ℕ) (line piece line' : Text) (o : Option ℕ) → is_some o ≡ false → Cuts n line piece o line' →
    (more : Text) → lines_after n line (piece ++ more) ≡ lines_after n line' more
cut_none n line piece line' None e c more = c more
cut_none n line piece line' (Some m) e c more = cc

-- what is left of known bytes
consumed : (old new : Option Text) (xs bs : Text) → old ≡ Some xs → Consumes old new bs → (ys : Text) × (new ≡ Some ys) × (xs ≡ bs ++ ys)
consumed None new xs bs e c = cc
consumed (Some zs) None xs bs e c = absurd c
consumed (Some zs) (Some ys) xs bs e c = (ys, refl, cc)

nothing_known : (new : Option Text) (ys : Text) → new ≡ Some ys → IsAtEnd new → ys ≡ []
nothing_known None ys e h = cc
nothing_known (Some zs) ys e h = cc

-- at the end of the input a line that is not empty is the last
last_by : (line : Text) (blank empty : Bool) → empty ≡ blank → cond blank [] (line ∷ []) ≡ cond (not empty) (line ∷ []) []
last_by line true true e = refl
last_by line false false e = refl
last_by line true false e = cc
last_by line false true e = cc

last_line : (n : ℕ) (line piece more : Text) (empty : Bool) → piece ≡ [] → more ≡ [] → empty ≡ is_blank line →
    lines_after n line (piece ++ more) ≡ cond (not empty) (line ∷ lines_of n (piece ++ more)) []
last_line n line piece more empty e z b = rw (e, z) (last_by line (is_blank line) empty b)

-- where a line goes on, the lines of what was unread and the input are those that are to come
abbrev pub Goes : ℕ → Text → Option Text → Text → Option Text → ℕ → Type 0
Goes n unread input line rest count =
    (xs : Text) → input ≡ Some xs → length unread + length xs < 2 ^ 63 →
    (ys : Text) × (rest ≡ Some ys) × (lines_of n (unread ++ xs) ≡ lines_after n line ys) × (count + length ys ≤ length xs)

module _ (n : ℕ) (unread : Text) (input : Option Text) where
  pub goes_first : (cleared line : Text) (o : Option ℕ) → cleared ≡ [] → is_some o ≡ false → Cuts n cleared unread o line → Goes n unread input line input 0
  goes_first cleared line o e none c = λ xs is small. (xs, is, ap (λ (l : Text). lines_after n l (unread ++ xs)) (sym e) ∙ cut_none n cleared unread line o none c xs, omega arith)

  module _ (line : Text) (rest : Option Text) (count : ℕ) (g : Goes n unread input line rest count) (piece : Text) (rest' : Option Text) (s : Consumes rest rest' piece) where
    pub goes_on : (line' : Text) (o : Option ℕ) → 0 < length piece → is_some o ≡ false → Cuts n line piece o line' → Goes n unread input line' rest' (count + 1)
    goes_on line' o some none c = λ xs is small.
        let k = g xs is small in
        let m = consumed rest rest' k.0 piece k.1 s in
        (m.0, m.1, k.2 ∙ ap (lines_after n line) m.2 ∙ cut_none n line piece line' o none c m.0, omega (arith, k.3, ap length m.2, length-append piece m.0))

    pub goes_cut : (line' left : Text) (o : Option ℕ) → is_some o ≡ true → Cuts n line piece o line' → left ≡ left_of o piece → Reads n unread input true line' left rest'
    goes_cut line' left o some c l = λ xs is small.
        let k = g xs is small in
        let m = consumed rest rest' k.0 piece k.1 s in
        let p = cut_some n line piece line' left o some c l m.0 in
        (m.0, m.1, k.2 ∙ ap (lines_after n line) m.2 ∙ p.0, omega (arith, k.3, ap length m.2, length-append piece m.0, p.1))

    pub goes_last : (empty : Bool) → piece ≡ [] → IsAtEnd rest' → empty ≡ is_blank line → Reads n unread input (not empty) line piece rest'
    goes_last empty e end b = λ xs is small.
        let k = g xs is small in
        let m = consumed rest rest' k.0 piece k.1 s in
        (m.0, m.1, k.2 ∙ ap (lines_after n line) m.2 ∙ last_line n line piece m.0 empty e (nothing_known rest' m.0 m.1 end) b, omega (arith, k.3, ap length m.2, length-append piece m.0))

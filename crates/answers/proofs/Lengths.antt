-- How long a record's answer line is. Assumes nothing.
use Rattle.std.proofs.Common.{◌≡◌, ℕ, ◌+◌, ◌≤◌, List, [], ◌∷◌, ◌++◌, codes, sum_by, Bool, true, false, length, refl, ap, length-append, length-take, arith}
use Rattle.std.proofs.lemmas.Fmt.{length-decimal-le}
use Rattle.std.proofs.lemmas.List.Sums.{sum_by-cons}
use Rattle.rulebook.specs.Texts.{Text}
use Rattle.rulebook.specs.Codes.{eic}
use Rattle.rulebook.specs.Articles.{ean13}
use Rattle.rulebook.specs.Dates.{written_day}
use Rattle.rulebook.specs.Records.{status_text}
use Rattle.rulebook.specs.Answers.{granted_fields, granted_line, tails, told_length}
use Rattle.rulebook.proofs.Rights.{right_parts}
use Rattle.eic.specs.Views.{code_text}
use Rattle.eic.specs.declared.codes.Code.{Code}
use Rattle.fields.specs.Bounded.{bounded_text}
use Rattle.fields.specs.Views.{vat_text, ean_text}
use Rattle.fields.specs.declared.bounded.Bounded.{Bounded}
use Rattle.records.specs.Views.{entry_of}
use Rattle.records.specs.declared.Record.{Record}
use Rattle.answers.proofs.Commas.{holds_or}

-- each field is one byte longer with its comma
length_tails : (fs : List Text) → length (tails fs) ≡ sum_by (λ f. length f + 1) fs
length_tails [] = refl
length_tails (f ∷ fs) = omega (arith, length-append (44 ∷ f) (tails fs), sum_by-cons (λ f. length f + 1) f fs, length_tails fs)

long_code : (c : Code) → length (code_text c) ≤ 16
long_code c = omega (arith, (right_parts eic c.bytes c.sound).long)

long_bounded : {n : ℕ} (b : Bounded n) → length (bounded_text b) ≤ n
long_bounded b = omega (arith, length-take b.len b.bytes, b.within)

long_status : (active : Bool) → length (status_text active) ≡ 1
long_status true = refl
long_status false = refl

long_line : (r : Record) → length (granted_line (entry_of r)) ≤ 197
unfolding written_day
long_line r =
    let g = r.registration in
    let object = length-decimal-le 10 g.object.number (omega arith) (omega (arith, g.object.small)) (omega (arith, g.object.small)) in
    let function = length-decimal-le 2 g.function.number (omega arith) (omega (arith, g.function.small)) (omega (arith, g.function.small)) in
    let parent = holds_or (λ t. length t ≤ 16) code_text (omega arith) long_code g.parent in
    let responsible = holds_or (λ t. length t ≤ 16) code_text (omega arith) long_code g.responsible in
    let vat = holds_or (λ t. length t ≤ 14) vat_text (omega arith) (λ v. long_bounded v.kept) g.vat in
    let ean = holds_or (λ t. length t ≤ 13) ean_text (omega arith) (λ e. omega (arith, (right_parts ean13 e.digits e.right).long)) g.ean in
    omega (
      arith,
      length_tails (granted_fields (entry_of r)),
      long_code r.code,
      long_status (entry_of r).active,
      object,
      function,
      long_bounded g.name.kept,
      long_bounded g.display.kept,
      parent,
      responsible,
      vat,
      ean,
    )

-- texts that are its fields
pub fits : (r : Record) (a b c d e f g h i j k : Text) → a ∷ b ∷ c ∷ d ∷ e ∷ f ∷ g ∷ h ∷ i ∷ j ∷ k ∷ [] ≡ granted_fields (entry_of r)
    → length (codes "OK" ++ tails (a ∷ b ∷ c ∷ d ∷ e ∷ f ∷ g ∷ h ∷ i ∷ j ∷ k ∷ [])) ≤ 200
fits r a b c d e f g h i j k p = omega (arith, long_line r, ap (λ (fs : List Text). length (codes "OK" ++ tails fs)) p)

pub told_short : (r : Record) (buffer : Text) (n : ℕ) → n ≡ told_length (granted_line (entry_of r)) buffer → n ≤ 197
told_short r buffer n e = grind (arith, long_line r)

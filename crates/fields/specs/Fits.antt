-- The room that lawful texts need, and the text that stands where none has been read.
use Rattle.std.specs.Prelude.{◌≡◌, ℕ, ◌≤◌, Bool, true, nat_le, length}
use Rattle.std.proofs.lemmas.Bool.{and_parts, leb-true}
use Rattle.rulebook.specs.Texts.{Text}
use Rattle.rulebook.specs.Fields.{up_to, is_name_byte, is_display_byte, is_vat_byte, is_name, is_display, is_vat}

up_to_fits : (n : ℕ) (p : ℕ → Bool) (t : Text) → up_to n p t ≡ true → length t ≤ n
up_to_fits n p t e = leb-true (length t) n (and_parts (nat_le (length t) n) _ (and_parts (nat_le 1 (length t)) _ e).1).0

pub name_fits : (t : Text) → is_name t ≡ true → length t ≤ 70
name_fits = up_to_fits 70 is_name_byte

pub display_fits : (t : Text) → is_display t ≡ true → length t ≤ 16
display_fits = up_to_fits 16 is_display_byte

pub vat_fits : (t : Text) → is_vat t ≡ true → length t ≤ 14
vat_fits t e = up_to_fits 14 is_vat_byte t (and_parts (up_to 14 is_vat_byte t) _ (and_parts (nat_le 3 (length t)) _ e).1).0

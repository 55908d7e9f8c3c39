-- EAN-13, the article numbers of GS1.
-- A reader has to believe: thirteen digits, weights 1, 3, 1, 3 .. from the left, modulus 10.
use Rattle.std.specs.Prelude.{◌-◌, ◌%◌, cond, ◌&&◌, ◌==◌, nat_lt}
use Rattle.rulebook.specs.Schemes.{Scheme}
use Rattle.rulebook.specs.Codes.{is_digit}

abbrev pub ean13 : Scheme
ean13 = record {
  places = 13;
  modulus = 10;
  lawful = λ i b. nat_lt i 13 && is_digit b;
  value = λ b. b - 48;
  weight = λ i. cond (i % 2 == 0) 1 3;
}

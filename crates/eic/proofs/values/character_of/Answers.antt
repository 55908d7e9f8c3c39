use Rattle.std.proofs.Common.{◌≡◌, ◌≢◌, ℕ, ◌<◌, ◌≤◌, Some, None, arith, rules}
use Rattle.std.proofs.lemmas.Bool.Decides.{nat_tests}
use Rattle.std.proofs.lemmas.Iterator.{first_from_Range}
use borrow.Author.Tests.{tests}
use Rattle.rulebook.specs.Codes.{character_of}
use Rattle.eic.specs.Views.{value_if_any}
use Rattle.eic.proofs.values.character_of.Goals as goal

-- each value below 37 has a character in the table
has_character : (v : ℕ) → v < 37 → (b : ℕ) × (45 ≤ b) × (b < 91) × (value_if_any b ≡ Some v)
has_character v h = (character_of v, grind (arith, nat_tests), grind (arith, nat_tests), grind (arith, nat_tests))

pub unreachable-requires : goal.unreachable-requires
unreachable-requires c =
    let v = c.args.value in
    let k = has_character v c.requires in
    let none : (b : ℕ) → 45 ≤ b → b < 91 → value_if_any b ≢ Some v = first_from_Range _ _ _ None (λ b. value_if_any b ≡ Some v) (λ b. value_if_any b ≢ Some v) c.in_default.ensures.ran (λ x q e. search (rules, tests)) (λ x q e. search (rules, tests)) in
    none k.0 k.1 k.2 k.3

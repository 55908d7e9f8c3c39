use Rattle.std.proofs.Common.{◌≡◌, ◌+◌, ◌-◌, ◌<◌, arith}
use Rattle.std.proofs.lemmas.List.FromFn.{get_or-map-range_with_len}
use Rattle.rulebook.specs.Codes.{value_of}
use Rattle.eic.proofs.values.table_value.Goals as goal

-- the table is `map value_of (counting 45 46)`, which antt computes
pub returns-in-45-to-90 : goal.returns-in-45-to-90
returns-in-45-to-90 c =
    let b = c.args.character in
    let within : b - 45 < 46 = omega arith in
    let back : 45 + (b - 45) ≡ b = omega arith in
    get_or-map-range_with_len value_of 45 46 (b - 45) b 0 within back

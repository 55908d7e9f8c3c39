use Rattle.std.proofs.Common.{decimal, ap, ◌∙◌}
use Rattle.std.specs.Str.{bytes_eq}
use Rattle.fields.specs.Views.{number_text}
use Rattle.fields.proofs.Decimals.{same_decimals}
use Rattle.fields.proofs.numbers.Number.is_same.Goals as goal

pub returns : goal.returns
returns g c =
    let own = c.number-number in
    let other = c.number in
    same_decimals own.result other.result own.type_inv other.type_inv
    ∙ ap (λ t. bytes_eq t (decimal other.result)) own.ensures.is
    ∙ ap (bytes_eq (number_text c.args.self.now)) other.ensures.is

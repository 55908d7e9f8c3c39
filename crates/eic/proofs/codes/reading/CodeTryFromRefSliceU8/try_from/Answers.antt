use Rattle.std.proofs.Common.{rules, ◌≡◌, is_ok, ◌∙◌}
use Rattle.rulebook.specs.Codes.{eic, is_sound}
use Rattle.rulebook.proofs.Catching.{catches_misread}
use Rattle.rulebook.proofs.EicLaws.{below, distinct, telling, prime, differences_apart, sums_apart}
use Rattle.eic.proofs.codes.reading.CodeTryFromRefSliceU8.try_from.Goals as goal

pub returns-clause-misread : goal.returns-clause-misread
returns-clause-misread c =
    let t = c.args.text.now in
    let sound : is_sound t ≡ is_ok c.sealed.result = search rules in
    λ e. catches_misread eic below distinct prime telling differences_apart sums_apart t (sound ∙ e)

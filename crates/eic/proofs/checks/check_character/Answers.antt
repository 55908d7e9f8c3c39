use Rattle.std.proofs.Common.{rules, ◌≡◌, ℕ, Result, subst}
use Rattle.grounds.specs.declared.Refusal.{Refusal}
use Rattle.rulebook.specs.Codes.{OnlyCompletion, check_character}
use Rattle.rulebook.proofs.Completing.{only_completion}
use Rattle.eic.proofs.checks.check_character.Goals as goal

pub returns-clause-only : goal.returns-clause-only
returns-clause-only c =
    let t = c.args.text.now in
    let is : check_character t ≡ c.and_then.result = search rules in
    subst (λ (r : Result ℕ Refusal). OnlyCompletion t r) is (only_completion t)

use Rattle.std.proofs.Common.{◌≡◌, Some, None, Option, Bor, [], refl, ap, ◌∙◌, rules, tests}
use Rattle.std.proofs.lemmas.Iterator.Consumers.{nth_from_yields_List}
use Rattle.std.proofs.lemmas.Option.{unwrap_or-slice_get}
use Rattle.std.specs.Option.{option_map, unwrap_or}
use Rattle.rulebook.specs.Texts.{Text, fields}
use Rattle.requests.proofs.Parting.{yields_fields}
use Rattle.requests.proofs.cutting.field.Goals as goal

-- what the part that may be there holds
held : (o : Option (Bor Text)) (d : Bor Text) → (unwrap_or o d).now ≡ unwrap_or (option_map (λ x. x.now) o) d.now
held None d = refl
held (Some x) d = refl

pub returns : goal.returns
returns c =
    ap (λ (x : Bor Text). x.now) c.unwrap_or.ensures
    ∙ held c.nth.result _
    ∙ ap (λ (o : Option Text). unwrap_or o []) (nth_from_yields_List c.nth.result _ _ c.nth.ensures.ran (yields_fields _ c.args.line.now c.split.ensures.rest c.split.ensures.done c.split.ensures.closure (λ x r q k. search (rules, tests))))
    ∙ unwrap_or-slice_get (fields c.args.line.now) c.saturating_sub.result []
    ∙ rw c.saturating_sub.ensures refl

use Rattle.std.proofs.Common.{◌≡◌, Bool, ◌||◌, List, [], ◌∷◌, map, take, rules, refl, ap, ◌∙◌}
use Rattle.std.specs.List.{list_any}
use Rattle.std.proofs.lemmas.Iterator.{YieldsList-from_slice}
use Rattle.std.proofs.lemmas.Iterator.Search.{any_from_yields_List}
use Rattle.rulebook.specs.Records.{Entry}
use Rattle.rulebook.specs.Entries.{any}
use Rattle.records.specs.Views.{entry_of}
use Rattle.records.specs.declared.Record.{Record}
use Rattle.stores.proofs.lent.Lent.any.Goals as goal

any_entries : (p : Entry → Bool) (xs : List Record) → list_any (λ r. p (entry_of r)) xs ≡ any p (map entry_of xs)
any_entries p [] = refl
any_entries p (x ∷ xs) = ap (λ b. p (entry_of x) || b) (any_entries p xs)

pub returns : goal.returns
returns g c =
    let p = g.Q.Question.asks c.args.question.now in
    any_from_yields_List (λ r. p (entry_of r)) _ _ c.any.result c.any.ensures.ran (YieldsList-from_slice c.held.result.now (cc)) (λ x b q k. search rules)
    ∙ ap (λ ys. list_any (λ r. p (entry_of r)) ys) c.held.ensures ∙ any_entries p (take c.args.self.now.rows.used c.args.self.now.rows.rows.now)

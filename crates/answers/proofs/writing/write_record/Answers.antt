use Rattle.std.proofs.Common.{List, drop, sym, ap, ◌∙◌, rules}
use Rattle.std.proofs.lemmas.List.{drop-drop}
use Rattle.rulebook.specs.Texts.{Text, fields}
use Rattle.rulebook.proofs.Own.{verbatim}
use Rattle.answers.proofs.Commas.{reads_back}
use Rattle.answers.proofs.Lengths.{fits, told_short}
use Rattle.answers.proofs.writing.write_record.Goals as goal

pub write_line-requires : goal.write_line-requires
write_line-requires c = search (rules, fits c.args.held.now)

pub returns-clause-short : goal.returns-clause-short
returns-clause-short c = told_short c.args.held.now c.args.buffer.now _ (search rules)

pub returns-clause-fields : goal.returns-clause-fields
returns-clause-fields c = reads_back c.args.held.now

pub returns-clause-own : goal.returns-clause-own
returns-clause-own c = λ office line o h e.
    ap (λ (l : List Text). drop 4 l) (reads_back c.args.held.now) ∙ sym e ∙ sym (ap (λ (l : List Text). drop 2 l) (verbatim office line o h)) ∙ drop-drop 2 1 (fields line)

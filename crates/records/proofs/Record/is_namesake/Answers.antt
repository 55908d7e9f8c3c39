use Rattle.std.proofs.Common.{rules, sym, ◌∙◌}
use Rattle.fields.proofs.Same.{lawful_eq}
use Rattle.records.proofs.Record.is_namesake.Goals as goal
use Rattle.records.proofs.Record.is_namesake.Goals.{then-is_of_type, else-is_of_type}

pub returns-else-eq : goal.returns-else-eq
returns-else-eq c =
    elim c.if-is_of_type.branch [
      | then-is_of_type w ↦ let d = sym c.if-eq.false ∙ w.value-is ∙ w.eq.ensures ∙ lawful_eq c.args.self.now.registration.display c.args.display.now in search rules
      | else-is_of_type w ↦ search rules
    ]

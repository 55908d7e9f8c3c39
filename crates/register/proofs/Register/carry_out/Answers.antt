use Rattle.std.proofs.Common.{sym, refl, ap, rules}
use Rattle.register.specs.Views.{state_with}
use Rattle.eic.specs.Views.{office_text}
use Rattle.register.proofs.Carrying.{written_comes, unwritten_comes}
use Rattle.register.proofs.Register.carry_out.Goals as goal

pub returns-in_ok-map_err-in-Created-clause-comes : goal.returns-in_ok-map_err-in-Created-clause-comes
returns-in_ok-map_err-in-Created-clause-comes g c =
    let at = state_with g.S.Store (office_text c.args.self.now.office) in
    written_comes (at c.args.self.now.store) (at c.write.new.self) c.in-Created.new c.args.grant.now c.in-Created.is c.requires _ c.write.ensures.wrote c.in_ok-map_err-in-Created.ensures.variant refl

pub returns-in_err-map_err-in-Created-clause-comes : goal.returns-in_err-map_err-in-Created-clause-comes
returns-in_err-map_err-in-Created-clause-comes g c =
    let at = state_with g.S.Store (office_text c.args.self.now.office) in
    let no = c.in_err-map_err-in-Created.ensures.variant in
    let same = c.write.ensures.refused (sym no) in
    unwritten_comes (at c.args.self.now.store) (at c.write.new.self) c.in-Created.new c.args.grant.now c.in-Created.is c.requires _ c.write.ensures.wrote no (ap at same) _ (search rules)

use Rattle.std.proofs.Common.{◌≡◌, true, refl, ap, subst}
use mathlib.Core.Bool.{Bool-set}
use Rattle.stores.specs.declared.lent.Lent.{Lent, stands-type}
use Rattle.stores.proofs.lent.Lent.put.Goals as goal

module _ {O : Type 0} {o : _} where
  same : (s t : Lent O o) → s.rows ≡ t.rows → s.order ≡ t.order → s ≡ t
  same s t e f =
      subst (λ x. (u : stands-type O o x t.order) → s ≡ record { rows = x; order = t.order; stands = u }) e
      (λ u. ap (λ (u : stands-type O o s.rows t.order). record { rows = s.rows; order = t.order; stands = u }) (Bool-set _ true s.stands u))
      t.stands

pub returns-clause-refused : goal.returns-clause-refused
returns-clause-refused g c = λ q. same _ c.args.self.now (c.put.ensures.refused q) refl

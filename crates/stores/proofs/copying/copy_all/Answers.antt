use Rattle.std.proofs.Common.{◌<◌, List, [], length, is_ok, sym, subst, arith}
use Rattle.std.specs.List.Sorted.{IsPermutation}
use Rattle.std.proofs.lemmas.Bool.{true≢false}
use Rattle.std.proofs.lemmas.List.{take_all}
use Rattle.std.proofs.lemmas.List.Sorted.{IsPermutation-refl}
use Rattle.rulebook.specs.Records.{Entry}
use Rattle.stores.proofs.Joining.{fit, joined}
use Rattle.stores.proofs.copying.copy_all.Goals as goal

pub loop-k-init : goal.loop-k-init
loop-k-init g c =
    let ts = g.B.Store.entries c.args.into.now in
    let f = fit (g.A.Store.entries c.args.from.now) ts (g.B.Store.room c.args.into.now) c.in_ok-check_fit.ensures in
    (subst (λ (l : List Entry). IsPermutation [] l) (sym f.0) (IsPermutation-refl []), omega arith)

pub loop-k-preserved : goal.loop-k-preserved
loop-k-preserved g c =
    let es = g.A.Store.entries c.args.from.now in
    let k = c.loop-k.k in
    let f = (fit es (g.B.Store.entries c.args.into.now) (g.B.Store.room c.args.into.now) c.in_ok-check_fit.ensures).1 in
    let n = c.count-k-end.ensures in
    let lt : k < length es = omega arith in
    let i = c.loop-k.invariant.1 in
    let enough : 0 < g.B.Store.room c.loop-k.into = omega arith in
    let j = joined es (g.B.Store.entries c.loop-k.into) (g.B.Store.entries c.write.new.self) k (g.B.Store.room c.loop-k.into) (g.B.Store.room c.write.new.self)
    c.loop-k.held c.read_at-there.new.into c.read_at-there.result (is_ok c.write.result) (g.A.Store.apart c.args.from.now) (g.B.Store.apart c.loop-k.into) lt
    c.read_at-there.ensures c.loop-k.invariant.0 enough c.write.ensures.wrote in
    let left = j.1 in
    (j.0, omega arith)

pub returns : goal.returns
returns g c =
    let es = g.A.Store.entries c.args.from.now in
    let n = c.count-k-end.ensures in
    let i = c.loop-k.invariant.1 in
    record {
      told = c.in_ok-check_fit.ensures;
      copied = λ _. subst (λ (l : List Entry). IsPermutation l (g.B.Store.entries c.loop-k.into)) (take_all c.loop-k.k es (omega arith)) c.loop-k.invariant.0;
      left = λ _. omega arith;
      refused = λ q. absurd (true≢false q);
    }

use Rattle.std.proofs.Common.{◌<◌, Bool, length, sym, refl, ◌∙◌, arith}
use Rattle.rulebook.specs.Records.{Entry}
use Rattle.rulebook.specs.Entries.{is_namesake, has_namesake}
use Rattle.rulebook.proofs.Entries.{any_end}
use Rattle.eic.specs.Views.{code_text}
use Rattle.fields.specs.Views.{display_text}
use Rattle.stores.proofs.Scans.{scan_hit, scan_miss}
use Rattle.stores.proofs.store.Store.has_namesake.Goals as goal

pub loop-k-init : goal.loop-k-init
loop-k-init g c = refl

pub returns-then-is_namesake : goal.returns-then-is_namesake
unfolding has_namesake
returns-then-is_namesake g c =
    let es = g.Self.Store.entries c.args.self.now in
    let p : Entry → Bool = is_namesake (code_text c.args.code.now) (display_text c.args.display.now) in
    let h : c.loop-k.k < length es = omega (arith, c.count-k-end.ensures) in
    sym (scan_hit p es c.loop-k.k h c.loop-k.held c.read_at-there.new.into c.read_at-there.result c.read_at-there.ensures c.if-is_namesake.ensures) ∙ c.loop-k.invariant

pub loop-k-preserved : goal.loop-k-preserved
loop-k-preserved g c =
    let es = g.Self.Store.entries c.args.self.now in
    let p : Entry → Bool = is_namesake (code_text c.args.code.now) (display_text c.args.display.now) in
    let h : c.loop-k.k < length es = omega (arith, c.count-k-end.ensures) in
    sym (scan_miss p es c.loop-k.k h c.loop-k.held c.read_at-there.new.into c.read_at-there.result c.read_at-there.ensures c.if-is_namesake.ensures) ∙ c.loop-k.invariant

pub returns : goal.returns
unfolding has_namesake
returns g c =
    sym (any_end (is_namesake (code_text c.args.code.now) (display_text c.args.display.now)) (g.Self.Store.entries c.args.self.now) c.loop-k.k (omega (arith, c.count-k-end.ensures))) ∙ c.loop-k.invariant

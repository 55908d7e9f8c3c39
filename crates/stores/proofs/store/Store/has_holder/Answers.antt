use Rattle.std.proofs.Common.{◌<◌, Bool, length, sym, refl, ◌∙◌, arith}
use Rattle.rulebook.specs.Records.{Entry}
use Rattle.rulebook.specs.Entries.{is_holder, has_holder}
use Rattle.rulebook.proofs.Entries.{any_end}
use Rattle.fields.specs.Views.{object_text, function_text}
use Rattle.stores.proofs.Scans.{scan_hit, scan_miss}
use Rattle.stores.proofs.store.Store.has_holder.Goals as goal

pub loop-k-init : goal.loop-k-init
loop-k-init g c = refl

pub returns-then-is_holder : goal.returns-then-is_holder
unfolding has_holder
returns-then-is_holder g c =
    let es = g.Self.Store.entries c.args.self.now in
    let p : Entry → Bool = is_holder (object_text c.args.object.now) (function_text c.args.function.now) in
    let h : c.loop-k.k < length es = omega (arith, c.count-k-end.ensures) in
    sym (scan_hit p es c.loop-k.k h c.loop-k.held c.read_at-there.new.into c.read_at-there.result c.read_at-there.ensures c.if-is_holder.ensures) ∙ c.loop-k.invariant

pub loop-k-preserved : goal.loop-k-preserved
loop-k-preserved g c =
    let es = g.Self.Store.entries c.args.self.now in
    let p : Entry → Bool = is_holder (object_text c.args.object.now) (function_text c.args.function.now) in
    let h : c.loop-k.k < length es = omega (arith, c.count-k-end.ensures) in
    sym (scan_miss p es c.loop-k.k h c.loop-k.held c.read_at-there.new.into c.read_at-there.result c.read_at-there.ensures c.if-is_holder.ensures) ∙ c.loop-k.invariant

pub returns : goal.returns
unfolding has_holder
returns g c =
    sym (any_end (is_holder (object_text c.args.object.now) (function_text c.args.function.now)) (g.Self.Store.entries c.args.self.now) c.loop-k.k (omega (arith, c.count-k-end.ensures))) ∙ c.loop-k.invariant

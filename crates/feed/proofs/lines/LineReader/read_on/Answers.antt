use Rattle.std.proofs.Common.{◌≡◌, ℕ, false, is_some, [], ◌++◌, Some, None, Option, sym, refl, ◌∙◌, arith}
use Rattle.rulebook.specs.Texts.{Text}
use Rattle.feed.specs.Readers.{left_of}
use Rattle.std.proofs.lemmas.List.{nil_from_length}
use Rattle.feed.proofs.Fronts.{begun, begun_first, begun_more, none_left}
use Rattle.feed.proofs.Known.{goes_first, goes_on, goes_cut, goes_last}
use Rattle.feed.proofs.lines.LineReader.read_on.Goals as goal

nothing_left : (o : Option ℕ) (t : Text) → is_some o ≡ false → left_of o t ≡ []
nothing_left None t e = refl
nothing_left (Some m) t e = cc

pub loop-init : goal.loop-init
loop-init g c =
    let none = sym c.cut.ensures.told ∙ c.if-cut.false in
    let b = begun_first g.row.N _ _ _ none c.clear.ensures c.cut.ensures.line in
    record { none = b.0; empty = c.cut.ensures.left ∙ nothing_left _ _ none; more = b.1; begins = b.2; goes = goes_first g.row.N _ _ _ _ _ c.clear.ensures none c.cut.ensures.cuts }

pub refill-requires : goal.refill-requires
refill-requires g c = c.loop.invariant.empty

pub loop-preserved : goal.loop-preserved
loop-preserved g c =
    let i = c.loop.invariant in
    record {
      none = i.none;
      empty = c.cut-in-loop.ensures.left ∙ nothing_left _ _ (sym c.cut-in-loop.ensures.told ∙ c.if-cut-2.false);
      more = i.more ++ _;
      begins = c.cut-in-loop.ensures.line ∙ begun_more g.row.N _ i.more _ _ i.begins;
      goes = goes_on g.row.N _ _ _ _ _ i.goes _ _ c.in_ok-refill.ensures.bytes _ _ (omega (arith, c.in_ok-refill.ensures.count)) (sym c.cut-in-loop.ensures.told ∙ c.if-cut-2.false) c.cut-in-loop.ensures.cuts;
    }

pub returns-then-branch-eq0-clause-next : goal.returns-then-branch-eq0-clause-next
returns-then-branch-eq0-clause-next g c =
    let i = c.loop.invariant in
    begun _ _ _ _ _ i.none (record { told = none_left c.is_empty.result _ c.is_empty.ensures; more = i.more; begins = i.begins })

pub returns-then-branch-eq0-clause-lines : goal.returns-then-branch-eq0-clause-lines
returns-then-branch-eq0-clause-lines g c = goes_last g.row.N _ _ _ _ _ c.loop.invariant.goes _ _ c.in_ok-refill.ensures.bytes c.is_empty.result (nil_from_length _ (omega (arith, c.in_ok-refill.ensures.count))) (c.in_ok-refill.ensures.end c.if-branch-eq0.true) c.is_empty.ensures

pub returns-after-loop-clause-next : goal.returns-after-loop-clause-next
returns-after-loop-clause-next g c =
    let i = c.loop.invariant in
    begun _ _ _ _ _ i.none (record { told = λ e. cc; more = i.more; begins = i.begins })

pub returns-after-loop-clause-lines : goal.returns-after-loop-clause-lines
returns-after-loop-clause-lines g c = λ xs is small. absurd (let k = c.loop.invariant.goes xs is small in omega (arith, k.3))

pub returns-then-cut-2-clause-next : goal.returns-then-cut-2-clause-next
returns-then-cut-2-clause-next g c =
    let i = c.loop.invariant in
    begun _ _ _ _ _ i.none (record { told = λ e. cc; more = i.more ++ _; begins = c.cut-in-loop.ensures.line ∙ begun_more g.row.N _ i.more _ _ i.begins })

pub returns-then-cut-2-clause-lines : goal.returns-then-cut-2-clause-lines
returns-then-cut-2-clause-lines g c =
    goes_cut g.row.N _ _ _ _ _ c.loop.invariant.goes _ _ c.in_ok-refill.ensures.bytes _ _ _ (sym c.cut-in-loop.ensures.told ∙ c.if-cut-2.true) c.cut-in-loop.ensures.cuts c.cut-in-loop.ensures.left

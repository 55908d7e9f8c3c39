use Rattle.std.proofs.Common.{◌≡◌, [], ◌++◌, take, None}
use Rattle.rulebook.specs.Texts.{Text}
use Rattle.rulebook.specs.Lines.{after_end}
use Rattle.feed.specs.Readers.{line_of, unread_text}
use Rattle.feed.proofs.Known.{Goes}
use Rattle.feed.proofs.lines.LineReader.read_on.Given as goal

-- the line goes on from what was unread, which has no end and is used up
abbrev pub invariant-loop : goal.invariant-loop
invariant-loop g l =
    let u = unread_text l.fn.self in record {
      none : after_end 0 u ≡ None;
      empty : unread_text l.self ≡ [];
      more : Text;
      begins : line_of l.self ≡ take g.row.N (u ++ more);
      goes : Goes g.row.N u (g.R.Read.remaining l.fn.input) (line_of l.self) (g.R.Read.remaining l.input) l.counter;
    }

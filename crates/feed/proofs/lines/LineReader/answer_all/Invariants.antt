use Rattle.std.proofs.Common.{◌≡◌, ◌+◌, List, ◌++◌, length}
use Rattle.rulebook.specs.Texts.{Text}
use Rattle.feed.specs.Answered.{Answered}
use Rattle.feed.specs.Readers.{unread_text}
use Rattle.feed.proofs.Shows.{SoFar}
use Rattle.feed.proofs.lines.LineReader.answer_all.Given as goal

-- the lines so far are answered, and what is answered from here on goes on with them
abbrev pub invariant-loop-number : goal.invariant-loop-number
invariant-loop-number g l =
    let answered = Answered g.A.Answerer.answers g.row.N in
    let u = unread_text l.fn.self in record {
      front : List Text;
      count : length front + 1 ≡ l.number;
      goes : (lines : List Text) (left : Text) (b : _) → answered l.number lines (unread_text l.self) l.answerer left b → answered 1 (front ++ lines) u l.fn.answerer left b;
      known : SoFar g.row.N u (g.R.Read.remaining l.fn.input) front (unread_text l.self) (g.R.Read.remaining l.input);
    }

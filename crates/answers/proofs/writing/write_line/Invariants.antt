use Rattle.std.proofs.Common.{◌≡◌, ℕ, ◌≤◌, ◌+◌, ◌++◌, length, map, take, drop}
use Rattle.rulebook.specs.Texts.{Text}
use Rattle.rulebook.specs.Answers.{tails}
use Rattle.answers.specs.Views.{line_of}
use Rattle.answers.proofs.writing.write_line.Given as goal

-- what stands before the end and what is still to come make up the line, and the buffer is as it was past the end
abbrev pub IsOnTheWay : Text → Text → Text → ℕ → Text → Type 0
IsOnTheWay line was buffer end to_come = record {
  room : end + length to_come ≤ 200;
  text : take end buffer ++ to_come ≡ line;
  rest : (n : ℕ) → end ≤ n → drop n buffer ≡ drop n was;
}

abbrev pub invariant-loop-field : goal.invariant-loop-field
invariant-loop-field l =
    IsOnTheWay (line_of l.word l.fields) l.fn.buffer l.buffer l.end (tails (map (λ f. f.now) (drop l.field-index l.fields)))

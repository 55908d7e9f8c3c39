use Rattle.std.proofs.Common.{[], ◌∷◌, ◌++◌, length-append, append_assoc, sym, refl, ap, inl, inr, arith}
use Rattle.feed.specs.Readers.{line_of, unread_text}
use Rattle.feed.proofs.Shows.{shown_by, on_ok, so_far_more, so_far_all, so_far_full}
use Rattle.feed.proofs.lines.LineReader.answer_all.Goals as goal
use Rattle.feed.proofs.lines.LineReader.answer_all.Goals.{else-loop-number-test, then-loop-number-test+in_ok-line+in_default, then-loop-number-test+in_ok-line+in-Some+in_ok-answer+else-number-lt18446744073709551615}

pub loop-number-init : goal.loop-number-init
loop-number-init g c = record { front = []; count = refl; goes = λ lines left b more. more; known = λ xs is small. (xs, is, refl, omega arith) }

pub loop-number-preserved : goal.loop-number-preserved
loop-number-preserved g c =
    let i = c.loop-number.invariant in
    let line = c.in-Some.line.now in
    let s = shown_by g.row.N (unread_text c.loop-number.self) (g.R.Read.remaining c.loop-number.input) (unread_text c.next_line.follows.lender-at-none) (g.R.Read.remaining c.next_line.new.input) (line_of c.next_line.follows.lender-at-none) c.in_ok-line.was c.next_line.follows.holds-at-none.0 c.in-Some.is in
    record {
      front = i.front ++ (line ∷ []);
      count = omega (arith, length-append i.front (line ∷ []), i.count);
      goes = λ lines left b more. rw (append_assoc i.front (line ∷ []) lines) (i.goes (line ∷ lines) left b (_, _, s.0, c.in_ok-answer.ensures, more));
      known = so_far_more g.row.N _ _ i.front _ _ i.known line _ _ s.1;
    }

pub returns : goal.returns
returns g c =
    let i = c.loop-number.invariant in
    let s' = c.loop-number-test.self in
    let a' = c.loop-number-test.answerer in
    on_ok c.flush-2.result _ (elim c.loop-number-test.branch [
      | else-loop-number-test w ↦ absurd (omega arith)
      | then-loop-number-test+in_ok-line+in_default w ↦
          let s = shown_by g.row.N (unread_text c.loop-number.self) (g.R.Read.remaining c.loop-number.input) (unread_text w.next_line.follows.lender-at-none) (g.R.Read.remaining w.next_line.new.input) (line_of w.next_line.follows.lender-at-none) w.in_ok-line.was w.next_line.follows.holds-at-none.0 w.in_default.is in
          (i.front ++ [], i.goes [] (unread_text s') a' (sym w.answerer-is, inl (rw w.self-is s.0)), so_far_all g.row.N _ _ i.front _ _ i.known [] _ _ s.1)
      | then-loop-number-test+in_ok-line+in-Some+in_ok-answer+else-number-lt18446744073709551615 w ↦
          let line = w.in-Some.line.now in
          let s = shown_by g.row.N (unread_text c.loop-number.self) (g.R.Read.remaining c.loop-number.input) (unread_text w.next_line.follows.lender-at-none) (g.R.Read.remaining w.next_line.new.input) (line_of w.next_line.follows.lender-at-none) w.in_ok-line.was w.next_line.follows.holds-at-none.0 w.in-Some.is in (
            i.front ++ (line ∷ []),
            i.goes (line ∷ []) (unread_text s') a' (_, _, s.0, w.in_ok-answer.ensures, (sym w.answerer-is, inr (omega arith, ap unread_text (sym w.self-is)))),
            so_far_full g.row.N _ _ _ _ _ (so_far_more g.row.N _ _ i.front _ _ i.known line _ _ s.1) (omega (arith, length-append i.front (line ∷ []), i.count)),
          )
    ])

use Rattle.std.proofs.Common.{◌≡◌, ◌≤◌, ◌+◌, ℕ, List, ◌∷◌, ◌++◌, length, set, take, drop, map, ap, ◌∙◌, refl, append_assoc, length-append, length-set, arith}
use Rattle.std.proofs.lemmas.List.{at_drop_more, take_more_set, drop-set-lt}
use Rattle.std.proofs.lemmas.Slice.{take-put_mid, drop-put_mid}
use borrow.Rule.Slice.PartMut.{put_mid}
use denote.Bor.{Bor}
use Rattle.rulebook.specs.Texts.{Text}
use Rattle.rulebook.specs.Answers.{tails}
use Rattle.answers.proofs.writing.write_line.Invariants.{IsOnTheWay}
use Rattle.answers.proofs.writing.write_line.Goals as goal

-- a comma and a field are put into the buffer
one_more : (line was b f to_come : Text) (e n k : ℕ) → n ≡ e + 1 + length f → k ≡ length f → 200 ≤ length b
    → IsOnTheWay line was b e ((44 ∷ f) ++ to_come) → IsOnTheWay line was (put_mid (e + 1) k (set b e 44) f) n to_come
one_more line was b f to_come e n k to part long h =
    let room : n + length to_come ≤ 200 = omega (arith, h.room, length-append f to_come) in
    let text : take n (put_mid (e + 1) k (set b e 44) f) ≡ take e b ++ (44 ∷ f) = grind (arith, take-put_mid, take_more_set, length-set, append_assoc) in
    record {
      room = room;
      text = ap (λ t. t ++ to_come) text ∙ append_assoc (take e b) (44 ∷ f) to_come ∙ h.text;
      rest = λ m past.
          let rest : drop m (put_mid (e + 1) k (set b e 44) f) ≡ drop m b = grind (arith, drop-put_mid, drop-set-lt, length-set) in
          rest ∙ h.rest m (omega arith);
    }

pub loop-field-preserved : goal.loop-field-preserved
loop-field-preserved c =
    let s = c.loop-field in
    let next = at_drop_more (λ (fs : List (Bor Text)). tails (map (λ f. f.now) fs)) c.args.fields.now s.field-index _ c.loop-field-test.true in
    rw c.copy_from_slice-in-loop-field.ensures.after (one_more _ _ s.buffer _ _ s.end _ _ refl (omega arith) (omega arith) (rw next at s.invariant))

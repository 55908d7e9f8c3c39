-- One call more of a list of calls, and the history that it leaves. Assumes nothing.
use Rattle.std.proofs.Common.{◌≡◌, ℕ, ◌+◌, ◌<◌, List, [], ◌∷◌, ◌++◌, length, get_or, take, set, refl, arith}
use Rattle.std.proofs.lemmas.List.{take_more, take_more_set, length-take-le}
use Rattle.rulebook.specs.Histories.{History}
use Rattle.register.specs.Calls.{event_of, history_on}
use Rattle.register.specs.declared.calls.Call.{Call}

history_push : (h : History) (xs ys : List Call) (b a : Call) → length xs ≡ length ys → history_on h (xs ++ (b ∷ [])) (ys ++ (a ∷ [])) ≡ event_of b a ∷ history_on h xs ys
history_push h [] [] b a e = refl
history_push h [] (y ∷ ys) b a e = absurd (omega arith)
history_push h (x ∷ xs) [] b a e = absurd (omega arith)
history_push h (x ∷ xs) (y ∷ ys) b a e = history_push (event_of x y ∷ h) xs ys b a (omega arith)

-- the calls bs as they were, of which those before i are made and stand in cs
pub history_more : (bs cs : List Call) (i : ℕ) (a d : Call) → length cs ≡ length bs → i < length bs
    → history_on [] (take (i + 1) bs) (take (i + 1) (set cs i a)) ≡ event_of (get_or bs i d) a ∷ history_on [] (take i bs) (take i cs)
history_more bs cs i a d len lt =
    let m = length-take-le i bs (omega arith) in
    let n = length-take-le i cs (omega arith) in
    rw (take_more bs i d lt, take_more_set cs i a (omega arith)) (history_push [] (take i bs) (take i cs) (get_or bs i d) a (omega arith))

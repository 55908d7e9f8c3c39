-- Every issued code is read as a code of the office. Assumes nothing.
use Rattle.std.proofs.Common.{◌≡◌, ℕ, zero, suc, [], ◌∷◌, Some, Ok, Err, Result, sym, ap, ◌∙◌}
use Rattle.grounds.specs.declared.Refusal.{Refusal}
use Rattle.rulebook.specs.Texts.{Text, placed}
use Rattle.rulebook.specs.Codes.{read_code_for}
use Rattle.rulebook.specs.Dates.{read_date}
use Rattle.rulebook.specs.Records.{RegistrationTexts}
use Rattle.rulebook.specs.Requests.{Order, creates, cut_up, read_order, asked}
use Rattle.rulebook.specs.Histories.{granted, refused, submitted, looked_up, History, order_in}
use Rattle.rulebook.specs.Lasting.{CreatedAt, Issued}
use Rattle.rulebook.proofs.Reading.{err_ok}
use Rattle.rulebook.proofs.Own.{onward_ok, code_hands, order_own}
use Rattle.rulebook.proofs.Entries.{none_some, some_inj}

placed_ok : {X : Type 0} (k : ℕ) (r : Result X Refusal) (x : X) → placed k r ≡ Ok x → r ≡ Ok x
placed_ok k (Ok y) x h = h
placed_ok k (Err e) x h = err_ok h

creation_coded : (office d c : Text) (r : RegistrationTexts) (o : Order) → read_order office (creates d c r) ≡ Ok o → read_code_for office c ≡ Ok c
creation_coded office d c r o h =
    let date = onward_ok (placed 2 (read_date d)) _ o h in
    let code = onward_ok (placed 3 (read_code_for office c)) _ o date.2 in
    let read = placed_ok 3 (read_code_for office c) code.0 code.1 in
    read ∙ ap Ok (sym (code_hands office c code.0 read))

asked_coded : (office line d c : Text) (r : RegistrationTexts) → asked office line ≡ Ok (creates d c r) → read_code_for office c ≡ Ok c
unfolding asked
asked_coded office line d c r h =
    let o = creates d c r in
    let cut = onward_ok (cut_up line) (read_order office) o h in
    creation_coded office d c r o (ap (read_order office) (sym (order_own office cut.0 o cut.2)) ∙ cut.2)

order_in_lem : (a : Result Order Refusal) (o : Order) → order_in a ≡ Some o → a ≡ Ok o
order_in_lem (Ok x) o e = ap Ok (some_inj x o e)
order_in_lem (Err f) o e = absurd (none_some o e)

created_coded : (office : Text) (h : History) (i : ℕ) (d c : Text) (r : RegistrationTexts) → CreatedAt office h i d c r → read_code_for office c ≡ Ok c
created_coded office [] i d c r p = absurd (none_some _ p)
created_coded office (submitted line before granted n after ∷ h) zero d c r p = asked_coded office line d c r (order_in_lem (asked office line) (creates d c r) p)
created_coded office (submitted line before (refused f) n after ∷ h) zero d c r p = absurd (none_some _ p)
created_coded office (looked_up text before v after ∷ h) zero d c r p = absurd (none_some _ p)
created_coded office (e ∷ h) (suc i) d c r p = created_coded office h i d c r p

pub issued_coded : {office : Text} {h : History} {c : Text} → Issued office h c → read_code_for office c ≡ Ok c
issued_coded {office} {h} {c} i = created_coded office h i.position i.date c i.registration i.created

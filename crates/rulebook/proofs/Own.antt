-- What a line asks stands in it. Assumes nothing.
use Rattle.std.proofs.Common.{◌≡◌, ℕ, zero, suc, ◌+◌, ◌%◌, Bool, true, false, cond, ◌&&◌, ◌||◌, eqb, ltb, List, [], ◌∷◌, length, get_or, drop, Ok, Err, Result, refl, ap, ◌∙◌, add-one, arith}
use Rattle.std.proofs.lemmas.List.{nil_from_length, drop_more, drop_all}
use Rattle.std.proofs.lemmas.Bool.{eqb-true}
use Rattle.grounds.specs.Grounds.{in_field}
use Rattle.grounds.specs.declared.Ground.{Ground}
use Rattle.grounds.specs.declared.Ground.TheVariants.{LineLength, Action, FieldCount, Date, OtherOffice, CheckCharacter, FieldRule}
use Rattle.grounds.specs.declared.Refusal.{Refusal}
use Rattle.rulebook.specs.Texts.{Text, fields, field_of, is_blank, onward, placed, passed, unless_blank}
use Rattle.rulebook.specs.Schemes.{is_right}
use Rattle.rulebook.specs.Codes.{is_party, of_office, sum_of, read_code_for}
use Rattle.rulebook.specs.Articles.{ean13}
use Rattle.rulebook.specs.Dates.{is_date, read_date}
use Rattle.rulebook.specs.Fields.{is_number, is_name, is_display, is_vat, read_named}
use Rattle.rulebook.specs.Records.{RegistrationTexts}
use Rattle.rulebook.specs.Requests.{Order, creates, changes, deactivates, reactivates, looks_up, registration_in, of_fields, by_action, cut_up, read_registration, read_order, asked, texts_of, Verbatim}

-- a refusal is no value
no_value : {X E : Type 0} {P : Type 0} (e : E) (x : X) → ◌≡◌ {A = Result X E} (Err e) (Ok x) → P
no_value e x h = let z : ◌≡◌ {A = ℕ} 0 1 = cc in absurd (omega arith)

pub same_value : {X E : Type 0} (x y : X) → ◌≡◌ {A = Result X E} (Ok x) (Ok y) → x ≡ y
same_value x y e = cc

cond_ok : {X E : Type 0} (t : Bool) (r : Result X E) (e : E) (x : X) → cond t r (Err e) ≡ Ok x → (t ≡ true) × (r ≡ Ok x)
cond_ok true r e x h = (refl, h)
cond_ok false r e x h = no_value e x h

cond_no : {X E : Type 0} (t : Bool) (r : Result X E) (e : E) (x : X) → cond t (Err e) r ≡ Ok x → r ≡ Ok x
cond_no true r e x h = no_value e x h
cond_no false r e x h = h

-- a reading hands its text on
passed_hands : (g : Ground) (b : Bool) (t x : Text) → passed g b t ≡ Ok x → t ≡ x
passed_hands g b t x h = same_value t x (cond_ok b (Ok t) (in_field 0 g 0) x h).1

pub onward_ok : {X Y E : Type 0} (r : Result X E) (f : X → Result Y E) (y : Y) → onward r f ≡ Ok y → (x : X) × (r ≡ Ok x) × (f x ≡ Ok y)
onward_ok (Ok x) f y h = (x, refl, h)
onward_ok (Err e) f y h = no_value e y h

pub code_hands : (office t x : Text) → read_code_for office t ≡ Ok x → t ≡ x
code_hands office t x h =
    let s = onward_ok (sum_of 16 t) _ x h in
    let o = cond_ok (of_office office t) _ (in_field 0 OtherOffice 0) x s.2 in
    same_value t x (cond_ok (eqb (s.0 % 37) 0) (Ok t) (in_field 0 CheckCharacter 0) x o.1).1

blank_hands : (t x : Text) (r : Result Text Refusal) (b : Bool) → is_blank t ≡ b → (r ≡ Ok x → t ≡ x) → cond b (Ok []) r ≡ Ok x → t ≡ x
blank_hands t x r true e f h = nil_from_length t (eqb-true (length t) 0 e) ∙ same_value [] x h
blank_hands t x r false e f h = f h

named_hands : (office t x : Text) → read_named office t ≡ Ok x → t ≡ x
named_hands office t x h = blank_hands t x (read_code_for office t) (is_blank t) refl (code_hands office t x) h

blank_passed_hands : (g : Ground) (b : Bool) (t x : Text) → unless_blank t (passed g b t) ≡ Ok x → t ≡ x
blank_passed_hands g b t x h = blank_hands t x (passed g b t) (is_blank t) refl (passed_hands g b t x) h

-- a reading in its field that hands its text on is gone on with at that text
through : {Y : Type 0} (k : ℕ) (r : Result Text Refusal) (t : Text) (f : Text → Result Y Refusal) (y : Y) → ((x : Text) → r ≡ Ok x → t ≡ x) → onward (placed k r) f ≡ Ok y → f t ≡ Ok y
through k (Ok x) t f y w h = ap f (w x refl) ∙ h
through k (Err e) t f y w h = no_value _ y h

registration_own : (office c : Text) (r s : RegistrationTexts) → read_registration office c r ≡ Ok s → r ≡ s
registration_own office c r s h =
    same_value r s
    (through 11 _ r.ean _ s (blank_passed_hands FieldRule (is_party c && is_right ean13 r.ean) r.ean)
    (through 10 _ r.vat _ s (blank_passed_hands FieldRule (is_party c && is_vat r.vat) r.vat)
    (through 9 _ r.responsible _ s (named_hands office r.responsible)
    (through 8 _ r.parent _ s (named_hands office r.parent)
    (through 7 _ r.display _ s (passed_hands FieldRule (is_display r.display) r.display)
    (through 6 _ r.name _ s (passed_hands FieldRule (is_name r.name) r.name)
    (through 5 _ r.function _ s (passed_hands FieldRule (is_number 2 r.function) r.function)
    (through 4 _ r.object _ s (passed_hands FieldRule (is_number 10 r.object) r.object) h))))))))

dated : {Y : Type 0} (office d c : Text) (f : Text → Text → Result Y Refusal) (y : Y) → onward (placed 2 (read_date d)) (λ d. onward (placed 3 (read_code_for office c)) (λ c. f d c)) ≡ Ok y → f d c ≡ Ok y
dated office d c f y h = through 3 (read_code_for office c) c (f d) y (code_hands office c) (through 2 (read_date d) d _ y (passed_hands Date (is_date d) d) h)

registered : (office c : Text) (r : RegistrationTexts) (make : RegistrationTexts → Order) (o : Order) → onward (read_registration office c r) (λ r. Ok (make r)) ≡ Ok o → make r ≡ o
registered office c r make o h = by (read_registration office c r) (λ s. registration_own office c r s) h
  where
    by : (q : Result RegistrationTexts Refusal) → ((s : RegistrationTexts) → q ≡ Ok s → r ≡ s) → onward q (λ r. Ok (make r)) ≡ Ok o → make r ≡ o
    by (Ok s) w h = ap make (w s refl) ∙ same_value (make s) o h
    by (Err e) w h = no_value e o h

pub order_own : (office : Text) (a b : Order) → read_order office a ≡ Ok b → a ≡ b
order_own office (creates d c r) b h = registered office c r (creates d c) b (dated office d c _ b h)
order_own office (changes d c r) b h = registered office c r (changes d c) b (dated office d c _ b h)
order_own office (deactivates d c) b h = same_value (deactivates d c) b (dated office d c _ b h)
order_own office (reactivates d c) b h = same_value (reactivates d c) b (dated office d c _ b h)
order_own office (looks_up c) b h = same_value (looks_up c) b (through 2 (read_code_for office c) c _ b (code_hands office c) h)

asked_by : (office : Text) (r : Result Order Refusal) (o : Order) → onward r (read_order office) ≡ Ok o → r ≡ Ok o
asked_by office (Ok x) o h = ap Ok (order_own office x o h)
asked_by office (Err e) o h = no_value e o h

-- n elements of a list, one by one, from place i on
abbrev listed : ℕ → ℕ → List Text → List Text
listed i zero fs = []
listed i (suc n) fs = get_or fs i [] ∷ listed (suc i) n fs

all_listed : (n i : ℕ) (fs : List Text) → length fs ≡ i + n → drop i fs ≡ listed i n fs
all_listed zero i fs e = drop_all i fs (omega arith)
all_listed (suc n) i fs e =
    drop_more fs i [] (omega arith) ∙ ap (λ (l : List Text). get_or fs i [] ∷ l) (ap (λ (k : ℕ). drop k fs) (add-one i) ∙ all_listed n (suc i) fs (omega arith))

-- an order made of the fields of a line that has so many
made_own : (n : ℕ) (line : Text) (x o : Order) → listed 1 n (fields line) ≡ texts_of x → of_fields (1 + n) line x ≡ Ok o → drop 1 (fields line) ≡ texts_of o
made_own n line x o is h =
    let p = cond_ok (eqb (length (fields line)) (1 + n)) (Ok x) (in_field 0 FieldCount 0) o h in
    all_listed n 1 (fields line) (eqb-true (length (fields line)) (1 + n) p.0) ∙ is ∙ ap texts_of (same_value x o p.1)

either : {P : Type 0} (b : Bool) (r s : Result Order Refusal) (o : Order) → (r ≡ Ok o → P) → (s ≡ Ok o → P) → cond b r s ≡ Ok o → P
either true r s o f g h = f h
either false r s o f g h = g h

action_own : (letter : ℕ) (line : Text) (o : Order) → by_action letter line ≡ Ok o → drop 1 (fields line) ≡ texts_of o
action_own letter line o =
    either (eqb letter 67) _ _ o (made_own 10 line (creates (field_of line 2) (field_of line 3) (registration_in line)) o refl)
    (either (eqb letter 85) _ _ o (made_own 10 line (changes (field_of line 2) (field_of line 3) (registration_in line)) o refl)
    (either (eqb letter 68) _ _ o (made_own 2 line (deactivates (field_of line 2) (field_of line 3)) o refl)
    (either (eqb letter 82) _ _ o (made_own 2 line (reactivates (field_of line 2) (field_of line 3)) o refl)
    (either (eqb letter 76) _ _ o (made_own 1 line (looks_up (field_of line 2)) o refl)
    (λ h. no_value _ o h)))))

cut_own : (line : Text) (o : Order) → cut_up line ≡ Ok o → drop 1 (fields line) ≡ texts_of o
cut_own line o h =
    let a = cond_no (eqb (length line) 0 || ltb 194 (length line)) _ (in_field 0 LineLength 0) o h in
    let b = cond_ok (eqb (length (field_of line 1)) 1) _ (in_field 1 Action 0) o a in
    action_own (get_or (field_of line 1) 0 0) line o b.1

pub verbatim : (office line : Text) → Verbatim office line
unfolding asked
verbatim office line o h = cut_own line o (asked_by office (cut_up line) o h)

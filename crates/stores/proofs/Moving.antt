-- Rows of which one was written: what they are, how many, and the records in them. Assumes nothing.
use Rattle.std.proofs.Common.{◌≡◌, ℕ, suc, ◌+◌, ◌-◌, ◌<◌, ◌≤◌, List, [], ◌∷◌, ◌++◌, map, length, get_or, take, drop, set, sym, ap, ◌∙◌, subst, append_assoc, add-one, arith}
use Rattle.std.specs.List.{insert, remove, copy_within}
use Rattle.std.specs.List.Sorted.{IsPermutation}
use Rattle.std.proofs.lemmas.List.Edits.{length-insert, length-remove}
use Rattle.std.proofs.lemmas.List.Sorted.{IsPermutation-middle, IsPermutation-sym, IsPermutation-trans}
use Rattle.std.proofs.lemmas.List.{length-append, length-drop, length-take-le, take_at, take-take, take-map, take-append-le, drop-append-le, take-append-drop, drop-map, drop_all, drop_more, take_more, map-append, set_at, set_split}
use Rattle.std.proofs.lemmas.Slice.{between_is}
use Rattle.stores.specs.Moves.{renewed, opened}

module _ {X : Type 0} where
  -- ---- a row goes, and one stands last of those that moved down
  module _ (xs : List X) (p e : ℕ) (x : X) (lt : p < e) (h : e ≤ length xs) where
    length_left : length (remove (take e xs) p) + 1 ≡ e
    length_left = let l = length-take-le e xs h in let r = length-remove (take e xs) p (omega arith) in omega arith

    pub length_renewed : length (renewed xs p e x) ≡ length xs
    length_renewed = let l = length_left in let a = length-append (remove (take e xs) p) (x ∷ drop e xs) in let d = length-drop e xs in omega arith

    pub renewed_is : (q : ℕ) → q + 1 ≡ e → set (copy_within xs (p + 1) e p) q x ≡ renewed xs p e x
    renewed_is q b =
        let left = remove (take e xs) p in
        let m = e - (p + 1) in
        let a : p + m ≡ q = omega arith in
        let k = length_left in
        ap (λ (ys : List X). set (ys ++ take m (drop (p + 1) xs) ++ drop (p + m) xs) q x) (sym (take-take p e xs (omega arith)))
        ∙ ap (λ (ys : List X). set (take p (take e xs) ++ ys ++ drop (p + m) xs) q x) (between_is xs (p + 1) e ∙ ap (λ i. drop i (take e xs)) (add-one p))
        ∙ ap (λ (ys : List X). set (left ++ ys) q x) (ap (λ i. drop i xs) a ∙ drop_more xs q x (omega arith))
        ∙ set_at left (get_or xs q x) (drop (q + 1) xs) x q (omega arith)
        ∙ ap (λ i. left ++ x ∷ drop i xs) b

  -- where none moves, the row at p is written alone
  pub renewed_here : (xs : List X) (p : ℕ) (x : X) → p < length xs → renewed xs p (p + 1) x ≡ set xs p x
  renewed_here xs p x lt =
      let none : drop (suc p) (take (p + 1) xs) ≡ [] = ap (λ i. drop i (take (p + 1) xs)) (sym (add-one p)) ∙ sym (between_is xs (p + 1) (p + 1)) ∙ ap (λ i. take i (drop (p + 1) xs)) (let z : p + 1 - (p + 1) ≡ 0 = omega arith in z) in
      ap (λ (ys : List X). (take p (take (p + 1) xs) ++ ys) ++ (x ∷ drop (p + 1) xs)) none
      ∙ ap (λ (ys : List X). (ys ++ []) ++ (x ∷ drop (p + 1) xs)) (take-take p (p + 1) xs (omega arith))
      ∙ append_assoc (take p xs) [] (x ∷ drop (p + 1) xs)
      ∙ ap (λ i. take p xs ++ (x ∷ drop i xs)) (add-one p)
      ∙ sym (set_split xs p x lt)

  remove_front : (a b : List X) (p : ℕ) → p < length a → remove (a ++ b) p ≡ remove a p ++ b
  remove_front a b p lt =
      ap (λ (ys : List X). ys ++ drop (suc p) (a ++ b)) (take-append-le p a b (omega arith))
      ∙ ap (λ (ys : List X). take p a ++ ys) (drop-append-le (suc p) a b (omega arith))
      ∙ sym (append_assoc (take p a) (drop (suc p) a) b)

  -- the same items as where the one at p is written alone
  pub renewed_shuffled : (xs : List X) (p e : ℕ) (x : X) → p < e → e ≤ length xs → IsPermutation (set xs p x) (renewed xs p e x)
  renewed_shuffled xs p e x lt h =
      let l = length-take-le e xs h in
      let left = remove (take e xs) p in
      let same : left ++ drop e xs ≡ remove xs p = sym (remove_front (take e xs) (drop e xs) p (omega arith)) ∙ ap (λ (ys : List X). remove ys p) (take-append-drop e xs) in
      let a = subst (λ (ys : List X). IsPermutation ys (x ∷ remove xs p)) (sym (set_split xs p x (omega arith))) (IsPermutation-middle (take p xs) x (drop (suc p) xs)) in
      let b = subst (λ (ys : List X). IsPermutation (renewed xs p e x) (x ∷ ys)) same (IsPermutation-middle left x (drop e xs)) in
      IsPermutation-trans (set xs p x) (x ∷ remove xs p) (renewed xs p e x) a (IsPermutation-sym (renewed xs p e x) (x ∷ remove xs p) b)

  -- ---- a row is put in, and those from there on move up
  module _ (xs : List X) (p n : ℕ) (x : X) (hp : p ≤ n) (hn : n < length xs) where
    long_in : length (insert (take n xs) p x) ≡ n + 1
    long_in = let t = length-take-le n xs (omega arith) in let l = length-insert (take n xs) p x (omega arith) in omega arith

    pub length_opened : length (opened xs p n x) ≡ length xs
    length_opened = let t = long_in in let a = length-append (insert (take n xs) p x) (drop (suc n) xs) in let b = length-drop (suc n) xs in omega arith

    pub take_opened : take (n + 1) (opened xs p n x) ≡ insert (take n xs) p x
    take_opened = take_at (insert (take n xs) p x) (drop (suc n) xs) (n + 1) long_in

    pub opened_is : set (copy_within xs p n (p + 1)) p x ≡ opened xs p n x
    opened_is =
        let mid = take (n - p) (drop p xs) in
        let rest = drop (p + 1 + (n - p)) xs in
        let z : p + 1 + (n - p) ≡ suc n = omega arith in
        ap (λ (ys : List X). set (ys ++ mid ++ rest) p x) (take_more xs p x (omega arith))
        ∙ ap (λ (ys : List X). set ys p x) (append_assoc (take p xs ++ get_or xs p x ∷ []) mid rest ∙ append_assoc (take p xs) (get_or xs p x ∷ []) (mid ++ rest))
        ∙ set_at (take p xs) (get_or xs p x) (mid ++ rest) x p (length-take-le p xs (omega arith))
        ∙ sym (append_assoc (take p xs) (x ∷ mid) rest)
        ∙ ap (λ (ys : List X). (ys ++ x ∷ mid) ++ rest) (sym (take-take p n xs hp))
        ∙ ap (λ (ys : List X). (take p (take n xs) ++ x ∷ ys) ++ rest) (between_is xs p n)
        ∙ ap (λ i. insert (take n xs) p x ++ drop i xs) z

  -- at the end none moves, and the row is written alone
  pub opened_last : (xs : List X) (n : ℕ) (x : X) → n < length xs → opened xs n n x ≡ set xs n x
  opened_last xs n x lt =
      let l = length-take-le n xs (omega arith) in
      ap (λ (ys : List X). (ys ++ x ∷ drop n (take n xs)) ++ drop (suc n) xs) (take-take n n xs (omega arith))
      ∙ ap (λ (ys : List X). (take n xs ++ x ∷ ys) ++ drop (suc n) xs) (drop_all n (take n xs) (omega arith))
      ∙ append_assoc (take n xs) (x ∷ []) (drop (suc n) xs)
      ∙ sym (set_split xs n x lt)

  -- ---- the first n rows, by what they mean
  module _ {Y : Type 0} (f : X → Y) (xs : List X) where
    renewed_front : (a b : List X) (p e : ℕ) (x : X) → e ≤ length a → renewed (a ++ b) p e x ≡ renewed a p e x ++ b
    renewed_front a b p e x h =
        ap (λ (ys : List X). remove ys p ++ (x ∷ drop e (a ++ b))) (take-append-le e a b h)
        ∙ ap (λ (ys : List X). remove (take e a) p ++ (x ∷ ys)) (drop-append-le e a b h)
        ∙ sym (append_assoc (remove (take e a) p) (x ∷ drop e a) b)

    map_renewed : (a : List X) (p e : ℕ) (x : X) → map f (renewed a p e x) ≡ renewed (map f a) p e (f x)
    map_renewed a p e x = rw (take-map, take-map, drop-map, drop-map, map-append, map-append)

    pub front_renewed : (p e n : ℕ) (x : X) → p < e → e ≤ n → n ≤ length xs → map f (take n (renewed xs p e x)) ≡ renewed (map f (take n xs)) p e (f x)
    front_renewed p e n x lt le h =
        let l = length-take-le n xs h in
        let r = length_renewed (take n xs) p e x lt (omega arith) in
        ap (λ (ys : List X). map f (take n (renewed ys p e x))) (sym (take-append-drop n xs))
        ∙ ap (λ (ys : List X). map f (take n ys)) (renewed_front (take n xs) (drop n xs) p e x (omega arith))
        ∙ ap (map f) (take_at (renewed (take n xs) p e x) (drop n xs) n (r ∙ l))
        ∙ map_renewed (take n xs) p e x

    pub front_opened : (p n : ℕ) (x : X) → p ≤ n → n < length xs → map f (take (n + 1) (opened xs p n x)) ≡ insert (map f (take n xs)) p (f x)
    front_opened p n x le lt =
        ap (map f) (take_opened xs p n x le lt) ∙ map-append f (take p (take n xs)) (x ∷ drop p (take n xs))
        ∙ ap (λ (l : List Y). l ++ (f x ∷ map f (drop p (take n xs)))) (sym (take-map f p (take n xs)))
        ∙ ap (λ (l : List Y). take p (map f (take n xs)) ++ (f x ∷ l)) (sym (drop-map f p (take n xs)))

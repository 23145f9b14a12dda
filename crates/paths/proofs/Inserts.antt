-- Rising lists, each word once: how a word is inserted in memory, and that the words alone decide the list. Assumes nothing.
use Rattle.std.specs.Prelude.{if◌then◌else◌}
use Rattle.std.specs.List.{copy_within}
use Rattle.std.proofs.lemmas.Slice.{between_is}
use Prim.Native.Nat.{ℕ, zero, suc, ◌+◌, ◌-◌, ◌<◌, ◌≤◌}
use mathlib.Core.Path.{◌≡◌, refl, sym, ap, ◌∙◌}
use mathlib.Core.Logic.{◌⊎◌, inl, inr, ⊎_elim}
use mathlib.Core.Bool.{Bool, true, false}
use mathlib.Core.List.{List, [], ◌∷◌, ◌++◌, append_assoc}
use native.Mathlib.Omega.{arith}
use native.Mathlib.Numerals.{add-one}
use lib.Dec.{ltb, eqb}
use lib.ListN.{length, set, take, drop, length-append, length-drop}
use lib.Seq.{sets, sets-eq, length-take-le, take_at, take-suc, take-take, get_or-take, set-append_seam}
use borrow.Author.Tests.{lt-ltb, le-ltb, eq-eqb, ne_eqb, ltb-true, ltb-false, eqb-true, eqb-false}
use Rattle.layout.specs.Lists.{In, insert}
use Rattle.circuit.specs.Rank.{at}
use Rattle.paths.specs.Rising.{Placed, Words}

-- where v stands already
pub insert_there : (v : ℕ) (xs : List ℕ) (k : ℕ) → k < length xs → ((j : ℕ) → j < k → at xs j < v) → at xs k ≡ v → insert v xs ≡ xs
unfolding insert
insert_there v [] k l h e = absurd (omega arith)
insert_there v (b ∷ bs) zero l h e = rw (le-ltb v b (omega arith), eq-eqb v b (sym e))
insert_there v (b ∷ bs) (suc k) l h e =
    let s : b < v = h 0 (omega arith) in
    rw (le-ltb v b (omega arith), ne_eqb v b (omega arith), insert_there v bs k (omega arith) (λ j m. h (suc j) (omega arith)) e)

-- where it belongs
pub insert_at : (v : ℕ) (xs : List ℕ) (k : ℕ) → k ≤ length xs → ((j : ℕ) → j < k → at xs j < v) → (k < length xs → v < at xs k) → insert v xs ≡ take k xs ++ (v ∷ drop k xs)
unfolding insert
insert_at v [] zero l h e = refl
insert_at v [] (suc k) l h e = absurd (omega arith)
insert_at v (b ∷ bs) zero l h e = rw (lt-ltb v b (e (omega arith)))
insert_at v (b ∷ bs) (suc k) l h e =
    let s : b < v = h 0 (omega arith) in
    rw (le-ltb v b (omega arith), ne_eqb v b (omega arith), insert_at v bs k (omega arith) (λ j m. h (suc j) (omega arith)) (λ m. e (omega arith)))

pub insert_length : (v : ℕ) (xs : List ℕ) → length (insert v xs) ≤ length xs + 1
unfolding insert
insert_length v [] = omega arith
insert_length v (b ∷ bs) = go (ltb v b) refl (eqb v b) refl (insert_length v bs)
  where
    go : (p : Bool) → ltb v b ≡ p → (q : Bool) → eqb v b ≡ q → length (insert v bs) ≤ length bs + 1 → length (if ltb v b then v ∷ b ∷ bs else if eqb v b then b ∷ bs else b ∷ insert v bs) ≤ suc (length bs) + 1
    go true e q f h = rw e (omega arith)
    go false e true f h = rw (e, f) (omega arith)
    go false e false f h = rw (e, f) (omega arith)

-- in memory, among the first n words

module _ (words : List ℕ) (n v k : ℕ) (room : n < length words) (p : Placed words n v k) where
  long : length (take n words) ≡ n
  long = length-take-le n words (omega arith)

  less : (j : ℕ) → j < k → at (take n words) j < v
  less j l = let w = p.within in rw (get_or-take n words j 0 (omega arith)) (p.less j l)

  pub insert_stays : k < n → at words k ≡ v → Words words (insert v (take n words)) n
  insert_stays l e =
      let i = insert_there v (take n words) k (rw long l) less (get_or-take n words k 0 l ∙ e) in
      record { first = sym i; long = ap length i ∙ long }

  pub insert_moves : (after : List ℕ) → after ≡ sets words k (v ∷ drop k (take n words)) → (k < n → (at words k ≡ v → ⊥)) → Words after (insert v (take n words)) (n + 1)
  insert_moves after e ne =
      let w = p.within in
      let h : k < length (take n words) → v < at (take n words) k =
      λ l. let s : k < n = rw long at l in let g = p.here s in let d = ne s in rw (get_or-take n words k 0 s) (omega arith) in
      let i = insert_at v (take n words) k (rw long w) less h in
      let d : length (drop k (take n words)) ≡ n - k = length-drop k (take n words) ∙ ap (λ (x : ℕ). x - k) long in
      let t : length (take k words) ≡ k = length-take-le k words (omega arith) in
      let s = sets-eq (v ∷ drop k (take n words)) words k (omega arith) in
      let a : length (take k words ++ (v ∷ drop k (take n words))) ≡ n + 1 = length-append (take k words) (v ∷ drop k (take n words)) ∙ omega arith in
      let f : take (n + 1) after ≡ take k words ++ (v ∷ drop k (take n words)) =
      ap (take (n + 1)) (e ∙ s)
      ∙ take_at (take k words ++ (v ∷ drop k (take n words))) _ (n + 1) a in
      let g : take k (take n words) ≡ take k words = take-take k n words w in
      let whole : insert v (take n words) ≡ take k words ++ (v ∷ drop k (take n words)) = i ∙ ap (λ (x : List ℕ). x ++ (v ∷ drop k (take n words))) g in
      record { first = f ∙ sym whole; long = ap length whole ∙ a }

-- the words from place k on go up by one, and v comes before them
pub moved_up : (words : List ℕ) (n k v : ℕ) → k ≤ n → n < length words → set (copy_within words k n (k + 1)) k v ≡ sets words k (v ∷ drop k (take n words))
moved_up words n k v l h =
    let start : List ℕ = take k words in
    let moved : List ℕ = drop k (take n words) in
    let rest : List ℕ = drop (k + 1 + (n - k)) words in
    let s : length start ≡ k = length-take-le k words (omega arith) in
    let m : length moved ≡ n - k = length-drop k (take n words) ∙ ap (λ (x : ℕ). x - k) (length-take-le n words (omega arith)) in
    let e : copy_within words k n (k + 1) ≡ start ++ (at words k ∷ (moved ++ rest)) =
    ap (λ (x : List ℕ). (x ++ take (n - k) (drop k words)) ++ rest) (ap (λ (i : ℕ). take i words) (add-one k) ∙ take-suc words k 0 (omega arith))
    ∙ ap (λ (x : List ℕ). ((start ++ (at words k ∷ [])) ++ x) ++ rest) (between_is words k n)
    ∙ append_assoc (start ++ (at words k ∷ [])) moved rest
    ∙ append_assoc start (at words k ∷ []) (moved ++ rest) in
    let w : sets words k (v ∷ moved) ≡ (start ++ (v ∷ moved)) ++ rest =
    sets-eq (v ∷ moved) words k (omega arith) ∙ ap (λ (i : ℕ). (start ++ (v ∷ moved)) ++ drop i words) (omega arith) in
    ap (λ (x : List ℕ). set x k v) e
    ∙ ap (λ (i : ℕ). set (start ++ (at words k ∷ (moved ++ rest))) i v) (sym s)
    ∙ set-append_seam start (at words k) (moved ++ rest) v
    ∙ sym (append_assoc start (v ∷ moved) rest)
    ∙ sym w

-- what stands in a list after an insertion

pub insert_self : (a : ℕ) (xs : List ℕ) → In a (insert a xs)
unfolding insert
insert_self a [] = inl refl
insert_self a (b ∷ bs) = go (ltb a b) refl (eqb a b) refl (insert_self a bs)
  where
    go : (p : Bool) → ltb a b ≡ p → (q : Bool) → eqb a b ≡ q → In a (insert a bs) → In a (if ltb a b then a ∷ b ∷ bs else if eqb a b then b ∷ bs else b ∷ insert a bs)
    go true e q f h = rw e (inl refl)
    go false e true f h = rw (e, f) (inl (eqb-true a b f))
    go false e false f h = rw (e, f) (inr h)

pub insert_keeps : (a : ℕ) (xs : List ℕ) (v : ℕ) → In v xs → In v (insert a xs)
unfolding insert
insert_keeps a [] v h = absurd h
insert_keeps a (b ∷ bs) v h = go (ltb a b) refl (eqb a b) refl (insert_keeps a bs v)
  where
    go : (p : Bool) → ltb a b ≡ p → (q : Bool) → eqb a b ≡ q → (In v bs → In v (insert a bs)) → In v (if ltb a b then a ∷ b ∷ bs else if eqb a b then b ∷ bs else b ∷ insert a bs)
    go true e q f rest = rw e (inr h)
    go false e true f rest = rw (e, f) h
    go false e false f rest = rw (e, f) (⊎_elim inl (λ k. inr (rest k)) h)

pub insert_only : (a : ℕ) (xs : List ℕ) (v : ℕ) → In v (insert a xs) → (v ≡ a) ⊎ In v xs
unfolding insert
insert_only a [] v h = h
insert_only a (b ∷ bs) v h = go (ltb a b) refl (eqb a b) refl (insert_only a bs v) h
  where
    go : (p : Bool) → ltb a b ≡ p → (q : Bool) → eqb a b ≡ q → (In v (insert a bs) → (v ≡ a) ⊎ In v bs) → In v (if ltb a b then a ∷ b ∷ bs else if eqb a b then b ∷ bs else b ∷ insert a bs) → (v ≡ a) ⊎ ((v ≡ b) ⊎ In v bs)
    go true e q f rest k = rw e at k
    go false e true f rest k = inr (rw (e, f) at k)
    go false e false f rest k = let k' : (v ≡ b) ⊎ In v (insert a bs) = rw (e, f) at k in ⊎_elim (λ z. inr (inl z)) (λ z. ⊎_elim inl (λ y. inr (inr y)) (rest z)) k'

-- rising: each is below all after it
abbrev pub Rising : List ℕ → Type 0
Rising [] = Unit {0}
Rising (x ∷ xs) = ((v : ℕ) → In v xs → x < v) × Rising xs

pub insert_rising : (a : ℕ) (xs : List ℕ) → Rising xs → Rising (insert a xs)
unfolding insert
insert_rising a [] r = ((λ v h. absurd h), tt)
insert_rising a (b ∷ bs) (f, r) = go (ltb a b) refl (eqb a b) refl (insert_rising a bs r)
  where
    go : (p : Bool) → ltb a b ≡ p → (q : Bool) → eqb a b ≡ q → Rising (insert a bs) → Rising (if ltb a b then a ∷ b ∷ bs else if eqb a b then b ∷ bs else b ∷ insert a bs)
    go true e q g s = let l = ltb-true a b e in rw e ((λ v h. ⊎_elim (λ z. omega arith) (λ z. let y = f v z in omega arith) h), (f, r))
    go false e true g s = rw (e, g) (f, r)
    go false e false g s =
        let l = ltb-false a b e in
        let n = eqb-false a b g in
        rw (e, g) ((λ v h. ⊎_elim (λ z. omega arith) (λ z. f v z) (insert_only a bs v h)), s)

-- two rising lists of the same words are one
pub rising_one : (xs ys : List ℕ) → Rising xs → Rising ys → ((v : ℕ) → In v xs → In v ys) → ((v : ℕ) → In v ys → In v xs) → xs ≡ ys
rising_one [] [] r s f g = refl
rising_one [] (y ∷ ys) r s f g = absurd (g y (inl refl))
rising_one (x ∷ xs) [] r s f g = absurd (f x (inl refl))
rising_one (x ∷ xs) (y ∷ ys) (p, r) (q, s) f g =
    let e : x ≡ y = ⊎_elim (λ z. z) (λ z. ⊎_elim sym (λ w. let a = q x z in let b = p y w in absurd (omega arith)) (g y (inl refl))) (f x (inl refl)) in
    let t : xs ≡ ys =
    rising_one xs ys r s
    (λ v h. ⊎_elim (λ z. let a = p v h in absurd (omega arith)) (λ z. z) (f v (inr h)))
    (λ v h. ⊎_elim (λ z. let a = q v h in absurd (omega arith)) (λ z. z) (g v (inr h))) in
    rw (e, t)

-- Visible nodes are the classes below the roots: one of each structure is one of each class, and so as many as there are marks. Assumes nothing.
use Rattle.std.specs.Prelude.{if◌then◌else◌}
use Rattle.std.specs.List.{count_by}
use Rattle.std.proofs.lemmas.List.Sums.{sum_by_more}
use Prim.Native.Nat.{ℕ, zero, suc, ◌+◌, ◌<◌, ◌≤◌}
use mathlib.Core.Path.{◌≡◌, refl, sym, ap, ◌∙◌}
use mathlib.Core.Logic.{◌⊎◌, inl, inr, ⊎_elim, ◌≢◌}
use mathlib.Core.Bool.{Bool, true, false, ◌||◌, cond}
use mathlib.Core.List.{List, [], ◌∷◌, map}
use native.Mathlib.Numerals.{add-one}
use native.Mathlib.Omega.{arith}
use lib.Dec.{eqb}
use lib.ListN.{length, take, set, replicate, length-map}
use lib.Seq.{get_or-set_same, get_or-set_other}
use borrow.Author.Tests.{eqb-true, eq-eqb, ne_eqb, lt-ltb, le-ltb}
use Rattle.layout.specs.Lists.{In, any, distinct, up_to, bit}
use Rattle.layout.specs.Words.{used}
use Rattle.layout.specs.Tree.{tree, same}
use Rattle.layout.specs.NotCircuit.{not_circuit, bad_id}
use Rattle.circuit.specs.Rank.{at}
use Rattle.layout.proofs.Tests.{or_right, same_or, any-more, any_start}
use Rattle.layout.proofs.Lists.{same_test}
use Rattle.walking.specs.Paths.{walks}
use Rattle.paths.specs.Counting.{PathCounts}
use Rattle.paths.proofs.Below.{walks_below}
use Rattle.paths.proofs.Sums.{sum, sum_start, sum_more, sum_same, sum_none, sum-add, sum_one}
use Rattle.classes.specs.Classes.{class_of}
use Rattle.classes.specs.Find.{Sorting}
use Rattle.classes.proofs.Finding.{class_least, class_law}
use Rattle.reading.specs.Readings.{visible}
use Rattle.read.specs.Marks.{class_at, Marked, marks}
use Rattle.read.proofs.Highest.{any_below}

-- one of each, of a list that was mapped, and by tests that agree on it

any_map : {A B : Type 0} (p : B → Bool) (f : A → B) (xs : List A) → any p (map f xs) ≡ any (λ x. p (f x)) xs
unfolding any
any_map p f [] = refl
any_map p f (x ∷ xs) = rw (any_map p f xs)

distinct_map : {A B : Type 0} (r : B → B → Bool) (f : A → B) (xs : List A) → distinct r (map f xs) ≡ map f (distinct (λ a b. r (f a) (f b)) xs)
unfolding distinct
distinct_map r f [] = refl
distinct_map r f (x ∷ xs) = rw (distinct_map r f xs, any_map (r (f x)) f (distinct (λ a b. r (f a) (f b)) xs)) (go (any (λ b. r (f x) (f b)) (distinct (λ a b. r (f a) (f b)) xs)) (distinct (λ a b. r (f a) (f b)) xs))
  where
    go : (b : Bool) (ys : List _) → (if b then map f ys else f x ∷ map f ys) ≡ map f (if b then ys else x ∷ ys)
    go true ys = refl
    go false ys = refl

distinct_in : {A : Type 0} (r : A → A → Bool) (xs : List A) (a : A) → In a (distinct r xs) → In a xs
unfolding distinct
distinct_in r [] a h = h
distinct_in r (x ∷ xs) a h = go (any (r x) (distinct r xs)) h (distinct_in r xs a)
  where
    go : (b : Bool) → In a (if b then distinct r xs else x ∷ distinct r xs) → (In a (distinct r xs) → In a xs) → (a ≡ x) ⊎ In a xs
    go true k rest = inr (rest k)
    go false (inl e) rest = inl e
    go false (inr k) rest = inr (rest k)

any_agree : {A : Type 0} (p q : A → Bool) (xs : List A) → ((a : A) → In a xs → p a ≡ q a) → any p xs ≡ any q xs
unfolding any
any_agree p q [] h = refl
any_agree p q (x ∷ xs) h = rw (h x (inl refl), any_agree p q xs (λ a k. h a (inr k)))

distinct_agree : {A : Type 0} (r q : A → A → Bool) (xs : List A) → ((a b : A) → In a xs → In b xs → r a b ≡ q a b) → distinct r xs ≡ distinct q xs
unfolding distinct
distinct_agree r q [] h = refl
distinct_agree r q (x ∷ xs) h =
    rw (distinct_agree r q xs (λ a b k l. h a b (inr k) (inr l)), any_agree (r x) (q x) (distinct q xs) (λ a k. h x a (inl refl) (inr (distinct_in q xs a k))))

-- one of each class

module _ (c : ℕ → ℕ) where
  abbrev alike : ℕ → ℕ → Bool
  alike a b = eqb (c a) (c b)

  -- none is missed
  distinct_any : (x : ℕ) (xs : List ℕ) → any (alike x) (distinct alike xs) ≡ any (alike x) xs
  unfolding any distinct
  distinct_any x [] = refl
  distinct_any x (y ∷ ys) = go (any (alike y) (distinct alike ys)) refl (alike x y) refl (distinct_any x ys)
    where
      go : (b : Bool) → any (alike y) (distinct alike ys) ≡ b → (s : Bool) → alike x y ≡ s → any (alike x) (distinct alike ys) ≡ any (alike x) ys → any (alike x) (if b then distinct alike ys else y ∷ distinct alike ys) ≡ (s || any (alike x) ys)
      go false p s q rest = rw (q, rest)
      go true p false q rest = rest
      go true p true q rest = ap (λ (v : ℕ). any (λ b. eqb v (c b)) (distinct alike ys)) (eqb-true (c x) (c y) q) ∙ p

  -- how many there are
  pub count_distinct : (n : ℕ) (xs : List ℕ) → ((x : ℕ) → In x xs → c x < n) → length (distinct alike xs) ≡ sum (λ k. bit (any (λ j. eqb k (c j)) xs)) n
  unfolding any distinct
  count_distinct n [] h = sym (sum_none (λ k. 0) n (λ k l. refl))
  count_distinct n (y ∷ ys) h = go (any (alike y) (distinct alike ys)) (distinct_any y ys) (count_distinct n ys (λ x k. h x (inr k)))
    where
      old : (k : ℕ) → any (alike y) ys ≡ true → bit (any (λ j. eqb k (c j)) ys) ≡ bit (eqb k (c y) || any (λ j. eqb k (c j)) ys)
      old k e = go (eqb k (c y)) refl
        where
          go : (b : Bool) → eqb k (c y) ≡ b → bit (any (λ j. eqb k (c j)) ys) ≡ bit (b || any (λ j. eqb k (c j)) ys)
          go true q = ap (λ (v : ℕ). bit (any (λ j. eqb v (c j)) ys)) (eqb-true k (c y) q) ∙ ap bit e
          go false q = refl

      new : (k : ℕ) → any (alike y) ys ≡ false → bit (eqb k (c y)) + bit (any (λ j. eqb k (c j)) ys) ≡ bit (eqb k (c y) || any (λ j. eqb k (c j)) ys)
      new k e = go (eqb k (c y)) refl
        where
          go : (b : Bool) → eqb k (c y) ≡ b → bit b + bit (any (λ j. eqb k (c j)) ys) ≡ bit (b || any (λ j. eqb k (c j)) ys)
          go true q = let z = ap (λ (v : ℕ). bit (any (λ j. eqb v (c j)) ys)) (eqb-true k (c y) q) ∙ ap bit e in omega arith
          go false q = omega arith

      one : sum (λ k. bit (eqb k (c y))) n ≡ 1
      one = sum_one (λ k. bit (eqb k (c y))) n (c y) (h y (inl refl)) (λ k l d. ap bit (ne_eqb k (c y) d)) ∙ ap bit (eq-eqb (c y) (c y) refl)

      go : (b : Bool) → b ≡ any (alike y) ys → length (distinct alike ys) ≡ sum (λ k. bit (any (λ j. eqb k (c j)) ys)) n → length (if b then distinct alike ys else y ∷ distinct alike ys) ≡ sum (λ k. bit (eqb k (c y) || any (λ j. eqb k (c j)) ys)) n
      go true p rest = rest ∙ sum_same (λ k. bit (any (λ j. eqb k (c j)) ys)) (λ k. bit (eqb k (c y) || any (λ j. eqb k (c j)) ys)) n (λ k l. old k (sym p))
      go false p rest =
          let a = sum-add (λ k. bit (eqb k (c y))) (λ k. bit (any (λ j. eqb k (c j)) ys)) n in
          let s = sum_same (λ k. bit (eqb k (c y)) + bit (any (λ j. eqb k (c j)) ys)) (λ k. bit (eqb k (c y) || any (λ j. eqb k (c j)) ys)) n (λ k l. new k (sym p)) in
          let o = one in
          omega arith

-- marks

marks_sum : (seen : List ℕ) (n : ℕ) → marks seen n ≡ sum (λ k. bit (eqb (at seen k) 1)) n
unfolding marks
marks_sum seen zero = sym (sum_start (λ k. bit (eqb (at seen k) 1)))
marks_sum seen (suc n) = rw (marks_sum seen n) (sym (sum_more (λ k. bit (eqb (at seen k) 1)) n))

-- they are counted among the first n
pub marks_counted : (seen : List ℕ) (n : ℕ) → n ≤ length seen → count_by (λ x. eqb x 1) (take n seen) ≡ marks seen n
unfolding marks
marks_counted seen zero h = refl
marks_counted seen (suc n) h =
    let e = rw add-one at (sum_by_more (λ x. cond (eqb x 1) 1 0) seen n 0 (omega arith)) in
    e ∙ ap (λ (k : ℕ). k + cond (eqb (at seen n) 1) 1 0) (marks_counted seen n (omega arith)) ∙ ap (λ (k : ℕ). marks seen n + k) (go (eqb (at seen n) 1))
  where
    go : (b : Bool) → cond b 1 0 ≡ bit b
    go true = refl
    go false = refl

pub no_marks : (n k : ℕ) → at (replicate n 0) k ≡ 0
no_marks zero k = refl
no_marks (suc n) zero = refl
no_marks (suc n) (suc k) = no_marks n k

module _ (counts class seen : List ℕ) where
  pub marked_start : ((k : ℕ) → at seen k ≡ 0) → Marked counts class seen 0
  marked_start h = record { told = λ k. h k ∙ ap bit (sym (any_start (class_at counts class k))) }

  module _ (i : ℕ) (f : Marked counts class seen i) where
    -- a node that has no path count
    pub marked_skip : at counts i ≡ 0 → Marked counts class seen (i + 1)
    marked_skip e = record { told = λ k. f.told k ∙ rw (add-one, any-more (class_at counts class k) i, le-ltb 0 (at counts i) (omega arith)) (ap bit (sym (or-none (any (class_at counts class k) (up_to i))))) }
      where
        or-none : (b : Bool) → (b || false) ≡ b
        or-none true = refl
        or-none false = refl

    -- the class of one that has
    pub marked_set : at counts i ≢ 0 → at class i < length seen → Marked counts class (set seen (at class i) 1) (i + 1)
    marked_set n l = record { told = λ k. rw (add-one, any-more (class_at counts class k) i, lt-ltb 0 (at counts i) (omega arith)) (⊎_elim (here k) (other k) (same_or k (at class i))) }
      where
        or_both : (b s : Bool) → s ≡ true → bit (b || s) ≡ 1
        or_both b s e = ap bit (or_right b s e)

        or_first : (b s : Bool) → s ≡ false → bit b ≡ bit (b || s)
        or_first true s e = refl
        or_first false s e = ap bit (sym e)

        here : (k : ℕ) → k ≡ at class i → at (set seen (at class i) 1) k ≡ bit (any (class_at counts class k) (up_to i) || eqb k (at class i))
        here k e = ap (at (set seen (at class i) 1)) e ∙ get_or-set_same seen (at class i) 1 0 l ∙ sym (or_both (any (class_at counts class k) (up_to i)) (eqb k (at class i)) (eq-eqb k (at class i) e))

        other : (k : ℕ) → k ≢ at class i → at (set seen (at class i) 1) k ≡ bit (any (class_at counts class k) (up_to i) || eqb k (at class i))
        other k d = get_or-set_other seen (at class i) k 1 0 d ∙ f.told k ∙ or_first (any (class_at counts class k) (up_to i)) (eqb k (at class i)) (ne_eqb k (at class i) d)

-- a class is below the used count
pub class_below : (m class : List ℕ) → Sorting m class → (i : ℕ) → i < used m → at class i < used m
class_below m class s i l = rw (s.least i l) (class_least m i l).below

-- as many marks as visible nodes
module _ (m roots counts class seen : List ℕ) (valid : not_circuit m ≡ false) (ids : bad_id m roots ≡ false) (counted : PathCounts m roots counts) (sorted : Sorting m class) (marked : Marked counts class seen (used m)) where
  same_class : (i j : ℕ) → i < used m → j < used m → same (tree m i) (tree m j) ≡ eqb (class_of m i) (class_of m j)
  same_class i j a b =
      let w = class_law m i j a b in
      same_test (same (tree m i) (tree m j)) (eqb (class_of m i) (class_of m j)) (λ e. eq-eqb (class_of m i) (class_of m j) (w.back e)) (λ e. w.there (eqb-true (class_of m i) (class_of m j) e))

  in_below : (x : ℕ) → In x (walks m roots) → x < used m
  in_below = walks_below m valid roots ids

  mark_told : (k : ℕ) → bit (eqb (at seen k) 1) ≡ bit (any (λ j. eqb k (class_of m j)) (walks m roots))
  mark_told k =
      rw (marked.told k) (go (any (class_at counts class k) (up_to (used m))))
      ∙ ap bit (any_below m roots counts valid ids counted (λ j. eqb k (at class j)) (λ j. eqb k (class_of m j)) (λ j l. ap (eqb k) (sorted.least j l)))
    where
      go : (b : Bool) → bit (eqb (bit b) 1) ≡ bit b
      go true = refl
      go false = refl

  pub visible_told : marks seen (used m) ≡ visible m roots
  unfolding visible
  visible_told =
      marks_sum seen (used m)
      ∙ sum_same (λ k. bit (eqb (at seen k) 1)) (λ k. bit (any (λ j. eqb k (class_of m j)) (walks m roots))) (used m) (λ k l. mark_told k)
      ∙ sym (count_distinct (class_of m) (used m) (walks m roots) (λ x h. (class_least m x (in_below x h)).below))
      ∙ ap length (sym (distinct_agree (λ a b. same (tree m a) (tree m b)) (λ a b. eqb (class_of m a) (class_of m b)) (walks m roots) (λ a b h k. same_class a b (in_below a h) (in_below b k))))
      ∙ sym (length-map (distinct (λ a b. same (tree m a) (tree m b)) (walks m roots)) (tree m))
      ∙ ap length (sym (distinct_map same (tree m) (walks m roots)))

-- The distinct reference counts below a node, gathered over the ids that a path leads to. Assumes nothing.
use Rattle.std.specs.Prelude.{if◌then◌else◌}
use Prim.Native.Nat.{ℕ, zero, suc, ◌+◌, ◌<◌, ◌≤◌}
use mathlib.Core.Path.{◌≡◌, refl, sym, ap, ◌∙◌}
use mathlib.Core.Logic.{◌⊎◌, inl, inr, ⊎_elim}
use mathlib.Core.Bool.{false}
use mathlib.Core.List.{List, [], ◌∷◌, ◌++◌, map, foldr}
use native.Mathlib.Omega.{arith}
use native.Mathlib.Numerals.{add-one}
use lib.Dec.{ltb}
use lib.ListN.{length, take}
use borrow.Author.Tests.{lt-ltb, le-ltb, ltb-true}
use Rattle.layout.specs.Lists.{up_to, In, each, insert}
use Rattle.layout.specs.Words.{used, node_at}
use Rattle.layout.specs.NotCircuit.{not_circuit, bad_id}
use Rattle.layout.specs.Tree.{tree}
use Rattle.circuit.specs.Rank.{at}
use Rattle.layout.proofs.Tests.{below_or}
use Rattle.walking.specs.Paths.{walk, walks, paths, counts_under}
use Rattle.paths.specs.Counting.{PathCounts}
use Rattle.paths.specs.Rising.{Words, gathered}
use Rattle.paths.proofs.Counts.{counts-test}
use Rattle.paths.proofs.Below.{walks_one, paths_in, in_paths, walks_below}
use Rattle.paths.proofs.Inserts.{Rising, insert_self, insert_keeps, insert_only, insert_rising, insert_length, rising_one}

-- one number more
each_last : {A : Type 0} (f : A → ℕ → A) (a : A) (xs : List ℕ) (y : ℕ) → each f a (xs ++ (y ∷ [])) ≡ f (each f a xs) y
unfolding each
each_last f a [] y = refl
each_last f a (x ∷ xs) y = each_last f (f a x) xs y

pub each_none : {A : Type 0} (f : A → ℕ → A) (a : A) → each f a (up_to 0) ≡ a
unfolding each up_to
each_none f a = refl

pub each_more : {A : Type 0} (f : A → ℕ → A) (a : A) (n : ℕ) → each f a (up_to (suc n)) ≡ f (each f a (up_to n)) n
unfolding up_to
each_more f a n = each_last f a (up_to n) n

-- steps that agree below n
pub each_same : {A : Type 0} (f g : A → ℕ → A) (a : A) (n : ℕ) → ((x : A) (i : ℕ) → i < n → f x i ≡ g x i) → each f a (up_to n) ≡ each g a (up_to n)
each_same f g a zero h = each_none f a ∙ sym (each_none g a)
each_same f g a (suc n) h =
    each_more f a n ∙ ap (λ (x : _). f x n) (each_same f g a n (λ x i l. h x i (omega arith))) ∙ h _ n (omega arith) ∙ sym (each_more g a n)

module _ (m counts : List ℕ) where
  -- a node's reference count
  abbrev pub references : ℕ → ℕ
  references j = (node_at m j).references

  abbrev next : List ℕ → ℕ → List ℕ
  next xs j = if ltb 0 (at counts j) then insert (references j) xs else xs

  pub gathered_none : gathered m counts 0 ≡ []
  unfolding gathered
  gathered_none = each_none next []

  gathered_step : (n : ℕ) → gathered m counts (suc n) ≡ next (gathered m counts n) n
  unfolding gathered
  gathered_step n = each_more next [] n

  pub gathered_skips : (n : ℕ) → at counts n ≤ 0 → gathered m counts (n + 1) ≡ gathered m counts n
  gathered_skips n h = ap (gathered m counts) (add-one n) ∙ gathered_step n ∙ rw (le-ltb 0 (at counts n) h)

  pub gathered_takes : (n : ℕ) → 0 < at counts n → gathered m counts (n + 1) ≡ insert (references n) (gathered m counts n)
  gathered_takes n h = ap (gathered m counts) (add-one n) ∙ gathered_step n ∙ rw (lt-ltb 0 (at counts n) h)

  -- one of two lists
  step_either : (P : List ℕ → Type 0) (n : ℕ) → (0 < at counts n → P (insert (references n) (gathered m counts n))) → (at counts n ≤ 0 → P (gathered m counts n)) → P (gathered m counts (suc n))
  step_either P n f g =
      ⊎_elim
      (λ l. rw (gathered_step n, lt-ltb 0 (at counts n) l) (f l))
      (λ l. rw (gathered_step n, le-ltb 0 (at counts n) l) (g l))
      (below_or 0 (at counts n))

  gathered_length : (n : ℕ) → length (gathered m counts n) ≤ n
  gathered_length zero = rw gathered_none (omega arith)
  gathered_length (suc n) =
      let h = gathered_length n in
      step_either (λ xs. length xs ≤ suc n) n (λ l. let k = insert_length (references n) (gathered m counts n) in omega arith) (λ l. omega arith)

  gathered_rising : (n : ℕ) → Rising (gathered m counts n)
  gathered_rising zero = rw gathered_none tt
  gathered_rising (suc n) = let h = gathered_rising n in step_either Rising n (λ l. insert_rising (references n) (gathered m counts n) h) (λ l. h)

  gathered_has : (n j : ℕ) → j < n → 0 < at counts j → In (references j) (gathered m counts n)
  gathered_has zero j l h = absurd (omega arith)
  gathered_has (suc n) j l h =
      ⊎_elim
      (λ lt.
      let k = gathered_has n j lt h in
      step_either (λ xs. In (references j) xs) n (λ _. insert_keeps (references n) (gathered m counts n) (references j) k) (λ _. k))
      (λ ge.
      let e : j ≡ n = omega arith in
      step_either (λ xs. In (references j) xs) n (λ _. rw e (insert_self (references n) (gathered m counts n))) (λ z. let z' : at counts j ≤ 0 = rw e z in absurd (omega arith)))
      (below_or j n)

  -- a node with this reference count
  pub record Source (P : ℕ → Type 0) (v : ℕ) : Type 0 where
    pub id : ℕ
    pub holds : P id
    pub says : references id ≡ v

  gathered_only : (n v : ℕ) → In v (gathered m counts n) → Source (λ j. (j < n) × (0 < at counts j)) v
  gathered_only zero v h = absurd (rw gathered_none at h)
  gathered_only (suc n) v h = go (gathered_only n v) (below_or 0 (at counts n))
    where
      more : Source (λ j. (j < n) × (0 < at counts j)) v → Source (λ j. (j < suc n) × (0 < at counts j)) v
      more s = let l = s.holds.0 in record { id = s.id; holds = (omega arith, s.holds.1); says = s.says }

      go : (In v (gathered m counts n) → Source (λ j. (j < n) × (0 < at counts j)) v) → (0 < at counts n) ⊎ (at counts n ≤ 0) → Source (λ j. (j < suc n) × (0 < at counts j)) v
      go rest (inl l) =
          let k : In v (insert (references n) (gathered m counts n)) = rw (gathered_step n, lt-ltb 0 (at counts n) l) at h in
          ⊎_elim (λ e. record { id = n; holds = (omega arith, l); says = sym e }) (λ i. more (rest i)) (insert_only (references n) (gathered m counts n) v k)
      go rest (inr l) = let k : In v (gathered m counts n) = rw (gathered_step n, le-ltb 0 (at counts n) l) at h in more (rest k)

  -- the definition's list: inserted along the walk

  abbrev along : List ℕ → List ℕ
  along xs = foldr insert [] (map references xs)

  along_rising : (xs : List ℕ) → Rising (along xs)
  along_rising [] = tt
  along_rising (x ∷ xs) = insert_rising (references x) (along xs) (along_rising xs)

  along_has : (xs : List ℕ) (j : ℕ) → In j xs → In (references j) (along xs)
  along_has [] j h = absurd h
  along_has (x ∷ xs) j (inl e) = rw e (insert_self (references x) (along xs))
  along_has (x ∷ xs) j (inr h) = insert_keeps (references x) (along xs) (references j) (along_has xs j h)

  along_only : (xs : List ℕ) (v : ℕ) → In v (along xs) → Source (λ j. In j xs) v
  along_only [] v h = absurd h
  along_only (x ∷ xs) v h =
      ⊎_elim
      (λ e. record { id = x; holds = inl refl; says = sym e })
      (λ i. let s = along_only xs v i in record { id = s.id; holds = inr s.holds; says = s.says })
      (insert_only (references x) (along xs) v h)

  -- both are the reference counts below i
  pub gathered_all : (i : ℕ) → not_circuit m ≡ false → bad_id m (i ∷ []) ≡ false → PathCounts m (i ∷ []) counts → gathered m counts (used m) ≡ counts_under m i
  unfolding counts_under
  gathered_all i valid ids c =
      rising_one (gathered m counts (used m)) (along (walk (tree m i))) (gathered_rising (used m)) (along_rising (walk (tree m i)))
      (λ v h.
      let s = gathered_only (used m) v h in
      let (l, p) = s.holds in
      rw (← s.says) (along_has (walk (tree m i)) s.id (rw (walks_one m i) at (paths_in m (i ∷ []) s.id (positive s.id l p)))))
      (λ v h.
      let s = along_only (walk (tree m i)) v h in
      let w : In s.id (walks m (i ∷ [])) = rw (walks_one m i) s.holds in
      let l = walks_below m valid (i ∷ []) ids s.id w in
      rw (← s.says) (gathered_has (used m) s.id l (counted s.id l (in_paths m (i ∷ []) s.id w))))
    where
      positive : (j : ℕ) → j < used m → 0 < at counts j → 0 < paths m (i ∷ []) j
      positive j l h = ltb-true 0 (paths m (i ∷ []) j) (sym (counts-test m (i ∷ []) counts c j l 0 (omega arith)) ∙ lt-ltb 0 (at counts j) h)

      counted : (j : ℕ) → j < used m → 0 < paths m (i ∷ []) j → 0 < at counts j
      counted j l h = ltb-true 0 (at counts j) (counts-test m (i ∷ []) counts c j l 0 (omega arith) ∙ lt-ltb 0 (paths m (i ∷ []) j) h)

-- at most one for each id
pub gathered_few : (m counts words : List ℕ) (found n : ℕ) → Words words (gathered m counts n) found → found ≤ n
gathered_few m counts words found n w = let l = gathered_length m counts n in let e = w.long in omega arith

-- the loop over the ids
pub record Gathered (m counts words words' : List ℕ) (found j : ℕ) : Type 0 where
  pub holds : Words words' (gathered m counts j) found
  pub long : length words' ≡ length words

pub gathered_start : (m counts words : List ℕ) → Gathered m counts words words 0 0
gathered_start m counts words = let e = gathered_none m counts in record { holds = record { first = sym e; long = ap length e }; long = refl }

module _ (m counts words words' : List ℕ) (found j : ℕ) (g : Gathered m counts words words' found j) where
  pub gathered_next : (after : List ℕ) (answer v : ℕ) → 0 < at counts j → v ≡ references m counts j → length after ≡ length words' → Words after (insert v (take found words')) answer → Gathered m counts words after answer (j + 1)
  gathered_next after answer v h e l w =
      let t = ap (insert v) g.holds.first ∙ ap (λ (x : ℕ). insert x (gathered m counts j)) e ∙ sym (gathered_takes m counts j h) in
      record { holds = record { first = w.first ∙ t; long = sym (ap length t) ∙ w.long }; long = l ∙ g.long }

  pub gathered_same : at counts j ≤ 0 → Gathered m counts words words' found (j + 1)
  gathered_same h = let e = gathered_skips m counts j h in record { holds = rw e g.holds; long = g.long }

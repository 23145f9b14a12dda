-- The laws of the tables in which the recursions remember answers: one node asked for, and its operands. Assumes nothing.
use Rattle.std.specs.Prelude.{if◌then◌else◌, None, Some, Option, unwrap_or}
use Prim.Native.Nat.{ℕ, ◌+◌, ◌<◌, ◌≤◌}
use mathlib.Core.Path.{◌≡◌, refl, sym, ap, ◌∙◌}
use mathlib.Core.Logic.{◌≢◌, ⊎_elim}
use mathlib.Core.Bool.{Bool, true, false}
use mathlib.Core.List.{List}
use native.Mathlib.Omega.{arith}
use lib.Dec.{eqb}
use borrow.Author.Tests.{eq-eqb}
use borrow.Author.Count.{below_more}
use lib.ListN.{length, set}
use lib.Seq.{get_or-set_same, get_or-set_other}
use Rattle.layout.specs.declared.node.Op.{Op}
use Rattle.layout.specs.declared.node.Expression.{Expression}
use Rattle.layout.specs.declared.node.Expression.TheVariants.{Base, Extension, Challenge, Operation, Input}
use Rattle.layout.specs.Words.{used, offset, expression_at}
use Rattle.layout.specs.Tree.{Leaf, base_leaf, extension_leaf, challenge_leaf, input_leaf, Tree, leaf, branch, tree_over, tree}
use Rattle.layout.specs.NotCircuit.{not_circuit}
use Rattle.circuit.specs.Rank.{at, Sorted}
use Rattle.layout.proofs.Tests.{same_or}
use Rattle.layout.proofs.Valid.{valid_fits, valid_operands}
use Rattle.layout.proofs.Trees.{tree_fixed}
use Rattle.read.specs.Tables.{unknown, operands_of, step_at, Ranked, leaf_entry, Filled, Right, Told, Asked, itself}

-- a reading is worked out from its two operands' own answers
pub record Folds {A : Type 0} (reading : Tree → A) (own : Leaf → A) (join : Op → A → A → A) : Type 0 where
  pub at_leaf : (i : ℕ) (a : Leaf) → reading (leaf i a) ≡ own a
  pub at_branch : (i : ℕ) (o : Op) (l r : Tree) → reading (branch i o l r) ≡ join o (reading l) (reading r)

-- a step to the operands is one of an operation
operands_operation : (e : Expression) (o : Op) (l r : ℕ) → operands_of e ≡ Some (o, l, r) → e ≡ Operation o l r
operands_operation (Base w) o l r h = let z : ◌≡◌ {A = ℕ} 0 1 = cc in absurd (omega arith)
operands_operation (Extension x) o l r h = let z : ◌≡◌ {A = ℕ} 0 1 = cc in absurd (omega arith)
operands_operation (Challenge k) o l r h = let z : ◌≡◌ {A = ℕ} 0 1 = cc in absurd (omega arith)
operands_operation (Operation q a b) o l r h =
    let none : Op × ℕ × ℕ = (q, a, b) in
    ap (λ (s : Option (Op × ℕ × ℕ)). let t = unwrap_or s none in Operation t.0 t.1 t.2) h
operands_operation (Input q) o l r h = let z : ◌≡◌ {A = ℕ} 0 1 = cc in absurd (omega arith)

pub two_operation : (m : List ℕ) (i w : ℕ) (o : Op) (l r : ℕ) → step_at m i w ≡ Some (o, l, r) → expression_at m i ≡ Operation o l r
unfolding step_at
two_operation m i w o l r h = go (eqb w unknown) h
  where
    go : (b : Bool) → (if b then operands_of (expression_at m i) else None) ≡ Some (o, l, r) → expression_at m i ≡ Operation o l r
    go true e = operands_operation (expression_at m i) o l r e
    go false e = let z : ◌≡◌ {A = ℕ} 0 1 = cc in absurd (omega arith)

pub unknown_step : (m : List ℕ) (i w : ℕ) → w ≡ unknown → step_at m i w ≡ operands_of (expression_at m i)
unfolding step_at
unknown_step m i w h = rw (eq-eqb w unknown h)

-- the tables that a recursion asks for its operands in
module _ {k : ℕ} {m rank table : List ℕ} {i : ℕ} (q : Asked k m rank table i) where
  pub asked_fits : offset i + 6 ≤ length m
  asked_fits = valid_fits m q.ranked.valid i q.here

  module _ (w : ℕ) {o : Op} {l r : ℕ} (s : step_at m i w ≡ Some (o, l, r)) (table' : List ℕ) (same : length table' ≡ length table) where
    below : (l < used m) × (r < used m)
    below = valid_operands m q.ranked.valid i q.here o l r (two_operation m i w o l r s)

    pub ask_left : (at rank l < at rank i) × Asked k m rank table' l
    ask_left = (q.ranked.left_first i o l r q.here (two_operation m i w o l r s), record { ranked = q.ranked; room = rw same q.room; here = below.0 })

    pub ask_right : (at rank r < at rank i) × Asked k m rank table' r
    ask_right = (q.ranked.right_first i o l r q.here (two_operation m i w o l r s), record { ranked = q.ranked; room = rw same q.room; here = below.1 })

module _ {A : Type 0} (word : A → ℕ) (m : List ℕ) where
  -- an entry that is known
  pub told_known : (entry answer : ℕ → A) (i : ℕ) (x : A) → i < used m → x ≡ entry i → step_at m i (word x) ≡ None → Right word m entry answer → Told word m entry entry answer i (entry i)
  told_known entry answer i x h p s q =
      let e = q.told i h (ap (λ (y : A). step_at m i (word y)) (sym p) ∙ s) in
      record { answered = e; here = e; stays = λ j k. k; right = q }

  -- an entry that becomes known, after both operands
  module _ (entry₀ entry₁ entry₂ entry₃ answer : ℕ → A) (i l r : ℕ) (a₀ b₀ a b x : A) (left : Right word m entry₀ answer → Told word m entry₀ entry₁ answer l a₀) (right : Right word m entry₁ answer → Told word m entry₁ entry₂ answer r b₀) (is : Told word m entry₀ entry₁ answer l a₀ → Told word m entry₁ entry₂ answer r b₀ → (a ≡ answer l) × (b ≡ answer r)) (same : entry₃ i ≡ x) (other : (j : ℕ) → j ≢ i → entry₃ j ≡ entry₂ j) (join : Op → A → A → A) (o : Op) (made : x ≡ join o a b) (how : answer i ≡ join o (answer l) (answer r)) where
    pub told_two : Right word m entry₀ answer → Told word m entry₀ entry₃ answer i x
    told_two q =
        let t = left q in
        let u = right t.right in
        let e = made ∙ ap (λ (y : A). join o y b) (is t u).0 ∙ ap (join o (answer l)) (is t u).1 ∙ sym how in
        record {
          answered = e;
          here = same ∙ e;
          stays = λ j h. ⊎_elim (λ p. rw p (same ∙ e)) (λ n. other j n ∙ u.stays j (t.stays j h)) (same_or j i);
          right = record { told = λ j h s. ⊎_elim (λ p. rw p (same ∙ e)) (λ n. other j n ∙ u.right.told j h (sym (ap (λ (y : A). step_at m j (word y)) (other j n)) ∙ s)) (same_or j i) };
        }

-- a reading's answers, each from those of the operands
abbrev pub Joined : {A : Type 0} → List ℕ → (Op → A → A → A) → (ℕ → A) → Type 0
Joined m join answer = (i : ℕ) → i < used m → (o : Op) (l r : ℕ) → expression_at m i ≡ Operation o l r → answer i ≡ join o (answer l) (answer r)

-- in a table of words, the entry that becomes known is stored
module _ (join : Op → ℕ → ℕ → ℕ) (answer : ℕ → ℕ) {m rank table₀ : List ℕ} (table₁ table₂ : List ℕ) {i : ℕ} (w : ℕ) {l r : ℕ} (a b x : ℕ) {o : Op} (law : Joined m join answer) (q : Asked 1 m rank table₀ i) (s : step_at m i w ≡ Some (o, l, r)) (same₁ : length table₁ ≡ length table₀) (same₂ : length table₂ ≡ length table₁) where
  pub told_word : (Right itself m (at table₀) answer → Told itself m (at table₀) (at table₁) answer l a) → (Right itself m (at table₁) answer → Told itself m (at table₁) (at table₂) answer r b) → x ≡ join o a b → Right itself m (at table₀) answer → Told itself m (at table₀) (at (set table₂ i x)) answer i x
  told_word left right made =
      let h = q.here in
      let f = q.room in
      told_two itself m (at table₀) (at table₁) (at table₂) (at (set table₂ i x)) answer i l r a b a b x left right (λ t u. (t.answered, u.answered)) (get_or-set_same table₂ i x 0 (omega arith)) (λ j n. get_or-set_other table₂ i j x 0 n) join o made (law i h o l r (two_operation m i w o l r s))

-- an operation's answer
module _ {A : Type 0} (reading : Tree → A) (own : Leaf → A) (join : Op → A → A → A) (f : Folds reading own join) (m : List ℕ) (valid : not_circuit m ≡ false) (i : ℕ) (here : i < used m) where
  pub answer_two : (o : Op) (l r : ℕ) → expression_at m i ≡ Operation o l r → reading (tree m i) ≡ join o (reading (tree m l)) (reading (tree m r))
  answer_two o l r e = ap reading (tree_fixed m valid i here ∙ ap (λ (x : Expression). tree_over i x (tree m)) e) ∙ f.at_branch i o (tree m l) (tree m r)

  -- what a table starts with: where no operands are to be asked, the answer
  pub answer_leaf : (none : A) → operands_of (expression_at m i) ≡ None → leaf_entry own none (expression_at m i) ≡ reading (tree m i)
  answer_leaf none h = rw (tree_fixed m valid i here) (go (expression_at m i) h)
    where
      go : (e : Expression) → operands_of e ≡ None → leaf_entry own none e ≡ reading (tree_over i e (tree m))
      go (Base w) h = sym (f.at_leaf i (base_leaf w))
      go (Extension x) h = sym (f.at_leaf i (extension_leaf x))
      go (Challenge k) h = sym (f.at_leaf i (challenge_leaf k))
      go (Operation o l r) h = let z : ◌≡◌ {A = ℕ} 0 1 = cc in absurd (omega arith)
      go (Input q) h = sym (f.at_leaf i (input_leaf q))

-- a table that holds the leaves' answers, and nothing for an operation, is right
module _ {A : Type 0} (word : A → ℕ) (reading : Tree → A) (own : Leaf → A) (join : Op → A → A → A) (f : Folds reading own join) (m : List ℕ) (valid : not_circuit m ≡ false) (none : A) (empty : word none ≡ unknown) where
  pub leaves_right : (entry : ℕ → A) → Filled (used m) entry (λ j. leaf_entry own none (expression_at m j)) → Right word m entry (λ j. reading (tree m j))
  leaves_right entry q = record { told = λ j h s. q.told j h ∙ answer_leaf reading own join f m valid j h none (stays j (q.told j h) s) }
    where
      stays : (j : ℕ) → entry j ≡ leaf_entry own none (expression_at m j) → step_at m j (word (entry j)) ≡ None → operands_of (expression_at m j) ≡ None
      stays j p s = go (expression_at m j) refl
        where
          go : (e : Expression) → expression_at m j ≡ e → operands_of (expression_at m j) ≡ None
          go (Base w) q = ap operands_of q
          go (Extension x) q = ap operands_of q
          go (Challenge k) q = ap operands_of q
          go (Operation o l r) q = sym (unknown_step m j (word (entry j)) (ap word (p ∙ ap (leaf_entry own none) q) ∙ empty)) ∙ s
          go (Input x) q = ap operands_of q

-- tables that are filled from the first entry on

pub record Filling {A : Type 0} (m table₀ table : List ℕ) (entry answer : ℕ → A) (i : ℕ) : Type 0 where
  pub within : i ≤ used m
  pub same : length table ≡ length table₀
  pub filled : Filled i entry answer

module _ {A : Type 0} (m table₀ table : List ℕ) (entry answer : ℕ → A) (i : ℕ) where
  pub filling_next : (table' : List ℕ) (entry' : ℕ → A) → Filling m table₀ table entry answer i → i < used m → length table' ≡ length table → entry' i ≡ answer i → ((j : ℕ) → j < i → entry j ≡ answer j → entry' j ≡ answer j) → Filling m table₀ table' entry' answer (i + 1)
  filling_next table' entry' f h same here others =
      record { within = omega arith; same = same ∙ f.same; filled = record { told = below_more (λ (j : ℕ). entry' j ≡ answer j) i (λ j l. others j l (f.filled.told j l)) here } }

-- what the recursions ask for, from what a check hands on

pub sorted_ranked : (m order rank : List ℕ) → not_circuit m ≡ false → Sorted m order rank → Ranked m rank
sorted_ranked m order rank v s = record { valid = v; left_first = s.left_first; right_first = s.right_first }

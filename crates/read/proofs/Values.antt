-- Values in a table of triples. Assumes nothing.
use Rattle.std.specs.Prelude.{Some}
use Prim.Native.Nat.{ℕ, ◌+◌, ◌-◌, ◌*◌, ◌/◌, ◌<◌}
use mathlib.Core.Path.{◌≡◌, refl, ◌∙◌}
use mathlib.Core.Logic.{◌≢◌}
use mathlib.Core.Bool.{false}
use mathlib.Core.List.{List}
use native.Mathlib.Omega.{arith}
use borrow.Author.Count.{below_more}
use lib.ListN.{length, get_or, set, take, drop, length-set, length-drop}
use lib.Seq.{take_all, get_or-set_same, get_or-set_other}
use Rattle.arithmetic.specs.declared.Triple.{Triple}
use Rattle.arithmetic.specs.Extension.{lift}
use Rattle.layout.specs.declared.node.Position.{Position}
use Rattle.layout.specs.declared.node.Position.TheVariants.{Main, Aux, NextMain, NextAux}
use Rattle.layout.specs.declared.node.Op.{Op}
use Rattle.layout.specs.Words.{used, apply}
use Rattle.layout.specs.NotCircuit.{not_circuit}
use Rattle.reading.specs.Readings.{Assignment, input_value, leaf_value, value}
use Rattle.reading.specs.Calls.{triple_at, next_row, assigned}
use Rattle.read.specs.Tables.{unknown, step_at, Filled, Right, Told, Asked}
use Rattle.read.specs.Values.{value_at, value_entry, value_start, first_word, put_triple}
use Rattle.read.proofs.Tables.{Folds, Joined, answer_two, leaves_right, told_two, two_operation}

value_folds : (s : Assignment) → Folds (value s) (leaf_value s) apply
unfolding value
value_folds s = record { at_leaf = λ i a. refl; at_branch = λ i o l r. refl }

module _ (s : Assignment) (m : List ℕ) (valid : not_circuit m ≡ false) where
  pub value_two : Joined m apply (value_at s m)
  unfolding value_at
  value_two i h o l r e = answer_two (value s) (leaf_value s) apply (value_folds s) m valid i h o l r e

  pub value_leaves : (entry : ℕ → Triple) → Filled (used m) entry (value_start s m) → Right first_word m entry (value_at s m)
  unfolding value_at value_entry
  value_leaves entry q = leaves_right first_word (value s) (leaf_value s) apply (value_folds s) m valid (lift unknown) refl entry q

-- an input's value is what the two tables say
pub input_tables : (main aux some other : List ℕ) (q : Position) → input_value (assigned main aux some) q ≡ input_value (assigned main aux other) q
unfolding assigned
input_tables main aux some other (Main c) = refl
input_tables main aux some other (Aux c) = refl
input_tables main aux some other (NextMain c) = refl
input_tables main aux some other (NextAux c) = refl

-- the part of a table that starts in the middle
pub second_half : (table : List ℕ) → take (length table - length table / 2) (drop (length table / 2) table) ≡ next_row table
unfolding next_row
second_half table = take_all (length table - length table / 2) (drop (length table / 2) table) (rw length-drop (omega arith))

-- a triple stored in its place

pub put_length : (table : List ℕ) (i : ℕ) (x : Triple) → length (put_triple table i x) ≡ length table
put_length table i x = simp length-set

module _ (table : List ℕ) (i : ℕ) (x : Triple) where
  -- the table after its first store, and after its second
  abbrev first : List ℕ
  first = set table (3 * i) x.c0

  abbrev second : List ℕ
  second = set first (3 * i + 1) x.c1

  pub put_here : 3 * i + 2 < length table → triple_at (put_triple table i x) i ≡ x
  unfolding triple_at
  put_here h =
      let e₀ : get_or (put_triple table i x) (3 * i) 0 ≡ x.c0 = get_or-set_other second (3 * i + 2) (3 * i) x.c2 0 (omega arith) ∙ get_or-set_other first (3 * i + 1) (3 * i) x.c1 0 (omega arith) ∙ get_or-set_same table (3 * i) x.c0 0 (omega arith) in
      let e₁ : get_or (put_triple table i x) (3 * i + 1) 0 ≡ x.c1 = get_or-set_other second (3 * i + 2) (3 * i + 1) x.c2 0 (omega arith) ∙ get_or-set_same first (3 * i + 1) x.c1 0 (simp length-set (omega arith)) in
      let e₂ : get_or (put_triple table i x) (3 * i + 2) 0 ≡ x.c2 = get_or-set_same second (3 * i + 2) x.c2 0 (simp length-set (omega arith)) in
      rw (e₀, e₁, e₂)

  -- a word of no entry but i
  outside : (w : ℕ) → w ≢ 3 * i → w ≢ 3 * i + 1 → w ≢ 3 * i + 2 → get_or (put_triple table i x) w 0 ≡ get_or table w 0
  outside w p q r = get_or-set_other second (3 * i + 2) w x.c2 0 r ∙ get_or-set_other first (3 * i + 1) w x.c1 0 q ∙ get_or-set_other table (3 * i) w x.c0 0 p

  pub put_other : (j : ℕ) → j ≢ i → triple_at (put_triple table i x) j ≡ triple_at table j
  unfolding triple_at
  put_other j n = rw (outside (3 * j) (omega arith) (omega arith) (omega arith), outside (3 * j + 1) (omega arith) (omega arith) (omega arith), outside (3 * j + 2) (omega arith) (omega arith) (omega arith))

-- a triple more
pub filling_triple : (table : List ℕ) (answer : ℕ → Triple) (i : ℕ) (x : Triple) → 3 * i + 2 < length table → Filled i (triple_at table) answer → x ≡ answer i → Filled (i + 1) (triple_at (put_triple table i x)) answer
filling_triple table answer i x h f e =
    record { told = below_more (λ (j : ℕ). triple_at (put_triple table i x) j ≡ answer j) i (λ j l. put_other table i x j (omega arith) ∙ f.told j l) (put_here table i x h ∙ e) }

-- the entry that becomes known is stored; the operands' values are read from theirs
module _ (s : Assignment) {m rank table₀ : List ℕ} (table₁ table₂ table₃ : List ℕ) {i : ℕ} (w : ℕ) {l r : ℕ} (a b x : Triple) {o : Op} (q : Asked 3 m rank table₀ i) (e : step_at m i w ≡ Some (o, l, r)) (same₁ : length table₁ ≡ length table₀) (same₂ : length table₂ ≡ length table₁) (read_left : a ≡ triple_at table₂ l) (read_right : b ≡ triple_at table₂ r) (put : table₃ ≡ put_triple table₂ i x) where
  pub told_triple : (Right first_word m (triple_at table₀) (value_at s m) → Told first_word m (triple_at table₀) (triple_at table₁) (value_at s m) l (triple_at table₁ l)) → (Right first_word m (triple_at table₁) (value_at s m) → Told first_word m (triple_at table₁) (triple_at table₂) (value_at s m) r (triple_at table₂ r)) → x ≡ apply o a b → Right first_word m (triple_at table₀) (value_at s m) → Told first_word m (triple_at table₀) (triple_at table₃) (value_at s m) i (triple_at table₃ i)
  told_triple left right made =
      let h = q.here in
      let f = q.room in
      let p = put_here table₂ i x (omega arith) in
      rw (put, p) (told_two first_word m (triple_at table₀) (triple_at table₁) (triple_at table₂) (triple_at (put_triple table₂ i x)) (value_at s m) i l r (triple_at table₁ l) (triple_at table₂ r) a b x left right (λ t u. (read_left ∙ u.stays l t.here, read_right ∙ u.here)) p (put_other table₂ i x) apply o made (value_two s m q.ranked.valid i h o l r (two_operation m i w o l r e)))

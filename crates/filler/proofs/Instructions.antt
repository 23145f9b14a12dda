-- Instructions and the plan's words. Assumes nothing.
use Rattle.std.specs.Prelude.{if◌then◌else◌}
use Prim.Native.Nat.{ℕ, zero, suc, ◌+◌, ◌-◌, ◌*◌, ◌<◌, ◌≤◌}
use mathlib.Core.Path.{◌≡◌, refl, sym, ap, ◌∙◌}
use mathlib.Core.Bool.{Bool, true, false}
use mathlib.Core.List.{List}
use native.Mathlib.Omega.{arith}
use lib.Dec.{ltb}
use lib.ListN.{length, set, length-set}
use lib.Seq.{get_or-set_same, get_or-set_other}
use borrow.Author.Tests.{ltb-false}
use Rattle.arithmetic.specs.declared.Triple.{Triple}
use Rattle.layout.specs.declared.node.Op.{Op}
use Rattle.layout.specs.declared.node.Op.TheVariants.{Add, Multiply}
use Rattle.layout.specs.declared.node.Position.{Position}
use Rattle.layout.specs.declared.node.Position.TheVariants.{Main, Aux, NextMain, NextAux}
use Rattle.layout.specs.declared.node.Expression.{Expression}
use Rattle.layout.specs.declared.node.Expression.TheVariants.{Base, Extension, Challenge, Operation, Input}
use Rattle.layout.specs.Words.{used, expression_at, column, is_main}
use Rattle.layout.specs.NotCircuit.{not_circuit, bad_index, bad_row, bad_expression}
use Rattle.layout.proofs.Tests.{neither}
use Rattle.layout.proofs.Valid.{valid_operands}
use Rattle.filling.proofs.Values.{fair}
use Rattle.circuit.specs.Rank.{at}
use Rattle.filler.specs.declared.run.Instruction.{Instruction}
use Rattle.filler.specs.declared.plan.Shape.{Shape}
use Rattle.filler.specs.declared.plan.Source.{Source}
use Rattle.filler.specs.declared.plan.Source.TheVariants.{Fixed, Word, Wide, Item, Join}
use Rattle.filler.specs.Running.{Values, instruction_at, stepped, ran}
use Rattle.filler.specs.Planning.{source_of, op_of, put_four}

pub op_small : (o : Op) → (1 ≤ op_of o) × (op_of o ≤ 2)
op_small Add = (omega arith, omega arith)
op_small Multiply = (omega arith, omega arith)

-- a column of the circuit is in bounds
pub column_small : (m : List ℕ) → not_circuit m ≡ false → (i : ℕ) → i < used m → (e : Expression) → e ≡ expression_at m i → (q : Position) → e ≡ Input q → column q ≤ 65535
unfolding bad_expression
column_small m v i h e p q f = ltb-false 65535 (column q) (neither (bad_index (column q)) (bad_row m q) (fair m v i h (Input q) (sym p ∙ f))).0

-- what was found of node i
pub source_known : (s : Shape) (m : List ℕ) (i : ℕ) (e : Expression) (x : Source) {y : Source} → e ≡ expression_at m i → x ≡ source_of s e → x ≡ y → source_of s (expression_at m i) ≡ y
source_known s m i e x p q r = ap (source_of s) (sym p) ∙ sym q ∙ r

-- which source is an operation's
input_joins : (s : Shape) (q : Position) (o : Op) (l r : ℕ) → source_of s (Input q) ≡ Join o l r → ⊥
input_joins s (Main c) o l r h = go (ltb c s.main) h
  where
    go : (b : Bool) → (if b then Word c else Item (c - s.main)) ≡ Join o l r → ⊥
    go true e = let z : ◌≡◌ {A = ℕ} 0 1 = cc in omega arith
    go false e = let z : ◌≡◌ {A = ℕ} 0 1 = cc in omega arith
input_joins s (Aux c) o l r h = go (ltb c s.aux) h
  where
    go : (b : Bool) → (if b then Wide c else Item (s.fresh + (c - s.aux))) ≡ Join o l r → ⊥
    go true e = let z : ◌≡◌ {A = ℕ} 0 1 = cc in omega arith
    go false e = let z : ◌≡◌ {A = ℕ} 0 1 = cc in omega arith
input_joins s (NextMain c) o l r h = let z : ◌≡◌ {A = ℕ} 0 1 = cc in omega arith
input_joins s (NextAux c) o l r h = let z : ◌≡◌ {A = ℕ} 0 1 = cc in omega arith

pub joins_operation : (s : Shape) (e : Expression) (o : Op) (l r : ℕ) → source_of s e ≡ Join o l r → e ≡ Operation o l r
joins_operation s (Base w) o l r h = let z : ◌≡◌ {A = ℕ} 0 1 = cc in absurd (omega arith)
joins_operation s (Extension x) o l r h = let z : ◌≡◌ {A = ℕ} 0 1 = cc in absurd (omega arith)
joins_operation s (Challenge k) o l r h = let z : ◌≡◌ {A = ℕ} 0 1 = cc in absurd (omega arith)
joins_operation s (Operation q a b) o l r h = cc
joins_operation s (Input q) o l r h = absurd (input_joins s q o l r h)

pub source_join : (m : List ℕ) → not_circuit m ≡ false → (i : ℕ) (s : Shape) → i < used m → {o : Op} {l r : ℕ} → source_of s (expression_at m i) ≡ Join o l r → (l < used m) × (r < used m)
source_join m v i s h {o} {l} {r} e = valid_operands m v i h o l r (joins_operation s (expression_at m i) o l r e)

-- what an input's source says of it
pub record CellOf (main : Bool) (e : Expression) : Type 0 where
  pub position : Position
  pub is : e ≡ Input position
  pub kind : is_main position ≡ main

pub word_input : (s : Shape) (e : Expression) (c : ℕ) → source_of s e ≡ Word c → CellOf true e
word_input s (Base w) c h = let z : ◌≡◌ {A = ℕ} 0 1 = cc in absurd (omega arith)
word_input s (Extension x) c h = let z : ◌≡◌ {A = ℕ} 0 1 = cc in absurd (omega arith)
word_input s (Challenge k) c h = let z : ◌≡◌ {A = ℕ} 0 1 = cc in absurd (omega arith)
word_input s (Operation o l r) c h = let z : ◌≡◌ {A = ℕ} 0 1 = cc in absurd (omega arith)
word_input s (Input (Main k)) c h = record { position = Main k; is = refl; kind = refl }
word_input s (Input (Aux k)) c h = absurd (go (ltb k s.aux) h)
  where
    go : (b : Bool) → (if b then Wide k else Item (s.fresh + (k - s.aux))) ≡ Word c → ⊥
    go true e = let z : ◌≡◌ {A = ℕ} 0 1 = cc in omega arith
    go false e = let z : ◌≡◌ {A = ℕ} 0 1 = cc in omega arith
word_input s (Input (NextMain k)) c h = record { position = NextMain k; is = refl; kind = refl }
word_input s (Input (NextAux k)) c h = let z : ◌≡◌ {A = ℕ} 0 1 = cc in absurd (omega arith)

pub wide_input : (s : Shape) (e : Expression) (c : ℕ) → source_of s e ≡ Wide c → CellOf false e
wide_input s (Base w) c h = let z : ◌≡◌ {A = ℕ} 0 1 = cc in absurd (omega arith)
wide_input s (Extension x) c h = let z : ◌≡◌ {A = ℕ} 0 1 = cc in absurd (omega arith)
wide_input s (Challenge k) c h = let z : ◌≡◌ {A = ℕ} 0 1 = cc in absurd (omega arith)
wide_input s (Operation o l r) c h = let z : ◌≡◌ {A = ℕ} 0 1 = cc in absurd (omega arith)
wide_input s (Input (Main k)) c h = absurd (go (ltb k s.main) h)
  where
    go : (b : Bool) → (if b then Word k else Item (k - s.main)) ≡ Wide c → ⊥
    go true e = let z : ◌≡◌ {A = ℕ} 0 1 = cc in omega arith
    go false e = let z : ◌≡◌ {A = ℕ} 0 1 = cc in omega arith
wide_input s (Input (Aux k)) c h = record { position = Aux k; is = refl; kind = refl }
wide_input s (Input (NextMain k)) c h = let z : ◌≡◌ {A = ℕ} 0 1 = cc in absurd (omega arith)
wide_input s (Input (NextAux k)) c h = record { position = NextAux k; is = refl; kind = refl }

-- an item's node is an input of the current row, at or beyond the old columns
pub data ItemOf (s : Shape) (k : ℕ) (e : Expression) : Type 0 where
  main_item : (c : ℕ) → e ≡ Input (Main c) → s.main ≤ c → k ≡ c - s.main → ItemOf s k e
  aux_item : (c : ℕ) → e ≡ Input (Aux c) → s.aux ≤ c → k ≡ s.fresh + (c - s.aux) → ItemOf s k e

pub item_input : (s : Shape) (e : Expression) (k : ℕ) → source_of s e ≡ Item k → ItemOf s k e
item_input s (Base w) k h = let z : ◌≡◌ {A = ℕ} 0 1 = cc in absurd (omega arith)
item_input s (Extension x) k h = let z : ◌≡◌ {A = ℕ} 0 1 = cc in absurd (omega arith)
item_input s (Challenge j) k h = let z : ◌≡◌ {A = ℕ} 0 1 = cc in absurd (omega arith)
item_input s (Operation o l r) k h = let z : ◌≡◌ {A = ℕ} 0 1 = cc in absurd (omega arith)
item_input s (Input (Main c)) k h = go (ltb c s.main) refl h
  where
    go : (b : Bool) → ltb c s.main ≡ b → (if b then Word c else Item (c - s.main)) ≡ Item k → ItemOf s k (Input (Main c))
    go true p e = let z : ◌≡◌ {A = ℕ} 0 1 = cc in absurd (omega arith)
    go false p e = main_item c refl (ltb-false c s.main p) cc
item_input s (Input (Aux c)) k h = go (ltb c s.aux) refl h
  where
    go : (b : Bool) → ltb c s.aux ≡ b → (if b then Wide c else Item (s.fresh + (c - s.aux))) ≡ Item k → ItemOf s k (Input (Aux c))
    go true p e = let z : ◌≡◌ {A = ℕ} 0 1 = cc in absurd (omega arith)
    go false p e = aux_item c refl (ltb-false c s.aux p) cc
item_input s (Input (NextMain c)) k h = let z : ◌≡◌ {A = ℕ} 0 1 = cc in absurd (omega arith)
item_input s (Input (NextAux c)) k h = let z : ◌≡◌ {A = ℕ} 0 1 = cc in absurd (omega arith)

-- a node that is the same in every row
pub data FixedOf (e : Expression) : Type 0 where
  base_fixed : (w : ℕ) → e ≡ Base w → FixedOf e
  extension_fixed : (x : Triple) → e ≡ Extension x → FixedOf e
  challenge_fixed : (k : ℕ) → e ≡ Challenge k → FixedOf e

pub fixed_leaf : (s : Shape) (e : Expression) → source_of s e ≡ Fixed → FixedOf e
fixed_leaf s (Base w) h = base_fixed w refl
fixed_leaf s (Extension x) h = extension_fixed x refl
fixed_leaf s (Challenge k) h = challenge_fixed k refl
fixed_leaf s (Operation o l r) h = let z : ◌≡◌ {A = ℕ} 0 1 = cc in absurd (omega arith)
fixed_leaf s (Input (Main c)) h = absurd (go (ltb c s.main) h)
  where
    go : (b : Bool) → (if b then Word c else Item (c - s.main)) ≡ Fixed → ⊥
    go true e = let z : ◌≡◌ {A = ℕ} 0 1 = cc in omega arith
    go false e = let z : ◌≡◌ {A = ℕ} 0 1 = cc in omega arith
fixed_leaf s (Input (Aux c)) h = absurd (go (ltb c s.aux) h)
  where
    go : (b : Bool) → (if b then Wide c else Item (s.fresh + (c - s.aux))) ≡ Fixed → ⊥
    go true e = let z : ◌≡◌ {A = ℕ} 0 1 = cc in omega arith
    go false e = let z : ◌≡◌ {A = ℕ} 0 1 = cc in omega arith
fixed_leaf s (Input (NextMain c)) h = let z : ◌≡◌ {A = ℕ} 0 1 = cc in absurd (omega arith)
fixed_leaf s (Input (NextAux c)) h = let z : ◌≡◌ {A = ℕ} 0 1 = cc in absurd (omega arith)

-- THE PLAN'S WORDS
module _ (plan : List ℕ) (q : ℕ) (x : Instruction) where
  put_before : (k : ℕ) → k < 4 * q → at (put_four plan q x) k ≡ at plan k
  put_before k h =
      let p₁ = set plan (4 * q) x.op in
      let p₂ = set p₁ (4 * q + 1) x.to in
      let p₃ = set p₂ (4 * q + 2) x.left in
      get_or-set_other p₃ (4 * q + 3) k x.right 0 (omega arith) ∙ get_or-set_other p₂ (4 * q + 2) k x.left 0 (omega arith) ∙ get_or-set_other p₁ (4 * q + 1) k x.to 0 (omega arith) ∙ get_or-set_other plan (4 * q) k x.op 0 (omega arith)

  -- the instructions before it stay
  pub instruction_other : (k : ℕ) → k < q → instruction_at (put_four plan q x) k ≡ instruction_at plan k
  unfolding instruction_at
  instruction_other k h = rw (put_before (4 * k) (omega arith), put_before (4 * k + 1) (omega arith), put_before (4 * k + 2) (omega arith), put_before (4 * k + 3) (omega arith))

  pub instruction_here : 4 * q + 3 < length plan → instruction_at (put_four plan q x) q ≡ x
  unfolding instruction_at
  instruction_here h =
      let p₁ = set plan (4 * q) x.op in
      let p₂ = set p₁ (4 * q + 1) x.to in
      let p₃ = set p₂ (4 * q + 2) x.left in
      let e₀ : at (put_four plan q x) (4 * q) ≡ x.op = get_or-set_other p₃ (4 * q + 3) (4 * q) x.right 0 (omega arith) ∙ get_or-set_other p₂ (4 * q + 2) (4 * q) x.left 0 (omega arith) ∙ get_or-set_other p₁ (4 * q + 1) (4 * q) x.to 0 (omega arith) ∙ get_or-set_same plan (4 * q) x.op 0 (omega arith) in
      let e₁ : at (put_four plan q x) (4 * q + 1) ≡ x.to = get_or-set_other p₃ (4 * q + 3) (4 * q + 1) x.right 0 (omega arith) ∙ get_or-set_other p₂ (4 * q + 2) (4 * q + 1) x.left 0 (omega arith) ∙ get_or-set_same p₁ (4 * q + 1) x.to 0 (simp length-set (omega arith)) in
      let e₂ : at (put_four plan q x) (4 * q + 2) ≡ x.left = get_or-set_other p₃ (4 * q + 3) (4 * q + 2) x.right 0 (omega arith) ∙ get_or-set_same p₂ (4 * q + 2) x.left 0 (simp length-set (omega arith)) in
      let e₃ : at (put_four plan q x) (4 * q + 3) ≡ x.right = get_or-set_same p₃ (4 * q + 3) x.right 0 (simp length-set (omega arith)) in
      λ i. record { op = e₀ i; to = e₁ i; left = e₂ i; right = e₃ i }

  pub put_length : length (put_four plan q x) ≡ length plan
  put_length = simp length-set

-- what the first instructions do is what they did
pub ran_same : (plan plan' main aux : List ℕ) (v : Values) (q : ℕ) → ((k : ℕ) → k < q → instruction_at plan' k ≡ instruction_at plan k) → ran plan' main aux q v ≡ ran plan main aux q v
unfolding ran
ran_same plan plan' main aux v zero h = refl
ran_same plan plan' main aux v (suc q) h =
    ap (λ (x : Instruction). stepped x main aux (ran plan' main aux q v)) (h q (omega arith)) ∙ ap (stepped (instruction_at plan q) main aux) (ran_same plan plan' main aux v q (λ k l. h k (omega arith)))

-- One node more in a plan: its value stands in its entry, and those that stood stand. Assumes nothing.
use Rattle.std.specs.Prelude.{if◌then◌else◌}
use Prim.Native.Nat.{ℕ, zero, suc, ◌+◌, ◌*◌, ◌<◌, ◌≤◌}
use mathlib.Core.Path.{◌≡◌, refl, sym, ap, ap₂, ◌∙◌, subst}
use mathlib.Core.Logic.{◌≢◌, ⊎_elim}
use mathlib.Core.Bool.{Bool, true, false, ◌&&◌}
use mathlib.Core.List.{List}
use native.Mathlib.Omega.{arith}
use lib.Dec.{eqb}
use lib.ListN.{length, set, length-set}
use lib.Seq.{get_or-set_same, get_or-set_other}
use borrow.Author.Tests.{eqb-true, eqb-false}
use Rattle.arithmetic.specs.declared.Triple.{Triple}
use Rattle.arithmetic.specs.Base.{add, multiply}
use Rattle.arithmetic.specs.Extension.{lift, plus, times}
use Rattle.arithmetic.proofs.Algebra.{lift_times, plus_comm, times_comm}
use Rattle.layout.specs.declared.node.Op.{Op}
use Rattle.layout.specs.declared.node.Op.TheVariants.{Add, Multiply}
use Rattle.layout.specs.declared.node.Position.{Position}
use Rattle.layout.specs.declared.node.Expression.{Expression}
use Rattle.layout.specs.declared.node.Expression.TheVariants.{Base, Extension, Challenge, Operation, Input}
use Rattle.layout.specs.Lists.{bit}
use Rattle.layout.specs.Words.{row_kind, used, expression_at, is_main, apply}
use Rattle.layout.specs.Tree.{Tree, tree_over, tree}
use Rattle.layout.proofs.Tests.{last_or}
use Rattle.layout.proofs.Lists.{clash}
use Rattle.layout.proofs.Trees.{tree_fixed}
use Rattle.layout.proofs.Valid.{valid_operands}
use Rattle.circuit.specs.Rank.{at}
use Rattle.paths.proofs.Counts.{valid_top}
use Rattle.reading.specs.Readings.{Assignment, is_base, input_value, value}
use Rattle.reading.specs.Calls.{triple_at}
use Rattle.read.specs.Bases.{base_bit}
use Rattle.read.proofs.Values.{put_here}
use Rattle.filling.proofs.Values.{base_lifted}
use Rattle.filler.specs.declared.run.Instruction.{Instruction}
use Rattle.filler.specs.declared.plan.Shape.{Shape}
use Rattle.filler.specs.declared.plan.Source.{Source}
use Rattle.filler.specs.declared.plan.Source.TheVariants.{Fixed, Word, Wide, Item, Join}
use Rattle.filler.specs.Running.{Values, instruction_at, word_of, triple_of, stepped, ran, Sound, Roomy}
use Rattle.filler.specs.Planning.{source_of, op_of, joined, stays, planned_of, planned, put_four, pushed, pushed_many, Stands, Ready, Says, Plannable, Planned, Deciding}
use Rattle.filler.proofs.Runs.{step_word, step_triple, stepped_lengths, step_other, ran_next}
use Rattle.filler.proofs.Instructions.{op_small, joins_operation, word_input, wide_input, ItemOf, main_item, aux_item, item_input, FixedOf, base_fixed, extension_fixed, challenge_fixed, fixed_leaf, instruction_other, instruction_here, ran_same}

module _ (s : Shape) (m challenges : List ℕ) where
  -- what writes no constant's entry leaves them all
  pub ready_step : (x : Instruction) (main aux : List ℕ) (v : Values) → (source_of s (expression_at m x.to) ≡ Fixed → ⊥) → Ready m challenges v → Ready m challenges (stepped x main aux v)
  ready_step x main aux v spares r =
      let (a, b) = stepped_lengths x main aux v in
      let other : (i : ℕ) → source_of s (expression_at m i) ≡ Fixed → i ≢ x.to = λ i f e. spares (ap (λ (j : ℕ). source_of s (expression_at m j)) (sym e) ∙ f) in
      record {
        rooms = record { words_room = rw a r.rooms.words_room; triples_room = rw b r.rooms.triples_room };
        base = λ i w h e. (step_other x main aux v i (other i (ap (source_of s) e))).0 ∙ r.base i w h e;
        extension = λ i y h e. (step_other x main aux v i (other i (ap (source_of s) e))).1 ∙ r.extension i y h e;
        challenge = λ i k h e. (step_other x main aux v i (other i (ap (source_of s) e))).1 ∙ r.challenge i k h e;
      }

  pub ready_ran : (plan main aux : List ℕ) (v : Values) (many : ℕ) → ((k : ℕ) → k < many → source_of s (expression_at m (instruction_at plan k).to) ≡ Fixed → ⊥) → Ready m challenges v → Ready m challenges (ran plan main aux many v)
  unfolding ran
  ready_ran plan main aux v zero spares r = r
  ready_ran plan main aux v (suc q) spares r = ready_step (instruction_at plan q) main aux (ran plan main aux q v) (spares q (omega arith)) (ready_ran plan main aux v q (λ k l. spares k (omega arith)) r)

-- what is done in a node's turn
abbrev pub turned : Instruction → List ℕ → List ℕ → Values → Values
turned x main aux w = if eqb x.op 9 then w else stepped x main aux w

module _ (a : Assignment) (m : List ℕ) where
  pub stands_word : (v : Values) (i y : ℕ) → is_base (tree m y) ≡ true → at v.0 i ≡ (value a (tree m y)).c0 → Stands a m v i y
  stands_word v i y b e = record { word = λ _. e; triple = λ c. clash (is_base (tree m y)) b c }

  pub stands_triple : (v : Values) (i y : ℕ) → is_base (tree m y) ≡ false → triple_at v.1 i ≡ value a (tree m y) → Stands a m v i y
  stands_triple v i y b e = record { word = λ c. clash (is_base (tree m y)) c b; triple = λ _. e }

-- entry i, after an instruction that writes it
module _ (x : Instruction) (main aux : List ℕ) (v : Values) (rooms : Roomy v.0 v.1) (low : x.to < 4096) where
  wrote_word : x.op < 3 → at (stepped x main aux v).0 x.to ≡ word_of x main v.0
  wrote_word h = rw (step_word x main aux v h) (get_or-set_same v.0 x.to _ 0 (let r = rooms.words_room in omega arith))

  wrote_triple : 3 ≤ x.op → triple_at (stepped x main aux v).1 x.to ≡ triple_of x aux v.0 v.1
  wrote_triple h = rw (step_triple x main aux v h) (put_here v.1 x.to _ (let r = rooms.triples_room in omega arith))

-- the first word of a sum, and of a product of lifted numbers
sum_word : (x y : Triple) → (plus x y).c0 ≡ add x.c0 y.c0
unfolding plus
sum_word x y = refl

product_word : (x y : Triple) → x ≡ lift x.c0 → y ≡ lift y.c0 → (times x y).c0 ≡ multiply x.c0 y.c0
product_word x y e f = ap (λ (z : Triple). z.c0) (ap₂ times e f ∙ lift_times x.c0 y.c0)

module _ (s : Shape) (m bases targets challenges order rank : List ℕ) where
  -- the loop over the order: q nodes are planned
  pub record Planning (alias₀ plan₀ alias plan : List ℕ) (q many : ℕ) : Type 0 where
    pub same_alias : length alias ≡ length alias₀
    pub same_plan : length plan ≡ length plan₀
    pub so_far : Planned s m bases targets challenges order rank alias plan q many

module _ (s : Shape) (m bases targets challenges order rank : List ℕ) (done : ℕ) (able : Plannable s m bases targets order rank done) where
  top : used m ≤ 4096
  top = valid_top m able.valid

  tree_is : (i : ℕ) → i < used m → (e : Expression) → expression_at m i ≡ e → tree m i ≡ tree_over i e (tree m)
  tree_is i h e p = tree_fixed m able.valid i h ∙ ap (λ (x : Expression). tree_over i x (tree m)) p

  bit_at : (i : ℕ) → i < used m → at bases i ≡ bit (is_base (tree m i))
  unfolding base_bit
  bit_at i h = able.base_bits.told i h

  -- a node whose turn it is
  module _ (a : Assignment) (main aux : List ℕ) (says : Says s m targets challenges main aux a) (w : Values) (ready : Ready m challenges w) (i : ℕ) (here : i < used m) where
    low : i < 4096
    low = let t = top in omega arith

    fixed_stands : FixedOf (expression_at m i) → Stands a m w i i
    unfolding value is_base
    fixed_stands (base_fixed c e) = let t = tree_is i here (Base c) e in stands_word a m w i i (ap is_base t) (ready.base i c here e ∙ sym (ap (λ (x : Tree). (value a x).c0) t))
    fixed_stands (extension_fixed x e) = let t = tree_is i here (Extension x) e in stands_triple a m w i i (ap is_base t) (ready.extension i x here e ∙ sym (ap (value a) t))
    fixed_stands (challenge_fixed k e) = let t = tree_is i here (Challenge k) e in stands_triple a m w i i (ap is_base t) (ready.challenge i k here e ∙ sym (says.given k) ∙ sym (ap (value a) t))

    -- an input's value and base test
    input_value_lem : (y : Position) → expression_at m i ≡ Input y → value a (tree m i) ≡ input_value a y
    unfolding value
    input_value_lem y e = ap (value a) (tree_is i here (Input y) e)

    input_base : (y : Position) → expression_at m i ≡ Input y → is_base (tree m i) ≡ is_main y
    unfolding is_base
    input_base y e = ap is_base (tree_is i here (Input y) e)

    cell_stands : (c : ℕ) → source_of s (expression_at m i) ≡ Word c → Stands a m (stepped (record { op = 0; to = i; left = c; right = 0 }) main aux w) i i
    cell_stands c h =
        let x : Instruction = record { op = 0; to = i; left = c; right = 0 } in
        let y = word_input s (expression_at m i) c h in
        let is = ap (source_of s) (sym y.is) ∙ h in
        stands_word a m (stepped x main aux w) i i (input_base y.position y.is ∙ y.kind) (wrote_word x main aux w ready.rooms low (omega arith) ∙ sym (ap (λ (z : Triple). z.c0) (input_value_lem y.position y.is ∙ says.cell i c y.position here y.is is)))

    wide_stands : (c : ℕ) → source_of s (expression_at m i) ≡ Wide c → Stands a m (stepped (record { op = 3; to = i; left = c; right = 0 }) main aux w) i i
    wide_stands c h =
        let x : Instruction = record { op = 3; to = i; left = c; right = 0 } in
        let y = wide_input s (expression_at m i) c h in
        let is = ap (source_of s) (sym y.is) ∙ h in
        stands_triple a m (stepped x main aux w) i i (input_base y.position y.is ∙ y.kind) (wrote_triple x main aux w ready.rooms low (omega arith) ∙ sym (input_value_lem y.position y.is ∙ says.wide i c y.position here y.is is))

    -- a new column's input, and its expression e in the entry t
    module _ (k : ℕ) (h : source_of s (expression_at m i) ≡ Item k) (few : k < s.items) (fresh : is_base (tree m i) ≡ true → k < s.fresh) (based : is_base (tree m i) ≡ true → is_base (tree m (at targets k)) ≡ true) where
      item_value : value a (tree m i) ≡ value a (tree m (at targets k))
      item_value = go (item_input s (expression_at m i) k h)
        where
          of : (y : Position) → expression_at m i ≡ Input y → value a (tree m i) ≡ value a (tree m (at targets k))
          of y e = input_value_lem y e ∙ says.item i k y here e (ap (source_of s) (sym e) ∙ h) few (λ b. fresh (input_base y e ∙ b))

          go : ItemOf s k (expression_at m i) → value a (tree m i) ≡ value a (tree m (at targets k))
          go (main_item c e l q) = of _ e
          go (aux_item c e l q) = of _ e

      item_stands : (t : ℕ) → Stands a m w t (at targets k) → (x y : Bool) → is_base (tree m i) ≡ x → is_base (tree m (at targets k)) ≡ y
          → Stands a m (turned (if eqb (bit x) (bit y) then stays t else record { op = 8; to = i; left = t; right = 0 }) main aux w) (if eqb (bit x) (bit y) then stays t else record { op = 8; to = i; left = t; right = 0 }).to i
      item_stands t known true true p q = stands_word a m w t i p (known.word q ∙ sym (ap (λ (z : Triple). z.c0) item_value))
      item_stands t known false false p q = stands_triple a m w t i p (known.triple q ∙ sym item_value)
      item_stands t known true false p q = clash (is_base (tree m (at targets k))) (based p) q
      item_stands t known false true p q =
          let x : Instruction = record { op = 8; to = i; left = t; right = 0 } in
          stands_triple a m (stepped x main aux w) i i p (wrote_triple x main aux w ready.rooms low (omega arith) ∙ ap lift (known.word q) ∙ sym (base_lifted a (tree m (at targets k)) q) ∙ sym item_value)

    -- an operation
    module _ (o : Op) (l r : ℕ) (e : expression_at m i ≡ Operation o l r) (left right : ℕ) (known-left : Stands a m w left l) (known-right : Stands a m w right r) where
      join_value : value a (tree m i) ≡ apply o (value a (tree m l)) (value a (tree m r))
      unfolding value
      join_value = ap (value a) (tree_is i here (Operation o l r) e)

      join_base : (x y : Bool) → is_base (tree m l) ≡ x → is_base (tree m r) ≡ y → is_base (tree m i) ≡ (x && y)
      unfolding is_base
      join_base x y p q = ap is_base (tree_is i here (Operation o l r) e) ∙ ap₂ ◌&&◌ p q

      lifted : (y : ℕ) → is_base (tree m y) ≡ true → value a (tree m y) ≡ lift (value a (tree m y)).c0
      lifted y p = base_lifted a (tree m y) p

      -- a word that stands is the value, lifted
      raised : (t y : ℕ) → Stands a m w t y → is_base (tree m y) ≡ true → lift (at w.0 t) ≡ value a (tree m y)
      raised t y k p = ap lift (k.word p) ∙ sym (lifted y p)

      words : (op : ℕ) → op < 3 → (z : ℕ) → word_of (record { op = op; to = i; left = left; right = right }) main w.0 ≡ z → is_base (tree m i) ≡ true → z ≡ (value a (tree m i)).c0 → Stands a m (stepped (record { op = op; to = i; left = left; right = right }) main aux w) i i
      words op h z f b g = let x : Instruction = record { op = op; to = i; left = left; right = right } in stands_word a m (stepped x main aux w) i i b (wrote_word x main aux w ready.rooms low h ∙ f ∙ g)

      triples : (op u v : ℕ) → 3 ≤ op → (z : Triple) → triple_of (record { op = op; to = i; left = u; right = v }) aux w.0 w.1 ≡ z → is_base (tree m i) ≡ false → z ≡ value a (tree m i) → Stands a m (stepped (record { op = op; to = i; left = u; right = v }) main aux w) i i
      triples op u v h z f b g = let x : Instruction = record { op = op; to = i; left = u; right = v } in stands_triple a m (stepped x main aux w) i i b (wrote_triple x main aux w ready.rooms low h ∙ f ∙ g)

    join_stands : (o : Op) (l r : ℕ) → expression_at m i ≡ Operation o l r → (left right : ℕ) → Stands a m w left l → Stands a m w right r → (x y : Bool) → is_base (tree m l) ≡ x → is_base (tree m r) ≡ y
        → Stands a m (turned (joined i o (bit x) (bit y) left right) main aux w) (joined i o (bit x) (bit y) left right).to i
    join_stands Add l r e left right kl kr true true p q =
        words Add l r e left right kl kr 1 (omega arith) (add (at w.0 left) (at w.0 right)) refl (join_base Add l r e left right kl kr true true p q)
        (ap₂ add (kl.word p) (kr.word q) ∙ sym (ap (λ (z : Triple). z.c0) (join_value Add l r e left right kl kr) ∙ sum_word (value a (tree m l)) (value a (tree m r))))
    join_stands Multiply l r e left right kl kr true true p q =
        words Multiply l r e left right kl kr 2 (omega arith) (multiply (at w.0 left) (at w.0 right)) refl (join_base Multiply l r e left right kl kr true true p q)
        (ap₂ multiply (kl.word p) (kr.word q) ∙ sym (ap (λ (z : Triple). z.c0) (join_value Multiply l r e left right kl kr) ∙ product_word (value a (tree m l)) (value a (tree m r)) (base_lifted a (tree m l) p) (base_lifted a (tree m r) q)))
    join_stands Add l r e left right kl kr false false p q =
        triples Add l r e left right kl kr 4 left right (omega arith) (plus (triple_at w.1 left) (triple_at w.1 right)) refl (join_base Add l r e left right kl kr false false p q)
        (ap₂ plus (kl.triple p) (kr.triple q) ∙ sym (join_value Add l r e left right kl kr))
    join_stands Multiply l r e left right kl kr false false p q =
        triples Multiply l r e left right kl kr 5 left right (omega arith) (times (triple_at w.1 left) (triple_at w.1 right)) refl (join_base Multiply l r e left right kl kr false false p q)
        (ap₂ times (kl.triple p) (kr.triple q) ∙ sym (join_value Multiply l r e left right kl kr))
    join_stands Add l r e left right kl kr true false p q =
        triples Add l r e left right kl kr 6 left right (omega arith) (plus (lift (at w.0 left)) (triple_at w.1 right)) refl (join_base Add l r e left right kl kr true false p q)
        (ap₂ plus (raised Add l r e left right kl kr left l kl p) (kr.triple q) ∙ sym (join_value Add l r e left right kl kr))
    join_stands Multiply l r e left right kl kr true false p q =
        triples Multiply l r e left right kl kr 7 left right (omega arith) (times (lift (at w.0 left)) (triple_at w.1 right)) refl (join_base Multiply l r e left right kl kr true false p q)
        (ap₂ times (raised Multiply l r e left right kl kr left l kl p) (kr.triple q) ∙ sym (join_value Multiply l r e left right kl kr))
    join_stands Add l r e left right kl kr false true p q =
        triples Add l r e left right kl kr 6 right left (omega arith) (plus (lift (at w.0 right)) (triple_at w.1 left)) refl (join_base Add l r e left right kl kr false true p q)
        (ap₂ plus (raised Add l r e left right kl kr right r kr q) (kl.triple p) ∙ plus_comm (value a (tree m r)) (value a (tree m l)) ∙ sym (join_value Add l r e left right kl kr))
    join_stands Multiply l r e left right kl kr false true p q =
        triples Multiply l r e left right kl kr 7 right left (omega arith) (times (lift (at w.0 right)) (triple_at w.1 left)) refl (join_base Multiply l r e left right kl kr false true p q)
        (ap₂ times (raised Multiply l r e left right kl kr right r kr q) (kl.triple p) ∙ times_comm (value a (tree m r)) (value a (tree m l)) ∙ sym (join_value Multiply l r e left right kl kr))

  -- what a node's instruction keeps to, where q nodes are planned
  record Turn (i q : ℕ) (x : Instruction) : Type 0 where
    to_below : x.to < used m
    to_rank : at rank x.to ≤ q
    to_base : at bases x.to ≡ at bases i
    own : x.op ≢ 9 → x.to ≡ i
    is_sound : x.op ≢ 9 → Sound (row_kind m * s.row) (3 * (row_kind m * s.wide)) x
    is_spare : x.op ≢ 9 → source_of s (expression_at m i) ≡ Fixed → ⊥

  module _ (alias plan : List ℕ) (q many : ℕ) (p : Planned s m bases targets challenges order rank alias plan q many) (more : q < done) where
    abbrev i : ℕ
    i = at order q

    here_below : i < used m
    here_below = able.staged.order_below q more

    rank_here : at rank i ≡ q
    rank_here = able.staged.rank_order q more

    finished : at rank i < used m
    finished = let e = rank_here in let f = able.staged.few in omega arith

    small : i < 4096
    small = let t = top in let h = here_below in omega arith

    -- a node that is planned
    module _ (y : ℕ) (below : y < used m) (before : at rank y < q) where
      is_node : at order (at rank y) ≡ y
      is_node = let f = able.staged.few in able.staged.order_rank y below (omega arith)

      known_below : at alias y < used m
      known_below = rw is_node at (p.entry_below (at rank y) before)

      known_rank : at rank (at alias y) ≤ at rank y
      known_rank = rw is_node at (p.entry_rank (at rank y) before)

      known_base : at bases (at alias y) ≡ at bases y
      known_base = rw is_node at (p.entry_base (at rank y) before)

      known_stands : (a : Assignment) (main aux : List ℕ) (v : Values) → Says s m targets challenges main aux a → Ready m challenges v → Stands a m (ran plan main aux many v) (at alias y) y
      known_stands a main aux v says ready = let h = p.stand a main aux v says ready (at rank y) before in rw is_node at h

    -- an item's expression and an operation's operands are planned
    item_planned : (k : ℕ) → source_of s (expression_at m i) ≡ Item k → (at targets k < used m) × (at rank (at targets k) < q)
    item_planned k e =
        let few = able.staged.item_below i k here_below finished e in
        let f = able.staged.item-first i k here_below finished e in
        let r = rank_here in
        (able.staged.target_below k few, omega arith)

    join_planned : (o : Op) (l r : ℕ) → expression_at m i ≡ Operation o l r → ((l < used m) × (at rank l < q)) × ((r < used m) × (at rank r < q))
    join_planned o l r e =
        let (x, y) = valid_operands m able.valid i here_below o l r e in
        let f = able.staged.left_first i o l r here_below finished e in
        let g = able.staged.right_first i o l r here_below finished e in
        let h = rank_here in
        ((x, omega arith), (y, omega arith))

    own_turn : (x : Instruction) → x.to ≡ i → Sound (row_kind m * s.row) (3 * (row_kind m * s.wide)) x → (source_of s (expression_at m i) ≡ Fixed → ⊥) → Turn i q x
    own_turn x e sound spare =
        let r = rank_here in
        record { to_below = rw e here_below; to_rank = rw e (omega arith); to_base = ap (at bases) e; own = λ _. e; is_sound = λ _. sound; is_spare = λ _. spare }

    join_turn : (op u v : ℕ) → op ≢ 0 → op ≢ 3 → u < used m → v < used m → (source_of s (expression_at m i) ≡ Fixed → ⊥) → Turn i q (record { op = op; to = i; left = u; right = v })
    join_turn op u v a b f g spare =
        let t = top in
        own_turn (record { op = op; to = i; left = u; right = v }) refl (record { to = small; cell = λ e. absurd (a e); wide = λ e. absurd (b e); left = λ _ _. omega arith; right = λ _ _. omega arith }) spare

    turn : (src : Source) → source_of s (expression_at m i) ≡ src → Turn i q (planned_of bases targets alias i src)
    turn Fixed e = let r = rank_here in record { to_below = here_below; to_rank = omega arith; to_base = refl; own = λ n. absurd (n refl); is_sound = λ n. absurd (n refl); is_spare = λ n. absurd (n refl) }
    turn (Word c) e =
        own_turn (record { op = 0; to = i; left = c; right = 0 }) refl
        (record { to = small; cell = λ _. able.staged.word_in i c here_below finished e; wide = λ z. absurd (omega arith); left = λ n. absurd (n refl); right = λ n. absurd (n refl) })
        (λ f. let z : Word c ≡ Fixed = sym e ∙ f in let y : ◌≡◌ {A = ℕ} 0 1 = cc in omega arith)
    turn (Wide c) e =
        let h = able.staged.wide_in i c here_below finished e in
        own_turn (record { op = 3; to = i; left = c; right = 0 }) refl
        (record { to = small; cell = λ z. absurd (omega arith); wide = λ _. omega arith; left = λ _ n. absurd (n refl); right = λ _ n. absurd (n refl) })
        (λ f. let z : Wide c ≡ Fixed = sym e ∙ f in let y : ◌≡◌ {A = ℕ} 0 1 = cc in omega arith)
    turn (Item k) e = go (eqb (at bases i) (at bases (at targets k))) refl
      where
        at_k : (at targets k < used m) × (at rank (at targets k) < q)
        at_k = item_planned k e

        t : ℕ
        t = at alias (at targets k)

        go : (b : Bool) → eqb (at bases i) (at bases (at targets k)) ≡ b → Turn i q (if b then stays (at alias (at targets k)) else record { op = 8; to = i; left = at alias (at targets k); right = 0 })
        go true h =
            let r = known_rank (at targets k) at_k.0 at_k.1 in
            let f = at_k.1 in
            record {
              to_below = known_below (at targets k) at_k.0 at_k.1;
              to_rank = omega arith;
              to_base = known_base (at targets k) at_k.0 at_k.1 ∙ sym (eqb-true (at bases i) (at bases (at targets k)) h);
              own = λ n. absurd (n refl);
              is_sound = λ n. absurd (n refl);
              is_spare = λ n. absurd (n refl);
            }
        go false h =
            let b = known_below (at targets k) at_k.0 at_k.1 in
            let u = top in
            own_turn (record { op = 8; to = i; left = at alias (at targets k); right = 0 }) refl
            (record { to = small; cell = λ z. absurd (omega arith); wide = λ z. absurd (omega arith); left = λ _ _. omega arith; right = λ _ _. omega arith })
            (λ f. let z : Item k ≡ Fixed = sym e ∙ f in let y : ◌≡◌ {A = ℕ} 0 1 = cc in omega arith)
    turn (Join o l r) e = go (eqb (at bases l) (at bases r)) (eqb (at bases l) 1)
      where
        both : ((l < used m) × (at rank l < q)) × ((r < used m) × (at rank r < q))
        both = join_planned o l r (joins_operation s (expression_at m i) o l r e)

        lb : at alias l < used m
        lb = known_below l both.0.0 both.0.1

        rb : at alias r < used m
        rb = known_below r both.1.0 both.1.1

        spare : source_of s (expression_at m i) ≡ Fixed → ⊥
        spare f = let z : Join o l r ≡ Fixed = sym e ∙ f in let y : ◌≡◌ {A = ℕ} 0 1 = cc in omega arith

        op : (1 ≤ op_of o) × (op_of o ≤ 2)
        op = op_small o

        go : (b c : Bool) → Turn i q (if b then (if c then record { op = op_of o; to = i; left = at alias l; right = at alias r } else record { op = op_of o + 3; to = i; left = at alias l; right = at alias r }) else if c then record { op = op_of o + 5; to = i; left = at alias l; right = at alias r } else record { op = op_of o + 5; to = i; left = at alias r; right = at alias l })
        go true true = join_turn (op_of o) (at alias l) (at alias r) (λ z. let h = op in omega arith) (λ z. let h = op in omega arith) lb rb spare
        go true false = join_turn (op_of o + 3) (at alias l) (at alias r) (λ z. let h = op in omega arith) (λ z. let h = op in omega arith) lb rb spare
        go false true = join_turn (op_of o + 5) (at alias l) (at alias r) (λ z. let h = op in omega arith) (λ z. let h = op in omega arith) lb rb spare
        go false false = join_turn (op_of o + 5) (at alias r) (at alias l) (λ z. let h = op in omega arith) (λ z. let h = op in omega arith) rb lb spare

    -- node i's value stands after its turn
    module _ (a : Assignment) (main aux : List ℕ) (v : Values) (says : Says s m targets challenges main aux a) (ready : Ready m challenges v) where
      abbrev w : Values
      w = ran plan main aux many v

      ready_now : Ready m challenges w
      ready_now = ready_ran s m challenges plan main aux v many p.spares ready

      turn_stands : (src : Source) → source_of s (expression_at m i) ≡ src → Stands a m (turned (planned_of bases targets alias i src) main aux w) (planned_of bases targets alias i src).to i
      turn_stands Fixed e = fixed_stands a main aux says w ready_now i here_below (fixed_leaf s (expression_at m i) e)
      turn_stands (Word c) e = cell_stands a main aux says w ready_now i here_below c e
      turn_stands (Wide c) e = wide_stands a main aux says w ready_now i here_below c e
      turn_stands (Item k) e =
          let (b, f) = item_planned k e in
          rw (bit_at i here_below, bit_at (at targets k) b)
          (item_stands a main aux says w ready_now i here_below k e (able.staged.item_below i k here_below finished e) (able.staged.item_fresh i k here_below finished e) (able.staged.item_base i k here_below finished e) (at alias (at targets k)) (known_stands (at targets k) b f a main aux v says ready) (is_base (tree m i)) (is_base (tree m (at targets k))) refl refl)
      turn_stands (Join o l r) e =
          let q = joins_operation s (expression_at m i) o l r e in
          let ((lb, lf), (rb, rf)) = join_planned o l r q in
          rw (bit_at l lb, bit_at r rb)
          (join_stands a main aux says w ready_now i here_below o l r q (at alias l) (at alias r) (known_stands l lb lf a main aux v says ready) (known_stands r rb rf a main aux v says ready) (is_base (tree m l)) (is_base (tree m r)) refl refl)

      -- what stood stands
      old_stands : (x : Instruction) → (x.op ≢ 9 → x.to ≡ i) → (t y : ℕ) → t ≢ i → Stands a m w t y → Stands a m (turned x main aux w) t y
      old_stands x own t y n k = go (eqb x.op 9) refl
        where
          go : (b : Bool) → eqb x.op 9 ≡ b → Stands a m (if b then w else stepped x main aux w) t y
          go true e = k
          go false e =
              let other = step_other x main aux w t (λ z. n (z ∙ own (eqb-false x.op 9 e))) in
              record { word = λ b. other.0 ∙ k.word b; triple = λ b. other.1 ∙ k.triple b }

    -- a node before it
    before_other : (j : ℕ) → j < q → at order j ≢ i
    before_other j l e = let f = able.staged.rank_order j (omega arith) in let g = rank_here in let h = ap (at rank) e in omega arith

    entry_other : (j : ℕ) → j < q → at alias (at order j) ≢ i
    entry_other j l e = let f = p.entry_rank j l in let g = rank_here in let h = ap (at rank) e in omega arith

    module _ (alias_room : 4096 ≤ length alias) (plan_room : 16384 ≤ length plan) (x : Instruction) (is : x ≡ planned s m bases targets alias i) where
      its_turn : Turn i q x
      unfolding planned
      its_turn = rw is (turn (source_of s (expression_at m i)) refl)

      alias' : List ℕ
      alias' = set alias i x.to

      entry_here : at alias' i ≡ x.to
      unfolding alias'
      entry_here = get_or-set_same alias i x.to 0 (let h = small in omega arith)

      entry_kept : (j : ℕ) → j < q → at alias' (at order j) ≡ at alias (at order j)
      unfolding alias'
      entry_kept j l = get_or-set_other alias i (at order j) x.to 0 (before_other j l)

      place : 4 * many + 3 < length plan
      place = let f = p.few in let t = top in let d = able.staged.few in omega arith

      abbrev plan' : Bool → List ℕ
      plan' b = if b then plan else put_four plan many x

      abbrev many' : Bool → ℕ
      many' b = if b then many else many + 1

      -- what the plan does now
      ran_turned : (b : Bool) → eqb x.op 9 ≡ b → (main aux : List ℕ) (v : Values) → ran (plan' b) main aux (many' b) v ≡ turned x main aux (ran plan main aux many v)
      ran_turned true e main aux v = rw e
      ran_turned false e main aux v =
          rw e (ran_next (put_four plan many x) main aux v many
          ∙ ap (λ (y : Instruction). stepped y main aux (ran (put_four plan many x) main aux many v)) (instruction_here plan many x place)
          ∙ ap (stepped x main aux) (ran_same plan (put_four plan many x) main aux v many (λ k l. instruction_other plan many x k l)))

      -- each instruction of it
      each-one : (P : Instruction → Type 0) → (b : Bool) → eqb x.op 9 ≡ b → ((k : ℕ) → k < many → P (instruction_at plan k)) → (x.op ≢ 9 → P x) → (k : ℕ) → k < many' b → P (instruction_at (plan' b) k)
      each-one P true e old new k l = old k l
      each-one P false e old new k l =
          ⊎_elim
          (λ z. subst P (sym (ap (instruction_at (put_four plan many x)) z ∙ instruction_here plan many x place)) (new (eqb-false x.op 9 e)))
          (λ lt. subst P (sym (instruction_other plan many x k lt)) (old k lt))
          (last_or k many (omega arith))

      -- each node, the last one or an earlier one
      each_node : (P : ℕ → Type 0) → P q → ((j : ℕ) → j < q → P j) → (j : ℕ) → j < q + 1 → P j
      each_node P now old j l = ⊎_elim (λ e. rw e now) (old j) (last_or j q (omega arith))

      next_planned : (b : Bool) → eqb x.op 9 ≡ b → Planned s m bases targets challenges order rank alias' (plan' b) (q + 1) (many' b)
      unfolding planned
      next_planned b e =
          record {
            few = fewer b;
            sound = each-one (Sound (row_kind m * s.row) (3 * (row_kind m * s.wide))) b e p.sound its_turn.is_sound;
            spares = each-one (λ (y : Instruction). source_of s (expression_at m y.to) ≡ Fixed → ⊥) b e p.spares (λ n. rw (its_turn.own n) (its_turn.is_spare n));
            entry_below = each_node (λ j. at alias' (at order j) < used m) (rw entry_here its_turn.to_below) (λ j l. rw (entry_kept j l) (p.entry_below j l));
            entry_rank = each_node (λ j. at rank (at alias' (at order j)) ≤ j) (rw entry_here its_turn.to_rank) (λ j l. rw (entry_kept j l) (p.entry_rank j l));
            entry_base = each_node (λ j. at bases (at alias' (at order j)) ≡ at bases (at order j)) (rw entry_here its_turn.to_base) (λ j l. rw (entry_kept j l) (p.entry_base j l));
            stand = λ a main aux v says ready. rw (ran_turned b e main aux v) (each_node (λ j. Stands a m (turned x main aux (ran plan main aux many v)) (at alias' (at order j)) (at order j))
                (rw (entry_here, is) (turn_stands a main aux v says ready (source_of s (expression_at m i)) refl))
                (λ j l. rw (entry_kept j l) (old_stands a main aux v says ready x its_turn.own (at alias (at order j)) (at order j) (entry_other j l) (p.stand a main aux v says ready j l))));
          }
        where
          fewer : (b : Bool) → many' b ≤ q + 1
          fewer true = let f = p.few in omega arith
          fewer false = let f = p.few in omega arith

      pub plan_next : Planned s m bases targets challenges order rank (set alias i x.to) (pushed plan many x) (q + 1) (pushed_many many x)
      unfolding alias'
      plan_next = next_planned (eqb x.op 9) refl

  module _ (alias₀ plan₀ alias plan : List ℕ) (q many : ℕ) (k : Planning s m bases targets challenges order rank alias₀ plan₀ alias plan q many) (more : q < done) (alias_room : 4096 ≤ length alias₀) (plan_room : 16384 ≤ length plan₀) where
    pub planning_room : (q < 4096) × (at order q < used m) × (at order q < length alias) × (4 * many + 3 < length plan)
    planning_room =
        let t = top in
        let d = able.staged.few in
        let o = able.staged.order_below q more in
        let a = k.same_alias in
        let b = k.same_plan in
        let f = k.so_far.few in
        (omega arith, o, omega arith, omega arith)

    pub planning_decides : Deciding s m bases targets alias (at order q)
    planning_decides =
        let t = top in
        let a = k.same_alias in
        let r = able.targets_room in
        let here = able.staged.order_below q more in
        let fin : at rank (at order q) < used m = let e = able.staged.rank_order q more in let d = able.staged.few in omega arith in
        record {
          valid = able.valid;
          small = able.small;
          here = here;
          bases_room = able.bases_room;
          alias_room = omega arith;
          item = λ i e. let b = able.staged.item_below (at order q) i here fin e in (omega arith, able.staged.target_below i b);
        }

    pub planning_next : (x : Instruction) → x ≡ planned s m bases targets alias (at order q) → (plan' : List ℕ) (many' : ℕ) → plan' ≡ pushed plan many x → many' ≡ pushed_many many x → length plan' ≡ length plan → Planning s m bases targets challenges order rank alias₀ plan₀ (set alias (at order q) x.to) plan' (q + 1) many'
    planning_next x is plan' many' e f same =
        let a = k.same_alias in
        let b = k.same_plan in
        record {
          same_alias = length-set alias (at order q) x.to ∙ a;
          same_plan = same ∙ b;
          so_far = rw (e, f) (plan_next alias plan q many k.so_far more (omega arith) (omega arith) x is);
        }

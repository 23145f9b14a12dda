-- The stack of a walk: what is still to come, and how deep it grows. Assumes nothing.
use Rattle.std.specs.Prelude.{None, Option, Some}
use Prim.Native.Nat.{ℕ, zero, suc, ◌+◌, ◌-◌, ◌<◌, ◌≤◌, max}
use mathlib.Core.Path.{◌≡◌, refl, sym, ap, ◌∙◌}
use mathlib.Core.Logic.{⊎_elim}
use mathlib.Core.Bool.{true, false}
use mathlib.Core.List.{List, [], ◌∷◌, ◌++◌, append_assoc, append-nil}
use native.Mathlib.Omega.{arith}
use native.Mathlib.Numerals.{add-one}
use lib.ListN.{length, set, drop, length-set, length-append}
use lib.Seq.{sets, drop-cons, drop-set-lt, drop-length, get_or-set_same, get_or-set_other}
use Rattle.layout.specs.declared.node.Expression.{Expression}
use Rattle.layout.specs.declared.node.Expression.TheVariants.{Base, Extension, Challenge, Operation, Input}
use Rattle.layout.specs.Words.{used, expression_at}
use Rattle.layout.specs.NotCircuit.{not_circuit, goes_on}
use Rattle.layout.specs.Tree.{Tree, tree_over, unfolded, tree}
use Rattle.circuit.specs.Walk.{step_of}
use Rattle.circuit.specs.Rank.{at}
use Rattle.layout.proofs.Tests.{neither, last_or}
use Rattle.layout.proofs.Lists.{clash}
use Rattle.layout.proofs.Trees.{tree_fixed}
use Rattle.layout.proofs.Valid.{valid_ends}
use Rattle.walking.specs.Paths.{walk, walks}
use Rattle.paths.specs.Walking.{height, right_walk, pending, Level, Stacked, Descending, Descended, Walking, Walked, WalkingAll}
use Rattle.paths.proofs.Walks.{step, step_below, walk_step, roots_below}
use Rattle.paths.proofs.Written.{sets_append}
use Rattle.paths.proofs.Lengths.{size}

-- heights

abbrev height_over : Option (ℕ × ℕ) → (ℕ → ℕ) → ℕ
height_over None f = 1
height_over (Some (l, r)) f = 1 + max (f l) (f r)

over_height : (i : ℕ) (e : Expression) (f : ℕ → Tree) → height (tree_over i e f) ≡ height_over (step_of e) (λ j. height (f j))
unfolding height
over_height i (Base w) f = refl
over_height i (Extension w) f = refl
over_height i (Challenge w) f = refl
over_height i (Operation o l r) f = refl
over_height i (Input w) f = refl

levels_bound : (m : List ℕ) (levels i : ℕ) → goes_on m levels i ≡ false → height (unfolded m levels i) ≤ levels
unfolding goes_on unfolded height
levels_bound m zero i g = clash true refl g
levels_bound m (suc levels) i g = go (expression_at m i) g (levels_bound m levels)
  where
    go : (e : Expression) → Rattle.layout.specs.NotCircuit.either_operand (goes_on m levels) e ≡ false → ((j : ℕ) → goes_on m levels j ≡ false → height (unfolded m levels j) ≤ levels) → height (tree_over i e (unfolded m levels)) ≤ suc levels
    go (Base w) h rest = omega arith
    go (Extension w) h rest = omega arith
    go (Challenge w) h rest = omega arith
    go (Operation o l r) h rest = let (a, b) = neither (goes_on m levels l) (goes_on m levels r) h in let x = rest l a in let y = rest r b in omega arith
    go (Input w) h rest = omega arith

height_some : (t : Tree) → 1 ≤ height t
unfolding height
height_some (Rattle.layout.specs.Tree.leaf i a) = omega arith
height_some (Rattle.layout.specs.Tree.branch i o l r) = omega arith

module _ (m : List ℕ) (valid : not_circuit m ≡ false) where
  -- a root stands at the bottom of the stack
  pub root-level : (i : ℕ) → i < used m → Level m i 0
  root-level i l = record { here = l; levels = let h = levels_bound m (used m) i (valid_ends m valid i l) in omega arith }

  -- operands are a level below
  pub operand_levels : (i depth l r : ℕ) → Level m i depth → step m i ≡ Some (l, r) → Level m l (depth + 1) × Level m r (depth + 1)
  operand_levels i depth l r v e =
      let (bl, br) = step_below m valid i v.here l r e in
      let h : height (tree m i) ≡ 1 + max (height (tree m l)) (height (tree m r)) = ap height (tree_fixed m valid i v.here) ∙ over_height i (expression_at m i) (tree m) ∙ rw e in
      let s = v.levels in
      (record { here = bl; levels = omega arith }, record { here = br; levels = omega arith })

-- there is room for one node more
pub level_room : (m : List ℕ) (i depth : ℕ) → Level m i depth → depth < used m
level_room m i depth v = let h = height_some (tree m i) in let s = v.levels in omega arith

pub level_up : (m : List ℕ) (i depth : ℕ) → Level m i (depth + 1) → Level m i depth
level_up m i depth v = let s = v.levels in record { here = v.here; levels = omega arith }

-- stacks

pub stacked_none : (m stack : List ℕ) → Stacked m stack 0
stacked_none m stack = record { nodes = λ k l. absurd (omega arith) }

pub stacked-less : (m stack : List ℕ) (depth : ℕ) → Stacked m stack depth → Stacked m stack (depth - 1)
stacked-less m stack depth s = record { nodes = λ k l. s.nodes k (omega arith) }

pub pending_none : (m stack : List ℕ) → pending m stack 0 ≡ []
unfolding pending
pending_none m stack = refl

-- the top comes next
pub pending_top : (m stack : List ℕ) (depth : ℕ) → 0 < depth → pending m stack depth ≡ at stack (depth - 1) ∷ (right_walk m (step m (at stack (depth - 1))) ++ pending m stack (depth - 1))
unfolding pending
pending_top m stack depth h = let e : depth ≡ suc (depth - 1) = omega arith in ap (pending m stack) e

pending_set : (m stack : List ℕ) (j v depth : ℕ) → depth ≤ j → pending m (set stack j v) depth ≡ pending m stack depth
unfolding pending
pending_set m stack j v zero h = refl
pending_set m stack j v (suc depth) h = rw (get_or-set_other stack j depth v 0 (omega arith), pending_set m stack j v depth (omega arith))

-- a node pushed

module _ (m : List ℕ) (stack : List ℕ) (node top : ℕ) (room : used m ≤ length stack) (level : Level m node top) where
  push_fits : top < length stack
  push_fits = let l = level_room m node top level in omega arith

  push_stacked : Stacked m stack top → Stacked m (set stack top node) (top + 1)
  push_stacked s = record {
    nodes = λ k l.
        ⊎_elim
        (λ e. let q : at (set stack top node) k ≡ node = ap (at (set stack top node)) e ∙ get_or-set_same stack top node 0 push_fits in rw (q, e) level)
        (λ lt. rw (get_or-set_other stack top k node 0 (omega arith)) (s.nodes k lt))
        (last_or k top (omega arith));
  }

  push_pending : pending m (set stack top node) (top + 1) ≡ node ∷ (right_walk m (step m node) ++ pending m stack top)
  unfolding pending
  push_pending = rw (add-one top, get_or-set_same stack top node 0 push_fits, pending_set m stack top node top (omega arith))

  push_beyond : drop (used m) (set stack top node) ≡ drop (used m) stack
  push_beyond = drop-set-lt (used m) stack top node (level_room m node top level)

-- the loop down the left lineage of node i
pub record Lineage (m before : List ℕ) (i depth : ℕ) (stack : List ℕ) (node top : ℕ) : Type 0 where
  pub level : Level m node top
  pub stacked : Stacked m stack top
  pub comes : walk (tree m node) ++ pending m stack top ≡ walk (tree m i) ++ pending m before depth
  pub beyond : drop (used m) stack ≡ drop (used m) before
  pub long : length stack ≡ length before

pub lineage_start : (m stack : List ℕ) (i depth : ℕ) → Descending m stack i depth → Lineage m stack i depth stack i depth
lineage_start m stack i depth d = record { level = d.level; stacked = d.stacked; comes = refl; beyond = refl; long = refl }

module _ (m : List ℕ) (valid : not_circuit m ≡ false) (before : List ℕ) (i depth : ℕ) (stack : List ℕ) (node top : ℕ) (room : used m ≤ length before) (line : Lineage m before i depth stack node top) where
  fits : used m ≤ length stack
  fits = let e = line.long in omega arith

  pub lineage_left : (l r : ℕ) → step m node ≡ Some (l, r) → Lineage m before i depth (set stack top node) l (top + 1)
  lineage_left l r e = record {
    level = (operand_levels m valid node top l r line.level e).0;
    stacked = push_stacked m stack node top fits line.level line.stacked;
    comes =
        let w : walk (tree m node) ≡ walk (tree m l) ++ (node ∷ walk (tree m r)) = walk_step m valid node line.level.here ∙ rw e in
        ap (λ (t : List ℕ). walk (tree m l) ++ t) (push_pending m stack node top fits line.level ∙ rw e)
        ∙ sym (append_assoc (walk (tree m l)) (node ∷ walk (tree m r)) (pending m stack top))
        ∙ ap (λ (t : List ℕ). t ++ pending m stack top) (sym w)
        ∙ line.comes;
    beyond = push_beyond m stack node top fits line.level ∙ line.beyond;
    long = length-set stack top node ∙ line.long;
  }

  pub lineage_done : step m node ≡ None → Descended m before (set stack top node) (walk (tree m i)) depth (top + 1)
  lineage_done e = record {
    stacked = push_stacked m stack node top fits line.level line.stacked;
    comes =
        let w : walk (tree m node) ≡ node ∷ [] = walk_step m valid node line.level.here ∙ rw e in
        let p : pending m (set stack top node) (top + 1) ≡ node ∷ pending m stack top = push_pending m stack node top fits line.level ∙ rw e in
        p ∙ ap (λ (t : List ℕ). t ++ pending m stack top) (sym w) ∙ line.comes;
    beyond = push_beyond m stack node top fits line.level ∙ line.beyond;
  }

-- after a node, its right subtree

pub right_none : (m stack : List ℕ) (i depth : ℕ) → Descending m stack i depth → step m i ≡ None → Descended m stack stack (right_walk m (step m i)) depth depth
right_none m stack i depth d e = record { stacked = d.stacked; comes = rw e; beyond = refl }

pub right_some : (m stack after : List ℕ) (i depth l r answer : ℕ) → step m i ≡ Some (l, r) → Descended m stack after (walk (tree m r)) depth answer → Descended m stack after (right_walk m (step m i)) depth answer
right_some m stack after i depth l r answer e d = rw e d

pub right_descends : (m stack : List ℕ) (i depth l r : ℕ) → Descending m stack i depth → step m i ≡ Some (l, r) → Descending m stack r depth
right_descends m stack i depth l r d e = record {
  valid = d.valid;
  room = d.room;
  stacked = d.stacked;
  level = level_up m r depth (operand_levels m d.valid i depth l r d.level e).1;
}

-- the walk from one root
pub record Unwinding (m list stack : List ℕ) (root start : ℕ) (list' stack' : List ℕ) (place depth : ℕ) : Type 0 where
  pub stacked : Stacked m stack' depth
  pub listed : sets list' place (pending m stack' depth) ≡ sets list start (walk (tree m root))
  pub counted : place + length (pending m stack' depth) ≡ start + size m root
  pub beyond : drop (used m) stack' ≡ drop (used m) stack
  pub list_long : length list' ≡ length list
  pub stack_long : length stack' ≡ length stack

module _ (m list stack : List ℕ) (root start : ℕ) (w : Walking m list stack root start) where
  pub unwinding_descends : Descending m stack root 0
  unwinding_descends = record {
    valid = w.valid;
    room = w.stack_room;
    stacked = stacked_none m stack;
    level = root-level m w.valid root w.here;
  }

  -- the left lineage of the root is on the stack
  pub unwinding_start : (before : List ℕ) (depth : ℕ) → Descended m before stack (walk (tree m root)) 0 depth → Unwinding m list stack root start list stack start depth
  unwinding_start before depth d =
      let e : pending m stack depth ≡ walk (tree m root) = d.comes ∙ ap (λ (t : List ℕ). walk (tree m root) ++ t) (pending_none m before) ∙ append-nil (walk (tree m root)) in
      record {
        stacked = d.stacked;
        listed = rw e;
        counted = rw e;
        beyond = refl;
        list_long = refl;
        stack_long = refl;
      }

  module _ (list' stack' : List ℕ) (place depth : ℕ) (u : Unwinding m list stack root start list' stack' place depth) where
    module _ (h : 0 < depth) where
      -- what comes after the top
      abbrev rest : List ℕ
      rest = right_walk m (step m (at stack' (depth - 1))) ++ pending m stack' (depth - 1)

      -- the top has a place in the list
      pub unwinding_room : place < length list
      unwinding_room =
          let e = ap length (pending_top m stack' depth h) in
          let c = u.counted in
          let r = w.list_room in
          omega arith

      pub unwinding_depth : depth ≤ used m
      unwinding_depth = let l = level_room m (at stack' (depth - 1)) (depth - 1) (u.stacked.nodes (depth - 1) (omega arith)) in omega arith

      pub unwinding_right : Descending m stack' (at stack' (depth - 1)) (depth - 1)
      unwinding_right = record {
        valid = w.valid;
        room = let e = u.stack_long in let r = w.stack_room in omega arith;
        stacked = stacked-less m stack' depth u.stacked;
        level = u.stacked.nodes (depth - 1) (omega arith);
      }

      pub unwinding_next : (after : List ℕ) (answer : ℕ) → length after ≡ length stack' → Descended m stack' after (right_walk m (step m (at stack' (depth - 1)))) (depth - 1) answer → Unwinding m list stack root start (set list' place (at stack' (depth - 1))) after (place + 1) answer
      unwinding_next after answer long d =
          let e = pending_top m stack' depth h in
          record {
            stacked = d.stacked;
            listed = rw (d.comes, add-one place) (ap (sets list' place) (sym e) ∙ u.listed);
            counted = let c = u.counted in let x = ap length e in let y = ap length d.comes in omega arith;
            beyond = d.beyond ∙ u.beyond;
            list_long = length-set list' place (at stack' (depth - 1)) ∙ u.list_long;
            stack_long = long ∙ u.stack_long;
          }

    pub unwinding_done : depth ≡ 0 → Walked m list stack list' stack' (walk (tree m root)) start place
    unwinding_done e =
        let p : pending m stack' depth ≡ [] = rw e (pending_none m stack') in
        record {
          listed = ap (sets list' place) (sym p) ∙ u.listed;
          beyond = u.beyond;
          next = let c = u.counted in let q = ap length p in omega arith;
        }

-- the stack before the root's left lineage was pushed

pub walking_kept : (m list stack stack' : List ℕ) (root start : ℕ) → Walking m list stack root start → length stack' ≡ length stack → Walking m list stack' root start
walking_kept m list stack stack' root start w e = record {
  valid = w.valid;
  here = w.here;
  stack_room = let r = w.stack_room in omega arith;
  list_room = w.list_room;
}

pub walked_from : (m list before stack list' stack' ids other : List ℕ) (start depth place answer : ℕ) → Descended m before stack other depth place → Walked m list stack list' stack' ids start answer → Walked m list before list' stack' ids start answer
walked_from m list before stack list' stack' ids other start depth place answer d w = record { listed = w.listed; beyond = w.beyond ∙ d.beyond; next = w.next }

-- the walks from all roots
pub record Rooting (m roots list stack list' stack' : List ℕ) (place k : ℕ) : Type 0 where
  pub listed : sets list' place (walks m (drop k roots)) ≡ sets list 0 (walks m roots)
  pub counted : place + length (walks m (drop k roots)) ≡ length (walks m roots)
  pub beyond : drop (used m) stack' ≡ drop (used m) stack
  pub list_long : length list' ≡ length list
  pub stack_long : length stack' ≡ length stack

module _ (m roots list stack : List ℕ) (w : WalkingAll m roots list stack) (list' stack' : List ℕ) (place k : ℕ) (t : Rooting m roots list stack list' stack' place k) where
  module _ (l : k < length roots) where
    first_walk : walks m (drop k roots) ≡ walk (tree m (at roots k)) ++ walks m (drop (suc k) roots)
    unfolding walks
    first_walk = ap (walks m) (drop-cons roots k 0 l)

    pub rooting_walking : Walking m list' stack' (at roots k) place
    rooting_walking = record {
      valid = w.valid;
      here = roots_below m roots w.ids k l;
      stack_room = let e = t.stack_long in let r = w.stack_room in omega arith;
      list_room =
          let c = t.counted in
          let e = t.list_long in
          let r = w.list_room in
          let x = ap length first_walk ∙ length-append (walk (tree m (at roots k))) (walks m (drop (suc k) roots)) in
          omega arith;
    }

    pub rooting_next : (list'' stack'' : List ℕ) (answer : ℕ) → length list'' ≡ length list' → length stack'' ≡ length stack' → Walked m list' stack' list'' stack'' (walk (tree m (at roots k))) place answer → Rooting m roots list stack list'' stack'' answer (k + 1)
    rooting_next list'' stack'' answer a b d = record {
      listed =
          rw (d.listed, d.next, add-one k)
          (sym (sets_append (walk (tree m (at roots k))) (walks m (drop (suc k) roots)) list' place) ∙ ap (sets list' place) (sym first_walk) ∙ t.listed);
      counted =
          let c = t.counted in
          let n = d.next in
          let x = ap length first_walk ∙ length-append (walk (tree m (at roots k))) (walks m (drop (suc k) roots)) in
          rw (add-one k) (omega arith);
      beyond = d.beyond ∙ t.beyond;
      list_long = a ∙ t.list_long;
      stack_long = b ∙ t.stack_long;
    }

  pub rooting_done : k ≡ length roots → Walked m list stack list' stack' (walks m roots) 0 place
  unfolding walks
  rooting_done e =
      let p : walks m (drop k roots) ≡ [] = rw (e, drop-length roots) in
      record {
        listed = ap (sets list' place) (sym p) ∙ t.listed;
        beyond = t.beyond;
        next = let c = t.counted in let q = ap length p in omega arith;
      }

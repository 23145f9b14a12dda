-- The walks from the expressions, one after the other: what each finishes reads what was finished before it. Assumes nothing.
use Rattle.std.specs.Prelude.{Option, Some, None}
use Rattle.std.specs.Option.{IsSome}
use Prim.Native.Nat.{ℕ, ◌+◌, ◌<◌, ◌≤◌}
use mathlib.Core.Path.{◌≡◌, refl, sym, ap, ◌∙◌}
use mathlib.Core.Logic.{◌⊎◌, inl, inr, ⊎_elim}
use mathlib.Core.Bool.{Bool, true, false, ◌&&◌, not}
use mathlib.Core.List.{List, [], ◌∷◌}
use native.Mathlib.Nat.{not-suc-le-zero}
use native.Mathlib.Omega.{arith}
use lib.Dec.{ltb}
use lib.ListN.{length, set}
use lib.Seq.{get_or-set_same, get_or-set_other}
use borrow.Author.Tests.{ltb-true, lt-ltb, not-true}
use borrow.Author.Count.{below_more}
use Rattle.layout.specs.declared.node.Expression.{Expression}
use Rattle.layout.specs.declared.node.Expression.TheVariants.{Base, Extension, Challenge, Operation, Input}
use Rattle.layout.specs.Lists.{any}
use Rattle.layout.specs.Words.{used, expression_at}
use Rattle.layout.specs.Tree.{tree_over, tree}
use Rattle.layout.specs.NotCircuit.{not_circuit}
use Rattle.layout.proofs.Tests.{neither, below_or, last_or}
use Rattle.layout.proofs.Lists.{clash, and-true, and_both}
use Rattle.layout.proofs.Valid.{valid_operands, valid_ends}
use Rattle.layout.proofs.Trees.{tree_fixed}
use Rattle.walking.specs.Paths.{walk}
use Rattle.circuit.specs.Rank.{at}
use Rattle.circuit.specs.Walk.{Unfinished, Visiting, Falls, Further, Visited}
use Rattle.circuit.proofs.Marks.{finished_le}
use Rattle.circuit.proofs.Visits.{ranking_start}
use Rattle.circuit.proofs.Checks.{known_walkable}
use Rattle.filling.proofs.Values.{any-split}
use Rattle.filler.specs.declared.plan.Shape.{Shape}
use Rattle.filler.specs.declared.plan.Source.TheVariants.{Item}
use Rattle.filler.specs.Planning.{source_of, Staged}
use Rattle.filler.specs.Ordering.{Targeted}
use Rattle.filler.specs.Ranking.{unread, Reached, Apart, ByRank}
use Rattle.filler.proofs.Inputs.{unread_later, item_filled, word_within, wide_within, base_fresh, inside_row, target_clear}

-- A TEST OF ALL THAT LIES BELOW

-- a node, and no node at or below it passes
unfoldable clean : List ℕ → (Expression → Bool) → ℕ → Bool
clean m p j = ltb j (used m) && not (any (λ i. p (expression_at m i)) (walk (tree m j)))

module _ (m : List ℕ) (valid : not_circuit m ≡ false) (p : Expression → Bool) where
  abbrev passes : ℕ → Bool
  passes i = p (expression_at m i)

  clean_of : (j : ℕ) → j < used m → any passes (walk (tree m j)) ≡ false → clean m p j ≡ true
  unfolding clean
  clean_of j l h = and_both (ltb j (used m)) (not (any passes (walk (tree m j)))) (lt-ltb j (used m) l) (ap not h)

  clean_parts : (j : ℕ) → clean m p j ≡ true → (j < used m) × (any passes (walk (tree m j)) ≡ false)
  unfolding clean
  clean_parts j h = let (a, b) = and-true (ltb j (used m)) (not (any passes (walk (tree m j)))) h in (ltb-true j (used m) a, not-true (any passes (walk (tree m j))) b)

  -- by the node's expression
  over : (j : ℕ) → clean m p j ≡ true → (e : Expression) → expression_at m j ≡ e → any passes (walk (tree_over j e (tree m))) ≡ false
  over j h e q = let (l, n) = clean_parts j h in ap (λ (x : Expression). any passes (walk (tree_over j x (tree m)))) (sym q) ∙ sym (ap (λ t. any passes (walk t)) (tree_fixed m valid j l)) ∙ n

  clean_falls : Falls m (clean m p)
  unfolding any walk
  clean_falls i o l r h e =
      let (x, y) = any-split passes (walk (tree m l)) (i ∷ walk (tree m r)) (over i h (Operation o l r) e) in
      let (a, b) = valid_operands m valid i (clean_parts i h).0 o l r e in
      (clean_of l a x, clean_of r b (neither (passes i) (any passes (walk (tree m r))) y).1)

  -- the node itself is among them
  clean_here : (j : ℕ) → clean m p j ≡ true → p (expression_at m j) ≡ false
  unfolding any walk
  clean_here j h = go (expression_at m j) refl
    where
      only : any passes (j ∷ []) ≡ false → p (expression_at m j) ≡ false
      only k = (neither (passes j) false k).0

      go : (e : Expression) → expression_at m j ≡ e → p (expression_at m j) ≡ false
      go (Base w) e = only (over j h (Base w) e)
      go (Extension x) e = only (over j h (Extension x) e)
      go (Challenge k) e = only (over j h (Challenge k) e)
      go (Operation o l r) e = (neither (passes j) (any passes (walk (tree m r))) (any-split passes (walk (tree m l)) (j ∷ walk (tree m r)) (over j h (Operation o l r) e)).1).0
      go (Input q) e = only (over j h (Input q) e)

-- THE LOOP OVER THE EXPRESSIONS

pub record Reaching (s : Shape) (c : ℕ) (m targets rank₀ rank : List ℕ) (done k : ℕ) : Type 0 where
  pub same_length : length rank ≡ length rank₀
  pub reached : Reached s c m targets rank done k

pub reaching_start : (s : Shape) (c : ℕ) (m targets rank : List ℕ) → Unfinished rank (used m) → Reaching s c m targets rank rank 0 0
unfolding Unfinished
reaching_start s c m targets rank u = record {
  same_length = refl;
  reached = record {
    walking = (ranking_start m rank u).walking;
    so_far = λ i l. absurd (not-suc-le-zero l);
    reads = λ j l h. absurd (let e = u j l in omega arith);
    item-first = λ j i l h e. absurd (let e = u j l in omega arith);
  };
}

module _ (s : Shape) (c : ℕ) (m targets rank₀ rank : List ℕ) (done k : ℕ) (t : Targeted s c m targets) (x : Reaching s c m targets rank₀ rank done k) (here : k < s.items) where
  pub reaching_visit : 4096 ≤ length rank₀ → Visiting m rank (at targets k) done
  reaching_visit r = let q = x.same_length in record { able = known_walkable m rank t.valid (omega arith); here = t.below k here; walking = x.reached.walking }

  -- paths of a circuit end
  pub visit_ends : (rank' : List ℕ) (answer : Option ℕ) → Visited m rank rank' (at targets k) (used m) answer → IsSome answer
  visit_ends rank' None v = clash _ (v.goes_on refl) (valid_ends m t.valid (at targets k) (t.below k here))
  visit_ends rank' (Some more) v = refl

  module _ (rank' : List ℕ) (more : ℕ) (v : Further m rank rank' (at targets k) more) where
    -- a node finished now, or before
    clear_or : (j : ℕ) → at rank' j < used m → (at rank j < used m) ⊎ (unread s c k (expression_at m j) ≡ false)
    clear_or j h =
        let f = clean_falls m t.valid (unread s c k) in
        let g = clean_of m t.valid (unread s c k) (at targets k) (t.below k here) (target_clear s c m targets t k here) in
        ⊎_elim inl (λ e. inr (clean_here m t.valid (unread s c k) j e)) (v.below (clean m (unread s c k)) f g j h)

    -- the ranks so far are all taken
    rank_later : (j : ℕ) → j < used m → used m ≤ at rank j → at rank' j < used m → done ≤ at rank' j
    rank_later j l u h = ⊎_elim (λ b. absurd (no b)) (λ b. b) (below_or (at rank' j) done)
      where
        no : at rank' j < done → ⊥
        no b =
            let y = x.reached.walking.taken (at rank' j) b in
            let e = y.is in
            let f = v.kept y.id (omega arith) in
            let g : j ≡ y.id = v.walking.alone j y.id l y.below h (omega arith) in
            let i : at rank j ≡ at rank y.id = ap (at rank) g in
            omega arith

    kept_target : (i : ℕ) → i < k → at rank' (at targets i) ≡ at rank (at targets i)
    kept_target i l = v.kept (at targets i) (x.reached.so_far i l)

    -- an item's expression was finished before
    first : (j i : ℕ) → j < used m → at rank' j < used m → source_of s (expression_at m j) ≡ Item i → at rank' (at targets i) < at rank' j
    first j i l h e = ⊎_elim old new (below_or (at rank j) (used m))
      where
        old : at rank j < used m → at rank' (at targets i) < at rank' j
        old b =
            let f = x.reached.item-first j i l b e in
            let a = v.kept j b in
            let d = kept_target i (item_filled s c k (expression_at m j) (x.reached.reads j l b) i e) in
            omega arith

        new : used m ≤ at rank j → at rank' (at targets i) < at rank' j
        new b =
            let u : unread s c k (expression_at m j) ≡ false = ⊎_elim (λ a. absurd (omega arith)) (λ a. a) (clear_or j h) in
            let n = item_filled s c k (expression_at m j) u i e in
            let d = kept_target i n in
            let f = x.reached.walking.before (at targets i) (t.below i (omega arith)) (x.reached.so_far i n) in
            let g = rank_later j l b h in
            omega arith

    pub reaching_next : length rank' ≡ length rank → Reaching s c m targets rank₀ rank' more (k + 1)
    reaching_next q = record {
      same_length = q ∙ x.same_length;
      reached = record {
        walking = v.walking;
        so_far = below_more (λ (i : ℕ). at rank' (at targets i) < used m) k (λ i l. let e = kept_target i l in let h = x.reached.so_far i l in omega arith) v.here;
        reads = λ j l h. unread_later s c k (expression_at m j) (⊎_elim (λ b. x.reached.reads j l b) (λ e. e) (clear_or j h));
        item-first = first;
      };
    }

-- THE LIST BY RANKS

pub by_rank_next : (order rank : List ℕ) (n i : ℕ) → Apart rank n → i < n → at rank i < n → n ≤ length order → ((j : ℕ) → j < i → at rank j < n → at order (at rank j) ≡ j) → (j : ℕ) → j < i + 1 → at rank j < n → at (set order (at rank i) i) (at rank j) ≡ j
unfolding Apart
by_rank_next order rank n i p l a s h j k b =
    ⊎_elim
    (λ e. rw e (get_or-set_same order (at rank i) i 0 (omega arith)))
    (λ lt. get_or-set_other order (at rank i) (at rank j) i 0 (λ e. let q : j ≡ i = p j i (omega arith) l b e in omega arith) ∙ h j lt b)
    (last_or j i (omega arith))

pub by_rank_skip : (order rank : List ℕ) (n i : ℕ) → n ≤ at rank i → ((j : ℕ) → j < i → at rank j < n → at order (at rank j) ≡ j) → (j : ℕ) → j < i + 1 → at rank j < n → at order (at rank j) ≡ j
by_rank_skip order rank n i a h j k b =
    ⊎_elim (λ e. let f : at rank j ≡ at rank i = ap (at rank) e in absurd (omega arith)) (λ lt. h j lt b) (last_or j i (omega arith))

-- BOTH

pub reached_apart : (s : Shape) (c : ℕ) (m targets rank : List ℕ) (done k : ℕ) → Reached s c m targets rank done k → Apart rank (used m)
unfolding Apart
reached_apart s c m targets rank done k x = x.walking.alone

module _ (s : Shape) (c : ℕ) (m targets order rank : List ℕ) (done : ℕ) (t : Targeted s c m targets) (x : Reached s c m targets rank done s.items) (p : ByRank order rank (used m)) where
  few : done ≤ used m
  few = let e = x.walking.counted in let f = finished_le rank (used m) (used m) in omega arith

  -- who has rank q stands at q
  at_place : (q : ℕ) → q < done → (at order q < used m) × (at rank (at order q) ≡ q)
  unfolding ByRank
  at_place q l =
      let y = x.walking.taken q l in
      let f = few in
      let g = y.is in
      let e : at order q ≡ y.id = ap (at order) (sym y.is) ∙ p y.id y.below (omega arith) in
      (rw e y.below, rw e y.is)

  pub reached_staged : Staged s m targets order rank done
  unfolding ByRank
  reached_staged =
      let a = t.main_fits in
      let b = t.aux_fits in
      record {
        few = few;
        order_below = λ q l. (at_place q l).0;
        rank_order = λ q l. (at_place q l).1;
        order_rank = p;
        rank_done = x.walking.before;
        left_first = x.walking.left_first;
        right_first = x.walking.right_first;
        item_below = λ i k l h e. item_filled s c s.items (expression_at m i) (x.reads i l h) k e;
        item-first = x.item-first;
        item_fresh = λ i k l h e n. base_fresh s c m t.valid i l s.items k (x.reads i l h) e n;
        item_base = λ i k l h e n. t.main_base k (base_fresh s c m t.valid i l s.items k (x.reads i l h) e n);
        word_in = λ i k l h e. word_within s c m t.valid i l k (inside_row s c s.items (expression_at m i) (x.reads i l h)) (omega arith) e;
        wide_in = λ i k l h e. wide_within s c m t.valid i l k (inside_row s c s.items (expression_at m i) (x.reads i l h)) (omega arith) e;
        target_below = t.below;
        target_done = x.so_far;
      }

-- The laws of the walk that ranks the nodes: what finishing a node keeps, and what a visit gives at each of its ends. Assumes nothing.
use Rattle.std.specs.Prelude.{Option, None, Some}
use Rattle.std.proofs.lemmas.Option.{none-some, same_Some, some_pair_parts}
use mathlib.Core.Path.{◌≡◌, refl, sym, ap, ap₂, ◌∙◌}
use mathlib.Core.Logic.{inl, inr, ⊎_elim, ◌≢◌}
use mathlib.Core.Bool.{true, false, ◌||◌, not, false≢true}
use mathlib.Core.List.{List}
use Prim.Native.Nat.{ℕ, zero, suc, ◌+◌, ◌-◌, ◌<◌, ◌≤◌}
use native.Mathlib.Nat.{not-suc-le-zero}
use native.Mathlib.Omega.{arith}
use lib.ListN.{length, set}
use lib.Seq.{get_or-set_same, get_or-set_other}
use Rattle.layout.specs.declared.node.Op.{Op}
use Rattle.layout.specs.declared.node.Expression.{Expression}
use Rattle.layout.specs.declared.node.Expression.TheVariants.{Base, Extension, Challenge, Operation, Input}
use Rattle.layout.specs.Lists.{up_to, any}
use Rattle.layout.specs.Words.{used, offset, expression_at}
use Rattle.layout.specs.NotCircuit.{bad_node, either_operand, goes_on, cyclic}
use Rattle.circuit.specs.Rank.{at}
use Rattle.circuit.specs.Walk.{step_of, Unfinished, Taken, Walking, Walkable, Visiting, Below, Further, Visited, Ranked, Walked}
use Rattle.layout.proofs.Tests.{or-false, or_right, any_at, any_one, any_none, same_or, below_or, last_or}
use Rattle.layout.proofs.Valid.{header_top, header_room, header_fits, node_operands}
use Rattle.circuit.proofs.Marks.{finished_lt, finished_all, finished_none, finished_set}

-- what the step says of the expression

-- an operation of the two operands
pub record TwoOperands (e : Expression) (a b : ℕ) : Type 0 where
  pub op : Op
  pub is : e ≡ Operation op a b

pub two_operands : (e : Expression) (a b : ℕ) → step_of e ≡ Some (a, b) → TwoOperands e a b
two_operands (Base w) a b h = let z : ◌≡◌ {A = ℕ} 0 1 = cc in absurd (omega arith)
two_operands (Extension x) a b h = let z : ◌≡◌ {A = ℕ} 0 1 = cc in absurd (omega arith)
two_operands (Challenge k) a b h = let z : ◌≡◌ {A = ℕ} 0 1 = cc in absurd (omega arith)
two_operands (Operation o l r) a b h = record { op = o; is = let p = some_pair_parts _ _ _ _ h in ap₂ (Operation o) p.0 p.1 }
two_operands (Input q) a b h = let z : ◌≡◌ {A = ℕ} 0 1 = cc in absurd (omega arith)

-- where a visit reads

pub record Room (m rank : List ℕ) (i : ℕ) : Type 0 where
  pub small : i < 4096
  pub in_rank : i < length rank
  pub has_header : 2 ≤ length m
  pub fits : offset i + 6 ≤ length m

pub visit_room : (m rank : List ℕ) (i done : ℕ) → Visiting m rank i done → Room m rank i
visit_room m rank i done v =
    let h = v.here in
    let t = header_top m v.able.header in
    let k = v.able.room in
    record {
      small = omega arith;
      in_rank = omega arith;
      has_header = (header_room m v.able.header).0;
      fits = header_fits m i v.able.header h;
    }

-- how a visit ends

pub visit_finds : (m rank rank' : List ℕ) (i levels k : ℕ) → Further m rank rank' i k → Visited m rank rank' i levels (Some k)
visit_finds m rank rank' i levels k f = record {
  further = λ j e. rw (same_Some k j e) at f;
  goes_on = λ e. absurd (none-some k (sym e));
}

pub visit_fails : (m rank rank' : List ℕ) (i levels : ℕ) → goes_on m levels i ≡ true → Visited m rank rank' i levels None
visit_fails m rank rank' i levels g = record { further = λ k e. absurd (none-some k e); goes_on = λ _. g }

-- the operands of a node, if it has any, are finished
abbrev Ready : List ℕ → List ℕ → ℕ → Type 0
Ready m rank i = (o : Op) (l r : ℕ) → expression_at m i ≡ Operation o l r → (at rank l < used m) × (at rank r < used m)

-- a node finished, whose operands are

module _ (m rank : List ℕ) (i done : ℕ) (v : Visiting m rank i done) (unfinished : used m ≤ at rank i) where
  finish_room : done < used m
  finish_room = let c = v.walking.counted in let f = finished_lt rank (used m) (used m) i v.here unfinished in omega arith

  -- the next number fits
  pub finish_small : done < 4096
  finish_small = let f = finish_room in let t = header_top m v.able.header in omega arith

  rank_here : at (set rank i done) i ≡ done
  rank_here = get_or-set_same rank i done 0 (visit_room m rank i done v).in_rank

  -- a finished node is another, and keeps its rank
  rank_kept : (j : ℕ) → at rank j < used m → at (set rank i done) j ≡ at rank j
  rank_kept j h = get_or-set_other rank i j done 0 (λ e. let q : at rank j ≡ at rank i = ap (at rank) e in omega arith)

  rank_other : (j : ℕ) → j ≢ i → at (set rank i done) j ≡ at rank j
  rank_other j n = get_or-set_other rank i j done 0 n

  -- a node finished now, or before
  by_node : (P : ℕ → Type 0) → P i → ((j : ℕ) → j < used m → at rank j < used m → P j) → (j : ℕ) → j < used m → at (set rank i done) j < used m → P j
  by_node P here others j l h = ⊎_elim (λ e. rw e here) (λ n. others j l (rw (rank_other j n) at h)) (same_or j i)

  first_here : (x : ℕ) → x < used m → at rank x < used m → at (set rank i done) x < at (set rank i done) i
  first_here x l h = rw (rank_here, rank_kept x h) (v.walking.before x l h)

  first_other : (j x : ℕ) → at rank j < used m → at rank x < at rank j → at (set rank i done) x < at (set rank i done) j
  first_other j x h k = rw (rank_kept j h, rank_kept x (omega arith)) k

  operands : (o : Op) (l r : ℕ) → expression_at m i ≡ Operation o l r → (l < used m) × (r < used m)
  operands = node_operands m i (any_at (bad_node m) (used m) i v.here v.able.good)

  -- no other has the rank that is given
  given_alone : (j : ℕ) → j < used m → j ≢ i → at rank j ≡ done → ⊥
  given_alone j l n e = let f = finish_room in let b = v.walking.before j l (omega arith) in omega arith

  finish_alone : (j k : ℕ) → j < used m → k < used m → at (set rank i done) j < used m → at (set rank i done) j ≡ at (set rank i done) k → j ≡ k
  finish_alone j k l l' h e =
      ⊎_elim
      (λ p. ⊎_elim (λ q. p ∙ sym q) (λ n. absurd (given_alone k l' n (sym (rank_other k n) ∙ sym e ∙ ap (at (set rank i done)) p ∙ rank_here))) (same_or k i))
      (λ n. ⊎_elim
      (λ q. absurd (given_alone j l n (sym (rank_other j n) ∙ e ∙ ap (at (set rank i done)) q ∙ rank_here)))
      (λ n'. v.walking.alone j k l l' (rw (rank_other j n) at h) (sym (rank_other j n) ∙ e ∙ rank_other k n'))
      (same_or k i))
      (same_or j i)

  finish_taken : (q : ℕ) → q < done + 1 → Taken (set rank i done) (used m) q
  finish_taken q l =
      ⊎_elim
      (λ e. record { id = i; below = v.here; is = rank_here ∙ sym e })
      (λ lt. let t = v.walking.taken q lt in let f = finish_room in let e = t.is in record { id = t.id; below = t.below; is = rank_kept t.id (omega arith) ∙ e })
      (last_or q done (omega arith))

  finish_walking : Ready m rank i → Walking m (set rank i done) (done + 1)
  finish_walking ready =
      let w = v.walking in
      let f = finish_room in
      let s = (visit_room m rank i done v).in_rank in
      record {
        counted = finished_set rank (used m) i done (used m) v.here s unfinished f ∙ ap (λ (k : ℕ). k + 1) w.counted;
        before = by_node (λ j. at (set rank i done) j < done + 1) (rw rank_here (omega arith)) (λ j l k. rw (rank_kept j k) (let b = w.before j l k in omega arith));
        alone = finish_alone;
        taken = finish_taken;
        left_first = λ j o l r k x e. by_node (λ j. expression_at m j ≡ Operation o l r → at (set rank i done) l < at (set rank i done) j) (λ e. first_here l (operands o l r e).0 (ready o l r e).0) (λ j k x e. first_other j l x (w.left_first j o l r k x e)) j k x e;
        right_first = λ j o l r k x e. by_node (λ j. expression_at m j ≡ Operation o l r → at (set rank i done) r < at (set rank i done) j) (λ e. first_here r (operands o l r e).1 (ready o l r e).1) (λ j k x e. first_other j r x (w.right_first j o l r k x e)) j k x e;
      }

  -- the end of a visit that began at rank₀, and since then kept what was finished
  pub finish_visit : (rank₀ : List ℕ) (levels : ℕ) → ((j : ℕ) → at rank₀ j < used m → at rank j ≡ at rank₀ j) → Below m rank₀ rank i → Ready m rank i → Visited m rank₀ (set rank i done) i levels (Some (done + 1))
  finish_visit rank₀ levels kept₀ below₀ ready = visit_finds m rank₀ (set rank i done) i levels (done + 1) (record {
    walking = finish_walking ready;
    kept = λ j h. let e = kept₀ j h in rank_kept j (omega arith) ∙ e;
    here = rw rank_here finish_room;
    last = inr (rw rank_here);
    below = λ t f g j h. ⊎_elim (λ e. inr (rw e g)) (λ n. below₀ t f g j (rw (rank_other j n) at h)) (same_or j i);
  })

-- the other ends of a visit

-- nothing was finished
pub none_below : (m rank : List ℕ) (i : ℕ) → Below m rank rank i
none_below m rank i t f g j h = inl h

pub visit_known : (m rank : List ℕ) (i levels done : ℕ) → Visiting m rank i done → at rank i < used m → Visited m rank rank i levels (Some done)
visit_known m rank i levels done v h = visit_finds m rank rank i levels done (record {
  walking = v.walking;
  kept = λ j k. refl;
  here = h;
  last = inl refl;
  below = none_below m rank i;
})

pub out_of_levels : (m : List ℕ) (i levels : ℕ) → levels ≡ 0 → goes_on m levels i ≡ true
unfolding goes_on
out_of_levels m i levels z = rw z

pub able_kept : (m rank rank' : List ℕ) → Walkable m rank → length rank' ≡ length rank → Walkable m rank'
able_kept m rank rank' w q = let b = w.room in record { header = w.header; good = w.good; room = omega arith }

-- a node that stays has no operands to wait for
pub stay_ready : (m rank : List ℕ) (i : ℕ) → step_of (expression_at m i) ≡ None → Ready m rank i
stay_ready m rank i s o l r e = let h : ◌≡◌ {A = Option (ℕ × ℕ)} (Some (l, r)) None = sym (ap step_of e) ∙ s in let z : ◌≡◌ {A = ℕ} 0 1 = cc in absurd (omega arith)

module _ (m rank : List ℕ) (i done : ℕ) (v : Visiting m rank i done) (a b : ℕ) (s : step_of (expression_at m i) ≡ Some (a, b)) where
  is_two : TwoOperands (expression_at m i) a b
  is_two = two_operands (expression_at m i) a b s

  two_below : (a < used m) × (b < used m)
  two_below = let t = is_two in node_operands m i (any_at (bad_node m) (used m) i v.here v.able.good) t.op a b t.is

  pub visit_left : Visiting m rank a done
  visit_left = record { able = v.able; here = two_below.0; walking = v.walking }

  -- a path from an operand is one from the node
  goes_either : (levels : ℕ) → levels ≢ 0 → (goes_on m (levels - 1) a || goes_on m (levels - 1) b) ≡ true → goes_on m levels i ≡ true
  unfolding goes_on
  goes_either zero n h = absurd (n refl)
  goes_either (suc levels) n h = rw is_two.is (let e : suc levels - 1 ≡ levels = omega arith in rw e at h)

  pub goes_left : (levels : ℕ) → levels ≢ 0 → goes_on m (levels - 1) a ≡ true → goes_on m levels i ≡ true
  goes_left levels n h = goes_either levels n (rw h)

  pub goes_right : (levels : ℕ) → levels ≢ 0 → goes_on m (levels - 1) b ≡ true → goes_on m levels i ≡ true
  goes_right levels n h = goes_either levels n (or_right (goes_on m (levels - 1) a) _ h)

  module _ (rank₁ : List ℕ) (left : ℕ) (q : length rank₁ ≡ length rank) (x : Further m rank rank₁ a left) where
    pub visit_right : Visiting m rank₁ b left
    visit_right = record { able = able_kept m rank rank₁ v.able q; here = two_below.1; walking = x.walking }

    module _ (rank₂ : List ℕ) (both : ℕ) (q₂ : length rank₂ ≡ length rank₁) (y : Further m rank₁ rank₂ b both) where
      pub visit_node : Visiting m rank₂ i both
      visit_node = record { able = able_kept m rank₁ rank₂ visit_right.able q₂; here = v.here; walking = y.walking }

      -- the node itself isn't finished meanwhile: it would be after its operand, and the operand is the last
      pub still_unfinished : used m ≤ at rank i → used m ≤ at rank₂ i
      still_unfinished u = ⊎_elim (λ h. absurd (no h)) (λ h. h) (below_or (at rank₂ i) (used m))
        where
          t : TwoOperands (expression_at m i) a b
          t = is_two

          no_left : at rank₁ i < used m → ⊥
          no_left h =
              let w = x.walking in
              ⊎_elim
              (λ e. let c : at rank₁ i ≡ at rank i = ap (λ (k : List ℕ). at k i) e in omega arith)
              (λ e. let f = w.left_first i t.op a b v.here h t.is in let g = w.before i v.here h in omega arith)
              x.last

          no : at rank₂ i < used m → ⊥
          no h =
              let w = y.walking in
              ⊎_elim
              (λ e. let c : at rank₂ i ≡ at rank₁ i = ap (λ (k : List ℕ). at k i) e in no_left (omega arith))
              (λ e. let f = w.right_first i t.op a b v.here h t.is in let g = w.before i v.here h in omega arith)
              y.last

      pub two_kept : (j : ℕ) → at rank j < used m → at rank₂ j ≡ at rank j
      two_kept j h = let e = x.kept j h in y.kept j (omega arith) ∙ e

      pub two_low : Below m rank rank₂ i
      two_low t f g j h =
          let two = is_two in
          let (ga, gb) = f i two.op a b g two.is in
          ⊎_elim (λ k. x.below t f ga j k) inr (y.below t f gb j h)

      pub two_ready : Ready m rank₂ i
      two_ready o l r e =
          let h : ◌≡◌ {A = Option (ℕ × ℕ)} (Some (l, r)) (Some (a, b)) = sym (ap step_of e) ∙ s in
          let f : l ≡ a = (some_pair_parts _ _ _ _ h).0 in
          let g : r ≡ b = (some_pair_parts _ _ _ _ h).1 in
          let c = y.kept a x.here in
          let d = x.here in
          let n = y.here in
          (rw f (omega arith), rw g n)

      -- after both operands the node is finished
      pub two_small : used m ≤ at rank i → both < 4096
      two_small u = finish_small m rank₂ i both visit_node (still_unfinished u)

      pub finish_two : (levels : ℕ) → used m ≤ at rank i → Visited m rank (set rank₂ i both) i levels (Some (both + 1))
      finish_two levels u = finish_visit m rank₂ i both visit_node (still_unfinished u) rank levels two_kept two_low two_ready

-- the walk over all nodes

walk_start : (m rank : List ℕ) → Unfinished rank (used m) → Walking m rank 0
unfolding Unfinished
walk_start m rank u = record {
  counted = finished_none rank (used m) (used m) (λ i l. let e = u i l in omega arith);
  before = λ i l h. absurd (let e = u i l in omega arith);
  alone = λ i j l k h e. absurd (let e = u i l in omega arith);
  taken = λ q l. absurd (not-suc-le-zero l);
  left_first = λ i o l r k h e. absurd (let x = u i k in omega arith);
  right_first = λ i o l r k h e. absurd (let x = u i k in omega arith);
}

-- nodes below i are visited
pub record Ranking (m rank₀ rank : List ℕ) (done i : ℕ) : Type 0 where
  pub within : i ≤ used m
  pub same_length : length rank ≡ length rank₀
  pub walking : Walking m rank done
  pub so_far : (j : ℕ) → j < i → at rank j < used m

pub ranking_start : (m rank : List ℕ) → Unfinished rank (used m) → Ranking m rank rank 0 0
ranking_start m rank u = record {
  within = omega arith;
  same_length = refl;
  walking = walk_start m rank u;
  so_far = λ j l. absurd (not-suc-le-zero l);
}

module _ (m rank₀ rank : List ℕ) (done i : ℕ) (k : Ranking m rank₀ rank done i) (here : i < used m) where
  pub ranking_visit : Walkable m rank₀ → Visiting m rank i done
  ranking_visit a = record { able = able_kept m rank₀ rank a k.same_length; here = here; walking = k.walking }

-- the ends of the walk

module _ (m rank : List ℕ) (good : any (bad_node m) (up_to (used m)) ≡ false) (s : Ranked m rank) where
  -- a path falls in rank
  ends : (levels i : ℕ) → i < used m → at rank i < levels → goes_on m levels i ≡ false
  unfolding goes_on
  ends zero i l h = absurd (not-suc-le-zero h)
  ends (suc levels) i l h = go (ends levels) (expression_at m i) refl
    where
      go : ((j : ℕ) → j < used m → at rank j < levels → goes_on m levels j ≡ false) → (e : Expression) → expression_at m i ≡ e → either_operand (goes_on m levels) e ≡ false
      go rec (Base w) q = refl
      go rec (Extension x) q = refl
      go rec (Challenge k) q = refl
      go rec (Operation o a b) q =
          let n = node_operands m i (any_at (bad_node m) (used m) i l good) o a b q in
          let f = s.walking.left_first i o a b l (s.all i l) q in
          let g = s.walking.right_first i o a b l (s.all i l) q in
          or-false (goes_on m levels a) (goes_on m levels b) (rec a n.0 (omega arith)) (rec b n.1 (omega arith))
      go rec (Input q) e = refl

  ranked_acyclic : cyclic m ≡ false
  unfolding cyclic
  ranked_acyclic = any_none (goes_on m (used m)) (used m) (λ i l. ends (used m) i l (s.all i l))

pub walk_fails : (m rank : List ℕ) (i : ℕ) → i < used m → goes_on m (used m) i ≡ true → Walked m rank false
unfolding cyclic
walk_fails m rank i l g = record {
  told = ap not (sym (any_one (goes_on m (used m)) (used m) i l g));
  ranked = λ e. absurd (false≢true e);
}

pub walk_done : (m rank : List ℕ) (done : ℕ) → any (bad_node m) (up_to (used m)) ≡ false → Walking m rank done → ((i : ℕ) → i < used m → at rank i < used m) → Walked m rank true
walk_done m rank done good w all =
    let e : done ≡ used m = sym w.counted ∙ finished_all rank (used m) (used m) all in
    let r : Ranked m rank = record { walking = rw e at w; all = all } in
    record { told = ap not (sym (ranked_acyclic m rank good r)); ranked = λ _. r }

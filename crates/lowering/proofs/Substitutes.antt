-- One substitution of the definitions is one step of the theory. Assumes nothing.
use Rattle.std.specs.Prelude.{if◌then◌else◌, Option, None, Some}
use Prim.Native.Nat.{ℕ, suc, ◌+◌, ◌*◌, ◌≤◌, ◌<◌}
use mathlib.Core.Path.{◌≡◌, refl, sym, ◌∙◌, ap, ap₂}
use mathlib.Core.Logic.{◌≢◌, ◌⊎◌, inl, inr, ⊎_elim}
use mathlib.Core.Bool.{Bool, true, false, ◌&&◌}
use mathlib.Core.List.{List, [], ◌∷◌, ◌++◌, map}
use native.Mathlib.Decide.{ℕ_discrete, dec_lt}
use native.Mathlib.Omega.{arith}
use lib.ListN.{length, get_or}
use borrow.Author.Tests.{le-ltb}
use Rattle.arithmetic.specs.Base.{minus_one}
use Rattle.layout.specs.declared.node.Position.{Position}
use Rattle.layout.specs.declared.node.Position.TheVariants.{Main, Aux}
use Rattle.layout.specs.declared.node.Expression.TheVariants.{Input}
use Rattle.layout.specs.declared.node.Node.{Node}
use Rattle.layout.specs.Words.{used, node_at, registered, column, made, is_main, is_next}
use Rattle.layout.specs.Tree.{base_leaf, input_leaf, Tree, leaf, branch, tree}
use Rattle.building.specs.Building.{Built, built, find, or_else, find_or_make, subtracted}
use Rattle.reading.specs.Readings.{is_base}
use Rattle.lowering.specs.Lowering.{renamed, redirected, Lowering, substituted}
use Rattle.lowering.proofs.Shape.{Expr, leaf_e, Shape, lf, shape, Unf, sub, deg, base_s}
use Rattle.lowering.proofs.Steps.{Move, redir_e, Stepped}
use Rattle.lowering.proofs.Unfold.{one_tree}
use Rattle.lowering.proofs.OneStep.{tree_after, tree_stays}
use Rattle.lowering.proofs.Count.{unf_some}
use Rattle.lowering.proofs.Words.{look, look_lt, Sound}
use Rattle.lowering.proofs.Proper.{Proper, made_proper, redirected_proper}
use Rattle.lowering.proofs.Made.{made_row, made_used, made_length, made_old, made_mark, look_made_old, look_made_new, look_made_back}
use Rattle.lowering.proofs.Redirects.{redirected_used, redirected_room, redirected_row, redirected_length, redirected_loose, redirected_count, redirected_mark, redirected_kept, redirected_turned, redirected_leaf}
use Rattle.lowering.proofs.Finds.{found, Grew, unf_back, made_sound}
use Rattle.lowering.proofs.Constraints.{Difference, HasMinus, operation_at, subtracted_got}

-- the base test on a shape
pub base_shape : (t : Tree) → is_base t ≡ base_s (shape t)
unfolding is_base
base_shape (leaf i a) = refl
base_shape (branch i o l r) = ap₂ ◌&&◌ (base_shape l) (base_shape r)

-- one substitution of s, whose shape is u, by a new input at y, in a circuit that has no such input
module _ (m : List ℕ) (sound : Sound m) (s : ℕ) (u : Shape) (large : 3 ≤ deg u) (at-s : Unf (look m) u s) (y : Position) (fresh : (i : ℕ) → look m i ≢ Some (leaf_e (input_leaf y)))
    (kind : is_main y ≡ true → base_s u ≡ true) where
  -- the new input is made
  pub input_made : find_or_make m (Input y) ≡ built (made m (Input y)) (used m)
  unfolding find_or_make
  input_made = go (find m (Input y)) refl
    where
      go : (x : Option ℕ) → find m (Input y) ≡ x → or_else x m (built (made m (Input y)) (used m)) ≡ built (made m (Input y)) (used m)
      go (Some i) h = absurd (fresh i (found m sound (Input y) i h))
      go None h = refl

  pub one : List ℕ
  one = made m (Input y)

  pub one_is : one ≡ made m (Input y)
  unfolding one
  one_is = refl

  pub two : List ℕ
  two = redirected one s (used m)

  pub two_is : two ≡ redirected one s (used m)
  unfolding two
  two_is = refl

  pub three : Built
  three = subtracted two (used m) s

  pub three_is : three ≡ subtracted two (used m) s
  unfolding three
  three_is = refl

  pub one_sound : Sound one
  unfolding one
  one_sound = made_sound m sound (Input y) tt

  pub one_used : used one ≡ suc (used m)
  unfolding one
  one_used = made_used m (Input y) sound.room

  one_old : (i : ℕ) (e : Expr) → look m i ≡ Some e → look one i ≡ Some e
  unfolding one
  one_old i e h = look_made_old m (Input y) sound.room i (look_lt m i e h) ∙ h

  one_new : look one (used m) ≡ Some (leaf_e (input_leaf y))
  unfolding one
  one_new = look_made_new m (Input y) sound.room

  pub s_old : s < used m
  s_old = let (e, p) = unf_some (look m) u s at-s in look_lt m s e p

  s_used : s < used one
  s_used = omega (arith, s_old, one_used)

  pub move_two : Move (look m) (look two) s (used m) y u
  unfolding two
  move_two =
      record {
        chosen = at-s;
        fresh = fresh;
        old = λ i e h. redirected_kept s (used m) one one_sound.room s_used i e (one_old i e h);
        new = let (e, p, k) = redirected_kept s (used m) one one_sound.room s_used (used m) (leaf_e (input_leaf y)) one_new in p ∙ ap Some k;
      }

  pub two_used : used two ≡ suc (used m)
  unfolding two
  two_used = redirected_used s (used m) one one_sound.room s_used ∙ one_used

  two_room : 2 + 6 * used two ≤ length two
  unfolding two
  two_room = redirected_room s (used m) one one_sound.room s_used

  pub two_sound : Sound two
  two_sound = record { room = two_room; whole = λ i h. go i (omega (arith, two_used)) (ℕ_discrete i (used m)) }
    where
      go : (i : ℕ) → i < suc (used m) → Dec (i ≡ used m) → (t : Shape) × Unf (look two) t i
      go i h (yes p) = (lf (input_leaf y), rw p move_two.new)
      go i h (no q) =
          let (t, w) = sound.whole i (omega arith) in
          let (t', w', k) = tree_after move_two t i w in
          (t', w')

  two_s : Unf (look two) u s
  two_s = tree_stays move_two u s (omega arith) at-s

  difference : Difference two y u three
  unfolding three
  difference = subtracted_got two two_sound s u large two_s (used m) y move_two.new

  grew_three : Grew two three.circuit
  grew_three = difference.grew

  pub three_sound : Sound three.circuit
  three_sound = grew_three.sound

  pub one_mark : (i : ℕ) → i < used m → registered one i ≡ registered m i
  unfolding one
  one_mark i h = ap (λ (x : Node). x.registered) (made_old m (Input y) sound.room i h)

  pub two_mark : (i : ℕ) → i ≢ s → registered two i ≡ registered one i
  unfolding two
  two_mark i h = redirected_mark s (used m) one one_sound.room s_used i h

  pub two_loose : registered two s ≡ false
  unfolding two
  two_loose = redirected_loose s (used m) one one_sound.room s_used

  two_turned : (i : ℕ) (e : Expr) → registered m i ≡ true → i ≢ s → look m i ≡ Some e → look two i ≡ Some (redir_e s (used m) e)
  unfolding two
  two_turned i e g q h = redirected_turned s (used m) one one_sound.room s_used i e (one_mark i (look_lt m i e h) ∙ g) q (one_old i e h)

  new_mark : registered one (used m) ≡ true
  unfolding one
  new_mark = made_mark m (Input y) sound.room

  pub stepped : Stepped (look m) (look three.circuit) (λ i. registered m i) (λ i. registered three.circuit i) s (used m) y three.id u
  stepped =
      record {
        step =
            record {
              move =
                  record {
                    chosen = at-s;
                    fresh = fresh;
                    old = λ i e h. let (e', p, k) = move_two.old i e h in (e', grew_three.ext i e' p, k);
                    new = grew_three.ext (used m) (leaf_e (input_leaf y)) move_two.new;
                  };
              gap = difference.gap;
              large = large;
              kind = kind;
            };
        turned = λ i e g q h. grew_three.ext i (redir_e s (used m) e) (two_turned i e g q h);
        marks = λ i e p g q. grew_three.marks i (omega (arith, two_used, look_lt m i e p)) ∙ two_mark i q ∙ one_mark i (look_lt m i e p) ∙ g;
        mark_new = grew_three.marks (used m) (omega (arith, two_used)) ∙ two_mark (used m) (λ e. omega (arith, s_old)) ∙ new_mark;
      }

  -- marks are never set again, and the chosen node's is gone
  pub loose_after : (i : ℕ) → i < used m → registered m i ≡ false → registered three.circuit i ≡ false
  loose_after i h g = go (ℕ_discrete i s)
    where
      go : Dec (i ≡ s) → registered three.circuit i ≡ false
      go (yes e) = grew_three.marks i (omega (arith, two_used)) ∙ ap (λ (j : ℕ). registered two j) e ∙ two_loose
      go (no e) = grew_three.marks i (omega (arith, two_used)) ∙ two_mark i e ∙ one_mark i h ∙ g

  -- the counts stay
  pub count_after : (i : ℕ) → i < used m → (node_at three.circuit i).references ≡ (node_at m i).references
  unfolding two one
  count_after i h = grew_three.counts i (omega (arith, two_used)) ∙ redirected_count s (used m) one one_sound.room s_used i ∙ ap (λ (x : Node). x.references) (made_old m (Input y) sound.room i h)

  -- a registered node of the chosen one's shape is another node that was registered and had that shape
  pub twin : (i : ℕ) → registered three.circuit i ≡ true → Unf (look three.circuit) u i → (i ≢ s) × (registered m i ≡ true) × Unf (look m) u i
  twin i g w = go (dec_lt i (used m)) (dec_lt i (used two))
    where
      back : i < used two → Unf (look two) u i
      back h = unf_back two three.circuit two_sound grew_three u i h w

      other : i < used two → i ≢ s
      other h e =
          let k : registered two s ≡ true = sym (ap (λ (j : ℕ). registered two j) e) ∙ sym (grew_three.marks i h) ∙ g in
          let z : registered two s ≡ false = two_loose in
          let c : ◌≡◌ {A = ℕ} 0 1 = cc in
          omega arith

      -- what the new input stands for put back, the chosen node's shape is that shape
      chosen_same : sub y u u ≡ u
      chosen_same = let (t, v, e) = tree_after move_two u s at-s in ap (sub y u) (one_tree (look two) u t s two_s v) ∙ e

      go : Dec (i < used m) → Dec (i < used two) → (i ≢ s) × (registered m i ≡ true) × Unf (look m) u i
      go (yes h) d =
          let h₂ : i < used two = omega (arith, two_used) in
          let (t, v) = sound.whole i h in
          let (t', v', e) = tree_after move_two t i v in
          let z : t ≡ u = sym e ∙ ap (sub y u) (one_tree (look two) t' u i v' (back h₂)) ∙ chosen_same in
          (other h₂, sym (grew_three.marks i h₂ ∙ two_mark i (other h₂) ∙ one_mark i h) ∙ g, rw z at v)
      go (no h) (yes k) =
          let e : i ≡ used m = omega (arith, two_used) in
          let (o, l, r, p) = operation_at (look two) u i large (back k) in
          let q : look two i ≡ Some (leaf_e (input_leaf y)) = ap (look two) e ∙ move_two.new in
          absurd (let z : ◌≡◌ {A = ℕ} 0 1 = cc in omega arith)
      go (no h) (no k) = absurd (difference.bare i (omega arith) w)

  -- the row kind stays
  pub row_after : get_or three.circuit 0 0 ≡ get_or m 0 0
  unfolding one two
  row_after = grew_three.row ∙ redirected_row s (used m) one one_sound.room s_used ∙ made_row m (Input y) sound.room

  -- the only new input is the one at y
  pub inputs_after : (i : ℕ) (q : Position) → look three.circuit i ≡ Some (leaf_e (input_leaf q)) → (look m i ≡ Some (leaf_e (input_leaf q))) ⊎ (q ≡ y)
  unfolding one two
  inputs_after i q h =
      let k : look one i ≡ Some (leaf_e (input_leaf q)) = redirected_leaf s (used m) one one_sound.room s_used i (input_leaf q) (grew_three.inputs i q h) in
      ⊎_elim (λ z. inl z) (λ z. inr (let e : leaf_e (input_leaf q) ≡ leaf_e (input_leaf y) = z.1 in cc)) (look_made_back m (Input y) sound.room i (leaf_e (input_leaf q)) k)

  -- how many nodes it takes, and where they lie
  pub four_more : used three.circuit ≤ 4 + used m
  four_more = omega (arith, difference.few, two_used)

  minus_two : HasMinus m → HasMinus two
  minus_two (j, h, k) =
      let h₁ : look one j ≡ Some (leaf_e (base_leaf minus_one)) = one_old j (leaf_e (base_leaf minus_one)) h in
      let (e, p, q) = move_two.old j (leaf_e (base_leaf minus_one)) h in
      (j, p ∙ ap Some q, two_mark j other ∙ one_mark j (look_lt m j (leaf_e (base_leaf minus_one)) h) ∙ k)
    where
      other : j ≢ s
      other e =
          let (o, l, r, p) = operation_at (look m) u s large at-s in
          let h' : look m s ≡ Some (leaf_e (base_leaf minus_one)) = rw e at h in
          let z : ◌≡◌ {A = ℕ} 0 1 = cc in
          omega arith

  pub three_more : HasMinus m → used three.circuit ≤ 3 + used m
  three_more h = omega (arith, difference.then_few (minus_two h), two_used)

  pub has_minus : HasMinus three.circuit
  has_minus = difference.has

  pub two_more : suc (used m) ≤ used three.circuit
  two_more = omega (arith, grew_three.more, two_used)

  pub nodes_grow : used m ≤ used three.circuit
  nodes_grow = omega (arith, grew_three.more, two_used)

  pub one_proper : column y ≤ 65535 → is_next y ≡ false → Proper m → Proper one
  unfolding one
  one_proper c q h = made_proper m sound.room (Input y) (λ x e. let z : input_leaf y ≡ x = cc in rw (← z, le-ltb 65535 (column y) c, q)) h

  pub two_proper : Proper one → Proper two
  unfolding two
  two_proper h = redirected_proper s (used m) one one_sound.room s_used h

  -- it keeps what NOT_CIRCUIT asks, if the column is in bounds
  pub three_proper : column y ≤ 65535 → is_next y ≡ false → Proper m → Proper three.circuit
  three_proper c q h = grew_three.proper (two_proper (one_proper c q h))

  pub two_length : length two ≡ length one
  unfolding two
  two_length = redirected_length s (used m) one one_sound.room s_used

  pub one_length : 2 + 6 * suc (used m) ≤ length m → length one ≡ length m
  unfolding one
  one_length h = made_length m (Input y) sound.room h

  pub lies_in : 2 + 6 * used three.circuit ≤ length m → length three.circuit ≡ length m
  lies_in h =
      let e : length one ≡ length m = one_length (omega (arith, grew_three.more, two_used)) in
      grew_three.in_place (omega (arith, two_length)) ∙ two_length ∙ e

  -- the definition, with the new input made
  pub substituted_is : (mc ac : ℕ) (b : Bool) (x : Lowering) → x.circuit ≡ m → is_base (tree m s) ≡ b → (if b then Main (mc + length x.main) else Aux (ac + length x.aux)) ≡ y
      → substituted mc ac x s
      ≡ record {
        circuit = three.circuit;
        roots = map (renamed s (used m)) x.roots;
        main = x.main ++ (if b then three.id ∷ [] else []);
        aux = x.aux ++ (if b then [] else three.id ∷ []);
      }
  unfolding substituted three two one
  substituted_is mc ac b x h g e = rw (h, g, e, input_made)

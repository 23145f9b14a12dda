-- What holds before each substitution, and after one more. Assumes nothing.
use Rattle.std.specs.Prelude.{Some}
use Prim.Native.Nat.{ℕ, suc, ◌+◌, ◌*◌, ◌≤◌, ◌<◌}
use mathlib.Core.Path.{◌≡◌, refl, sym, ◌∙◌, ap, ap₂}
use mathlib.Core.Logic.{◌≢◌, ◌⊎◌, inl, inr}
use mathlib.Core.Bool.{Bool, true, false}
use mathlib.Core.List.{List, [], ◌∷◌, ◌++◌, map}
use native.Mathlib.Omega.{arith}
use lib.ListN.{length, get_or, length-append}
use Rattle.layout.specs.declared.node.Position.{Position}
use Rattle.layout.specs.declared.node.Position.TheVariants.{Main, Aux, NextMain, NextAux}
use Rattle.layout.specs.Words.{used, node_at, registered, column, is_main}
use Rattle.layout.specs.Tree.{input_leaf, tree}
use Rattle.reading.specs.Readings.{is_base}
use Rattle.lowering.specs.Lowering.{renamed, Lowering, too_high, candidates, best, substituted}
use Rattle.lowering.proofs.Shape.{leaf_e, Shape, Unf, base_s}
use Rattle.lowering.proofs.Steps.{Regs, Rooted, Choice, redir_id, Stepped}
use Rattle.lowering.proofs.Count.{rooted_after, regs_after}
use Rattle.lowering.proofs.Words.{look, Sound, shape_is}
use Rattle.lowering.proofs.Redirects.{renamed_is}
use Rattle.lowering.proofs.Constraints.{HasMinus}
use Rattle.lowering.proofs.Substitutes.{base_shape, three, three_sound, stepped, inputs_after, substituted_is, nodes_grow, three_proper, four_more, three_more, has_minus, lies_in, loose_after, count_after, twin, row_after}
use Rattle.lowering.proofs.Proper.{Proper}
use Rattle.lowering.proofs.Chooses.{best_choice}

-- a column that the lists of so many constraints have taken
abbrev pub Taken : ℕ → ℕ → Position → Type 0
Taken a b (Main c) = c < a
Taken a b (Aux c) = c < b
Taken a b (NextMain c) = c < a
Taken a b (NextAux c) = c < b

pub taken_more : (a b a' b' : ℕ) → a ≤ a' → b ≤ b' → (q : Position) → Taken a b q → Taken a' b' q
taken_more a b a' b' h k (Main c) t = omega arith
taken_more a b a' b' h k (Aux c) t = omega arith
taken_more a b a' b' h k (NextMain c) t = omega arith
taken_more a b a' b' h k (NextAux c) t = omega arith

-- what holds before each substitution
pub record State (mc ac : ℕ) (x : Lowering) : Type 0 where
  pub sound : Sound x.circuit
  pub rooted : Rooted (look x.circuit) x.roots
  pub regs : Regs (look x.circuit) (λ i. registered x.circuit i) x.roots
  pub columns : (i : ℕ) (q : Position) → look x.circuit i ≡ Some (leaf_e (input_leaf q)) → Taken (mc + length x.main) (ac + length x.aux) q

-- the new column and where its constraint goes
pub data Added (mc ac : ℕ) (x x₁ : Lowering) (y : Position) (q : ℕ) : Type 0 where
  to_main : y ≡ Main (mc + length x.main) → x₁.main ≡ x.main ++ (q ∷ []) → x₁.aux ≡ x.aux → Added mc ac x x₁ y q
  to_aux : y ≡ Aux (ac + length x.aux) → x₁.main ≡ x.main → x₁.aux ≡ x.aux ++ (q ∷ []) → Added mc ac x x₁ y q

pub record OneMore (T mc ac : ℕ) (x x₁ : Lowering) : Type 0 where
  pub s : ℕ
  pub n : ℕ
  pub q : ℕ
  pub y : Position
  pub u : Shape
  pub choice : Choice T (look x.circuit) x.roots s u
  pub chosen : s ≡ best (candidates T x.circuit x.roots)
  pub st : Stepped (look x.circuit) (look x₁.circuit) (λ i. registered x.circuit i) (λ i. registered x₁.circuit i) s n y q u
  pub to : x₁.roots ≡ map (redir_id s n) x.roots
  pub sound : Sound x₁.circuit
  pub inputs : (i : ℕ) (p : Position) → look x₁.circuit i ≡ Some (leaf_e (input_leaf p)) → (look x.circuit i ≡ Some (leaf_e (input_leaf p))) ⊎ (p ≡ y)
  pub added : Added mc ac x x₁ y q
  pub four_more : used x₁.circuit ≤ 4 + used x.circuit
  pub three_more : HasMinus x.circuit → used x₁.circuit ≤ 3 + used x.circuit
  pub has_minus : HasMinus x₁.circuit
  pub grows : used x.circuit ≤ used x₁.circuit
  pub lies_in : 2 + 6 * used x₁.circuit ≤ length x.circuit → length x₁.circuit ≡ length x.circuit
  pub proper : column y ≤ 65535 → Proper x.circuit → Proper x₁.circuit
  pub loose : (i : ℕ) → i < used x.circuit → registered x.circuit i ≡ false → registered x₁.circuit i ≡ false
  pub counts : (i : ℕ) → i < used x.circuit → (node_at x₁.circuit i).references ≡ (node_at x.circuit i).references
  pub twin : (i : ℕ) → registered x₁.circuit i ≡ true → Unf (look x₁.circuit) u i → (i ≢ s) × (registered x.circuit i ≡ true) × Unf (look x.circuit) u i
  pub row : get_or x₁.circuit 0 0 ≡ get_or x.circuit 0 0

renamed_all : (s n : ℕ) (rs : List ℕ) → map (renamed s n) rs ≡ map (redir_id s n) rs
renamed_all s n [] = refl
renamed_all s n (r ∷ rs) = ap₂ ◌∷◌ (renamed_is s n r) (renamed_all s n rs)

append_none : (xs : List ℕ) → xs ++ [] ≡ xs
append_none [] = refl
append_none (x ∷ xs) = ap (λ (l : List ℕ). x ∷ l) (append_none xs)

module _ (T mc ac : ℕ) (two : 2 ≤ T) where
  pub one_more : (x : Lowering) → State mc ac x → too_high T x.circuit x.roots ≡ true → OneMore T mc ac x (substituted mc ac x (best (candidates T x.circuit x.roots)))
  one_more x state high =
      let (u, ch) = best_choice T two x.circuit x.roots state.rooted high in
      go (best (candidates T x.circuit x.roots)) refl u ch (is_base (tree x.circuit (best (candidates T x.circuit x.roots)))) refl
    where
      go : (s : ℕ) → s ≡ best (candidates T x.circuit x.roots) → (u : Shape) → Choice T (look x.circuit) x.roots s u → (b : Bool) → is_base (tree x.circuit s) ≡ b → OneMore T mc ac x (substituted mc ac x s)
      go s z u ch true e =
          let m : List ℕ = x.circuit in
          let y : Position = Main (mc + length x.main) in
          let fresh : (i : ℕ) → look x.circuit i ≢ Some (leaf_e (input_leaf (Main (mc + length x.main)))) = λ i h. omega (arith, state.columns i (Main (mc + length x.main)) h) in
          let kind : is_main (Main (mc + length x.main)) ≡ true → base_s u ≡ true = λ h. ap base_s (sym (shape_is m u s ch.tree)) ∙ sym (base_shape (tree m s)) ∙ e in
          rw (substituted_is m state.sound s u ch.low ch.tree y fresh kind mc ac true x refl e refl)
          (record {
            s = s;
            n = used m;
            q = (three m state.sound s u ch.low ch.tree y fresh kind).id;
            y = y;
            u = u;
            choice = ch;
            chosen = z;
            st = stepped m state.sound s u ch.low ch.tree y fresh kind;
            to = renamed_all s (used m) x.roots;
            sound = three_sound m state.sound s u ch.low ch.tree y fresh kind;
            inputs = inputs_after m state.sound s u ch.low ch.tree y fresh kind;
            added = to_main refl refl (append_none x.aux);
            four_more = four_more m state.sound s u ch.low ch.tree y fresh kind;
            three_more = three_more m state.sound s u ch.low ch.tree y fresh kind;
            has_minus = has_minus m state.sound s u ch.low ch.tree y fresh kind;
            grows = nodes_grow m state.sound s u ch.low ch.tree y fresh kind;
            lies_in = lies_in m state.sound s u ch.low ch.tree y fresh kind;
            proper = λ w. three_proper m state.sound s u ch.low ch.tree y fresh kind w refl;
            loose = loose_after m state.sound s u ch.low ch.tree y fresh kind;
            counts = count_after m state.sound s u ch.low ch.tree y fresh kind;
            twin = twin m state.sound s u ch.low ch.tree y fresh kind;
            row = row_after m state.sound s u ch.low ch.tree y fresh kind;
          })
      go s z u ch false e =
          let m : List ℕ = x.circuit in
          let y : Position = Aux (ac + length x.aux) in
          let fresh : (i : ℕ) → look x.circuit i ≢ Some (leaf_e (input_leaf (Aux (ac + length x.aux)))) = λ i h. omega (arith, state.columns i (Aux (ac + length x.aux)) h) in
          let kind : is_main (Aux (ac + length x.aux)) ≡ true → base_s u ≡ true = λ h. absurd (let z : ◌≡◌ {A = ℕ} 0 1 = cc in omega arith) in
          rw (substituted_is m state.sound s u ch.low ch.tree y fresh kind mc ac false x refl e refl)
          (record {
            s = s;
            n = used m;
            q = (three m state.sound s u ch.low ch.tree y fresh kind).id;
            y = y;
            u = u;
            choice = ch;
            chosen = z;
            st = stepped m state.sound s u ch.low ch.tree y fresh kind;
            to = renamed_all s (used m) x.roots;
            sound = three_sound m state.sound s u ch.low ch.tree y fresh kind;
            inputs = inputs_after m state.sound s u ch.low ch.tree y fresh kind;
            added = to_aux refl (append_none x.main) refl;
            four_more = four_more m state.sound s u ch.low ch.tree y fresh kind;
            three_more = three_more m state.sound s u ch.low ch.tree y fresh kind;
            has_minus = has_minus m state.sound s u ch.low ch.tree y fresh kind;
            grows = nodes_grow m state.sound s u ch.low ch.tree y fresh kind;
            lies_in = lies_in m state.sound s u ch.low ch.tree y fresh kind;
            proper = λ w. three_proper m state.sound s u ch.low ch.tree y fresh kind w refl;
            loose = loose_after m state.sound s u ch.low ch.tree y fresh kind;
            counts = count_after m state.sound s u ch.low ch.tree y fresh kind;
            twin = twin m state.sound s u ch.low ch.tree y fresh kind;
            row = row_after m state.sound s u ch.low ch.tree y fresh kind;
          })

pub length_more : (xs ys : List ℕ) (q : ℕ) → ys ≡ xs ++ (q ∷ []) → length ys ≡ suc (length xs)
length_more xs ys q e = omega (arith, ap length e, length-append xs (q ∷ []))

pub state_after : (T mc ac : ℕ) (x x₁ : Lowering) → State mc ac x → OneMore T mc ac x x₁ → State mc ac x₁
state_after T mc ac x x₁ state one =
    record {
      sound = one.sound;
      rooted = rw one.to (rooted_after one.st x.roots state.rooted);
      regs = rw one.to (regs_after one.st x.roots state.regs state.rooted);
      columns = λ i q h. go one.added q (one.inputs i q h) (λ k. state.columns i q k);
    }
  where
    go : Added mc ac x x₁ one.y one.q → (p : Position) {A : Type 0} → A ⊎ (p ≡ one.y) → (A → Taken (mc + length x.main) (ac + length x.aux) p) → Taken (mc + length x₁.main) (ac + length x₁.aux) p
    go (to_main e a b) p (inl k) f =
        taken_more (mc + length x.main) (ac + length x.aux) (mc + length x₁.main) (ac + length x₁.aux) (omega (arith, length_more x.main x₁.main one.q a)) (omega (arith, ap length b)) p (f k)
    go (to_main e a b) p (inr k) f = rw (k ∙ e) (omega (arith, length_more x.main x₁.main one.q a))
    go (to_aux e a b) p (inl k) f =
        taken_more (mc + length x.main) (ac + length x.aux) (mc + length x₁.main) (ac + length x₁.aux) (omega (arith, ap length a)) (omega (arith, length_more x.aux x₁.aux one.q b)) p (f k)
    go (to_aux e a b) p (inr k) f = rw (k ∙ e) (omega (arith, length_more x.aux x₁.aux one.q b))

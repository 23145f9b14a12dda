-- Each substitution of a lowering keeps no two registered nodes alike, and every constraint (its new input) - (a node). Assumes nothing.
use Rattle.std.specs.Prelude.{Some}
use Prim.Native.Nat.{ℕ, suc, ◌+◌, ◌≤◌, ◌<◌}
use mathlib.Core.Path.{◌≡◌, refl, sym, ap, ◌∙◌}
use mathlib.Core.Logic.{◌≢◌}
use mathlib.Core.Bool.{Bool, true, false}
use mathlib.Core.List.{List, [], ◌∷◌, ◌++◌}
use native.Mathlib.Omega.{arith}
use native.Mathlib.Decide.{dec_lt}
use lib.ListN.{length, get_or, length-append, get_or-append}
use lib.Seq.{get_or-append_seam}
use Rattle.layout.specs.declared.node.Position.{Position}
use Rattle.layout.specs.declared.node.Position.TheVariants.{Main, Aux}
use Rattle.layout.specs.Words.{used, limit, registered, column, is_main}
use Rattle.layout.specs.Tree.{input_leaf, tree}
use Rattle.reading.specs.Readings.{is_base}
use Rattle.lowering.specs.Lowering.{Lowering, too_high, candidates, best, substituted}
use Rattle.lowering.proofs.Shape.{leaf_e, Shape, Unf, base_s}
use Rattle.lowering.proofs.Steps.{Choice}
use Rattle.lowering.proofs.Words.{look, has_used, shape_is}
use Rattle.lowering.proofs.Proper.{Proper}
use Rattle.lowering.proofs.Chooses.{best_choice}
use Rattle.lowering.proofs.Substitutes.{base_shape}
use Rattle.lowering.proofs.OneMore.{Added, OneMore, State, length_more, one_more, to_aux, to_main}
use Rattle.grown.specs.Results.{Unique}
use Rattle.grown.proofs.Alike.{unique_one}
use Rattle.grown.proofs.Differences.{Less, less_kept, less_new}
use Rattle.grown.proofs.Substituted.{substituted_unique}

-- room for what x becomes, in lent words and in columns
pub record Fits (mc ac : ℕ) (x x' : Lowering) : Type 0 where
  pub nodes : used x'.circuit ≤ limit x.circuit
  pub main : mc + length x'.main ≤ 65536
  pub aux : ac + length x'.aux ≤ 65536

-- where the constraint goes, its list is one longer
main_more : (mc ac : ℕ) (x : Lowering) (s : ℕ) → is_base (tree x.circuit s) ≡ true → length (substituted mc ac x s).main ≡ suc (length x.main)
unfolding substituted
main_more mc ac x s e = rw e (length-append x.main _ ∙ omega arith)

aux_more : (mc ac : ℕ) (x : Lowering) (s : ℕ) → is_base (tree x.circuit s) ≡ false → length (substituted mc ac x s).aux ≡ suc (length x.aux)
unfolding substituted
aux_more mc ac x s e = rw e (length-append x.aux _ ∙ omega arith)

pub column_bound : {T mc ac : ℕ} (x x₁ : Lowering) (one : OneMore T mc ac x x₁) → Fits mc ac x x₁ → column one.y ≤ 65535
column_bound {mc = mc} {ac = ac} x x₁ one f = go one.added
  where
    go : Added mc ac x x₁ one.y one.q → column one.y ≤ 65535
    go (to_main e a b) = rw e (omega (arith, f.main, length_more x.main x₁.main one.q a))
    go (to_aux e a b) = rw e (omega (arith, f.aux, length_more x.aux x₁.aux one.q b))

-- one node of a shape
pub unique_shape : (m : List ℕ) → Unique m → (t : Shape) (i j : ℕ) → registered m i ≡ true → registered m j ≡ true → Unf (look m) t i → Unf (look m) t j → i ≡ j
unique_shape m v t i j p q a b = unique_one m v i j (has_used m t i a) (has_used m t j b) p q (shape_is m t i a ∙ sym (shape_is m t j b))

module _ (T mc ac : ℕ) (two : 2 ≤ T) where
  -- the next substitution
  abbrev pub next : Lowering → Lowering
  next x = substituted mc ac x (best (candidates T x.circuit x.roots))

  next_unique : (x : Lowering) → State mc ac x → too_high T x.circuit x.roots ≡ true → Fits mc ac x (next x) → Proper x.circuit → Unique x.circuit → Unique (next x).circuit
  next_unique x state high fits proper v =
      let (u, ch) = best_choice T two x.circuit x.roots state.rooted high in
      go (best (candidates T x.circuit x.roots)) u ch (is_base (tree x.circuit (best (candidates T x.circuit x.roots)))) refl fits
    where
      go : (s : ℕ) (u : Shape) → Choice T (look x.circuit) x.roots s u → (b : Bool) → is_base (tree x.circuit s) ≡ b → Fits mc ac x (substituted mc ac x s) → Unique (substituted mc ac x s).circuit
      go s u ch true e f =
          let y : Position = Main (mc + length x.main) in
          let fresh : (i : ℕ) → look x.circuit i ≢ Some (leaf_e (input_leaf (Main (mc + length x.main)))) = λ i h. omega (arith, state.columns i (Main (mc + length x.main)) h) in
          let kind : is_main (Main (mc + length x.main)) ≡ true → base_s u ≡ true = λ h. ap base_s (sym (shape_is x.circuit u s ch.tree)) ∙ sym (base_shape (tree x.circuit s)) ∙ e in
          let more = main_more mc ac x s e in
          substituted_unique x.circuit state.sound s u ch.low ch.tree y fresh kind mc ac true x refl e refl f.nodes (omega (arith, f.main)) refl proper v
      go s u ch false e f =
          let y : Position = Aux (ac + length x.aux) in
          let fresh : (i : ℕ) → look x.circuit i ≢ Some (leaf_e (input_leaf (Aux (ac + length x.aux)))) = λ i h. omega (arith, state.columns i (Aux (ac + length x.aux)) h) in
          let kind : is_main (Aux (ac + length x.aux)) ≡ true → base_s u ≡ true = λ h. absurd (let z : ◌≡◌ {A = ℕ} 0 1 = cc in omega arith) in
          let more = aux_more mc ac x s e in
          substituted_unique x.circuit state.sound s u ch.low ch.tree y fresh kind mc ac false x refl e refl f.nodes (omega (arith, f.aux)) refl proper v

-- no two registered nodes are alike, and constraint k of a list is the input at the column count + k, less a node
pub record Stands (mc ac : ℕ) (x : Lowering) : Type 0 where
  pub unique : Unique x.circuit
  pub main : (k : ℕ) → k < length x.main → Less x.circuit (Main (mc + k)) (get_or x.main k 0)
  pub aux : (k : ℕ) → k < length x.aux → Less x.circuit (Aux (ac + k)) (get_or x.aux k 0)

-- a list with one more at its end
pub one_longer : (P : ℕ → ℕ → Type 0) (xs ys : List ℕ) (q : ℕ) → ys ≡ xs ++ (q ∷ []) → ((k : ℕ) → k < length xs → P k (get_or xs k 0)) → P (length xs) q → (k : ℕ) → k < length ys → P k (get_or ys k 0)
one_longer P xs ys q e old new k l = go (dec_lt k (length xs))
  where
    go : Dec (k < length xs) → P k (get_or ys k 0)
    go (yes h) = rw (e, get_or-append xs (q ∷ []) 0 k h) (old k h)
    go (no h) =
        let z : k ≡ length xs = omega (arith, length_more xs ys q e) in
        rw (z, e, get_or-append_seam xs q [] 0) new

module _ (T mc ac : ℕ) (two : 2 ≤ T) where
  pub next_stands : (x : Lowering) → State mc ac x → too_high T x.circuit x.roots ≡ true → Fits mc ac x (next T mc ac two x) → Proper x.circuit → Stands mc ac x → Stands mc ac (next T mc ac two x)
  next_stands x state high fits proper v = go one.added
    where
      x₁ : Lowering
      x₁ = next T mc ac two x

      one : OneMore T mc ac x (next T mc ac two x)
      one = one_more T mc ac two x state high

      unique : Unique (next T mc ac two x).circuit
      unique = next_unique T mc ac two x state high fits proper v.unique

      kept : (y : Position) (q : ℕ) → Less x.circuit y q → Less (next T mc ac two x).circuit y q
      kept = less_kept T mc ac x (next T mc ac two x) state one

      new : Less (next T mc ac two x).circuit one.y one.q
      new = less_new T mc ac x (next T mc ac two x) state one (unique_shape x.circuit v.unique)

      go : Added mc ac x (next T mc ac two x) one.y one.q → Stands mc ac (next T mc ac two x)
      go (to_main e a b) = record {
        unique = unique;
        main = one_longer (λ k q. Less (next T mc ac two x).circuit (Main (mc + k)) q) x.main (next T mc ac two x).main one.q a (λ k l. kept (Main (mc + k)) (get_or x.main k 0) (v.main k l)) (rw e at new);
        aux = λ k l. rw b (kept (Aux (ac + k)) (get_or x.aux k 0) (v.aux k (rw b at l)));
      }
      go (to_aux e a b) = record {
        unique = unique;
        main = λ k l. rw a (kept (Main (mc + k)) (get_or x.main k 0) (v.main k (rw a at l)));
        aux = one_longer (λ k q. Less (next T mc ac two x).circuit (Aux (ac + k)) q) x.aux (next T mc ac two x).aux one.q b (λ k l. kept (Aux (ac + k)) (get_or x.aux k 0) (v.aux k l)) (rw e at new);
      }

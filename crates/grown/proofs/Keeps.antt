-- The invariant of a lowering that makes its lists left to right: what is listed is quiet, and each constraint's expression reads earlier columns only. Assumes nothing.
use Rattle.std.specs.Prelude.{Some}
use Prim.Native.Nat.{ℕ, zero, suc, ◌+◌, ◌≤◌, ◌<◌}
use mathlib.Core.Path.{◌≡◌, refl, ap, ◌∙◌}
use mathlib.Core.Logic.{◌⊎◌, inl, inr}
use mathlib.Core.Bool.{true, false}
use mathlib.Core.List.{List, [], ◌∷◌, ◌++◌}
use native.Mathlib.Omega.{arith}
use lib.ListN.{length, get_or}
use Rattle.layout.specs.declared.node.Position.{Position}
use Rattle.layout.specs.declared.node.Position.TheVariants.{Main, Aux}
use Rattle.layout.specs.declared.node.Op.TheVariants.{Add}
use Rattle.layout.specs.Lists.{In}
use Rattle.layout.specs.Words.{used, is_next}
use Rattle.layout.specs.Tree.{input_leaf, tree}
use Rattle.layout.proofs.Lists.{clash}
use Rattle.walking.specs.Paths.{walk}
use Rattle.lowering.specs.Lowering.{Lowering, too_high}
use Rattle.lowering.proofs.Shape.{leaf_e, op_e, Shape, Unf}
use Rattle.lowering.proofs.Steps.{Gap, sum, swapped}
use Rattle.lowering.proofs.OneStep.{tree_after}
use Rattle.lowering.proofs.ListLaws.{in_left, in_right, in_cases}
use Rattle.lowering.proofs.Words.{look, look_lt, tree_of}
use Rattle.lowering.proofs.Proper.{Proper}
use Rattle.lowering.proofs.OneMore.{Added, OneMore, Taken, State, length_more, one_more, state_after, to_aux, to_main}
use Rattle.grown.specs.Order.{Unaltered}
use Rattle.grown.proofs.Advances.{Fits, Stands, column_bound, next, next_stands, one_longer, unique_shape}
use Rattle.grown.proofs.Quiet.{Quiet, quiet_kept, quiet_other}
use Rattle.grown.proofs.Stays.{stays}
use Rattle.grown.proofs.Twins.{mirror, new_quiet}
use Rattle.grown.proofs.Expressions.{Column, column_kept, column-more, gap_form, reads_of}

-- what holds before each substitution
pub record Holds (T mc ac : ℕ) (x : Lowering) : Type 0 where
  pub state : State mc ac x
  pub proper : Proper x.circuit
  pub stands : Stands mc ac x
  -- every listed constraint has a tree, and what stands in it is quiet
  pub has : (q : ℕ) → In q (x.main ++ x.aux) → (t : Shape) × Unf (look x.circuit) t q
  pub quiet : (q : ℕ) → In q (x.main ++ x.aux) → (z : ℕ) → In z (walk (tree x.circuit q)) → Quiet T x z
  -- no input of the next row is at or above its count
  pub next : (i : ℕ) (q : Position) → is_next q ≡ true → look x.circuit i ≡ Some (leaf_e (input_leaf q)) → Taken mc ac q
  -- and its expression reads earlier columns
  pub main : (k : ℕ) → k < length x.main → Column x.circuit (Main (mc + k)) (mc + k) (ac + length x.aux) (get_or x.main k 0)
  pub aux : (k : ℕ) → k < length x.aux → Column x.circuit (Aux (ac + k)) (mc + length x.main) (ac + k) (get_or x.aux k 0)

-- the places of a list
pub place_in : (xs : List ℕ) (k : ℕ) → k < length xs → In (get_or xs k 0) xs
place_in [] k h = absurd (omega arith)
place_in (x ∷ xs) zero h = inl refl
place_in (x ∷ xs) (suc k) h = inr (place_in xs k (omega arith))

-- what is listed after one more was listed, or is the new constraint
listed_cases : (mc ac : ℕ) (x x₁ : Lowering) (y : Position) (q : ℕ) → Added mc ac x x₁ y q → (z : ℕ) → In z (x₁.main ++ x₁.aux) → In z (x.main ++ x.aux) ⊎ (z ≡ q)
listed_cases mc ac x x₁ y q (to_main e a b) z h = go (in_cases z x₁.main x₁.aux h)
  where
    last : In z x.main ⊎ In z (q ∷ []) → In z (x.main ++ x.aux) ⊎ (z ≡ q)
    last (inl k) = inl (in_left z x.main x.aux k)
    last (inr (inl k)) = inr k
    last (inr (inr k)) = absurd k

    go : In z x₁.main ⊎ In z x₁.aux → In z (x.main ++ x.aux) ⊎ (z ≡ q)
    go (inl k) = last (in_cases z x.main (q ∷ []) (rw a at k))
    go (inr k) = inl (in_right z x.main x.aux (rw b at k))
listed_cases mc ac x x₁ y q (to_aux e a b) z h = go (in_cases z x₁.main x₁.aux h)
  where
    last : In z x.aux ⊎ In z (q ∷ []) → In z (x.main ++ x.aux) ⊎ (z ≡ q)
    last (inl k) = inl (in_right z x.main x.aux k)
    last (inr (inl k)) = inr k
    last (inr (inr k)) = absurd k

    go : In z x₁.main ⊎ In z x₁.aux → In z (x.main ++ x.aux) ⊎ (z ≡ q)
    go (inl k) = inl (in_left z x.main x.aux (rw a at k))
    go (inr k) = last (in_cases z x.aux (q ∷ []) (rw b at k))

module _ (T mc ac : ℕ) (two : 2 ≤ T) (x : Lowering) (h : Holds T mc ac x) (high : too_high T x.circuit x.roots ≡ true) (fits : Fits mc ac x (next T mc ac two x)) where
  abbrev x₁ : Lowering
  x₁ = next T mc ac two x

  one : OneMore T mc ac x (next T mc ac two x)
  one = one_more T mc ac two x h.state high

  -- ONE SUBSTITUTION alters no constraint already listed
  pub next_unaltered : (q : ℕ) → In q (x.main ++ x.aux) → Unaltered x.circuit (next T mc ac two x).circuit q
  next_unaltered q k =
      let (t, w) = h.has q k in
      stays x x₁ one t q w (λ z d. quiet_other T mc ac two x x₁ h.state one high z (h.quiet q k z d))

  has_after : (q : ℕ) → In q (x.main ++ x.aux) ⊎ (q ≡ one.q) → (t : Shape) × Unf (look x₁.circuit) t q
  has_after q (inl k) = let (t, w) = h.has q k in let (t', w', e) = tree_after one.st.step.move t q w in (t', w')
  has_after q (inr e) = rw e (one.sound.whole one.q (there one.st.step.gap))
    where
      there : Gap (look x₁.circuit) one.y one.u one.q → one.q < used x₁.circuit
      there (sum n p hn hp hq) = look_lt x₁.circuit one.q (op_e Add n p) hq
      there (swapped n p hn hp hq) = look_lt x₁.circuit one.q (op_e Add p n) hq

  quiet_after : (q : ℕ) → In q (x.main ++ x.aux) ⊎ (q ≡ one.q) → (z : ℕ) → In z (walk (tree x₁.circuit q)) → Quiet T x₁ z
  quiet_after q (inl k) z d =
      let (t, w) = h.has q k in
      let d' : In z (walk (tree x.circuit q)) = rw (next_unaltered q k).tree at d in
      let v = tree_of x.circuit t q w in
      let p = mirror (look x.circuit) (look x.circuit) (tree x.circuit q) (tree x.circuit q) q q v v refl z d' in
      quiet_kept T mc ac two x x₁ h.state one high p.form z p.was (h.quiet q k z d')
  quiet_after q (inr e) z d = new_quiet T mc ac two x x₁ h.state one high (unique_shape x.circuit h.stands.unique) z (rw e at d)

  old_column : (y : Position) (a b a' b' q : ℕ) → In q (x.main ++ x.aux) → a ≤ a' → b ≤ b' → Column x.circuit y a b q → Column x₁.circuit y a' b' q
  old_column y a b a' b' q k f g c = column-more x₁.circuit y a b a' b' q f g (column_kept x.circuit x₁.circuit y a b q (next_unaltered q k).tree c)

  new_column : Column x₁.circuit one.y (mc + length x.main) (ac + length x.aux) one.q
  new_column =
      record {
        u = one.u;
        form = gap_form x₁.circuit one.y one.u one.q one.st.step.gap;
        large = one.choice.low;
        reads = reads_of (look x.circuit) (mc + length x.main) (ac + length x.aux) h.state.columns one.u one.s one.choice.tree;
        base = one.st.step.kind;
      }

  -- the new input is of the current row
  new_current : (y : Position) (q : ℕ) → Added mc ac x (next T mc ac two x) y q → is_next y ≡ false
  new_current y q (to_main e a b) = ap is_next e
  new_current y q (to_aux e a b) = ap is_next e

  next_after : (i : ℕ) (q : Position) → is_next q ≡ true → look x₁.circuit i ≡ Some (leaf_e (input_leaf q)) → Taken mc ac q
  next_after i q n k = go (one.inputs i q k)
    where
      go : (look x.circuit i ≡ Some (leaf_e (input_leaf q))) ⊎ (q ≡ one.y) → Taken mc ac q
      go (inl z) = h.next i q n z
      go (inr z) = clash (is_next q) n (ap is_next z ∙ new_current one.y one.q one.added)

  pub next-holds : Holds T mc ac (next T mc ac two x)
  next-holds = go one.added
    where
      proper : Proper (next T mc ac two x).circuit
      proper = one.proper (column_bound x (next T mc ac two x) one fits) h.proper

      go : Added mc ac x (next T mc ac two x) one.y one.q → Holds T mc ac (next T mc ac two x)
      go (to_main e a b) =
          record {
            state = state_after T mc ac x x₁ h.state one;
            proper = proper;
            stands = next_stands T mc ac two x h.state high fits h.proper h.stands;
            next = next_after;
            has = λ q k. has_after q (listed_cases mc ac x x₁ one.y one.q one.added q k);
            quiet = λ q k. quiet_after q (listed_cases mc ac x x₁ one.y one.q one.added q k);
            main =
                one_longer (λ k q. Column x₁.circuit (Main (mc + k)) (mc + k) (ac + length x₁.aux) q) x.main x₁.main one.q a
                (λ k l. old_column (Main (mc + k)) (mc + k) (ac + length x.aux) (mc + k) (ac + length x₁.aux) (get_or x.main k 0) (in_left (get_or x.main k 0) x.main x.aux (place_in x.main k l)) (omega arith) (omega (arith, ap length b)) (h.main k l))
                (rw e at (column-more x₁.circuit one.y (mc + length x.main) (ac + length x.aux) (mc + length x.main) (ac + length x₁.aux) one.q (omega arith) (omega (arith, ap length b)) new_column));
            aux = λ k l. rw b (old_column (Aux (ac + k)) (mc + length x.main) (ac + k) (mc + length x₁.main) (ac + k) (get_or x.aux k 0) (in_right (get_or x.aux k 0) x.main x.aux (place_in x.aux k (rw b at l))) (omega (arith, length_more x.main x₁.main one.q a)) (omega arith) (h.aux k (rw b at l)));
          }
      go (to_aux e a b) =
          record {
            state = state_after T mc ac x x₁ h.state one;
            proper = proper;
            stands = next_stands T mc ac two x h.state high fits h.proper h.stands;
            next = next_after;
            has = λ q k. has_after q (listed_cases mc ac x x₁ one.y one.q one.added q k);
            quiet = λ q k. quiet_after q (listed_cases mc ac x x₁ one.y one.q one.added q k);
            main = λ k l. rw a (old_column (Main (mc + k)) (mc + k) (ac + length x.aux) (mc + k) (ac + length x₁.aux) (get_or x.main k 0) (in_left (get_or x.main k 0) x.main x.aux (place_in x.main k (rw a at l))) (omega arith) (omega (arith, length_more x.aux x₁.aux one.q b)) (h.main k (rw a at l)));
            aux =
                one_longer (λ k q. Column x₁.circuit (Aux (ac + k)) (mc + length x₁.main) (ac + k) q) x.aux x₁.aux one.q b
                (λ k l. old_column (Aux (ac + k)) (mc + length x.main) (ac + k) (mc + length x₁.main) (ac + k) (get_or x.aux k 0) (in_right (get_or x.aux k 0) x.main x.aux (place_in x.aux k l)) (omega (arith, ap length a)) (omega arith) (h.aux k l))
                (rw e at (column-more x₁.circuit one.y (mc + length x.main) (ac + length x.aux) (mc + length x₁.main) (ac + length x.aux) one.q (omega (arith, ap length a)) (omega arith) new_column));
          }

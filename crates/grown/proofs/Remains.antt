-- What an accepted lowering leaves in place: the row kind, every leaf; its roots, its constraints and its new columns are nodes. Assumes nothing.
use Rattle.std.specs.Prelude.{if◌then◌else◌, Some}
use Prim.Native.Nat.{ℕ, ◌+◌, ◌≤◌, ◌<◌}
use mathlib.Core.Path.{◌≡◌, refl, ap, ◌∙◌}
use mathlib.Core.Bool.{Bool, true, false}
use mathlib.Core.List.{List, [], ◌++◌}
use native.Mathlib.Omega.{arith}
use lib.ListN.{length}
use Rattle.layout.specs.declared.node.Position.{Position}
use Rattle.layout.specs.declared.node.Position.TheVariants.{Main, Aux}
use Rattle.layout.specs.Lists.{In}
use Rattle.layout.specs.Words.{row_kind, used}
use Rattle.layout.specs.Tree.{Leaf, input_leaf}
use Rattle.layout.specs.Outcomes.{refusal}
use Rattle.lowering.specs.Lowering.{Lowering, M, too_high, loop, lowered}
use Rattle.lowering.specs.Calls.{tests_then, lower_call, returned}
use Rattle.lowering.proofs.Shape.{leaf_e, Look}
use Rattle.lowering.proofs.Steps.{Lowered, stop, step}
use Rattle.lowering.proofs.Words.{look, has_used, valid_sound}
use Rattle.lowering.proofs.OneMore.{State}
use Rattle.lowering.proofs.Loops.{Ran, loop_ran}
use Rattle.lowering.proofs.Fills.{start, constraint, low_constraint}
use Rattle.lowering.proofs.Accepts.{First, accepted, answer_is, first_tests, rooted_start, tests, then_tests_lem}
use Rattle.lowering.proofs.Theorem.{lowered_none, state_start}

pub record Remains (mc ac : ℕ) (m : List ℕ) (x : Lowering) : Type 0 where
  pub row : row_kind x.circuit ≡ row_kind m
  pub leaves : (i : ℕ) (a : Leaf) → look m i ≡ Some (leaf_e a) → look x.circuit i ≡ Some (leaf_e a)
  pub roots : (r : ℕ) → In r x.roots → r < used x.circuit
  pub constraints : (q : ℕ) → In q (x.main ++ x.aux) → q < used x.circuit
  pub main_new : (k : ℕ) → k < length x.main → (n : ℕ) × (look x.circuit n ≡ Some (leaf_e (input_leaf (Main (mc + k)))))
  pub aux_new : (k : ℕ) → k < length x.aux → (n : ℕ) × (look x.circuit n ≡ Some (leaf_e (input_leaf (Aux (ac + k)))))

leaf_stays : {T : ℕ} {c c' : Look} {g g' : ℕ → Bool} {rs rs' qs ss : List ℕ} {ys : List Position} → Lowered T c g rs c' g' rs' ys qs ss → (i : ℕ) (a : Leaf) → c i ≡ Some (leaf_e a) → c' i ≡ Some (leaf_e a)
leaf_stays stop i a h = h
leaf_stays (step high choice st rest) i a h = let (e, p, k) = st.step.move.old i (leaf_e a) h in leaf_stays rest i a (p ∙ ap Some k)

remains_some : (T mc ac : ℕ) (m roots : List ℕ) → 2 ≤ T → State mc ac (start m roots) → Remains mc ac m (lowered T mc ac m roots)
unfolding lowered
remains_some T mc ac m roots two begin = go (loop (M m roots) T mc ac (start m roots)) (loop_ran T mc ac two (M m roots) (start m roots) begin).0
  where
    go : (x : Lowering) → Ran T mc ac (start m roots) x → Remains mc ac m x
    go x r = record {
      row = r.row;
      leaves = leaf_stays r.low;
      roots = λ i h. let (t, w) = r.state.rooted i h in has_used x.circuit t i w;
      constraints = λ q h. let (t, w, d) = low_constraint T mc ac m roots two x begin r q (constraint T mc ac m roots two x begin r q h) in has_used x.circuit t q w;
      main_new = λ k l. let (n, p, h, s) = r.main_at_lem k (omega arith) l in (n, h);
      aux_new = λ k l. let (n, p, h, s) = r.aux_at_lem k (omega arith) l in (n, h);
    }

-- for every lowering that is accepted
pub remains : (target main_count aux_count : ℕ) (lent : Lowering) → (lower_call target main_count aux_count lent).number ≡ 0 → Remains main_count aux_count lent.circuit (returned (lower_call target main_count aux_count lent))
remains T mc ac lent h =
    let none : refusal (tests T mc ac lent) ≡ 0 = accepted T mc ac lent h in
    let (f, g) = first_tests T mc ac lent none in
    rw (answer_is T mc ac lent none) (go f (too_high T lent.circuit lent.roots) refl g)
  where
    go : First T lent.circuit lent.roots → (b : Bool) → too_high T lent.circuit lent.roots ≡ b → refusal (if b then tests_then T mc ac lent else []) ≡ 0 → Remains mc ac lent.circuit (lowered T mc ac lent.circuit lent.roots)
    go f true e g = remains_some T mc ac lent.circuit lent.roots f.target (state_start T mc ac lent f (then_tests_lem T mc ac lent g))
    go f false e g =
        rw (lowered_none T mc ac lent.circuit lent.roots e)
        (record {
          row = refl;
          leaves = λ i a p. p;
          roots = λ r k. let (t, w) = rooted_start lent.circuit lent.roots (valid_sound lent.circuit f.circuit) f.ids r k in has_used lent.circuit t r w;
          constraints = λ q k. absurd k;
          main_new = λ k l. absurd (omega arith);
          aux_new = λ k l. absurd (omega arith);
        })

-- Demand 3 for grown circuits: every accepted lowering of one keeps its promise. Assumes nothing.
use Prim.Native.Nat.{ℕ, suc, ◌+◌, ◌≤◌}
use mathlib.Core.Path.{◌≡◌, ap, ◌∙◌}
use mathlib.Core.Logic.{inl, inr, ⊎_elim}
use mathlib.Core.Bool.{false}
use mathlib.Core.List.{List}
use lib.ListN.{length, get_or}
use borrow.Author.Tests.{le-ltb}
use Rattle.arithmetic.specs.Base.{minus_one}
use Rattle.layout.specs.declared.node.Position.{Position}
use Rattle.layout.specs.declared.node.Position.TheVariants.{Main, Aux}
use Rattle.layout.specs.declared.node.Op.TheVariants.{Add, Multiply}
use Rattle.layout.specs.declared.node.Expression.TheVariants.{Base, Operation, Input}
use Rattle.layout.specs.Tree.{tree}
use Rattle.reading.specs.Readings.{Assignment, degree⁺, above, value}
use Rattle.lowering.specs.Lowering.{Lowering}
use Rattle.lowering.specs.Calls.{lower_call, returned}
use Rattle.lowering.specs.Demand.{Cells, values_of, Demand3, Filled}
use Rattle.lowering.proofs.Words.{says}
use Rattle.lowering.proofs.Theorem.{demand3}
use Rattle.lowering.proofs.Unread.{unread}
use Rattle.grown.specs.Grown as grown
use Rattle.grown.specs.Grown.{Grown}
use Rattle.grown.specs.Promise.{with_new, Difference, ExactlyOne, Promise}
use Rattle.grown.proofs.Differences.{Less}
use Rattle.grown.proofs.Advances.{Stands}
use Rattle.grown.proofs.Lowers.{lower_stands}
use Rattle.grown.proofs.Grows.{grown_good}
use Rattle.grown.proofs.Choices.{cells, held, held_is, new-cells, but_new, choice_is}

-- exactly one assignment, as exactly one choice
one_choice : (main_count aux_count : ℕ) (m roots : List ℕ) (after : Lowering) (a : Assignment) → Cells a → (b : Assignment) × Filled main_count aux_count m roots after a b → ExactlyOne main_count aux_count m roots after a
one_choice mc ac m roots after a h (b, f) =
    let k : ℕ = length after.main in
    let l : ℕ = length after.aux in
    let e : with_new mc ac a (cells b.main mc k) (cells b.aux ac l) ≡ b = held_is mc k ac l a b f.but_new in
    record {
      values = held mc k ac l a b f.cells;
      zeros = λ q z. ap (λ (x : Assignment). value x (tree after.circuit q)) e ∙ f.zeros q z;
      keeps = ap (λ (x : Assignment). values_of x after.circuit after.roots) e ∙ f.values;
      only = λ v z. choice_is mc k ac l a v b (f.only (with_new mc ac a v.main v.aux) (new-cells mc k ac l a v h) (but_new mc k ac l a v) z);
    }

-- for every lowering that is accepted, of any lent words
pub accepted_one : (target main_count aux_count : ℕ) (lent : Lowering) → (lower_call target main_count aux_count lent).number ≡ 0 → (a : Assignment) → Cells a → ExactlyOne main_count aux_count lent.circuit lent.roots (returned (lower_call target main_count aux_count lent)) a
accepted_one T mc ac lent h a c = one_choice mc ac lent.circuit lent.roots (returned (lower_call T mc ac lent)) a c ((demand3 T mc ac lent h).exactly_one a c)

-- a degree, one higher, as a test
within : (target : ℕ) (m : List ℕ) (i : ℕ) → degree⁺ (tree m i) ≤ suc target → above target m i ≡ false
unfolding above
within target m i h = le-ltb (suc target) (degree⁺ (tree m i)) h

-- a constraint, read off the words
difference : (m : List ℕ) (y : Position) (q : ℕ) → Less m y q → Difference m y q
difference m y q d =
    let n = d.negative in
    record {
      input = d.input;
      product = d.product;
      minus = n.minus;
      chosen = n.node;
      is_input = says m d.input (Input y) d.is_input;
      is_minus = says m n.minus (Base minus_one) n.is_minus;
      is_product = ⊎_elim (λ h. inl (says m d.product (Operation Multiply n.minus n.node) h)) (λ h. inr (says m d.product (Operation Multiply n.node n.minus) h)) n.is_product;
      is_sum = ⊎_elim (λ h. inl (says m q (Operation Add d.input d.product) h)) (λ h. inr (says m q (Operation Add d.product d.input) h)) d.is_sum;
    }

-- DEMAND 3
pub promised : (target main_count aux_count : ℕ) (lent : Lowering) → Grown lent.circuit → (lower_call target main_count aux_count lent).number ≡ 0
    → Promise target main_count aux_count lent.circuit lent.roots (returned (lower_call target main_count aux_count lent))
promised T mc ac lent g h =
    let d : Demand3 T mc ac lent.circuit lent.roots (returned (lower_call T mc ac lent)) = demand3 T mc ac lent h in
    let after : Lowering = returned (lower_call T mc ac lent) in
    let stands : Stands mc ac (returned (lower_call T mc ac lent)) = lower_stands T mc ac lent h (grown_good lent.circuit g).unique in
    record {
      exactly_one = accepted_one T mc ac lent h;
      degrees = λ i k. within T (returned (lower_call T mc ac lent)).circuit i (d.degrees i k);
      no_new = d.no_new;
      fewer = d.fewer;
      main_columns = λ k l. difference after.circuit (Main (mc + k)) (get_or after.main k 0) (stands.main k l);
      aux_columns = λ k l. difference after.circuit (Aux (ac + k)) (get_or after.aux k 0) (stands.aux k l);
      main_unread = λ c a b. ((unread T mc ac lent h).main c a b).0;
      aux_unread = λ c a b. ((unread T mc ac lent h).aux c a b).0;
      grown-again = grown.lower lent g T mc ac h;
    }

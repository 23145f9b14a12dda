-- The test of one list: its items one after the other, whose expressions are kept. Assumes nothing.
use Rattle.std.specs.Prelude.{Option, None, Some}
use Prim.Native.Nat.{ℕ, zero, suc, ◌+◌, ◌<◌, ◌≤◌}
use mathlib.Core.Path.{◌≡◌, refl, sym, ap, ◌∙◌}
use mathlib.Core.Bool.{Bool, true, false, ◌||◌}
use mathlib.Core.List.{List, [], ◌∷◌}
use native.Mathlib.Omega.{arith}
use borrow.Author.Count.{below_more}
use lib.ListN.{length, set, length-set}
use lib.Seq.{get_or-set_same, get_or-set_other}
use Rattle.layout.specs.declared.node.Position.{Position}
use Rattle.layout.specs.declared.node.Position.TheVariants.{Main, Aux}
use Rattle.layout.specs.Words.{used, column}
use Rattle.layout.proofs.Tests.{or-false, or_right}
use Rattle.layout.proofs.Lists.{clash, or_left}
use Rattle.circuit.specs.Rank.{at}
use Rattle.paths.proofs.Counts.{valid_top}
use Rattle.paths.proofs.Walks.{roots_below}
use Rattle.filling.specs.Constraints.{expression_of, reads_unfilled}
use Rattle.filling.specs.Refusals.{wrong_main, wrong_aux, mains_wrong, auxs_wrong}
use Rattle.fillable.specs.Targets.{unless, wrong_for_main, Listable, Answered}
use Rattle.fillable.proofs.Few.{few}
use Rattle.fillable.proofs.Columns.{one_column}
use Rattle.fillable.proofs.Ready.{whether, unless_none, unless_some}

-- a list by its items: at column c, node q fails the test `wrong`
pub record Itemwise (wrong : ℕ → ℕ → Bool) (wrongs : ℕ → List ℕ → Bool) : Type 0 where
  pub at_none : (c : ℕ) → wrongs c [] ≡ false
  pub at_item : (c q : ℕ) (qs : List ℕ) → wrongs c (q ∷ qs) ≡ (wrong c q || wrongs (suc c) qs)

module _ {wrong : ℕ → ℕ → Bool} {wrongs : ℕ → List ℕ → Bool} (each : Itemwise wrong wrongs) where
  further : (c k q : ℕ) (b : Bool) → wrong (c + suc k) q ≡ b → wrong (suc c + k) q ≡ b
  further c k q b h = let e : suc c + k ≡ c + suc k = omega arith in ap (λ (n : ℕ). wrong n q) e ∙ h

  wrong_here : (qs : List ℕ) (c k : ℕ) → k < length qs → wrong (c + k) (at qs k) ≡ true → wrongs c qs ≡ true
  wrong_here [] c k l h = absurd (omega arith)
  wrong_here (q ∷ qs) c zero l h = each.at_item c q qs ∙ or_left (wrong c q) (wrongs (suc c) qs) (let e : c ≡ c + 0 = omega arith in ap (λ (n : ℕ). wrong n q) e ∙ h)
  wrong_here (q ∷ qs) c (suc k) l h = each.at_item c q qs ∙ or_right (wrong c q) (wrongs (suc c) qs) (wrong_here qs (suc c) k (omega arith) (further c k (at qs k) true h))

  wrong_nowhere : (qs : List ℕ) (c : ℕ) → ((k : ℕ) → k < length qs → wrong (c + k) (at qs k) ≡ false) → wrongs c qs ≡ false
  wrong_nowhere [] c h = each.at_none c
  wrong_nowhere (q ∷ qs) c h =
      each.at_item c q qs
      ∙ or-false (wrong c q) (wrongs (suc c) qs) (let e : c ≡ c + 0 = omega arith in ap (λ (n : ℕ). wrong n q) e ∙ h 0 (omega arith)) (wrong_nowhere qs (suc c) (λ k l. further c k (at qs k) false (h (suc k) (omega arith))))

-- at column c, node q gives it no expression, or one that fails the test
abbrev pub item_wrong : (ℕ → ℕ → Bool) → (ℕ → Position) → List ℕ → ℕ → ℕ → Bool
item_wrong test y m c q = whether (test c) (expression_of m (y c) q)

-- the main list and the auxiliary one

abbrev pub main_test : ℕ → List ℕ → ℕ → ℕ → Bool
main_test b m c e = wrong_for_main c b m e

abbrev pub aux_test : ℕ → List ℕ → ℕ → ℕ → Bool
aux_test a m c e = reads_unfilled a c m e

pub mains_itemwise : (b : ℕ) (m : List ℕ) → Itemwise (item_wrong (main_test b m) Main m) (mains_wrong b m)
unfolding mains_wrong whether
mains_itemwise b m = record { at_none = λ c. refl; at_item = λ c q qs. ap (λ (t : Bool). t || mains_wrong b m (suc c) qs) (go c (expression_of m (Main c) q)) }
  where
    go : (c : ℕ) (o : Option ℕ) → wrong_main c b m o ≡ whether (main_test b m c) o
    go c None = refl
    go c (Some e) = refl

pub auxs_itemwise : (a : ℕ) (m : List ℕ) → Itemwise (item_wrong (aux_test a m) Aux m) (auxs_wrong a m)
unfolding auxs_wrong whether
auxs_itemwise a m = record { at_none = λ c. refl; at_item = λ c q qs. ap (λ (t : Bool). t || auxs_wrong a m (suc c) qs) (go c (expression_of m (Aux c) q)) }
  where
    go : (c : ℕ) (o : Option ℕ) → wrong_aux a c m o ≡ whether (aux_test a m c) o
    go c None = refl
    go c (Some e) = refl

pub main_own : (c d : ℕ) → Main c ≡ Main d → c ≡ d
main_own c d h = ap column h

pub aux_own : (c d : ℕ) → Aux c ≡ Aux d → c ≡ d
aux_own c d h = ap column h

-- the first k items pass, and their expressions are kept from the place `first` on
pub record Going (test : ℕ → ℕ → Bool) (y : ℕ → Position) (count first : ℕ) (m qs targets₀ targets : List ℕ) (k : ℕ) : Type 0 where
  pub same : length targets ≡ length targets₀
  pub right : (j : ℕ) → j < k → item_wrong test y m (count + j) (at qs j) ≡ false
  pub items : (j : ℕ) → j < k → expression_of m (y (count + j)) (at qs j) ≡ Some (at targets (first + j))
  pub kept : (j : ℕ) → j < first → at targets j ≡ at targets₀ j

module _ (test : ℕ → ℕ → Bool) (y : ℕ → Position) (own : (c d : ℕ) → y c ≡ y d → c ≡ d) (count first : ℕ) (m main_reach aux_reach qs targets₀ : List ℕ) (v : Listable m main_reach aux_reach count first qs targets₀) where
  pub going_start : Going test y count first m qs targets₀ targets₀ 0
  going_start = record { same = refl; right = λ j l. absurd (omega arith); items = λ j l. absurd (omega arith); kept = λ j l. refl }

  -- items that pass are different nodes
  Gives : ℕ → Type 0
  Gives j = (e : ℕ) × (expression_of m (y (count + j)) (at qs j) ≡ Some e)

  enough : (n : ℕ) → n ≤ length qs → ((j : ℕ) → j < n → Gives j) → n ≤ 4096
  unfolding Gives
  enough n l h =
      let t = valid_top m v.reached.valid in
      let f = few n (used m) (at qs) (λ i k. roots_below m qs v.ids i (omega arith))
      (λ i j k p q.
      let (e, a) = h i k in
      let (g, b) = h j p in
      let z = own (count + i) (count + j) (one_column m (y (count + i)) (y (count + j)) (at qs j) e g (ap (expression_of m (y (count + i))) (sym q) ∙ a) b) in
      omega arith) in
      omega arith

  module _ (targets : List ℕ) (k : ℕ) (f : Going test y count first m qs targets₀ targets k) where
    passed : (j : ℕ) → j < k → Gives j
    unfolding Gives
    passed j l = (at targets (first + j), f.items j l)

    -- one more item has an expression
    module _ (here : k < length qs) (e : ℕ) (passes : Some e ≡ unless (test (count + k)) (expression_of m (y (count + k)) (at qs k))) where
      gives : expression_of m (y (count + k)) (at qs k) ≡ Some e
      gives = (unless_some (test (count + k)) (expression_of m (y (count + k)) (at qs k)) e passes).0

      pub going_room : first + k < length targets
      unfolding Gives
      going_room =
          let n = enough (k + 1) (omega arith) (below_more Gives k passed (e, gives)) in
          let r = v.room in
          let s = f.same in
          omega arith

      pub going_next : (p : ℕ) → p ≡ first + k → Going test y count first m qs targets₀ (set targets p e) (k + 1)
      going_next p is =
          let room : p < length targets = rw is going_room in
          record {
            same = length-set targets p e ∙ f.same;
            right = below_more (λ (j : ℕ). item_wrong test y m (count + j) (at qs j) ≡ false) k f.right (unless_some (test (count + k)) (expression_of m (y (count + k)) (at qs k)) e passes).2;
            items = below_more (λ (j : ℕ). expression_of m (y (count + j)) (at qs j) ≡ Some (at (set targets p e) (first + j))) k
                (λ j l. f.items j l ∙ ap Some (sym (get_or-set_other targets p (first + j) e 0 (omega arith))))
                (gives ∙ ap Some (sym (get_or-set_same targets p e 0 room) ∙ ap (at (set targets p e)) is));
            kept = λ j l. get_or-set_other targets p j e 0 (omega arith) ∙ f.kept j l;
          }

    module _ {wrongs : ℕ → List ℕ → Bool} (each : Itemwise (item_wrong test y m) wrongs) where
      pub going_wrong : k < length qs → None ≡ unless (test (count + k)) (expression_of m (y (count + k)) (at qs k)) → Answered (wrongs count qs) y count first m qs targets₀ targets true
      going_wrong l h = record { told = sym (wrong_here each qs count k l (unless_none (test (count + k)) (expression_of m (y (count + k)) (at qs k)) h)); found = λ z. clash true refl z; few = λ z. clash true refl z; kept = f.kept }

      pub going_done : k ≤ length qs → length qs ≤ k → Answered (wrongs count qs) y count first m qs targets₀ targets false
      going_done w l =
          record {
            told = sym (wrong_nowhere each qs count (λ j a. f.right j (omega arith)));
            found = λ z j a. f.items j (omega arith);
            few = λ z. let n = enough k w passed in omega arith;
            kept = f.kept;
          }

-- A difference gives its column an expression, now and after more was built; where it uses earlier columns alone, nothing is wrong with it. Assumes nothing.
use Rattle.std.specs.Prelude.{Option, Some}
use Prim.Native.Nat.{ℕ, suc, ◌+◌, ◌<◌}
use mathlib.Core.Path.{◌≡◌, refl, ap, ◌∙◌}
use mathlib.Core.Logic.{inl, ⊎_elim}
use mathlib.Core.Bool.{Bool, true, false}
use mathlib.Core.List.{List, [], ◌∷◌}
use native.Mathlib.Omega.{arith}
use lib.ListN.{length, get_or}
use borrow.Author.Tests.{eqb-true, eq-eqb, lt-leb}
use Rattle.arithmetic.specs.Base.{minus_one}
use Rattle.layout.specs.declared.node.Position.{Position}
use Rattle.layout.specs.declared.node.Position.TheVariants.{Main, Aux, NextMain, NextAux}
use Rattle.layout.specs.declared.node.Op.{Op}
use Rattle.layout.specs.declared.node.Op.TheVariants.{Add, Multiply}
use Rattle.layout.specs.declared.node.Expression.{Expression}
use Rattle.layout.specs.declared.node.Expression.TheVariants.{Base, Extension, Challenge, Operation, Input}
use Rattle.layout.specs.Lists.{In, same_words}
use Rattle.layout.specs.Words.{used, expression_at, encode, is_constant, constant_is}
use Rattle.layout.specs.Tree.{tree}
use Rattle.layout.specs.NotCircuit.{not_circuit}
use Rattle.layout.proofs.Tests.{is_false}
use Rattle.layout.proofs.Lists.{clash}
use Rattle.layout.proofs.Valid.{valid_operands}
use Rattle.layout.proofs.Refusals.{bad_id_next, no_bad_id}
use Rattle.walking.specs.Paths.{walk}
use Rattle.paths.proofs.Below.{walks_one, walks_below}
use Rattle.lowering.proofs.Proper.{none_false}
use Rattle.classes.proofs.Words.{words_refl}
use Rattle.filling.specs.Constraints.{minus_times, is_input, column_plus, expression_of, unfilled, reads_unfilled}
use Rattle.filling.specs.Refusals.{wrong_main, wrong_aux, mains_wrong, auxs_wrong}
use Rattle.filling.proofs.Items.{same_input}
use Rattle.filling.proofs.Settled.{RightMain, RightAux}
use Rattle.grown.specs.Promise.{Difference}
use Rattle.grown.specs.Order.{Uses}
use Rattle.grown.proofs.Since.{Kept}

-- an expression that a difference gives its column
pub record Gives (m : List ℕ) (y : Position) (q : ℕ) : Type 0 where
  pub difference : Difference m y q
  pub is : expression_of m y q ≡ Some difference.chosen
  pub here : difference.chosen < used m

module _ (m : List ℕ) (valid : not_circuit m ≡ false) where
  input_passes : (y : Position) (i : ℕ) → expression_at m i ≡ Input y → is_input m y i ≡ true
  unfolding is_input
  input_passes y i e = ap (λ (x : Expression). same_words (encode x) (encode (Input y))) e ∙ words_refl (encode (Input y))

  operation_fails : (y : Position) (i : ℕ) (o : Op) (l r : ℕ) → expression_at m i ≡ Operation o l r → is_input m y i ≡ false
  unfolding is_input
  operation_fails y i o l r e = is_false _ (λ h. absurd (let w = same_input (expression_at m i) y h in let z : ◌≡◌ {A = ℕ} 0 1 = cc in omega arith))

  minus_passes : (i : ℕ) → expression_at m i ≡ Base minus_one → is_constant minus_one m i ≡ true
  unfolding is_constant
  minus_passes i e = ap (constant_is minus_one) e ∙ eq-eqb minus_one minus_one refl

  -- only the base constant passes
  minus_is : (i : ℕ) → is_constant minus_one m i ≡ true → expression_at m i ≡ Base minus_one
  unfolding is_constant
  minus_is i h = go (expression_at m i) refl h
    where
      go : (x : Expression) → expression_at m i ≡ x → constant_is minus_one x ≡ true → expression_at m i ≡ Base minus_one
      go (Base v) e k = e ∙ ap Base (eqb-true v minus_one k)
      go (Extension x) e k = clash false k refl
      go (Challenge j) e k = clash false k refl
      go (Operation o l r) e k = clash false k refl
      go (Input y) e k = clash false k refl

  module _ (y : Position) (q : ℕ) (here : q < used m) (d : Difference m y q) where
    product_here : d.product < used m
    product_here = ⊎_elim (λ e. (valid_operands m valid q here Add d.input d.product e).1) (λ e. (valid_operands m valid q here Add d.product d.input e).0) d.is_sum

    -- the product, in either order
    record Times : Type 0 where
      difference : Difference m y q
      is : minus_times m (expression_at m d.product) ≡ Some difference.chosen
      chosen_here : difference.chosen < used m

    times : Times
    times = ⊎_elim left right d.is_product
      where
        left : expression_at m d.product ≡ Operation Multiply d.minus d.chosen → Times
        left e =
            record {
              difference = d;
              is = ap (minus_times m) e ∙ rw (minus_passes d.minus d.is_minus);
              chosen_here = (valid_operands m valid d.product product_here Multiply d.minus d.chosen e).1;
            }

        right : expression_at m d.product ≡ Operation Multiply d.chosen d.minus → Times
        right e = go (is_constant minus_one m d.chosen) refl
          where
            go : (b : Bool) → is_constant minus_one m d.chosen ≡ b → Times
            go true h =
                let (a, b) = valid_operands m valid d.product product_here Multiply d.chosen d.minus e in
                record {
                  difference = record { input = d.input; product = d.product; minus = d.chosen; chosen = d.minus; is_input = d.is_input; is_minus = minus_is d.chosen h; is_product = inl e; is_sum = d.is_sum };
                  is = ap (minus_times m) e ∙ rw h;
                  chosen_here = b;
                }
            go false h =
                record {
                  difference = d;
                  is = ap (minus_times m) e ∙ rw (h, minus_passes d.minus d.is_minus);
                  chosen_here = (valid_operands m valid d.product product_here Multiply d.chosen d.minus e).0;
                }

    not_input : is_input m y d.product ≡ false
    not_input = ⊎_elim (λ e. operation_fails y d.product Multiply d.minus d.chosen e) (λ e. operation_fails y d.product Multiply d.chosen d.minus e) d.is_product

    pub gives : Gives m y q
    unfolding expression_of
    gives =
        let t = times in
        record {
          difference = t.difference;
          is = ⊎_elim
              (λ e. ap (column_plus m y) e ∙ rw (input_passes y d.input d.is_input) t.is)
              (λ e. ap (column_plus m y) e ∙ rw (not_input, input_passes y d.input d.is_input) t.is)
              d.is_sum;
          here = t.chosen_here;
        }

-- after more was built
module _ (m m' : List ℕ) (valid : not_circuit m ≡ false) (kept : Kept m m') where
  minus_kept : (i : ℕ) → i < used m → (x : Expression) → expression_at m i ≡ x → minus_times m' x ≡ minus_times m x
  unfolding is_constant
  minus_kept i here (Base w) e = refl
  minus_kept i here (Extension x) e = refl
  minus_kept i here (Challenge k) e = refl
  minus_kept i here (Operation Add l r) e = refl
  minus_kept i here (Operation Multiply l r) e =
      let (a, b) = valid_operands m valid i here Multiply l r e in
      rw (kept.expressions l a, kept.expressions r b)
  minus_kept i here (Input y) e = refl

  column_kept : (y : Position) (i : ℕ) → i < used m → (x : Expression) → expression_at m i ≡ x → column_plus m' y x ≡ column_plus m y x
  unfolding is_input
  column_kept y i here (Base w) e = refl
  column_kept y i here (Extension x) e = refl
  column_kept y i here (Challenge k) e = refl
  column_kept y i here (Operation Add l r) e =
      let (a, b) = valid_operands m valid i here Add l r e in
      rw (kept.expressions l a, kept.expressions r b, minus_kept l a (expression_at m l) refl, minus_kept r b (expression_at m r) refl)
  column_kept y i here (Operation Multiply l r) e = refl
  column_kept y i here (Input x) e = refl

  pub expression_kept : (y : Position) (q : ℕ) → q < used m → expression_of m' y q ≡ expression_of m y q
  unfolding expression_of
  expression_kept y q here = ap (column_plus m' y) (kept.expressions q here) ∙ column_kept y q here (expression_at m q) refl

  -- an expression that uses no other columns reads none that is unfilled
  pub uses-reads : (e a b : ℕ) {c d : ℕ} → e < used m → Uses m e a b c d → reads_unfilled a b m' e ≡ false
  unfolding reads_unfilled
  uses-reads e a b here u = rw (kept.trees e here) (none_false (λ i. unfilled a b (expression_at m' i)) (walk (tree m e)) (λ i k. ap (unfilled a b) (kept.expressions i (below i k)) ∙ go i k (expression_at m i) refl))
    where
      below : (i : ℕ) → In i (walk (tree m e)) → i < used m
      below i k = walks_below m valid (e ∷ []) (bad_id_next m e [] here ∙ no_bad_id m) i (rw (walks_one m e) k)

      go : (i : ℕ) → In i (walk (tree m e)) → (x : Expression) → expression_at m i ≡ x → unfilled a b x ≡ false
      go i k (Base w) q = refl
      go i k (Extension x) q = refl
      go i k (Challenge c) q = refl
      go i k (Operation o l r) q = refl
      go i k (Input (Main c)) q = lt-leb a c (u.main i c k q)
      go i k (Input (Aux c)) q = lt-leb b c (u.aux i c k q)
      go i k (Input (NextMain c)) q = refl
      go i k (Input (NextAux c)) q = refl

-- lists that are right at each place
wrong_main_not : (a b : ℕ) (m : List ℕ) (o : Option ℕ) → RightMain a b m o → wrong_main a b m o ≡ false
wrong_main_not a b m o r = rw (r.is, r.reads, r.base)

wrong_aux_not : (a b : ℕ) (m : List ℕ) (o : Option ℕ) → RightAux a b m o → wrong_aux a b m o ≡ false
wrong_aux_not a b m o r = rw (r.is, r.reads)

pub mains_right : (b : ℕ) (m qs : List ℕ) (c : ℕ) → ((k : ℕ) → k < length qs → RightMain (c + k) b m (expression_of m (Main (c + k)) (get_or qs k 0))) → mains_wrong b m c qs ≡ false
unfolding mains_wrong
mains_right b m [] c h = refl
mains_right b m (q ∷ qs) c h =
    let here : c + 0 ≡ c = omega arith in
    let first : wrong_main c b m (expression_of m (Main c) q) ≡ false = wrong_main_not c b m (expression_of m (Main c) q) (rw here at (h 0 (omega arith))) in
    let rest : mains_wrong b m (suc c) qs ≡ false = mains_right b m qs (suc c) (λ k l. let next : c + suc k ≡ suc c + k = omega arith in rw next at (h (suc k) (omega arith))) in
    rw (first, rest)

pub auxs_right : (a : ℕ) (m qs : List ℕ) (c : ℕ) → ((k : ℕ) → k < length qs → RightAux a (c + k) m (expression_of m (Aux (c + k)) (get_or qs k 0))) → auxs_wrong a m c qs ≡ false
unfolding auxs_wrong
auxs_right a m [] c h = refl
auxs_right a m (q ∷ qs) c h =
    let here : c + 0 ≡ c = omega arith in
    let first : wrong_aux a c m (expression_of m (Aux c) q) ≡ false = wrong_aux_not a c m (expression_of m (Aux c) q) (rw here at (h 0 (omega arith))) in
    let rest : auxs_wrong a m (suc c) qs ≡ false = auxs_right a m qs (suc c) (λ k l. let next : c + suc k ≡ suc c + k = omega arith in rw next at (h (suc k) (omega arith))) in
    rw (first, rest)

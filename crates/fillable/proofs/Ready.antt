-- An expression that is ready to be worked out: the columns that it reads are there. Assumes nothing.
use Rattle.std.specs.Prelude.{if◌then◌else◌, Option, None, Some}
use Prim.Native.Nat.{ℕ, ◌<◌, ◌≤◌}
use mathlib.Core.Path.{◌≡◌, refl, sym, ap, ◌∙◌}
use mathlib.Core.Logic.{◌≢◌}
use mathlib.Core.Bool.{Bool, true, false, ◌||◌, not}
use mathlib.Core.List.{List}
use lib.Dec.{ltb, eqb}
use borrow.Author.Tests.{lt-ltb, le-ltb, eq-eqb, ne_eqb}
use Rattle.layout.specs.declared.node.Position.{Position}
use Rattle.layout.specs.Words.{used}
use Rattle.layout.specs.Tree.{tree}
use Rattle.layout.proofs.Tests.{or-false, or_right}
use Rattle.layout.proofs.Lists.{or_left}
use Rattle.circuit.specs.Rank.{at}
use Rattle.reading.specs.Readings.{is_base}
use Rattle.read.proofs.Bases.{bit_test}
use Rattle.filling.specs.Constraints.{expression_of, reads_unfilled}
use Rattle.filling.proofs.Items.{no, item}
use Rattle.fillable.specs.Targets.{unless, wrong_for_main, Reached, Based}
use Rattle.fillable.proofs.Reaches.{reads_told}

-- an expression by its test, and the test back

unfoldable pub whether : (ℕ → Bool) → Option ℕ → Bool
whether wrong None = true
whether wrong (Some e) = wrong e

pub unless_none : (wrong : ℕ → Bool) (o : Option ℕ) → None ≡ unless wrong o → whether wrong o ≡ true
unfolding unless whether
unless_none wrong None h = refl
unless_none wrong (Some e) h = go (wrong e) h
  where
    go : (b : Bool) → None ≡ (if b then None else Some e) → b ≡ true
    go true q = refl
    go false q = no cc

pub unless_some : (wrong : ℕ → Bool) (o : Option ℕ) (e : ℕ) → Some e ≡ unless wrong o → (o ≡ Some e) × (wrong e ≡ false) × (whether wrong o ≡ false)
unfolding unless whether
unless_some wrong None e h = no cc
unless_some wrong (Some f) e h = go (wrong f) refl h
  where
    go : (b : Bool) → wrong f ≡ b → Some e ≡ (if b then None else Some f) → (Some f ≡ Some e) × (wrong e ≡ false) × (wrong f ≡ false)
    go true p q = no cc
    go false p q = let z : e ≡ f = cc in (sym q, ap wrong z ∙ p, p)

unless_wrong : (wrong : ℕ → Bool) (o : Option ℕ) (e : ℕ) → o ≡ Some e → wrong e ≡ true → None ≡ unless wrong o
unfolding unless
unless_wrong wrong o e h w = rw (h, w)

unless_right : (wrong : ℕ → Bool) (o : Option ℕ) (e : ℕ) → o ≡ Some e → wrong e ≡ false → Some e ≡ unless wrong o
unfolding unless
unless_right wrong o e h w = rw (h, w)

-- one test more
pub unless_more : (wrong more : ℕ → Bool) (o : Option ℕ) → None ≡ unless wrong o → None ≡ unless (λ e. wrong e || more e) o
unfolding unless
unless_more wrong more None h = refl
unless_more wrong more (Some e) h = unless_wrong (λ f. wrong f || more f) (Some e) e refl (or_left (wrong e) (more e) (is_true (wrong e) h))
  where
    is_true : (b : Bool) → None ≡ (if b then None else Some e) → b ≡ true
    is_true true q = refl
    is_true false q = no cc

module _ {m main_reach aux_reach : List ℕ} (v : Reached m main_reach aux_reach) (a b : ℕ) (y : Position) (q : ℕ) (here : q < used m) (e : ℕ) (is : expression_of m y q ≡ Some e) where
  pub expression_below : e < used m
  expression_below = (item m v.valid y q here e is).here

  reads_is : reads_unfilled a b m e ≡ (ltb a (at main_reach e) || ltb b (at aux_reach e))
  reads_is = rw (v.main_told.told e expression_below, v.aux_told.told e expression_below) (reads_told a b m v.valid e expression_below)

  pub reads_main : a < at main_reach e → None ≡ unless (reads_unfilled a b m) (expression_of m y q)
  reads_main l = unless_wrong (reads_unfilled a b m) (expression_of m y q) e is (reads_is ∙ or_left (ltb a (at main_reach e)) (ltb b (at aux_reach e)) (lt-ltb a (at main_reach e) l))

  pub reads_aux : b < at aux_reach e → None ≡ unless (reads_unfilled a b m) (expression_of m y q)
  reads_aux l = unless_wrong (reads_unfilled a b m) (expression_of m y q) e is (reads_is ∙ or_right (ltb a (at main_reach e)) (ltb b (at aux_reach e)) (lt-ltb b (at aux_reach e) l))

  pub reads_ready : at main_reach e ≤ a → at aux_reach e ≤ b → Some e ≡ unless (reads_unfilled a b m) (expression_of m y q)
  reads_ready k l =
      unless_right (reads_unfilled a b m) (expression_of m y q) e is (reads_is ∙ or-false (ltb a (at main_reach e)) (ltb b (at aux_reach e)) (le-ltb a (at main_reach e) k) (le-ltb b (at aux_reach e) l))

  -- of a main column, the base test too
  module _ {bases : List ℕ} (w : Based m bases) where
    base_is : eqb (at bases e) 1 ≡ is_base (tree m e)
    base_is = bit_test m e (at bases e) (w.told.told e expression_below)

    pub base_fails : at bases e ≢ 1 → None ≡ unless (wrong_for_main a b m) (expression_of m y q)
    base_fails n = unless_wrong (wrong_for_main a b m) (expression_of m y q) e is (or_right (reads_unfilled a b m e) (not (is_base (tree m e))) (ap not (sym base_is ∙ ne_eqb (at bases e) 1 n)))

    pub base_passes : reads_unfilled a b m e ≡ false → at bases e ≡ 1 → Some e ≡ unless (wrong_for_main a b m) (expression_of m y q)
    base_passes r n = unless_right (wrong_for_main a b m) (expression_of m y q) e is (or-false (reads_unfilled a b m e) (not (is_base (tree m e))) r (ap not (sym base_is ∙ eq-eqb (at bases e) 1 n)))

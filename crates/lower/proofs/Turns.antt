-- The loop of a lowering: what holds at each turn, and that it ends as the definition does. Assumes nothing.
use Rattle.std.specs.Prelude.{if◌then◌else◌, Some, None}
use Prim.Native.Nat.{ℕ, zero, suc, ◌+◌, ◌-◌, ◌≤◌, ◌<◌}
use mathlib.Core.Path.{◌≡◌, refl, sym, ◌∙◌, ap}
use mathlib.Core.Logic.{◌≢◌}
use mathlib.Core.Bool.{Bool, true, false}
use mathlib.Core.List.{List}
use native.Mathlib.Omega.{arith}
use lib.ListN.{length, drop, length-append, length-drop}
use Rattle.layout.specs.declared.node.Position.{Position}
use Rattle.layout.specs.declared.node.Position.TheVariants.{Main, Aux}
use Rattle.layout.specs.declared.node.Expression.TheVariants.{Input}
use Rattle.layout.specs.Lists.{written}
use Rattle.layout.specs.Words.{used, limit, column, is_main, is_next}
use Rattle.layout.specs.Tree.{input_leaf, tree}
use Rattle.layout.specs.Answers.{accepted}
use Rattle.layout.proofs.Lists.{clash}
use Rattle.paths.proofs.Written.{written_none}
use Rattle.reading.specs.Readings.{is_base}
use Rattle.lowering.specs.Lowering.{Lowering, M, too_high, candidates, best, substituted}
use Rattle.lower.specs.declared.calls.Progress.{Progress}
use Rattle.lower.specs.Substituting.{Substitutable}
use Rattle.lower.specs.Advancing.{Holds, chosen, advanced, Ready, Advanced, Begun, finished}
use Rattle.lowering.proofs.Shape.{leaf_e, Shape, base_s}
use Rattle.lowering.proofs.Steps.{Choice}
use Rattle.lowering.proofs.Words.{look, shape_is}
use Rattle.lowering.proofs.Substitutes.{base_shape, substituted_is}
use Rattle.lowering.proofs.Chooses.{best_choice}
use Rattle.lowering.proofs.Fills.{start}
use Rattle.lower.proofs.Along.{Bounded, Going, same_limit, going_valid, going_choosable, going_done, going_some, going_next, next_fits}
use Rattle.lower.proofs.Permits.{substitutable}
use Rattle.lower.proofs.Decides.{begun_bounded, begun_going, begun_room}

-- what is chosen can be substituted
module _ (T mc ac : ℕ) (m₀ roots₀ : List ℕ) (whole : Bounded T mc ac m₀ roots₀) (x : Lowering) (k : ℕ) (g : Going T mc ac m₀ roots₀ x (suc k)) (high : too_high T x.circuit x.roots ≡ true) where
  -- at the column that its kind asks for
  at_column : (s : ℕ) (u : Shape) → Choice T (look x.circuit) x.roots s u → (b : Bool) → is_base (tree x.circuit s) ≡ b → (y : Position) → (if b then Main (mc + length x.main) else Aux (ac + length x.aux)) ≡ y
      → ((i : ℕ) → look x.circuit i ≢ Some (leaf_e (input_leaf y))) → (is_main y ≡ true → base_s u ≡ true) → column y ≤ 65535 → is_next y ≡ false → used (substituted mc ac x s).circuit ≤ limit m₀
      → Substitutable x.circuit s (mc + length x.main) (ac + length x.aux)
  at_column s u ch b e y h fresh kind small current fits =
      let q = substituted_is x.circuit g.state.sound s u ch.low ch.tree y fresh kind mc ac b x refl e h in
      substitutable x.circuit g.state.sound s u ch.low ch.tree y fresh kind (going_valid T mc ac m₀ roots₀ whole x (suc k) g) g.proper small current
      (rw (same_limit x.circuit m₀ g.same) (rw q at fits)) (mc + length x.main) (ac + length x.aux) (rw e (ap Input h))

  chosen_fits : Substitutable x.circuit (best (candidates T x.circuit x.roots)) (mc + length x.main) (ac + length x.aux)
  chosen_fits =
      let (u, ch) = best_choice T whole.two x.circuit x.roots g.state.rooted high in
      go (best (candidates T x.circuit x.roots)) u ch (is_base (tree x.circuit (best (candidates T x.circuit x.roots)))) refl (next_fits T mc ac m₀ roots₀ whole x k g high)
    where
      go : (s : ℕ) (u : Shape) → Choice T (look x.circuit) x.roots s u → (b : Bool) → is_base (tree x.circuit s) ≡ b → used (substituted mc ac x s).circuit ≤ limit m₀ → Substitutable x.circuit s (mc + length x.main) (ac + length x.aux)
      go s u ch true e fits =
          at_column s u ch true e (Main (mc + length x.main)) refl (λ i h. omega (arith, g.state.columns i (Main (mc + length x.main)) h))
          (λ h. ap base_s (sym (shape_is x.circuit u s ch.tree)) ∙ sym (base_shape (tree x.circuit s)) ∙ e) (omega (arith, g.steps, whole.main_columns)) refl fits
      go s u ch false e fits =
          at_column s u ch false e (Aux (ac + length x.aux)) refl (λ i h. omega (arith, g.state.columns i (Aux (ac + length x.aux)) h))
          (λ h. absurd (let z : ◌≡◌ {A = ℕ} 0 1 = cc in omega arith)) (omega (arith, g.steps, whole.aux_columns)) refl fits

-- the lent words at a turn: those of a lowering on its way
pub record Turning (T mc ac : ℕ) (lent words : Lowering) (p : Progress) : Type 0 where
  pub x : Lowering
  pub k : ℕ
  pub holds : Holds lent x words p.main p.aux
  pub going : Going T mc ac lent.circuit lent.roots x k

-- what falls: the substitutions left
abbrev pub left : Lowering → Progress → ℕ
left lent p = M lent.circuit lent.roots - (p.main + p.aux)

-- there is a place after the answer
written_free : (xs l : List ℕ) → length xs < length l → length xs < length (written xs l)
unfolding written
written_free xs l h = omega (arith, length-append xs (drop (length xs) l), length-drop (length xs) l)

module _ (T mc ac : ℕ) (lent : Lowering) (begun : Begun T mc ac lent) where
  whole : Bounded T mc ac lent.circuit lent.roots
  whole = begun_bounded T mc ac lent begun

  pub turning_start : Turning T mc ac lent lent (record { main = 0; aux = 0 })
  turning_start =
      record {
        x = start lent.circuit lent.roots;
        k = M lent.circuit lent.roots;
        holds = record { circuit = refl; roots = refl; main = sym (written_none lent.main); aux = sym (written_none lent.aux); main_count = refl; aux_count = refl };
        going = begun_going T mc ac lent begun;
      }

  ready_of : (words : Lowering) (a b : ℕ) (x : Lowering) (k : ℕ) → Holds lent x words a b → Going T mc ac lent.circuit lent.roots x k → Ready T mc ac words a b
  ready_of words a b x zero h g = absurd (going_some T mc ac lent.circuit lent.roots whole x g)
  ready_of words a b x (suc k) h g =
      let (lm, la) = begun_room T mc ac lent begun in
      record {
        choosable = rw (h.circuit, h.roots) (going_choosable T mc ac lent.circuit lent.roots whole x (suc k) g);
        can = rw (h.circuit, h.roots, h.main_count, h.aux_count) (chosen_fits T mc ac lent.circuit lent.roots whole x k g);
        main_place = rw (h.main, h.main_count) (written_free x.main lent.main (omega (arith, g.steps)));
        aux_place = rw (h.aux, h.aux_count) (written_free x.aux lent.aux (omega (arith, g.steps)));
        main_column = omega (arith, g.steps, whole.main_columns, h.main_count);
        aux_column = omega (arith, g.steps, whole.aux_columns, h.aux_count);
      }

  module _ (words : Lowering) (p : Progress) (t : Turning T mc ac lent words p) where
    pub turning_ready : Ready T mc ac words p.main p.aux
    turning_ready = ready_of words p.main p.aux t.x t.k t.holds t.going

    -- one turn more, and less to do
    pub turning_next : (after : Lowering) (n : Progress) → Advanced T mc ac words after p (Some n) → Turning T mc ac lent after n × (left lent n < left lent p)
    unfolding advanced
    turning_next after n step = from t.x t.k t.holds t.going (step.on lent t.x t.holds)
      where
        from : (x : Lowering) (k : ℕ) → Holds lent x words p.main p.aux → Going T mc ac lent.circuit lent.roots x k → Holds lent (if too_high T x.circuit x.roots then substituted mc ac x (chosen T mc ac x) else x) after n.main n.aux → Turning T mc ac lent after n × (left lent n < left lent p)
        from x zero h g h₁ = absurd (going_some T mc ac lent.circuit lent.roots whole x g)
        from x (suc k) h g h₁ = go (too_high T x.circuit x.roots) refl h₁ (step.more ∙ rw (h.circuit, h.roots))
          where
            go : (b : Bool) → too_high T x.circuit x.roots ≡ b → Holds lent (if b then substituted mc ac x (chosen T mc ac x) else x) after n.main n.aux → true ≡ b → Turning T mc ac lent after n × (left lent n < left lent p)
            go true high h' e =
                let g' = going_next T mc ac lent.circuit lent.roots whole x k g high in
                (record { x = substituted mc ac x (chosen T mc ac x); k = k; holds = h'; going = g' }, omega (arith, g.steps, g'.steps, h.main_count, h.aux_count, h'.main_count, h'.aux_count))
            go false low h' e = clash true refl e

    quiet : (x : Lowering) → too_high T x.circuit x.roots ≡ false → advanced T mc ac x ≡ x
    unfolding advanced
    quiet x low = rw low

    -- at the end, where no root's degree exceeds the target
    pub turning_end : (after : Lowering) → Advanced T mc ac words after p None → accepted (p.main, p.aux) after ≡ finished T mc ac lent
    unfolding finished
    turning_end after step =
        let e : false ≡ too_high T t.x.circuit t.x.roots = step.more ∙ rw (t.holds.circuit, t.holds.roots) in
        let h : Holds lent t.x after p.main p.aux = rw (quiet t.x (sym e)) at (step.on lent t.x t.holds) in
        let q = going_done T mc ac lent.circuit lent.roots whole t.x t.k t.going (sym e) in
        rw (← q) (λ i. record { number = 0; values = (h.main_count i, h.aux_count i); lent = record { circuit = h.circuit i; roots = h.roots i; main = h.main i; aux = h.aux i } })

-- What left to right rules out, in the words of the request: an expression reads neither its own column nor a later one, and no step between two others
-- alters what is listed. A weaker statement would not give these. Assumes nothing.
use Prim.Native.Nat.{ℕ, ◌+◌, ◌≤◌, ◌<◌}
use mathlib.Core.Logic.{◌≢◌}
use mathlib.Core.List.{List, ◌++◌}
use native.Mathlib.Omega.{arith}
use lib.ListN.{length, get_or}
use Rattle.layout.specs.declared.node.Position.{Position}
use Rattle.layout.specs.declared.node.Position.TheVariants.{Main, Aux, NextMain, NextAux}
use Rattle.layout.specs.declared.node.Expression.TheVariants.{Input}
use Rattle.layout.specs.Lists.{In}
use Rattle.layout.specs.Words.{expression_at}
use Rattle.layout.specs.Tree.{tree}
use Rattle.walking.specs.Paths.{walk}
use Rattle.lowering.specs.Lowering.{Lowering}
use Rattle.grown.specs.Promise.{Difference}
use Rattle.grown.specs.Order.{Unaltered, first, LeftToRight}

module _ (T mc ac : ℕ) (m roots : List ℕ) (after : Lowering) (ordered : LeftToRight T mc ac m roots after) where
  -- no node at or below e reads the column at q
  abbrev NotRead : ℕ → Position → Type 0
  NotRead e q = (i : ℕ) → In i (walk (tree after.circuit e)) → expression_at after.circuit i ≢ Input q

  module _ (k : ℕ) (here : k < length after.main) (d : Difference after.circuit (Main (mc + k)) (get_or after.main k 0)) (c : ℕ) where
    pub main_reads_no_later : mc + k ≤ c → NotRead d.chosen (Main c)
    main_reads_no_later h i z e = omega (arith, (ordered.main k here d).0.main i c z e)

    pub main_reads_no_aux : ac ≤ c → NotRead d.chosen (Aux c)
    main_reads_no_aux h i z e = omega (arith, (ordered.main k here d).0.aux i c z e)

    pub main_reads_no_next : mc ≤ c → NotRead d.chosen (NextMain c)
    main_reads_no_next h i z e = omega (arith, (ordered.main k here d).0.next_main i c z e)

  module _ (k : ℕ) (here : k < length after.aux) (d : Difference after.circuit (Aux (ac + k)) (get_or after.aux k 0)) (c : ℕ) where
    pub aux_reads_no_later : ac + k ≤ c → NotRead d.chosen (Aux c)
    aux_reads_no_later h i z e = omega (arith, (ordered.aux k here d).aux i c z e)

    pub aux_reads_no_next : ac ≤ c → NotRead d.chosen (NextAux c)
    aux_reads_no_next h i z e = omega (arith, (ordered.aux k here d).next_aux i c z e)

  -- one more substitution, whichever it is
  pub unaltered_by_one : (j q : ℕ) → In q ((first T mc ac m roots j).main ++ (first T mc ac m roots j).aux) → Unaltered (first T mc ac m roots j).circuit (first T mc ac m roots (j + 1)).circuit q
  unaltered_by_one j q h = ordered.listed j (j + 1) (omega arith) q h

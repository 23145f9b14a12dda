-- A lowering's lists are in the order in which their columns can be filled, and what is listed stays as it is. Assumes nothing.
use Rattle.std.specs.Prelude.{ℕ, ◌+◌, ◌≤◌, ◌<◌, ◌≡◌, true, List, [], ◌++◌, length, get_or}
use Rattle.layout.specs.declared.node.Position.TheVariants.{Main, Aux, NextMain, NextAux}
use Rattle.layout.specs.declared.node.Expression.TheVariants.{Input}
use Rattle.layout.specs.Lists.{In}
use Rattle.layout.specs.Words.{expression_at, node_at}
use Rattle.layout.specs.Tree.{tree}
use Rattle.walking.specs.Paths.{walk}
use Rattle.reading.specs.Readings.{is_base}
use Rattle.lowering.specs.Lowering.{Lowering, M, loop}
use Rattle.grown.specs.Promise.{Difference}

-- the columns that are read at and below node e: in the current row main ones below a, auxiliary ones below b; in the next row below c and d
pub record Uses (m : List ℕ) (e a b c d : ℕ) : Type 0 where
  pub main : (i k : ℕ) → In i (walk (tree m e)) → expression_at m i ≡ Input (Main k) → k < a
  pub aux : (i k : ℕ) → In i (walk (tree m e)) → expression_at m i ≡ Input (Aux k) → k < b
  pub next_main : (i k : ℕ) → In i (walk (tree m e)) → expression_at m i ≡ Input (NextMain k) → k < c
  pub next_aux : (i k : ℕ) → In i (walk (tree m e)) → expression_at m i ≡ Input (NextAux k) → k < d

-- node q and every node below it are as they were: expression, mark and count; so the tree is, with its ids
pub record Unaltered (m m' : List ℕ) (q : ℕ) : Type 0 where
  pub nodes : (i : ℕ) → In i (walk (tree m q)) → node_at m' i ≡ node_at m i
  pub tree : tree m' q ≡ tree m q

module _ (target main_count aux_count : ℕ) (m roots : List ℕ) where
  -- a lowering after its first k substitutions, or all of them if they are fewer
  abbrev pub first : ℕ → Lowering
  first k = loop k target main_count aux_count (record { circuit = m; roots = roots; main = []; aux = [] })

  pub record LeftToRight (after : Lowering) : Type 0 where
    -- the expression of a new main column uses no new column but earlier main ones, none of the next row, and passes the base test
    pub main : (k : ℕ) → k < length after.main → (d : Difference after.circuit (Main (main_count + k)) (get_or after.main k 0)) → Uses after.circuit d.chosen (main_count + k) aux_count main_count aux_count × (is_base (tree after.circuit d.chosen) ≡ true)
    -- an auxiliary one only main ones and earlier auxiliary ones, none of the next row
    pub aux : (k : ℕ) → k < length after.aux → (d : Difference after.circuit (Aux (aux_count + k)) (get_or after.aux k 0)) → Uses after.circuit d.chosen (main_count + length after.main) (aux_count + k) main_count aux_count
    -- M substitutions are enough: what is left then is what the lowering leaves
    pub ends : (k : ℕ) → M m roots ≤ k → first k ≡ after
    -- no later substitution alters a constraint already listed
    pub listed : (j k : ℕ) → j ≤ k → (q : ℕ) → In q ((first j).main ++ (first j).aux) → Unaltered (first j).circuit (first k).circuit q
    -- nor its place in its list
    pub main_place : (j k i : ℕ) → j ≤ k → i < length (first j).main → get_or (first k).main i 0 ≡ get_or (first j).main i 0
    pub aux_place : (j k i : ℕ) → j ≤ k → i < length (first j).aux → get_or (first k).aux i 0 ≡ get_or (first j).aux i 0

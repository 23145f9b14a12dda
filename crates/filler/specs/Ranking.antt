-- The ranks of the nodes that a row needs: what is finished after so many items, and what is listed by rank. Assumes nothing.
use Rattle.std.specs.Prelude.{ℕ, ◌+◌, ◌-◌, ◌<◌, min, ◌≡◌, Bool, false, ◌||◌, List}
use Rattle.layout.specs.declared.node.Expression.{Expression}
use Rattle.layout.specs.Words.{used, expression_at}
use Rattle.circuit.specs.Rank.{at}
use Rattle.circuit.specs.Walk.{Walking}
use Rattle.filling.specs.Constraints.{unfilled}
use Rattle.filling.specs.Refusals.{beyond}
use Rattle.filler.specs.declared.plan.Shape.{Shape}
use Rattle.filler.specs.declared.plan.Source.TheVariants.{Item}
use Rattle.filler.specs.Planning.{source_of}

-- what is not read where k items are filled, main ones first: a new column that is not filled, a column beyond the row, a challenge beyond c of them
unfoldable pub unread : Shape → ℕ → ℕ → Expression → Bool
unread s c k e = unfilled (s.main + min k s.fresh) (s.aux + (k - s.fresh)) e || beyond s.row s.wide c e

-- `done` nodes are finished: those at or below the first k items, each new column's input after its expression
pub record Reached (s : Shape) (c : ℕ) (m targets rank : List ℕ) (done k : ℕ) : Type 0 where
  pub walking : Walking m rank done
  pub so_far : (i : ℕ) → i < k → at rank (at targets i) < used m
  pub reads : (j : ℕ) → j < used m → at rank j < used m → unread s c k (expression_at m j) ≡ false
  pub item-first : (j i : ℕ) → j < used m → at rank j < used m → source_of s (expression_at m j) ≡ Item i → at rank (at targets i) < at rank j

-- of n nodes, those that are finished have ranks of their own
unfoldable pub Apart : List ℕ → ℕ → Type 0
Apart rank n = (i j : ℕ) → i < n → j < n → at rank i < n → at rank i ≡ at rank j → i ≡ j

-- and each stands at its rank
unfoldable pub ByRank : List ℕ → List ℕ → ℕ → Type 0
ByRank order rank n = (i : ℕ) → i < n → at rank i < n → at order (at rank i) ≡ i

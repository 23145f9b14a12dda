-- The expressions of both lists as the nodes to begin from: what the walk that orders the nodes below them asks. Assumes nothing.
use Rattle.std.specs.Prelude.{ℕ, ◌+◌, ◌-◌, ◌<◌, ◌≤◌, ◌≡◌, true, false, List, length}
use Rattle.layout.specs.Lists.{any}
use Rattle.layout.specs.Words.{used, expression_at}
use Rattle.layout.specs.Tree.{tree}
use Rattle.layout.specs.NotCircuit.{not_circuit}
use Rattle.walking.specs.Paths.{walk}
use Rattle.reading.specs.Readings.{is_base}
use Rattle.circuit.specs.Rank.{at}
use Rattle.filling.specs.Constraints.{reads_unfilled}
use Rattle.filling.specs.Refusals.{beyond}
use Rattle.filler.specs.declared.plan.Shape.{Shape}

-- expressions that read old columns and new ones of earlier items only, none beyond a row of this shape or beyond c challenges; main ones pass the base test
pub record Targeted (s : Shape) (c : ℕ) (m targets : List ℕ) : Type 0 where
  pub valid : not_circuit m ≡ false
  pub fresh_few : s.fresh ≤ s.items
  pub main_fits : s.main + s.fresh ≤ s.row
  pub aux_fits : s.aux + (s.items - s.fresh) ≤ s.wide
  pub below : (k : ℕ) → k < s.items → at targets k < used m
  pub main-reads : (k : ℕ) → k < s.fresh → reads_unfilled (s.main + k) s.aux m (at targets k) ≡ false
  pub main_base : (k : ℕ) → k < s.fresh → is_base (tree m (at targets k)) ≡ true
  pub aux-reads : (k : ℕ) → s.fresh ≤ k → k < s.items → reads_unfilled (s.main + s.fresh) (s.aux + (k - s.fresh)) m (at targets k) ≡ false
  pub inside : (k : ℕ) → k < s.items → any (λ i. beyond s.row s.wide c (expression_at m i)) (walk (tree m (at targets k))) ≡ false

-- with tables for each node
pub record Orderable (s : Shape) (c : ℕ) (m targets order rank : List ℕ) : Type 0 where
  pub targeted : Targeted s c m targets
  pub items_few : s.items ≤ 8192
  pub targets_room : s.items ≤ length targets
  pub order_room : 4096 ≤ length order
  pub rank_room : 4096 ≤ length rank

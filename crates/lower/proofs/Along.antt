-- A lowering on its way: what the next choice and the next substitution ask holds before each of them. Assumes nothing.
use Prim.Native.Nat.{ℕ, zero, suc, ◌+◌, ◌*◌, ◌≤◌, ◌<◌}
use mathlib.Core.Path.{◌≡◌, ◌∙◌, ap}
use mathlib.Core.Bool.{true, false}
use mathlib.Core.List.{List}
use native.Mathlib.Omega.{arith}
use lib.ListN.{length}
use lib.Dec.{leb}
use borrow.Author.Tests.{lt-leb}
use Rattle.layout.specs.Lists.{any}
use Rattle.layout.specs.Words.{used, limit, column}
use Rattle.layout.specs.NotCircuit.{not_circuit, bad_id}
use Rattle.layout.proofs.Tests.{is_false}
use Rattle.layout.proofs.Lists.{clash}
use Rattle.paths.proofs.Below.{any_some}
use Rattle.reading.specs.Refusals.{over_degree}
use Rattle.lowering.specs.Lowering.{Lowering, M, too_high, candidates, best, substituted, loop, lowered}
use Rattle.lowering.specs.Refusals.{over_occurrences}
use Rattle.lower.specs.Survey.{Choosable}
use Rattle.lowering.proofs.Count.{unf_some}
use Rattle.lowering.proofs.Words.{look, look_lt}
use Rattle.lowering.proofs.Proper.{Proper, circuit_of}
use Rattle.lowering.proofs.OneMore.{State, Added, to_main, to_aux, OneMore, one_more, state_after, length_more}
use Rattle.lowering.proofs.Loops.{loop_ran}
use Rattle.lower.proofs.Falls.{degree_after_lem, occurrences_after}

-- what a lowering comes to: it fits, and takes fewer than M substitutions
pub record Bounded (T mc ac : ℕ) (m₀ roots₀ : List ℕ) : Type 0 where
  pub two : 2 ≤ T
  pub nodes : used (lowered T mc ac m₀ roots₀).circuit ≤ limit m₀
  pub fewer : length (lowered T mc ac m₀ roots₀).main + length (lowered T mc ac m₀ roots₀).aux < M m₀ roots₀
  pub main_columns : mc + M m₀ roots₀ ≤ 65536
  pub aux_columns : ac + M m₀ roots₀ ≤ 65536

-- x has come so far, and k levels are left
pub record Going (T mc ac : ℕ) (m₀ roots₀ : List ℕ) (x : Lowering) (k : ℕ) : Type 0 where
  pub state : State mc ac x
  pub proper : Proper x.circuit
  pub same : length x.circuit ≡ length m₀
  pub rest : loop k T mc ac x ≡ lowered T mc ac m₀ roots₀
  pub steps : length x.main + length x.aux + k ≡ M m₀ roots₀
  pub degree : over_degree x.circuit x.roots ≡ false
  pub few : over_occurrences T x.circuit x.roots ≡ false

pub same_limit : (m n : List ℕ) → length m ≡ length n → limit m ≡ limit n
unfolding limit
same_limit m n h = rw h

pub inside : (m : List ℕ) (k : ℕ) → 0 < k → k ≤ limit m → 2 + 6 * k ≤ length m
unfolding limit
inside m k p h = omega arith

module _ (T mc ac : ℕ) (m₀ roots₀ : List ℕ) (whole : Bounded T mc ac m₀ roots₀) where
  -- the nodes so far fit
  nodes_fit : (x : Lowering) (k : ℕ) → State mc ac x → loop k T mc ac x ≡ lowered T mc ac m₀ roots₀ → used x.circuit ≤ limit m₀
  nodes_fit x k state rest =
      let g = (loop_ran T mc ac whole.two k x state).0.grows in
      let e = ap (λ (y : Lowering). used y.circuit) rest in
      let n = whole.nodes in
      omega arith

  module _ (x : Lowering) (k : ℕ) (g : Going T mc ac m₀ roots₀ x k) where
    pub going_valid : not_circuit x.circuit ≡ false
    going_valid = circuit_of x.circuit g.state.sound g.proper (rw (same_limit x.circuit m₀ g.same) (nodes_fit x k g.state g.rest))

    -- roots with trees are nodes
    going_ids : bad_id x.circuit x.roots ≡ false
    unfolding bad_id
    going_ids =
        is_false (any (leb (used x.circuit)) x.roots) (λ h.
        let s = any_some (leb (used x.circuit)) x.roots h in
        let (t, w) = g.state.rooted s.id s.stands in
        let (e, p) = unf_some (look x.circuit) t s.id w in
        clash (leb (used x.circuit) s.id) s.passes (lt-leb (used x.circuit) s.id (look_lt x.circuit s.id e p)))

    -- the next choice can be made
    pub going_choosable : Choosable T x.circuit x.roots
    going_choosable = record { valid = going_valid; ids = going_ids; degree = g.degree; few = g.few }

    -- nothing is left to do
    pub going_done : too_high T x.circuit x.roots ≡ false → x ≡ lowered T mc ac m₀ roots₀
    unfolding loop
    going_done h = go k g.rest
      where
        go : (k : ℕ) → loop k T mc ac x ≡ lowered T mc ac m₀ roots₀ → x ≡ lowered T mc ac m₀ roots₀
        go zero e = e
        go (suc k) e = rw h at e

  -- some level is left
  pub going_some : (x : Lowering) → Going T mc ac m₀ roots₀ x 0 → ⊥
  unfolding loop
  going_some x g =
      let e : x ≡ lowered T mc ac m₀ roots₀ = g.rest in
      let a = ap (λ (y : Lowering). length y.main) e in
      let b = ap (λ (y : Lowering). length y.aux) e in
      let s = g.steps in
      let f = whole.fewer in
      omega arith

  module _ (x : Lowering) (k : ℕ) (g : Going T mc ac m₀ roots₀ x (suc k)) (high : too_high T x.circuit x.roots ≡ true) where
    abbrev next : Lowering
    next = substituted mc ac x (best (candidates T x.circuit x.roots))

    pub one : OneMore T mc ac x next
    one = one_more T mc ac whole.two x g.state high

    rest_next : loop k T mc ac next ≡ lowered T mc ac m₀ roots₀
    unfolding loop
    rest_next = let e = g.rest in rw high at e

    pub next_fits : used next.circuit ≤ limit m₀
    next_fits = nodes_fit next k (state_after T mc ac x next g.state one) rest_next

    -- the new column is in bounds
    pub column_fits : column one.y ≤ 65535
    column_fits = go one.added
      where
        go : Added mc ac x next one.y one.q → column one.y ≤ 65535
        go (to_main e a b) = let s = g.steps in let c = whole.main_columns in rw e (omega arith)
        go (to_aux e a b) = let s = g.steps in let c = whole.aux_columns in rw e (omega arith)

    -- one more
    pub going_next : Going T mc ac m₀ roots₀ next k
    going_next =
        record {
          state = state_after T mc ac x next g.state one;
          proper = one.proper column_fits g.proper;
          same = one.lies_in (lies (used next.circuit) (omega (arith, has_node, one.grows)) next_fits) ∙ g.same;
          rest = rest_next;
          steps = more one.added;
          degree = degree_after_lem T mc ac whole.two x next g.state one g.degree;
          few = occurrences_after T mc ac whole.two x next g.state one g.few;
        }
      where
        has_node : 0 < used x.circuit
        has_node = let (e, p) = unf_some (look x.circuit) one.u one.s one.choice.tree in omega (arith, look_lt x.circuit one.s e p)

        lies : (n : ℕ) → 0 < n → n ≤ limit m₀ → 2 + 6 * n ≤ length x.circuit
        lies n p h = inside x.circuit n p (rw (same_limit x.circuit m₀ g.same) h)

        more : Added mc ac x next one.y one.q → length next.main + length next.aux + k ≡ M m₀ roots₀
        more (to_main e a b) = omega (arith, length_more x.main next.main one.q a, ap length b, g.steps)
        more (to_aux e a b) = omega (arith, ap length a, length_more x.aux next.aux one.q b, g.steps)

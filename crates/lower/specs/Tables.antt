-- What the loops of a lowering read from tables, one entry a node: degrees, path counts, occurrences. Assumes nothing.
use Rattle.std.specs.Prelude.{ℕ, suc, ◌<◌, min, ◌≡◌, Bool, ◌&&◌, not, List, map, length, take, ltb, if◌then◌else◌}
use Rattle.layout.specs.Lists.{up_to, keep}
use Rattle.layout.specs.Words.{used, registered}
use Rattle.layout.specs.Tree.{tree}
use Rattle.circuit.specs.Rank.{at}
use Rattle.reading.specs.Readings.{degree⁺}
use Rattle.lower.specs.declared.choose.Choice.{Choice}
use Rattle.lowering.specs.Lowering.{Candidate, better, best}

-- the least degree over the bound, one higher as all degrees here: more isn't told apart
abbrev pub top : ℕ
top = 2147483649

-- of each node, its degree, as far as it is told apart
pub record Degrees (m degrees : List ℕ) : Type 0 where
  pub told : (i : ℕ) → i < used m → at degrees i ≡ min top (degree⁺ (tree m i))

-- node i has a degree above d
abbrev pub above_in : List ℕ → ℕ → ℕ → Bool
above_in degrees d i = ltb (suc d) (at degrees i)

-- some path leads to it, too
abbrev pub is_high_in : List ℕ → List ℕ → ℕ → ℕ → Bool
is_high_in degrees counts d i = ltb 0 (at counts i) && above_in degrees d i

-- the ids of the nodes below the roots with a degree above d
unfoldable pub high_in : List ℕ → List ℕ → ℕ → ℕ → List ℕ
high_in degrees counts d n = keep (is_high_in degrees counts d) (up_to n)

-- a list of r ids stands at the front
pub record Listed (ids list : List ℕ) (r : ℕ) : Type 0 where
  pub many : r ≡ length ids
  pub front : take r list ≡ ids

-- degree 2 up to the target
abbrev pub is_candidate_in : List ℕ → ℕ → ℕ → Bool
is_candidate_in degrees target i = above_in degrees 1 i && not (above_in degrees target i)

-- a node with its degree and its occurrences
abbrev pub candidate_in : List ℕ → List ℕ → ℕ → Candidate
candidate_in degrees occurrences i = record { id = i; degree = at degrees i; occurrences = at occurrences i }

-- the choice among the first n nodes
unfoldable pub best_in : List ℕ → List ℕ → ℕ → ℕ → ℕ
best_in degrees occurrences target n = best (map (candidate_in degrees occurrences) (keep (is_candidate_in degrees target) (up_to n)))

-- the best so far, as the code keeps it
abbrev pub candidate_of : Choice → Candidate
candidate_of c = record { id = c.id; degree = c.degree; occurrences = c.occurrences }

-- the best so far, and then node i
unfoldable pub improved : List ℕ → List ℕ → ℕ → Candidate → ℕ → Candidate
improved degrees occurrences target a i = if is_candidate_in degrees target i then better a (candidate_in degrees occurrences i) else a

-- some path leads to node i, and it is loose
abbrev pub is_loose_in : List ℕ → List ℕ → ℕ → Bool
is_loose_in m counts i = ltb 0 (at counts i) && not (registered m i)

-- node i, of degree above 1, occurs more often than the bound allows
abbrev pub is_over_in : List ℕ → List ℕ → ℕ → Bool
is_over_in degrees occurrences i = above_in degrees 1 i && ltb 4294967295 (at occurrences i)

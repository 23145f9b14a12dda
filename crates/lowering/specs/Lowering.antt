-- Document 01, "Lowering". Assumes nothing.
use Rattle.std.specs.Prelude.{ℕ, zero, suc, ◌+◌, Bool, ◌&&◌, ◌||◌, not, List, [], ◌∷◌, ◌++◌, map, length, set, ltb, eqb, if◌then◌else◌}
use Rattle.layout.specs.declared.node.Position.TheVariants.{Main, Aux}
use Rattle.layout.specs.declared.node.Expression.TheVariants.{Input}
use Rattle.layout.specs.Lists.{up_to, any, keep, each}
use Rattle.layout.specs.Words.{used, offset, word, registered}
use Rattle.layout.specs.Tree.{tree}
use Rattle.building.specs.Building.{find_or_make, subtracted}
use Rattle.walking.specs.Paths.{paths}
use Rattle.reading.specs.Readings.{degree⁺, above, is_base}

-- the nodes below the roots, roots included, with a degree above d; each id counts once. With the target for d, the high nodes
unfoldable pub below_above : ℕ → List ℕ → List ℕ → List ℕ
below_above d m roots = keep (λ i. ltb 0 (paths m roots i) && above d m i) (up_to (used m))

-- M is the number of distinct ids of degree above 1 below the roots, roots included
unfoldable pub M : List ℕ → List ℕ → ℕ
M m roots = length (below_above 1 m roots)

-- some root's degree exceeds the target
unfoldable pub too_high : ℕ → List ℕ → List ℕ → Bool
too_high target m roots = any (above target m) roots

pub record Candidate : Type 0 where
  pub id : ℕ
  pub degree : ℕ
  pub occurrences : ℕ

-- each node of degree 2 up to the target: occurrences = the sum, over all high nodes, of the paths from that high node to it
unfoldable pub candidates : ℕ → List ℕ → List ℕ → List Candidate
candidates target m roots =
    let high = below_above target m roots in
    map (λ i. record { id = i; degree = degree⁺ (tree m i); occurrences = paths m high i })
    (keep (λ i. above 1 m i && not (above target m i)) (up_to (used m)))

-- most occurrences, then highest degree, then least id: a, met earlier, has the lesser id
abbrev pub better : Candidate → Candidate → Candidate
better a b =
    if ltb a.occurrences b.occurrences || eqb a.occurrences b.occurrences && ltb a.degree b.degree then b else a

-- the candidates come in order of their ids
unfoldable pub best : List Candidate → ℕ
best [] = 0
best (c ∷ cs) = (each better c cs).id

-- s becomes n where it is named
abbrev pub renamed : ℕ → ℕ → ℕ → ℕ
renamed s n i = if eqb i s then n else i

-- both operands of node i, where it is an operation and registered
unfoldable pub rename_operands : ℕ → ℕ → List ℕ → ℕ → List ℕ
rename_operands s n m i =
    if registered m i && (eqb (word m i 0) 3 || eqb (word m i 0) 4)
    then set (set m (offset i + 1) (renamed s n (word m i 1))) (offset i + 2) (renamed s n (word m i 2))
    else m

-- s becomes loose; every operand of a registered node naming its id now names n
unfoldable pub redirected : List ℕ → ℕ → ℕ → List ℕ
redirected m s n = each (rename_operands s n) (set m (offset s + 4) 0) (up_to (used m))

-- what a lowering changes; main and aux are the two lists of constraints
pub record Lowering : Type 0 where
  pub circuit : List ℕ
  pub roots : List ℕ
  pub main : List ℕ
  pub aux : List ℕ

-- one substitution, of s: a current-row input, main column (main count + main constraints so far) if the base test says yes, else the
-- same for auxiliary; the redirect, of the roots too; then (new input - s) to the main or auxiliary list
unfoldable pub substituted : ℕ → ℕ → Lowering → ℕ → Lowering
substituted main_count aux_count x s =
    let to_main = is_base (tree x.circuit s) in
    let n = find_or_make x.circuit (Input (if to_main then Main (main_count + length x.main) else Aux (aux_count + length x.aux))) in
    let c = subtracted (redirected n.circuit s n.id) n.id s in
    record {
      circuit = c.circuit;
      roots = map (renamed s n.id) x.roots;
      main = x.main ++ (if to_main then c.id ∷ [] else []);
      aux = x.aux ++ (if to_main then [] else c.id ∷ []);
    }

-- while some root's degree exceeds the target; M substitutions are enough
unfoldable pub loop : ℕ → ℕ → ℕ → ℕ → Lowering → Lowering
loop zero target main_count aux_count x = x
loop (suc more) target main_count aux_count x =
    let r = loop more target main_count aux_count (substituted main_count aux_count x (best (candidates target x.circuit x.roots))) in
    if too_high target x.circuit x.roots then r else x

-- from the circuit and the roots as they stand, with two empty lists
unfoldable pub lowered : ℕ → ℕ → ℕ → List ℕ → List ℕ → Lowering
lowered target main_count aux_count m roots =
    loop (M m roots) target main_count aux_count (record { circuit = m; roots = roots; main = []; aux = [] })

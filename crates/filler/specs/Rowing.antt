-- One row of tables of many: its values are worked out, and the new columns' are stored in the part of the row that begins at the old columns' count.
-- Assumes nothing.
use Rattle.std.specs.Prelude.{ℕ, zero, suc, ◌+◌, ◌-◌, ◌*◌, ◌<◌, ◌≤◌, ◌≡◌, List, [], ◌∷◌, ◌++◌, length, eqb, if◌then◌else◌}
use Rattle.std.proofs.lemmas.List.Edits.{sets}
use Rattle.arithmetic.specs.declared.Triple.{Triple}
use Rattle.arithmetic.specs.Extension.{lift}
use Rattle.layout.specs.Words.{row_kind}
use Rattle.circuit.specs.Rank.{at}
use Rattle.reading.specs.Calls.{triple_at}
use Rattle.filling.specs.Calls.{row_filled}
use Rattle.filling.specs.Promise.{window_of}
use Rattle.filler.specs.declared.plan.Shape.{Shape}
use Rattle.filler.specs.Running.{Values, instruction_at, ran, Sound, Roomy}
use Rattle.filler.specs.Planning.{Ready}

-- the words of the first so many targets
unfoldable pub words_for : List ℕ → List ℕ → ℕ → List ℕ
words_for words targets zero = []
words_for words targets (suc n) = words_for words targets n ++ (at words (at targets n) ∷ [])

-- an entry's value
abbrev pub triple_for : List ℕ → Values → ℕ → Triple
triple_for bases v t = if eqb (at bases t) 1 then lift (at v.0 t) else triple_at v.1 t

-- three words of each of so many targets, from one on
unfoldable pub triples_for : List ℕ → Values → List ℕ → ℕ → ℕ → List ℕ
triples_for bases v targets from zero = []
triples_for bases v targets from (suc n) = let x = triple_for bases v (at targets (from + n)) in triples_for bases v targets from n ++ (x.c0 ∷ x.c1 ∷ x.c2 ∷ [])

-- a row, whose values are these when the plan has run
abbrev pub row_stored : Shape → List ℕ → List ℕ → Values → List ℕ × List ℕ → List ℕ × List ℕ
row_stored s targets bases v t = (sets t.0 s.main (words_for v.0 targets s.fresh), sets t.1 (3 * s.aux) (triples_for bases v targets s.fresh (s.items - s.fresh)))

-- a row, by the plan
abbrev pub row_run : Shape → List ℕ → List ℕ → List ℕ → ℕ → Values → List ℕ × List ℕ → List ℕ × List ℕ
row_run s targets bases plan many v t = row_stored s targets bases (ran plan t.0 t.1 many v) t

-- a plan for rows of this shape, and where the new columns' values stand when it has run
pub record Fits (s : Shape) (kind many : ℕ) (plan targets bases : List ℕ) : Type 0 where
  pub plan_room : 4 * many ≤ length plan
  pub few : many ≤ 4096
  pub sound : (q : ℕ) → q < many → Sound (kind * s.row) (3 * (kind * s.wide)) (instruction_at plan q)
  pub targets_room : s.items ≤ length targets
  pub entries : (k : ℕ) → k < s.items → at targets k < 4096
  pub bases_room : 4096 ≤ length bases
  pub fresh_few : s.fresh ≤ s.items
  pub items_few : s.items ≤ 8192
  pub main_fits : s.main + s.fresh ≤ s.row
  pub aux_fits : s.aux + (s.items - s.fresh) ≤ s.wide
  pub kind_some : 1 ≤ kind
  pub kind_few : kind ≤ 2

-- row r, and those that are read with it, lie in the tables
pub record RowInside (s : Shape) (kind r : ℕ) (main aux : List ℕ) : Type 0 where
  pub main_inside : r * s.row + kind * s.row ≤ length main
  pub aux_inside : r * (3 * s.wide) + kind * (3 * s.wide) ≤ length aux

pub record RowFillable (s : Shape) (kind r many : ℕ) (plan targets bases main aux words triples : List ℕ) : Type 0 where
  pub fits : Fits s kind many plan targets bases
  pub inside : RowInside s kind r main aux
  pub rooms : Roomy words triples

-- the main words of row r are stored
pub record Storing (s : Shape) (r : ℕ) (main targets words : List ℕ) : Type 0 where
  pub inside : r * s.row + s.row ≤ length main
  pub fits : s.main + s.fresh ≤ s.row
  pub targets_room : s.fresh ≤ length targets
  pub entries : (k : ℕ) → k < s.fresh → at targets k < length words

-- the auxiliary ones
pub record StoringWide (s : Shape) (r : ℕ) (aux targets bases words triples : List ℕ) : Type 0 where
  pub inside : r * (3 * s.wide) + 3 * s.wide ≤ length aux
  pub few : s.fresh ≤ s.items
  pub fits : s.aux + (s.items - s.fresh) ≤ s.wide
  pub targets_room : s.items ≤ length targets
  pub entries : (k : ℕ) → k < s.items → (at targets k < length bases) × ((at targets k < length words) × (3 * at targets k + 2 < length triples))

-- row r is filled: the values are worked out, and stored in its new cells
pub record RowDone (s : Shape) (kind r many : ℕ) (plan targets bases main aux words triples main' aux' words' triples' : List ℕ) : Type 0 where
  pub values : (words', triples') ≡ ran plan (window_of kind s.row r main) (window_of kind (3 * s.wide) r aux) many (words, triples)
  pub main_stored : main' ≡ sets main (r * s.row + s.main) (words_for words' targets s.fresh)
  pub aux_stored : aux' ≡ sets aux (r * (3 * s.wide) + 3 * s.aux) (triples_for bases (words', triples') targets s.fresh (s.items - s.fresh))

-- a call's plan: it fits rows of this shape, and by it each row is filled as defined
pub record Prepared (s : Shape) (m mains auxs challenges targets bases plan : List ℕ) (many : ℕ) : Type 0 where
  pub fits : Fits s (row_kind m) many plan targets bases
  pub fills : (t : List ℕ × List ℕ) (v : Values) → length t.0 ≡ row_kind m * s.row → length t.1 ≡ row_kind m * (3 * s.wide) → Ready m challenges v
      → row_filled s.main s.aux m mains auxs challenges t ≡ row_stored s targets bases (ran plan t.0 t.1 many v) t
  pub ready : (t : List ℕ × List ℕ) (v : Values) → Ready m challenges v → Ready m challenges (ran plan t.0 t.1 many v)

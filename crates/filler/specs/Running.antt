-- One row, instruction by instruction: a plan works out the values of nodes, operands first. Assumes nothing.
use Rattle.std.specs.Prelude.{ℕ, zero, suc, ◌+◌, ◌*◌, ◌<◌, ◌≤◌, ◌≡◌, ◌≢◌, List, length, set, ltb, eqb, if◌then◌else◌}
use Rattle.arithmetic.specs.declared.Triple.{Triple}
use Rattle.arithmetic.specs.Base.{add, multiply}
use Rattle.arithmetic.specs.Extension.{lift, plus, times}
use Rattle.circuit.specs.Rank.{at}
use Rattle.reading.specs.Calls.{triple_at}
use Rattle.read.specs.Values.{put_triple}
use Rattle.filler.specs.declared.run.Instruction.{Instruction}

-- the values so far: words of nodes that pass the base test, triples of those that don't
abbrev pub Values : Type 0
Values = List ℕ × List ℕ

-- instruction q of a plan, four words
unfoldable pub instruction_at : List ℕ → ℕ → Instruction
instruction_at plan q = record { op = at plan (4 * q); to = at plan (4 * q + 1); left = at plan (4 * q + 2); right = at plan (4 * q + 3) }

-- WORDS: 0 a cell of the main row, 1 a sum, 2 a product
abbrev pub word_of : Instruction → List ℕ → List ℕ → ℕ
word_of x main words =
    if eqb x.op 0 then at main x.left
    else if eqb x.op 1 then add (at words x.left) (at words x.right)
    else multiply (at words x.left) (at words x.right)

-- TRIPLES: 4 a sum, 5 a product
abbrev pub both : ℕ → Triple → Triple → Triple
both op a b = if eqb op 4 then plus a b else times a b

-- 6 a word plus a triple, 7 a word times one
abbrev pub mixed : ℕ → ℕ → Triple → Triple
mixed op w b = if eqb op 6 then plus (lift w) b else times (lift w) b

-- 3 a cell of the auxiliary row, 8 a word lifted
abbrev pub triple_of : Instruction → List ℕ → List ℕ → List ℕ → Triple
triple_of x aux words triples =
    if eqb x.op 3 then triple_at aux x.left
    else if ltb x.op 6 then both x.op (triple_at triples x.left) (triple_at triples x.right)
    else if eqb x.op 8 then lift (at words x.left)
    else mixed x.op (at words x.left) (triple_at triples x.right)

-- one instruction
unfoldable pub stepped : Instruction → List ℕ → List ℕ → Values → Values
stepped x main aux v =
    if ltb x.op 3 then (set v.0 x.to (word_of x main v.0), v.1)
    else (v.0, put_triple v.1 x.to (triple_of x aux v.0 v.1))

-- the first so many
unfoldable pub ran : List ℕ → List ℕ → List ℕ → ℕ → Values → Values
ran plan main aux zero v = v
ran plan main aux (suc q) v = stepped (instruction_at plan q) main aux (ran plan main aux q v)

-- an instruction within rows of so many words
pub record Sound (main_words aux_words : ℕ) (x : Instruction) : Type 0 where
  pub to : x.to < 4096
  pub cell : x.op ≡ 0 → x.left < main_words
  pub wide : x.op ≡ 3 → 3 * x.left + 2 < aux_words
  pub left : x.op ≢ 0 → x.op ≢ 3 → x.left < 4096
  pub right : x.op ≢ 0 → x.op ≢ 3 → x.right < 4096

-- an entry for each node
pub record Roomy (words triples : List ℕ) : Type 0 where
  pub words_room : 4096 ≤ length words
  pub triples_room : 12288 ≤ length triples

-- one instruction can be done
pub record Doable (x : Instruction) (main aux words triples : List ℕ) : Type 0 where
  pub rooms : Roomy words triples
  pub sound : Sound (length main) (length aux) x

-- a plan can
pub record Runnable (plan : List ℕ) (many : ℕ) (main aux words triples : List ℕ) : Type 0 where
  pub rooms : Roomy words triples
  pub plan_room : 4 * many ≤ length plan
  pub few : many ≤ 4096
  pub sound : (q : ℕ) → q < many → Sound (length main) (length aux) (instruction_at plan q)

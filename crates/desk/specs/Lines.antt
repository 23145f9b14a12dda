-- The program `fill`, one line: document 01's frames, then 0b challenges and 0c row. Assumes nothing.
use Rattle.std.specs.Prelude.{ℕ, ◌+◌, ◌*◌, ◌/◌, Bool, ◌&&◌, ◌||◌, not, List, [], ◌∷◌, ◌++◌, length, get_or, take, ltb, eqb, if◌then◌else◌}
use Rattle.layout.specs.Lists.{all, any}
use Rattle.layout.specs.Words.{row_kind}
use Rattle.layout.specs.NotCircuit.{bad_word}
use Rattle.layout.specs.Outcomes.{Outcome, refusal}
use Rattle.framing.specs.Digits.{is_digit, bytes_of}
use Rattle.framing.specs.Requests.{request_of}
use Rattle.framing.specs.Answers.{replied, reply_bytes, FRAME}
use Rattle.filling.specs.Tables.{element_words}
use Rattle.filling.specs.Promise.{new_main, new_aux}
use Rattle.filling.specs.Calls.{fill_call}
use Rattle.desk.specs.declared.Latest.{Latest}
use Rattle.desk.specs.Words.{words_at, rows_at, eights}
use Rattle.desk.specs.Desks.{Desk, desk, latest_after}

-- a row has at most 1,024 columns of each kind, new ones included; a line gives at most 1,024 challenges
unfoldable pub too_many : ℕ → Bool
too_many n = ltb 1024 n

-- the desk after a line, and the bytes of its answer
pub record Told : Type 0 where
  pub desk : Desk
  pub bytes : List ℕ

abbrev pub told : Desk → List ℕ → Told
told d bs = record { desk = d; bytes = bs }

-- a frame of document 01
unfoldable pub frame_told : Desk → List ℕ → Told
frame_told d line =
    let r = replied d.state (request_of line) in
    told (desk r.state (latest_after d.latest (request_of line) r.reply) d.challenges) (reply_bytes r.reply r.state.main r.state.aux)

-- digits, two for the opcode and 48 for each challenge, of which there aren't too many
unfoldable pub is_challenges : ℕ → List ℕ → Bool
is_challenges n line = all is_digit line && (eqb (length line) (2 + 48 * n) && not (too_many n))

-- 0b, then challenges, 24 bytes each: they take the place of the earlier ones. 00, BAD_WORD, or FRAME
unfoldable pub challenges_told : Desk → List ℕ → Told
challenges_told d line =
    let n = length line / 48 in
    let given = words_at (element_words * n) 1 (bytes_of line) in
    let accepted = if any bad_word given then told d (5 ∷ []) else told (desk d.state d.latest given) (0 ∷ []) in
    if is_challenges n line then accepted else told d (FRAME ∷ [])

-- how many bytes one row has: its main cells, then its auxiliary cells, of the old columns
abbrev pub row_bytes : Latest → ℕ
row_bytes l = 8 * (l.main_count + element_words * l.aux_count)

-- more columns of one kind than a row may have
unfoldable pub too_wide : Latest → Bool
too_wide l = too_many (l.main_count + l.mains) || too_many (l.aux_count + l.auxs)

-- digits, two for each byte of the opcode and of so many rows
unfoldable pub is_rows : Latest → ℕ → List ℕ → Bool
is_rows l rows line = all is_digit line && eqb (length line) (2 * (1 + rows * row_bytes l))

-- a dual-row circuit is given two rows
unfoldable pub rows_given : List ℕ → ℕ
rows_given m = if eqb (row_kind m) 2 then 2 else 1

-- the tables that fill is asked with: this row, and in a dual-row circuit the next
abbrev pub main_rows : Latest → ℕ → List ℕ → List ℕ
main_rows l rows bs = rows_at l.main_count l.mains 1 (row_bytes l) bs rows

abbrev pub aux_rows : Latest → ℕ → List ℕ → List ℕ
aux_rows l rows bs = rows_at (element_words * l.aux_count) (element_words * l.auxs) (1 + 8 * l.main_count) (row_bytes l) bs rows

-- the latest lowering's lists and counts, and the circuit as it is now
unfoldable pub fill_of : Desk → List ℕ → Outcome (Unit {0}) (List ℕ × List ℕ)
fill_of d line =
    let l = d.latest in
    let m = d.state.circuit in
    fill_call l.main_count l.aux_count m (take l.mains d.state.main) (take l.auxs d.state.aux) d.challenges (main_rows l (rows_given m) (bytes_of line)) (aux_rows l (rows_given m) (bytes_of line))

-- the refusal's number, or 0 then each new main value and each new auxiliary value of this row
unfoldable pub fill_bytes : Latest → Outcome (Unit {0}) (List ℕ × List ℕ) → List ℕ
fill_bytes l o = o.number ∷ (if eqb o.number 0 then eights (new_main l.main_count l.mains o.lent.0 ++ new_aux l.aux_count l.auxs o.lent.1) else [])

-- FRAME before a lower frame is accepted, NO_ROOM if a row is too wide, whatever follows, FRAME for any other length or character
unfoldable pub row_refusal : Latest → ℕ → List ℕ → ℕ
row_refusal l rows line = refusal ((FRAME, not l.lowered) ∷ (13, too_wide l) ∷ (FRAME, not (is_rows l rows line)) ∷ [])

-- 0c, then the old cells of this row, and in a dual-row circuit of the next; else what fill answers
unfoldable pub row_answer : Desk → List ℕ → List ℕ
row_answer d line =
    let n = row_refusal d.latest (rows_given d.state.circuit) line in
    let filled = fill_bytes d.latest (fill_of d line) in
    if eqb n 0 then filled else n ∷ []

-- the line begins with these two characters
abbrev pub opens : ℕ → ℕ → List ℕ → Bool
opens a b line = eqb (get_or line 0 0) a && eqb (get_or line 1 0) b

-- until a 00 is accepted every line is document 01's
unfoldable pub line_told : Desk → List ℕ → Told
line_told d line =
    let frame = frame_told d line in
    let given = challenges_told d line in
    let row = told d (row_answer d line) in
    if eqb (row_kind d.state.circuit) 0 then frame
    else if opens 48 98 line then given
    else if opens 48 99 line then row
    else frame

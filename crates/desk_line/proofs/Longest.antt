-- A line longer than any frame is answered as its first 131,075 characters are; and how long an answer can be. Assumes nothing.
use Rattle.std.specs.Prelude.{if◌then◌else◌}
use Prim.Native.Nat.{ℕ, ◌+◌, ◌*◌, ◌/◌, ◌<◌, ◌≤◌}
use mathlib.Core.Path.{◌≡◌, refl, sym, ap, ◌∙◌}
use mathlib.Core.Bool.{Bool, true, false, ◌&&◌, not}
use mathlib.Core.List.{List, [], ◌∷◌}
use native.Mathlib.Decide.{dec_lt}
use native.Mathlib.Omega.{arith}
use lib.ListN.{length, take, length-append}
use lib.Seq.{take_all, length-take-le, get_or-take}
use lib.Dec.{ltb, eqb}
use borrow.Author.Tests.{ne_eqb, eqb-true, lt-ltb}
use Rattle.layout.specs.Lists.{all, any}
use Rattle.layout.specs.Words.{row_kind}
use Rattle.layout.specs.NotCircuit.{bad_word}
use Rattle.layout.specs.Outcomes.{refusal}
use Rattle.framing.specs.declared.Request.TheVariants.{Nothing}
use Rattle.framing.specs.Digits.{is_digit, bytes_of, hexadecimal}
use Rattle.framing.specs.Requests.{request_of}
use Rattle.framing.specs.Answers.{FRAME, replied, reply_bytes}
use Rattle.frame.proofs.Writing.{length_hexadecimal, reply_short}
use Rattle.stream.proofs.Long.{long_line}
use Rattle.stream.proofs.Streaming.{Enough}
use Rattle.filling.specs.Tables.{element_words}
use Rattle.desk.specs.declared.Latest.{Latest}
use Rattle.desk.specs.Words.{words_at}
use Rattle.desk.specs.Desks.{Desk, desk, latest_after}
use Rattle.desk.specs.Lines.{too_many, Told, told, frame_told, is_challenges, challenges_told, row_bytes, too_wide, is_rows, rows_given, row_refusal, row_answer, opens, line_told}
use Rattle.desk.specs.Program.{told_line}
use Rattle.desk_line.specs.Reading.{OneOrTwo}
use Rattle.desk_line.specs.Feeds.{fill_program}
use Rattle.desk_line.proofs.Widths.{narrow, at_most_two}
use Rattle.desk_line.proofs.Fills.{row_short}

-- a frame of document 01
abbrev no_frame : Desk → Told
no_frame d =
    let r = replied d.state Nothing in
    told (desk r.state (latest_after d.latest Nothing r.reply) d.challenges) (reply_bytes r.reply r.state.main r.state.aux)

frame_long : (d : Desk) (line : List ℕ) → 131074 < length line → frame_told d line ≡ no_frame d
unfolding frame_told
frame_long d line h = rw (long_line line (omega arith))

-- challenges
no_and : (a b : Bool) → b ≡ false → (a && b) ≡ false
no_and true b e = e
no_and false b e = refl

not_challenges : (n : ℕ) (line : List ℕ) → 131074 < length line → is_challenges n line ≡ false
unfolding is_challenges too_many
not_challenges n line h = no_and (all is_digit line) (eqb (length line) (2 + 48 * n) && not (ltb 1024 n)) (go (eqb (length line) (2 + 48 * n)) refl)
  where
    go : (b : Bool) → eqb (length line) (2 + 48 * n) ≡ b → (b && not (ltb 1024 n)) ≡ false
    go true e =
        let k : length line ≡ 2 + 48 * n = eqb-true (length line) (2 + 48 * n) e in
        ap not (lt-ltb 1024 n (omega arith))
    go false e = refl

challenges_long : (d : Desk) (line : List ℕ) → 131074 < length line → challenges_told d line ≡ told d (FRAME ∷ [])
unfolding challenges_told
challenges_long d line h = rw (not_challenges (length line / 48) line h)

-- a row
rows_few : (m : List ℕ) → OneOrTwo (rows_given m)
unfolding rows_given
rows_few m = go (eqb (row_kind m) 2)
  where
    go : (b : Bool) → OneOrTwo (if b then 2 else 1)
    go true = record { some = omega arith; few = omega arith }
    go false = record { some = omega arith; few = omega arith }

not_rows : (l : Latest) (rows : ℕ) (line : List ℕ) → 131074 < length line → OneOrTwo rows → too_wide l ≡ false → is_rows l rows line ≡ false
unfolding is_rows
not_rows l rows line h few w =
    let n = narrow l w in
    no_and (all is_digit line) (eqb (length line) (2 * (1 + rows * row_bytes l))) (ne_eqb (length line) (2 * (1 + rows * row_bytes l)) (λ e. omega (arith, e, at_most_two rows (row_bytes l) few, n.main, n.aux)))

-- so it is refused, with one of two numbers
abbrev long_refusal : Latest → ℕ
long_refusal l = refusal ((FRAME, not l.lowered) ∷ (13, too_wide l) ∷ (FRAME, true) ∷ [])

refused_long : (l : Latest) (rows : ℕ) (line : List ℕ) → 131074 < length line → OneOrTwo rows → row_refusal l rows line ≡ long_refusal l
unfolding row_refusal refusal
refused_long l rows line h few = go (too_wide l) refl
  where
    go : (b : Bool) → too_wide l ≡ b → refusal ((FRAME, not l.lowered) ∷ (13, too_wide l) ∷ (FRAME, not (is_rows l rows line)) ∷ []) ≡ refusal ((FRAME, not l.lowered) ∷ (13, too_wide l) ∷ (FRAME, true) ∷ [])
    go true e = rw e
    go false e = rw (not_rows l rows line h few e)

refused_some : (l : Latest) → eqb (long_refusal l) 0 ≡ false
unfolding refusal
refused_some l = go (not l.lowered) (too_wide l)
  where
    go : (a b : Bool) → eqb (if a then FRAME else if b then 13 else FRAME) 0 ≡ false
    go true b = refl
    go false true = refl
    go false false = refl

row_long : (d : Desk) (line : List ℕ) → 131074 < length line → row_answer d line ≡ long_refusal d.latest ∷ []
unfolding row_answer
row_long d line h = rw (refused_long d.latest (rows_given d.state.circuit) line h (rows_few d.state.circuit), refused_some d.latest)

-- whatever it opens with
abbrev long_told : Desk → Bool → Bool → Told
long_told d a b = if eqb (row_kind d.state.circuit) 0 then no_frame d else if a then told d (FRAME ∷ []) else if b then told d (long_refusal d.latest ∷ []) else no_frame d

line_long : (d : Desk) (line : List ℕ) → 131074 < length line → line_told d line ≡ long_told d (opens 48 98 line) (opens 48 99 line)
unfolding line_told
line_long d line h = rw (frame_long d line h, challenges_long d line h, row_long d line h)

opens_alike : (a b : ℕ) (line : List ℕ) → opens a b (take 131075 line) ≡ opens a b line
opens_alike a b line = rw (get_or-take 131075 line 0 0 (omega arith), get_or-take 131075 line 1 0 (omega arith))

first_131075 : (d : Desk) (line : List ℕ) → line_told d (take 131075 line) ≡ line_told d line
first_131075 d line = go (dec_lt 131074 (length line))
  where
    go : Dec (131074 < length line) → line_told d (take 131075 line) ≡ line_told d line
    go (no h) = ap (line_told d) (take_all 131075 line (omega arith))
    go (yes h) =
        line_long d (take 131075 line) (omega (arith, length-take-le 131075 line (omega arith)))
        ∙ rw (opens_alike 48 98 line, opens_alike 48 99 line) (sym (line_long d line h))

pub enough : Enough fill_program
enough = record { some = omega arith; nexts = λ d l. ap (λ (t : Told). t.desk) (first_131075 d l); same = λ d l. ap told_line (first_131075 d l) }

-- the longest answer is a row's
told_length : (t : Told) → length (told_line t) ≡ 2 * length t.bytes + 1
unfolding told_line
told_length t = omega (arith, length-append (hexadecimal t.bytes) (10 ∷ []), length_hexadecimal t.bytes)

frame_short : (d : Desk) (line : List ℕ) → length (frame_told d line).desk.state.main + length (frame_told d line).desk.state.aux ≤ 1024 → length (frame_told d line).bytes ≤ 32769
unfolding frame_told
frame_short d line h =
    let r = replied d.state (request_of line) in
    omega (arith, reply_short r.reply r.state.main r.state.aux, h)

challenges_short : (d : Desk) (line : List ℕ) → length (challenges_told d line).bytes ≤ 32769
unfolding challenges_told
challenges_short d line = go (is_challenges (length line / 48) line) (any bad_word (words_at (element_words * (length line / 48)) 1 (bytes_of line)))
  where
    given : List ℕ
    given = words_at (element_words * (length line / 48)) 1 (bytes_of line)

    go : (a b : Bool) → length (if a then if b then told d (5 ∷ []) else told (desk d.state d.latest given) (0 ∷ []) else told d (FRAME ∷ [])).bytes ≤ 32769
    go true true = omega arith
    go true false = omega arith
    go false b = omega arith

line_short : (d : Desk) (line : List ℕ) → length (line_told d line).desk.state.main + length (line_told d line).desk.state.aux ≤ 1024 → length (line_told d line).bytes ≤ 32769
unfolding line_told
line_short d line = go (eqb (row_kind d.state.circuit) 0) (opens 48 98 line) (opens 48 99 line)
  where
    by : Bool → Bool → Bool → Told
    by a b c = if a then frame_told d line else if b then challenges_told d line else if c then told d (row_answer d line) else frame_told d line

    go : (a b c : Bool) → length (by a b c).desk.state.main + length (by a b c).desk.state.aux ≤ 1024 → length (by a b c).bytes ≤ 32769
    go true b c h = frame_short d line h
    go false true c h = challenges_short d line
    go false false true h = row_short d line
    go false false false h = frame_short d line h

pub few_told : (d : Desk) (line : List ℕ) → length (line_told d line).desk.state.main + length (line_told d line).desk.state.aux ≤ 1024 → length (fill_program.says d line) ≤ 65539
few_told d line h = omega (arith, told_length (line_told d line), line_short d line h)

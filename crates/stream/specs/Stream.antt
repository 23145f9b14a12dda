-- A program that answers lines, on its input, byte by byte: what it keeps, and what it has answered. Assumes nothing.
use Rattle.std.specs.Prelude.{ℕ, suc, ◌+◌, ◌<◌, ◌≤◌, ◌≡◌, Bool, true, false, List, [], ◌∷◌, ◌++◌, length, take, ltb, eqb, if◌then◌else◌}
use Rattle.frame.specs.Puts.{Put}

-- how many characters are kept of a line, what a line makes of the state, and the line that it is answered, line feed included
pub record Program (S : Type 0) : Type 0 where
  pub most : ℕ
  pub next : S → List ℕ → S
  pub says : S → List ℕ → List ℕ

-- the state, and what is kept of a line that has not ended
pub record Stream (S : Type 0) : Type 0 where
  pub state : S
  pub kept : List ℕ

abbrev pub stream : {S : Type 0} → S → List ℕ → Stream S
stream state kept = record { state = state; kept = kept }

-- what is kept afterwards, and what was answered
pub record Fed (S : Type 0) : Type 0 where
  pub after : Stream S
  pub said : List ℕ

-- of a line so many characters are kept: no line that is more than FRAME has so many
unfoldable pub kept_with : ℕ → List ℕ → ℕ → List ℕ
kept_with most kept b = if ltb (length kept) most then kept ++ (b ∷ []) else kept

-- a line feed ends the line, and it is answered
unfoldable pub fed_one : {S : Type 0} → Program S → Stream S → ℕ → Fed S
fed_one p s b =
    if eqb b 10 then record { after = stream (p.next s.state s.kept) []; said = p.says s.state s.kept }
    else record { after = stream s.state (kept_with p.most s.kept b); said = [] }

-- one byte after the other
unfoldable pub fed : {S : Type 0} → Program S → Stream S → List ℕ → Fed S
fed p s [] = record { after = s; said = [] }
fed p s (b ∷ bs) =
    let x = fed_one p s b in
    let y = fed p x.after bs in
    record { after = y.after; said = x.said ++ y.said }

-- at the input's end: what follows the last line feed is a line if it isn't empty
unfoldable pub ended_with : {S : Type 0} → Program S → S → List ℕ → List ℕ
ended_with p s [] = []
ended_with p s (c ∷ cs) = p.says s (c ∷ cs)

-- each line gets one
unfoldable pub answered : {S : Type 0} → Program S → S → List (List ℕ) → List ℕ
answered p s [] = []
answered p s (l ∷ ls) = p.says s l ++ answered p (p.next s l) ls

-- everything that is answered to these bytes, at the end of the input too
unfoldable pub whole : {S : Type 0} → Program S → Stream S → List ℕ → List ℕ
whole p s bs = let x = fed p s bs in x.said ++ ended_with p x.after.state x.after.kept

-- A LINE: its characters up to the line feed, or to the end of what is there. How many bytes that takes, what is kept, and whether the line ended
pub record Line : Type 0 where
  pub taken : ℕ
  pub kept : List ℕ
  pub ended : Bool

abbrev pub line_of : ℕ → List ℕ → Bool → Line
line_of taken kept ended = record { taken = taken; kept = kept; ended = ended }

unfoldable pub gathered : ℕ → List ℕ → List ℕ → Line
gathered most kept [] = line_of 0 kept false
gathered most kept (b ∷ bs) =
    let rest = gathered most (kept_with most kept b) bs in
    if eqb b 10 then line_of 1 kept true else line_of (suc rest.taken) rest.kept rest.ended

-- a line was gathered: the characters before and after, how many bytes of the part were taken
pub record Gathers (line : List ℕ) (kept : ℕ) (part line' : List ℕ) (taken kept' : ℕ) (ended : Bool) : Type 0 where
  pub is : line_of taken (take kept' line') ended ≡ gathered (length line) (take kept line) part
  pub few : kept' ≤ length line

-- a line was answered, behind what was written before
pub record AnsweredLine {S : Type 0} (p : Program S) (s s' : S) (line out : List ℕ) (at : ℕ) (out' : List ℕ) (after : ℕ) : Type 0 where
  pub state : s' ≡ p.next s line
  pub put : Put out at (p.says s line) out' after
  pub fits : after ≤ length out

-- what was fed: the state, the kept characters, and what was written behind what stood there
pub record Advanced {S : Type 0} (f : Fed S) (s' : S) (kept' out : List ℕ) (at : ℕ) (out' : List ℕ) (after : ℕ) : Type 0 where
  pub state : s' ≡ f.after.state
  pub kept : kept' ≡ f.after.kept
  pub put : Put out at f.said out' after
  pub fits : after ≤ length out

-- what is asked: as many places as characters are kept of a line, and places for one more answer
pub record Roomy (most : ℕ) (line : List ℕ) (kept room : ℕ) (out : List ℕ) (at : ℕ) : Type 0 where
  pub few : kept ≤ most
  pub places : length line ≡ most
  pub answer : at + room ≤ length out

-- how much of a part was taken
pub record Taken (most : ℕ) (part : List ℕ) (taken kept : ℕ) : Type 0 where
  pub within : taken ≤ length part
  pub some : 0 < length part → 0 < taken
  pub few : kept ≤ most

-- what is kept once a part of the input has been fed. What is written of the answers, no contract of a call to the system can say
pub record Poured {S : Type 0} (p : Program S) (s : Stream S) (part : List ℕ) (s' : S) (line : List ℕ) (kept : ℕ) : Type 0 where
  pub state : s' ≡ (fed p s part).after.state
  pub characters : take kept line ≡ (fed p s part).after.kept
  pub few : kept ≤ p.most

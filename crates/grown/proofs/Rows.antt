-- The program `fill` never answers NOT_LOWERED: a row is filled by the lists of an accepted lowering, with nodes built since. Assumes nothing.
use Rattle.std.specs.Prelude.{if◌then◌else◌}
use Prim.Native.Nat.{ℕ, zero, suc, ◌*◌, ◌/◌, ◌≤◌}
use mathlib.Core.Path.{◌≡◌, refl}
use mathlib.Core.Logic.{⊎_elim}
use mathlib.Core.Bool.{Bool, true, false, not}
use mathlib.Core.List.{List, [], ◌∷◌}
use native.Mathlib.Omega.{arith}
use lib.ListN.{length, get_or, take}
use lib.Dec.{eqb}
use borrow.Author.Tests.{eq-eqb, ne_eqb}
use Rattle.layout.specs.declared.node.RowKind.{RowKind}
use Rattle.layout.specs.declared.node.RowKind.TheVariants.{Single, Dual}
use Rattle.layout.specs.declared.node.Position.{Position}
use Rattle.layout.specs.declared.node.Position.TheVariants as position
use Rattle.layout.specs.Lists.{all, any}
use Rattle.layout.specs.Words.{row_kind}
use Rattle.layout.specs.NotCircuit.{bad_word}
use Rattle.layout.specs.Outcomes.{Outcome, refusal}
use Rattle.layout.specs.Calls.{start_call}
use Rattle.layout.proofs.Lists.{clash}
use Rattle.layout.proofs.Tests.{same_or}
use Rattle.building.specs.Calls.{input_call, challenge_call, base_call, extension_call, operation_call, subtract_call, negate_call}
use Rattle.lowering.specs.Lowering.{Lowering}
use Rattle.lowering.specs.Calls.{lower_call, returned}
use Rattle.filling.specs.Tables.{element_words}
use Rattle.filling.proofs.Accepts.{kinds}
use Rattle.framing.specs.declared.Reply.TheVariants.{Bare, Counts}
use Rattle.framing.specs.declared.Request.{Request}
use Rattle.framing.specs.declared.Request.TheVariants.{Start, Input, Challenge, Base, Extension, Operation, Subtract, Negate, Root, Lower, Nothing}
use Rattle.framing.specs.Digits.{bytes_of}
use Rattle.framing.specs.Requests.{request_of}
use Rattle.framing.specs.States as states
use Rattle.framing.specs.States.{State, roots_of}
use Rattle.framing.specs.Answers.{Replied, FRAME, bare, id_answer, start_as, start_answer, input_answer, root_answer, lower_answer, answered, in_time, replied}
use Rattle.desk.specs.declared.Latest.{Latest}
use Rattle.desk.specs.Words.{words_at}
use Rattle.desk.specs.Desks.{Desk, desk, lowered, latest_after}
use Rattle.desk.specs.Lines.{Told, told, frame_told, is_challenges, challenges_told, too_wide, is_rows, rows_given, main_rows, aux_rows, fill_of, fill_bytes, row_refusal, row_answer, opens, line_told}
use Rattle.grown.specs.Grown as grown
use Rattle.grown.specs.Grown.{Grown}
use Rattle.grown.specs.Fills as since
use Rattle.grown.specs.Fills.{Since}
use Rattle.grown.specs.Refusals.{Keeps}
use Rattle.grown.specs.Reached as reached
use Rattle.grown.specs.Reached.{Reached}
use Rattle.grown.proofs.Grows.{grown_good}
use Rattle.grown.proofs.Since.{since_grown}
use Rattle.grown.proofs.Refusals.{refusals}
use Rattle.grown.proofs.Latest.{fills_latest}
use Rattle.grown.proofs.Numbers.{refusal_low, frame_low}

-- the counts and the lists are those of an accepted lowering of a grown circuit, and the circuit is what became of it since
record Lists (l : Latest) (m main aux : List ℕ) : Type 0 where
  target : ℕ
  lent : Lowering
  grown_before : Grown lent.circuit
  accepted : (lower_call target l.main_count l.aux_count lent).number ≡ 0
  mains : take l.mains main ≡ (returned (lower_call target l.main_count l.aux_count lent)).main
  auxs : take l.auxs aux ≡ (returned (lower_call target l.main_count l.aux_count lent)).aux
  built : Since (returned (lower_call target l.main_count l.aux_count lent)).circuit m

-- what is true between lines: nothing is started and nothing lowered, or the circuit is grown
data Ready (l : Latest) (m main aux : List ℕ) : Type 0 where
  unstarted : row_kind m ≡ 0 → l.lowered ≡ false → Ready l m main aux
  begun : Grown m → (l.lowered ≡ true → Lists l m main aux) → Ready l m main aux

abbrev ReadyDesk : Desk → Type 0
ReadyDesk d = Ready d.latest d.state.circuit d.state.main d.state.aux

-- after a request and its answer
abbrev After : Latest → Request → Replied → Type 0
After l q r = Ready (latest_after l q r.reply) r.state.circuit r.state.main r.state.aux

-- a grown circuit has a row kind
has_kind : (m : List ℕ) → Grown m → row_kind m ≡ 0 → ⊥
has_kind m g z = ⊎_elim (λ e. omega arith) (λ e. omega arith) (kinds m (grown_good m g).circuit)

-- so what comes in time tells which of the two it is
module _ (l : Latest) (m main aux : List ℕ) where
  is_unstarted : Ready l m main aux → (if eqb (row_kind m) 0 then true else false) ≡ true → (row_kind m ≡ 0) × (l.lowered ≡ false)
  is_unstarted (unstarted z f) t = (z, f)
  is_unstarted (begun g k) t = clash false (rw (ne_eqb (row_kind m) 0 (has_kind m g)) at t) refl

  is_begun : Ready l m main aux → (if eqb (row_kind m) 0 then false else true) ≡ true → Grown m × (l.lowered ≡ true → Lists l m main aux)
  is_begun (unstarted z f) t = clash false (rw (eq-eqb (row_kind m) 0 z) at t) refl
  is_begun (begun g k) t = (g, k)

  -- a start: nothing was lowered
  module _ (z : row_kind m ≡ 0) (f : l.lowered ≡ false) where
    starts : (kind : RowKind) → Ready l (start_call m kind).lent main aux
    starts kind =
        ⊎_elim (λ h. begun (grown.started m kind h) (λ t. clash l.lowered t f)) (λ h. rw (refusals.start m kind h).1 (unstarted z f)) (same_or (start_call m kind).number 0)

    start_ready : (rs : List ℕ) (kind : ℕ) → After l (Start kind) (start_answer (states.lent m rs main aux) kind)
    unfolding start_answer start_as
    start_ready rs kind = go (eqb kind 1) (eqb kind 2)
      where
        go : (a b : Bool) → After l (Start kind) (if a then start_as (states.lent m rs main aux) Single else if b then start_as (states.lent m rs main aux) Dual else bare (states.lent m rs main aux) FRAME)
        go true b = starts Single
        go false true = starts Dual
        go false false = unstarted z f

  -- a call of a grown circuit
  module _ (g : Grown m) (lists : l.lowered ≡ true → Lists l m main aux) where
    grows : (m' : List ℕ) → ((x : List ℕ) → Since x m → Since x m') → Ready l m' main aux
    grows m' f =
        begun (since_grown m m' g (f m since.same))
        (λ t. let k = lists t in record { target = k.target; lent = k.lent; grown_before = k.grown_before; accepted = k.accepted; mains = k.mains; auxs = k.auxs; built = f _ k.built })

    builds : (o : Outcome ℕ (List ℕ)) → Keeps o 0 m → ((x : List ℕ) → Since x m → o.number ≡ 0 → Since x o.lent) → Ready l o.lent main aux
    builds o keeps f = ⊎_elim (λ h. grows o.lent (λ x s. f x s h)) (λ h. rw (keeps h).1 (begun g lists)) (same_or o.number 0)

    module _ (rs : List ℕ) where
      abbrev s : State
      s = states.lent m rs main aux

      input_ready : (row c : ℕ) → After l (Input row c) (input_answer s row c)
      unfolding input_answer id_answer
      input_ready row c = go (eqb row 0) (eqb row 1) (eqb row 2) (eqb row 3)
        where
          at : (q : Position) → Ready l (input_call m q).lent main aux
          at q = builds (input_call m q) (refusals.input m q) (λ x b. since.input m b q)

          go : (a b c' d : Bool) → After l (Input row c) (if a then id_answer s (input_call m (position.Main c)) else if b then id_answer s (input_call m (position.Aux c)) else if c' then id_answer s (input_call m (position.NextMain c)) else if d then id_answer s (input_call m (position.NextAux c)) else bare s FRAME)
          go true b c' d = at (position.Main c)
          go false true c' d = at (position.Aux c)
          go false false true d = at (position.NextMain c)
          go false false false true = at (position.NextAux c)
          go false false false false = begun g lists

      -- an accepted one takes the place of the one before
      lower_ready : (target a b : ℕ) → After l (Lower target a b) (lower_answer s target a b)
      unfolding lower_answer
      lower_ready target a b = go o.number refl
        where
          x : Lowering
          x = record { circuit = m; roots = roots_of rs; main = main; aux = aux }

          o : Outcome (ℕ × ℕ) Lowering
          o = lower_call target a b x

          go : (n : ℕ) → o.number ≡ n → Ready (lowered l a b (Counts n o.values.0 o.values.1)) o.lent.circuit o.lent.main o.lent.aux
          go zero h = begun (grown.lower x g target a b h) (λ t. record { target = target; lent = x; grown_before = g; accepted = h; mains = refl; auxs = refl; built = since.same })
          go (suc n) h = rw (refusals.lower target a b x (λ z. omega arith)).1 (begun g lists)

      root_ready : (i : ℕ) → After l (Root i) (root_answer s i)
      unfolding root_answer
      root_ready i = begun g lists

-- a request that comes in time
module _ (l : Latest) (m rs main aux : List ℕ) (r : Ready l m main aux) where
  called : (if eqb (row_kind m) 0 then false else true) ≡ true → (o : Outcome ℕ (List ℕ)) → Keeps o 0 m → ((x : List ℕ) → Since x m → o.number ≡ 0 → Since x o.lent) → Ready l o.lent main aux
  called t = let (g, k) = is_begun l m main aux r t in builds l m main aux g k

  timely : (q : Request) → in_time (states.lent m rs main aux) q ≡ true → After l q (answered (states.lent m rs main aux) q)
  unfolding in_time answered id_answer
  timely (Start kind) t = let (z, f) = is_unstarted l m main aux r t in start_ready l m main aux z f rs kind
  timely (Input row c) t = let (g, k) = is_begun l m main aux r t in input_ready l m main aux g k rs row c
  timely (Challenge k) t = called t (challenge_call m k) (refusals.challenge m k) (λ x b. since.challenge m b k)
  timely (Base w) t = called t (base_call m w) (refusals.base_constant m w) (λ x b. since.base m b w)
  timely (Extension y) t = called t (extension_call m y) (refusals.extension_constant m y) (λ x b. since.extension m b y)
  timely (Operation o i j) t = called t (operation_call m o i j) (refusals.operation m o i j) (λ x b. since.operation m b o i j)
  timely (Subtract i j) t = called t (subtract_call m i j) (refusals.subtract m i j) (λ x b. since.subtract m b i j)
  timely (Negate i) t = called t (negate_call m i) (refusals.negate m i) (λ x b. since.negate m b i)
  timely (Root i) t = let (g, k) = is_begun l m main aux r t in root_ready l m main aux g k rs i
  timely (Lower target a b) t = let (g, k) = is_begun l m main aux r t in lower_ready l m main aux g k rs target a b
  timely Nothing t = r

-- a bare answer lowers nothing
bare_latest : (l : Latest) (q : Request) (n : ℕ) → latest_after l q (Bare n) ≡ l
bare_latest l (Start kind) n = refl
bare_latest l (Input row c) n = refl
bare_latest l (Challenge k) n = refl
bare_latest l (Base w) n = refl
bare_latest l (Extension x) n = refl
bare_latest l (Operation o i j) n = refl
bare_latest l (Subtract i j) n = refl
bare_latest l (Negate i) n = refl
bare_latest l (Root i) n = refl
bare_latest l (Lower target a b) n = refl
bare_latest l Nothing n = refl

-- a frame
frame_ready : (d : Desk) → ReadyDesk d → (line : List ℕ) → ReadyDesk (frame_told d line).desk
unfolding frame_told replied
frame_ready d r line = go (in_time d.state (request_of line)) refl
  where
    go : (b : Bool) → in_time d.state (request_of line) ≡ b → After d.latest (request_of line) (if b then answered d.state (request_of line) else bare d.state FRAME)
    go true t = timely d.latest d.state.circuit d.state.roots d.state.main d.state.aux r (request_of line) t
    go false t = rw (bare_latest d.latest (request_of line) FRAME) r

-- a line's cases, by its tests
abbrev given : List ℕ → List ℕ
given line = words_at (element_words * (length line / 48)) 1 (bytes_of line)

abbrev given_told : Desk → List ℕ → Bool → Bool → Told
given_told d line a b = if a then (if b then told d (5 ∷ []) else told (desk d.state d.latest (given line)) (0 ∷ [])) else told d (FRAME ∷ [])

abbrev line_told_lem : Desk → List ℕ → Bool → Bool → Bool → Told
line_told_lem d line a b c = if a then frame_told d line else if b then challenges_told d line else if c then told d (row_answer d line) else frame_told d line

-- challenges leave the circuit and the lists
challenges_ready : (d : Desk) → ReadyDesk d → (line : List ℕ) → ReadyDesk (challenges_told d line).desk
unfolding challenges_told
challenges_ready d r line = go (is_challenges (length line / 48) line) (any bad_word (given line))
  where
    go : (a b : Bool) → ReadyDesk (given_told d line a b).desk
    go true true = r
    go true false = r
    go false b = r

line_ready : (d : Desk) → ReadyDesk d → (line : List ℕ) → ReadyDesk (line_told d line).desk
unfolding line_told
line_ready d r line = go (eqb (row_kind d.state.circuit) 0) (opens 48 98 line) (opens 48 99 line)
  where
    go : (a b c : Bool) → ReadyDesk (line_told_lem d line a b c).desk
    go true b c = frame_ready d r line
    go false true c = challenges_ready d r line
    go false false true = r
    go false false false = frame_ready d r line

reached_ready : (d : Desk) → Reached d → ReadyDesk d
unfolding states.fresh
reached_ready d (reached.fresh) = unstarted refl refl
reached_ready d (reached.line e r l) = line_ready e (reached_ready e r) l

-- NEVER NOT_LOWERED: whatever lines came before, and whatever a row line says
pub never_not_lowered : (d : Desk) → Reached d → (line : List ℕ) → d.latest.lowered ≡ true → (fill_of d line).number ≡ 17 → ⊥
unfolding fill_of all
never_not_lowered d r line t h = omega (arith, go (reached_ready d r), h)
  where
    go : ReadyDesk d → (fill_of d line).number ≤ FRAME
    go (unstarted z f) = clash d.latest.lowered t f
    go (begun g lists) =
        let k = lists t in
        let l = d.latest in
        let m = d.state.circuit in
        let main = main_rows l (rows_given m) (bytes_of line) in
        let aux = aux_rows l (rows_given m) (bytes_of line) in
        let filled = fills_latest k.target l.main_count l.aux_count k.lent k.grown_before k.accepted m k.built main aux d.challenges in
        rw (k.mains, k.auxs, filled.number) (refusal_low _ refl)

-- so no answer to a row begins with it
pub row_never_not_lowered : (d : Desk) → Reached d → (line : List ℕ) → get_or (row_answer d line) 0 0 ≡ 17 → ⊥
unfolding row_answer row_refusal refusal fill_bytes
row_never_not_lowered d r line = go d.latest.lowered refl (too_wide d.latest) (is_rows d.latest (rows_given d.state.circuit) line)
  where
    go : (a : Bool) → d.latest.lowered ≡ a → (b c : Bool)
        → get_or (let n = refusal ((FRAME, not a) ∷ (13, b) ∷ (FRAME, not c) ∷ []) in if eqb n 0 then fill_bytes d.latest (fill_of d line) else n ∷ []) 0 0 ≡ 17 → ⊥
    go true e true c h = omega arith
    go true e false true h = never_not_lowered d r line e h
    go true e false false h = omega arith
    go false e b c h = omega arith

-- and no answer to any line: challenges are answered 0, 5 or FRAME, frames with a number up to FRAME
challenges_other : (d : Desk) (line : List ℕ) → get_or (challenges_told d line).bytes 0 0 ≡ 17 → ⊥
unfolding challenges_told
challenges_other d line = go (is_challenges (length line / 48) line) (any bad_word (given line))
  where
    go : (a b : Bool) → get_or (given_told d line a b).bytes 0 0 ≡ 17 → ⊥
    go true true h = omega arith
    go true false h = omega arith
    go false b h = omega arith

pub line_never_not_lowered : (d : Desk) → Reached d → (line : List ℕ) → get_or (line_told d line).bytes 0 0 ≡ 17 → ⊥
unfolding line_told frame_told
line_never_not_lowered d r line = go (eqb (row_kind d.state.circuit) 0) (opens 48 98 line) (opens 48 99 line)
  where
    frame : get_or (frame_told d line).bytes 0 0 ≡ 17 → ⊥
    frame h = omega (arith, frame_low d.state (request_of line) (replied d.state (request_of line)).state.main (replied d.state (request_of line)).state.aux, h)

    go : (a b c : Bool) → get_or (line_told_lem d line a b c).bytes 0 0 ≡ 17 → ⊥
    go true b c = frame
    go false true c = challenges_other d line
    go false false true = row_never_not_lowered d r line
    go false false false = frame

-- Laws of a line and its answer. Assumes nothing.
use Rattle.std.specs.Prelude.{if◌then◌else◌}
use Prim.Native.Nat.{ℕ, zero, suc, ◌≤◌}
use mathlib.Core.Path.{◌≡◌, refl, sym, ap, ◌∙◌}
use mathlib.Core.Bool.{Bool, true, false}
use mathlib.Core.List.{List, [], ◌∷◌, ◌++◌}
use native.Mathlib.Omega.{arith}
use lib.ListN.{length, get_or, get_or-eq_default}
use lib.Dec.{eqb}
use borrow.Author.Tests.{eq-eqb, ne_eqb, eqb-false}
use Rattle.layout.specs.Words.{row_kind}
use Rattle.framing.specs.declared.Reply.{Reply}
use Rattle.framing.specs.declared.Reply.TheVariants.{Counts}
use Rattle.framing.specs.declared.Request.{Request}
use Rattle.framing.specs.declared.Request.TheVariants.{Lower}
use Rattle.framing.specs.Digits.{hexadecimal}
use Rattle.framing.specs.Requests.{request_of}
use Rattle.framing.specs.States.{State, lent}
use Rattle.framing.specs.Answers as framing
use Rattle.frame.specs.Puts.{Put}
use Rattle.frame.proofs.Writing.{put_then}
use Rattle.kept.specs.Keeps.{Keeps}
use Rattle.read.proofs.Lent.{valid_rows}
use Rattle.desk.specs.declared.Latest.{Latest}
use Rattle.desk.specs.Desks.{Desk, desk, latest, lowered, latest_after}
use Rattle.desk.specs.Lines.{Told, told, frame_told, challenges_told, row_answer, opens, line_told}
use Rattle.desk.specs.Program.{told_line, Desked, desked, desked_by, desk_call}
use Rattle.desk_line.specs.Reading.{OneOrTwo}
use Rattle.desk_line.specs.Kinds.{line_kind}

-- a character
pub beyond_line : (line : List ℕ) (i : ℕ) → length line ≤ i → 0 ≡ get_or line i 0
beyond_line line i h = sym (get_or-eq_default line 0 h)

-- which kind of line
module _ (m line : List ℕ) where
  pub kind_unstarted : row_kind m ≡ 0 → 0 ≡ line_kind m line
  unfolding line_kind
  kind_unstarted z = sym (rw (eq-eqb (row_kind m) 0 z))

  module _ (s : row_kind m ≡ 0 → ⊥) where
    pub kind_other_first : (get_or line 0 0 ≡ 48 → ⊥) → 0 ≡ line_kind m line
    unfolding line_kind
    kind_other_first h = sym (rw (ne_eqb (row_kind m) 0 s, ne_eqb (get_or line 0 0) 48 h))

    module _ (f : get_or line 0 0 ≡ 48) where
      pub kind_challenges : get_or line 1 0 ≡ 98 → 1 ≡ line_kind m line
      unfolding line_kind
      kind_challenges h = sym (rw (ne_eqb (row_kind m) 0 s, f, h))

      pub kind_row : get_or line 1 0 ≡ 99 → 2 ≡ line_kind m line
      unfolding line_kind
      kind_row h = sym (rw (ne_eqb (row_kind m) 0 s, f, h))

      pub kind_other : (get_or line 1 0 ≡ 98 → ⊥) → (get_or line 1 0 ≡ 99 → ⊥) → 0 ≡ line_kind m line
      unfolding line_kind
      kind_other g h = sym (rw (ne_eqb (row_kind m) 0 s, f, ne_eqb (get_or line 1 0) 98 g, ne_eqb (get_or line 1 0) 99 h))

-- the latest lower frame
pub lowered_refused : (l : Latest) (a b n k j : ℕ) (r : Reply) → r ≡ Counts n k j → (n ≡ 0 → ⊥) → l ≡ lowered l a b r
lowered_refused l a b zero k j r e h = absurd (h refl)
lowered_refused l a b (suc n) k j r e h = sym (ap (lowered l a b) e)

pub lowered_accepted : (l : Latest) (a b n k j : ℕ) (r : Reply) → r ≡ Counts n k j → n ≡ 0 → latest true a b k j ≡ lowered l a b r
lowered_accepted l a b n k j r e h = sym (ap (lowered l a b) (e ∙ ap (λ (q : ℕ). Counts q k j) h))

pub after_lower : (l l' : Latest) (q : Request) (r : Reply) (target a b : ℕ) → q ≡ Lower target a b → l' ≡ lowered l a b r → l' ≡ latest_after l q r
after_lower l l' q r target a b e f = f ∙ sym (ap (λ (x : Request). latest_after l x r) e)

-- an answer, by what is written
pub desked_by_lem : (t : Told) (d : Desk) (out out' : List ℕ) (n : ℕ) → t.desk ≡ d → Put out 0 (hexadecimal t.bytes ++ (10 ∷ [])) out' n → desked n d out' ≡ desked_by t out
unfolding told_line
desked_by_lem t d out out' n e put =
    let k : n ≡ length (hexadecimal t.bytes ++ (10 ∷ [])) = omega (arith, put.behind) in
    rw (k, put.places, ← e)

pub frame_answered : (s : State) (l : Latest) (line out out' : List ℕ) (q : Request) (r : Reply) (n : ℕ) (l' : Latest) (m' rs' main' aux' : List ℕ) → q ≡ request_of line → framing.told r m' rs' main' aux' ≡ framing.replied s q → l' ≡ latest_after l q r
    → Put out 0 (hexadecimal (framing.reply_bytes r main' aux') ++ (10 ∷ [])) out' n → (challenges : List ℕ) → desked n (desk (lent m' rs' main' aux') l' challenges) out' ≡ desked_by (frame_told (desk s l challenges) line) out
unfolding frame_told told_line
frame_answered s l line out out' q r n l' m' rs' main' aux' is e f put challenges =
    let k : n ≡ length (hexadecimal (framing.reply_bytes r main' aux') ++ (10 ∷ [])) = omega (arith, put.behind) in
    rw (← is, ← e, k, put.places, f)

pub challenges_answered : (d d' : Desk) (line out out₁ out' : List ℕ) (b k n : ℕ) → told d' (b ∷ []) ≡ challenges_told d line → Put out 0 (hexadecimal (b ∷ [])) out₁ k → Put out₁ k (10 ∷ []) out' n → desked n d' out' ≡ desked_by (challenges_told d line) out
challenges_answered d d' line out out₁ out' b k n e p q = desked_by_lem (told d' (b ∷ [])) d' out out' n refl (put_then p q) ∙ ap (λ (t : Told). desked_by t out) e

pub row_line_answered : (d : Desk) (bs out out₁ out' : List ℕ) (k n : ℕ) → Put out 0 (hexadecimal bs) out₁ k → Put out₁ k (10 ∷ []) out' n → desked n d out' ≡ desked_by (told d bs) out
row_line_answered d bs out out₁ out' k n p q = desked_by_lem (told d bs) d out out' n refl (put_then p q)

-- of each kind
module _ (s : State) (l : Latest) (challenges line out : List ℕ) (kind : ℕ) (is : kind ≡ line_kind s.circuit line) where
  abbrev d : Desk
  d = desk s l challenges

  by_kind : (a b c : Bool) → eqb (row_kind s.circuit) 0 ≡ a → opens 48 98 line ≡ b → opens 48 99 line ≡ c → (kind ≡ (if a then 0 else if b then 1 else if c then 2 else 0)) × (line_told d line ≡ (if a then frame_told d line else if b then challenges_told d line else if c then told d (row_answer d line) else frame_told d line))
  unfolding line_kind line_told
  by_kind a b c e f g = (is ∙ rw (e, f, g), rw (e, f, g))

  told_by : (kind ≡ 1 → line_told d line ≡ challenges_told d line) × ((kind ≡ 2 → line_told d line ≡ told d (row_answer d line)) × (((kind ≡ 1 → ⊥) → (kind ≡ 2 → ⊥) → line_told d line ≡ frame_told d line) × (kind ≡ 2 → row_kind s.circuit ≡ 0 → ⊥)))
  told_by = go (eqb (row_kind s.circuit) 0) (opens 48 98 line) (opens 48 99 line) refl refl refl
    where
      go : (a b c : Bool) → eqb (row_kind s.circuit) 0 ≡ a → opens 48 98 line ≡ b → opens 48 99 line ≡ c
          → (kind ≡ 1 → line_told d line ≡ challenges_told d line) × ((kind ≡ 2 → line_told d line ≡ told d (row_answer d line)) × (((kind ≡ 1 → ⊥) → (kind ≡ 2 → ⊥) → line_told d line ≡ frame_told d line) × (kind ≡ 2 → row_kind s.circuit ≡ 0 → ⊥)))
      go true b c e f g = let t = by_kind true b c e f g in (λ h. absurd (omega (arith, t.0, h)), (λ h. absurd (omega (arith, t.0, h)), (λ h i. t.1, λ h. absurd (omega (arith, t.0, h)))))
      go false true c e f g = let t = by_kind false true c e f g in (λ h. t.1, (λ h. absurd (omega (arith, t.0, h)), (λ h i. absurd (h t.0), λ h. absurd (omega (arith, t.0, h)))))
      go false false true e f g = let t = by_kind false false true e f g in (λ h. absurd (omega (arith, t.0, h)), (λ h. t.1, (λ h i. absurd (i t.0), λ h. eqb-false (row_kind s.circuit) 0 e)))
      go false false false e f g = let t = by_kind false false false e f g in (λ h. absurd (omega (arith, t.0, h)), (λ h. absurd (omega (arith, t.0, h)), (λ h i. t.1, λ h. absurd (omega (arith, t.0, h)))))

  abbrev Called : Desked → Type 0
  Called x = x ≡ desk_call d line out

  pub called_challenges : kind ≡ 1 → (x : Desked) → x ≡ desked_by (challenges_told d line) out → Called x
  unfolding desk_call
  called_challenges h x e = e ∙ sym (ap (λ (t : Told). desked_by t out) (told_by.0 h))

  pub called_row : kind ≡ 2 → (x : Desked) → x ≡ desked_by (told d (row_answer d line)) out → Called x
  unfolding desk_call
  called_row h x e = e ∙ sym (ap (λ (t : Told). desked_by t out) (told_by.1.0 h))

  pub called_frame : (kind ≡ 1 → ⊥) → (kind ≡ 2 → ⊥) → (x : Desked) → x ≡ desked_by (frame_told d line) out → Called x
  unfolding desk_call
  called_frame h i x e = e ∙ sym (ap (λ (t : Told). desked_by t out) (told_by.1.1.0 h i))

-- a row is asked of a circuit
pub row_kind_lem : (m line num t least : List ℕ) (kind : ℕ) → kind ≡ line_kind m line → kind ≡ 2 → Keeps m num t least → OneOrTwo (row_kind m)
row_kind_lem m line num t least kind is h keeps =
    let v = valid_rows m (keeps.fitting ((told_by (lent m [] [] []) (latest false 0 0 0 0) [] line [] kind is).1.1.1 h)).circuit in
    record { some = v.0; few = v.1 }

-- Laws of a program on its input: part after part is the same as all at once, and all at once is line by line. Assumes nothing.
use Rattle.std.specs.Prelude.{if◌then◌else◌}
use Prim.Native.Nat.{ℕ, zero, suc, ◌≤◌, ◌<◌}
use mathlib.Core.Path.{◌≡◌, refl, sym, ap, ◌∙◌}
use mathlib.Core.Bool.{Bool, true, false}
use mathlib.Core.List.{List, [], ◌∷◌, ◌++◌, append_assoc, append-nil}
use native.Mathlib.Omega.{arith}
use lib.ListN.{length, take, length-append, length-take}
use lib.Seq.{take_all, take-append-le, append_snoc}
use lib.Dec.{ltb, eqb}
use borrow.Author.Tests.{ltb-true, ltb-false}
use Rattle.framing.specs.Frames.{begin, lines}
use Rattle.stream.specs.Stream.{Program, Stream, stream, kept_with, fed_one, fed, ended_with, answered, whole}

-- so many characters of a line are kept
kept_with_lem : (n : ℕ) (l : List ℕ) (b : ℕ) → kept_with n (take n l) b ≡ take n (l ++ (b ∷ []))
unfolding kept_with
kept_with_lem n l b = go (ltb (length (take n l)) n) refl
  where
    go : (t : Bool) → ltb (length (take n l)) n ≡ t → (if t then take n l ++ (b ∷ []) else take n l) ≡ take n (l ++ (b ∷ []))
    go true e =
        let h : length (take n l) < n = ltb-true (length (take n l)) n e in
        let k : length l < n = omega (arith, length-take n l) in
        ap (λ (t : List ℕ). t ++ (b ∷ [])) (take_all n l (omega arith)) ∙ sym (take_all n (l ++ (b ∷ [])) (omega (arith, length-append l (b ∷ []))))
    go false e =
        let h : n ≤ length (take n l) = ltb-false (length (take n l)) n e in
        sym (take-append-le n l (b ∷ []) (omega (arith, length-take n l)))

-- the lines of an input before which some characters were read
abbrev from : List (List ℕ) → List ℕ → List (List ℕ)
from [] [] = []
from [] (c ∷ cs) = (c ∷ cs) ∷ []
from (x ∷ xs) l = (l ++ x) ∷ xs

from_none : (ls : List (List ℕ)) → from ls [] ≡ ls
from_none [] = refl
from_none (x ∷ xs) = refl

from_one : (ls : List (List ℕ)) (l : List ℕ) (b : ℕ) → from (begin b ls) l ≡ from ls (l ++ (b ∷ []))
from_one [] [] b = refl
from_one [] (c ∷ cs) b = refl
from_one (x ∷ xs) l b = ap (λ (t : List ℕ). t ∷ xs) (sym (append_snoc l b x))

module _ {S : Type 0} (p : Program S) where
  -- feeding one part and then another is feeding both
  pub fed_append : (s : Stream S) (xs ys : List ℕ) → ((fed p s (xs ++ ys)).after ≡ (fed p (fed p s xs).after ys).after) × ((fed p s (xs ++ ys)).said ≡ (fed p s xs).said ++ (fed p (fed p s xs).after ys).said)
  unfolding fed
  fed_append s [] ys = (refl, refl)
  fed_append s (x ∷ xs) ys =
      let r = fed_append (fed_one p s x).after xs ys in
      (r.0, ap (λ (t : List ℕ). (fed_one p s x).said ++ t) r.1 ∙ sym (append_assoc (fed_one p s x).said (fed p (fed_one p s x).after xs).said (fed p (fed p (fed_one p s x).after xs).after ys).said))

  -- the characters that are kept say all of a line
  pub record Enough : Type 0 where
    pub some : 0 < p.most
    pub nexts : (s : S) (l : List ℕ) → p.next s (take p.most l) ≡ p.next s l
    pub same : (s : S) (l : List ℕ) → p.says s (take p.most l) ≡ p.says s l

  -- what is answered at the input's end
  ended_none : (n : ℕ) (s : S) → ended_with p s (take n []) ≡ []
  unfolding ended_with
  ended_none zero s = refl
  ended_none (suc n) s = refl

  ended_some : (n : ℕ) (s : S) (c : ℕ) (cs : List ℕ) → 0 < n → ended_with p s (take n (c ∷ cs)) ≡ p.says s (take n (c ∷ cs))
  unfolding ended_with
  ended_some zero s c cs h = absurd (omega arith)
  ended_some (suc n) s c cs h = refl

  last : Enough → (s : S) (l : List ℕ) → ended_with p s (take p.most l) ≡ answered p s (from [] l)
  unfolding answered
  last enough s [] = ended_none p.most s
  last enough s (c ∷ cs) = ended_some p.most s c cs enough.some ∙ enough.same s (c ∷ cs) ∙ sym (append-nil (p.says s (c ∷ cs)))

  whole_end : (s : Stream S) → whole p s [] ≡ ended_with p s.state s.kept
  unfolding whole fed
  whole_end s = refl

  whole_one : (s : Stream S) (b : ℕ) (bs : List ℕ) → whole p s (b ∷ bs) ≡ (fed_one p s b).said ++ whole p (fed_one p s b).after bs
  unfolding whole fed
  whole_one s b bs =
      let y = fed p (fed_one p s b).after bs in
      append_assoc (fed_one p s b).said y.said (ended_with p y.after.state y.after.kept)

  -- a line feed, and any other byte
  module _ (enough : Enough) (b : ℕ) (bs : List ℕ) (s : S) (l : List ℕ) (h : (s : S) (l : List ℕ) → whole p (stream s (take p.most l)) bs ≡ answered p s (from (lines bs) l)) where
    abbrev Goal : Type 0
    Goal = (fed_one p (stream s (take p.most l)) b).said ++ whole p (fed_one p (stream s (take p.most l)) b).after bs ≡ answered p s (from (lines (b ∷ bs)) l)

    fresh_line : whole p (stream (p.next s l) []) bs ≡ answered p (p.next s l) (lines bs)
    fresh_line =
        let e : take {A = ℕ} p.most [] ≡ [] = take_all p.most [] (omega arith) in
        ap (λ (q : List ℕ). whole p (stream (p.next s l) q) bs) (sym e) ∙ h (p.next s l) [] ∙ ap (answered p (p.next s l)) (from_none (lines bs))

    line_ends : eqb b 10 ≡ true → Goal
    unfolding fed_one lines answered
    line_ends e =
        rw (e, enough.same s l, enough.nexts s l, append-nil l)
        (ap (λ (t : List ℕ). p.says s l ++ t) fresh_line)

    line_goes_on : eqb b 10 ≡ false → Goal
    unfolding fed_one lines
    line_goes_on e = rw (e, kept_with_lem p.most l b) (h s (l ++ (b ∷ [])) ∙ ap (answered p s) (sym (from_one (lines bs) l b)))

  all_answered : Enough → (bs : List ℕ) (s : S) (l : List ℕ) → whole p (stream s (take p.most l)) bs ≡ answered p s (from (lines bs) l)
  unfolding lines
  all_answered enough [] s l = whole_end (stream s (take p.most l)) ∙ last enough s l
  all_answered enough (b ∷ bs) s l = whole_one (stream s (take p.most l)) b bs ∙ go (eqb b 10) refl (all_answered enough bs)
    where
      go : (t : Bool) → eqb b 10 ≡ t → ((s : S) (l : List ℕ) → whole p (stream s (take p.most l)) bs ≡ answered p s (from (lines bs) l))
          → (fed_one p (stream s (take p.most l)) b).said ++ whole p (fed_one p (stream s (take p.most l)) b).after bs ≡ answered p s (from (lines (b ∷ bs)) l)
      go true e h = line_ends enough b bs s l h e
      go false e h = line_goes_on enough b bs s l h e

  -- from its first state on, the whole input is answered line by line
  pub lines_answered : Enough → (s : S) (input : List ℕ) → whole p (stream s []) input ≡ answered p s (lines input)
  lines_answered enough s input =
      let e : take {A = ℕ} p.most [] ≡ [] = take_all p.most [] (omega arith) in
      ap (λ (q : List ℕ). whole p (stream s q) input) (sym e) ∙ all_answered enough input s [] ∙ ap (answered p s) (from_none (lines input))

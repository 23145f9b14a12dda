-- Lists lent for an answer: words stored from the first place on, or from any, one after the other. Assumes nothing.
use Prim.Native.Nat.{ℕ, suc, ◌+◌, ◌<◌, ◌≤◌}
use mathlib.Core.Path.{◌≡◌, refl, sym, ap, ◌∙◌}
use mathlib.Core.List.{List, [], ◌∷◌, ◌++◌, append_assoc}
use native.Mathlib.Nat.{add-zero, add-suc, suc-add}
use native.Mathlib.Numerals.{add-one}
use native.Mathlib.Omega.{arith}
use lib.ListN.{length, get_or, set, drop, replicate, length-append, length-replicate, get_or-replicate, get_or-append}
use lib.Seq.{sets, sets-eq, drop-cons, set-append_seam}
use Rattle.layout.specs.Lists.{written}
use Rattle.circuit.specs.Rank.{at}

pub written_none : (l : List ℕ) → written [] l ≡ l
unfolding written
written_none l = refl

-- one word more
pub written_more : (xs l : List ℕ) (v : ℕ) → length xs < length l → set (written xs l) (length xs) v ≡ written (xs ++ (v ∷ [])) l
unfolding written
written_more xs l v h =
    ap (λ (t : List ℕ). set (xs ++ t) (length xs) v) (drop-cons l (length xs) 0 h)
    ∙ set-append_seam xs (get_or l (length xs) 0) (drop (suc (length xs)) l) v
    ∙ rw (append_assoc xs (v ∷ []) (drop (length (xs ++ (v ∷ []))) l), length-append xs (v ∷ []), add-one (length xs))

-- stored at once in the first places
pub written_first : (xs l : List ℕ) (n : ℕ) → length xs ≡ n → xs ++ drop n l ≡ written xs l
unfolding written
written_first xs l n e = ap (λ (k : ℕ). xs ++ drop k l) (sym e)

-- what stands there
pub written_at : (xs l : List ℕ) (i : ℕ) → i < length xs → at (written xs l) i ≡ at xs i
unfolding written
written_at xs l i h = get_or-append xs (drop (length xs) l) 0 i h

-- two lists that agree beyond the answer
pub written_same : (xs l k : List ℕ) → drop (length xs) l ≡ drop (length xs) k → written xs l ≡ written xs k
unfolding written
written_same xs l k e = ap (λ (t : List ℕ). xs ++ t) e

-- zeros

pub zeros_at : (l : List ℕ) (n i : ℕ) → i < n → at (written (replicate n 0) l) i ≡ 0
zeros_at l n i h = written_at (replicate n 0) l i (rw (length-replicate {A = ℕ} n 0) h) ∙ get_or-replicate n i 0 0 h

-- runs of stores

pub sets_append : (xs ys l : List ℕ) (i : ℕ) → sets l i (xs ++ ys) ≡ sets (sets l i xs) (i + length xs) ys
sets_append [] ys l i = rw (add-zero i)
sets_append (x ∷ xs) ys l i = sets_append xs ys (set l i x) (suc i) ∙ rw (suc-add i (length xs), add-suc i (length xs))

pub sets_written : (xs l : List ℕ) → length xs ≤ length l → sets l 0 xs ≡ written xs l
unfolding written
sets_written xs l h = let z : 0 + length xs ≡ length xs = omega arith in sets-eq xs l 0 (omega arith) ∙ rw z

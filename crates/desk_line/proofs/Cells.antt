-- Laws of a table that is stored into from a place on: one word more, zeros, rows. Assumes nothing.
use Prim.Native.Nat.{ℕ, zero, suc, ◌+◌, ◌*◌, ◌<◌, ◌≤◌}
use mathlib.Core.Path.{◌≡◌, refl, sym, ap, ◌∙◌}
use mathlib.Core.List.{List, [], ◌∷◌, ◌++◌, append_assoc, append-nil}
use native.Mathlib.Numerals.{add-one}
use native.Mathlib.Omega.{arith}
use lib.ListN.{length, set, take}
use lib.Seq.{take-suc-set}
use Rattle.framing.specs.Digits.{number_at}
use Rattle.desk.specs.Words.{words_at, row_at, rows_at}
use Rattle.desk_line.specs.Reading.{Stored, OneOrTwo}

-- the words that are read, one more at the end
words_end : (k after : ℕ) (bs : List ℕ) → words_at (suc k) after bs ≡ words_at k after bs ++ (number_at 8 (after + 8 * k) bs ∷ [])
unfolding words_at
words_end zero after bs =
    let e : after ≡ after + 8 * 0 = omega arith in
    ap (λ (q : ℕ). number_at 8 q bs ∷ []) e
words_end (suc k) after bs =
    let e : after + 8 + 8 * k ≡ after + 8 * suc k = omega arith in
    ap (λ (t : List ℕ). number_at 8 after bs ∷ t) (words_end k (after + 8) bs ∙ ap (λ (q : ℕ). words_at k (after + 8) bs ++ (number_at 8 q bs ∷ [])) e)

pub words_more : (k after : ℕ) (bs : List ℕ) → words_at (k + 1) after bs ≡ words_at k after bs ++ (number_at 8 (after + 8 * k) bs ∷ [])
words_more k after bs = ap (λ (q : ℕ). words_at q after bs) (add-one k) ∙ words_end k after bs

pub words_length : (n after : ℕ) (bs : List ℕ) → length (words_at n after bs) ≡ n
unfolding words_at
words_length zero after bs = refl
words_length (suc n) after bs = omega (arith, words_length n (after + 8) bs)

-- a table before, and from a place on; and what stands there now
pub none_stored : (table : List ℕ) (at : ℕ) → Stored table at 0 [] table
none_stored table at =
    let e : at + 0 ≡ at = omega arith in
    record { front = ap (λ (q : ℕ). take q table) e ∙ sym (append-nil (take at table)) }

one_stored : (before table : List ℕ) (at k : ℕ) (xs : List ℕ) (w : ℕ) → Stored before at k xs table → at + k < length table → Stored before at (k + 1) (xs ++ (w ∷ [])) (set table (at + k) w)
one_stored before table at k xs w so_far h =
    let e : at + (k + 1) ≡ suc (at + k) = omega arith in
    record { front = ap (λ (q : ℕ). take q (set table (at + k) w)) e ∙ take-suc-set table (at + k) w h ∙ ap (λ (t : List ℕ). t ++ (w ∷ [])) so_far.front ∙ append_assoc (take at before) xs (w ∷ []) }

-- nothing is read yet; a word more
pub words_none : (table : List ℕ) (at after : ℕ) (bs : List ℕ) → Stored table at 0 (words_at 0 after bs) table
unfolding words_at
words_none table at after bs = none_stored table at

pub word_stored : (before table : List ℕ) (at k after : ℕ) (bs : List ℕ) (w : ℕ) → Stored before at k (words_at k after bs) table → at + k < length table → w ≡ number_at 8 (after + 8 * k) bs
    → Stored before at (k + 1) (words_at (k + 1) after bs) (set table (at + k) w)
word_stored before table at k after bs w so_far h is =
    let e : words_at k after bs ++ (w ∷ []) ≡ words_at (k + 1) after bs = ap (λ (q : ℕ). words_at k after bs ++ (q ∷ [])) is ∙ sym (words_more k after bs) in
    rw e at (one_stored before table at k (words_at k after bs) w so_far h)

-- all, where the count is reached
pub all_stored : (f : ℕ → List ℕ) (before table : List ℕ) (at k n : ℕ) → Stored before at k (f k) table → k ≤ n → n ≤ k → Stored before at n (f n) table
all_stored f before table at k n so_far a b =
    let e : k ≡ n = omega arith in
    rw e at so_far

-- a row
pub row_stored_lem : (before between after : List ℕ) (at old new next : ℕ) (xs ys : List ℕ) → next ≡ at + old → Stored before at old xs between → Stored between next new ys after → Stored before at (old + new) (xs ++ ys) after
row_stored_lem before between after at old new next xs ys n p q =
    let e : at + (old + new) ≡ next + new = omega arith in
    record { front = ap (λ (k : ℕ). take k after) e ∙ q.front ∙ ap (λ (t : List ℕ). t ++ ys) (ap (λ (k : ℕ). take k between) n ∙ p.front) ∙ append_assoc (take at before) xs ys }

-- one row, and two
module _ (old new first step : ℕ) (bs : List ℕ) where
  pub one_row : (before after : List ℕ) → Stored before 0 (old + new) (row_at old new first bs) after → Stored before 0 (1 * (old + new)) (rows_at old new first step bs 1) after
  unfolding rows_at
  one_row before after h =
      let e : 1 * (old + new) ≡ old + new = omega arith in
      let f : first + 0 * step ≡ first = omega arith in
      rw (e, f) h

  pub two_rows : (before between after : List ℕ) → Stored before 0 (old + new) (row_at old new first bs) between → Stored between (old + new) (old + new) (row_at old new (first + step) bs) after
      → Stored before 0 (2 * (old + new)) (rows_at old new first step bs 2) after
  unfolding rows_at
  two_rows before between after h i =
      let e : 2 * (old + new) ≡ old + new + (old + new) = omega arith in
      let f : first + 0 * step ≡ first = omega arith in
      let g : first + 1 * step ≡ first + step = omega arith in
      rw (e, f, g) (row_stored_lem before between after 0 (old + new) (old + new) (old + new) (row_at old new first bs) (row_at old new (first + step) bs) (omega arith) h i)

  -- as many as there are
  pub rows_stored_one : (rows : ℕ) (before after : List ℕ) → OneOrTwo rows → (rows ≡ 2 → ⊥) → Stored before 0 (old + new) (row_at old new first bs) after → Stored before 0 (rows * (old + new)) (rows_at old new first step bs rows) after
  rows_stored_one rows before after k n h =
      let e : rows ≡ 1 = omega (arith, k.some, k.few) in
      rw e (one_row before after h)

  pub rows_stored_two : (rows : ℕ) (before between after : List ℕ) → rows ≡ 2 → Stored before 0 (old + new) (row_at old new first bs) between → Stored between (old + new) (old + new) (row_at old new (first + step) bs) after
      → Stored before 0 (rows * (old + new)) (rows_at old new first step bs rows) after
  rows_stored_two rows before between after e h i = rw e (two_rows before between after h i)

-- from the front on
pub stored_front : (before after : List ℕ) (n : ℕ) (words : List ℕ) → Stored before 0 n words after → take n after ≡ words
stored_front before after n words h =
    let e : n ≡ 0 + n = omega arith in
    ap (λ (q : ℕ). take q after) e ∙ h.front

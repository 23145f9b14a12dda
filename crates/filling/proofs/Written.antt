-- One table of many rows, in which the same cells of its first rows were written, and what its other cells say then. Assumes nothing.
use Prim.Native.Nat.{ℕ, zero, suc, ◌+◌, ◌-◌, ◌*◌, ◌/◌, ◌<◌, ◌≤◌}
use mathlib.Core.Path.{◌≡◌, refl, sym, ◌∙◌, ap, ap₂}
use mathlib.Core.Logic.{⊎_elim}
use mathlib.Core.List.{List, [], ◌∷◌, ◌++◌}
use native.Mathlib.Nat.{zero-mul, suc-mul}
use native.Mathlib.Omega.{arith}
use lib.ListN.{length, get_or, set, take, drop, replicate, take-append-drop, length-append, length-take, length-drop, length-set, length-replicate, get_or-append}
use lib.Seq.{sets, sets-eq, length-sets, set-append_left, take-take, take-add, take_at, drop_at, drop-drop, get_or-take, get_or-drop}
use Rattle.layout.proofs.Tests.{last_or}
use Rattle.reading.specs.Calls.{next_row}
use Rattle.filling.specs.Promise.{window_of, row_then}
use Rattle.filling.proofs.Tables.{sets_before, sets_next}
use Rattle.filling.proofs.Solves.{sets_over}

-- written before other words
pub sets_left : (vs l t : List ℕ) (c : ℕ) → c + length vs ≤ length l → sets (l ++ t) c vs ≡ sets l c vs ++ t
sets_left [] l t c h = refl
sets_left (v ∷ vs) l t c h = ap (λ (x : List ℕ). sets x (suc c) vs) (set-append_left l t c v (omega arith)) ∙ sets_left vs (set l c v) t (suc c) (omega (arith, length-set l c v))

-- what stands there, written again
sets_self : (l : List ℕ) (c n : ℕ) → c + n ≤ length l → sets l c (take n (drop c l)) ≡ l
sets_self l c n h =
    let len : length (take n (drop c l)) ≡ n = omega (arith, length-take n (drop c l), length-drop c l) in
    sets-eq (take n (drop c l)) l c (omega arith)
    ∙ ap₂ (λ (x y : List ℕ). x ++ y) (sym (take-add c n l)) (ap (λ (k : ℕ). drop (c + k) l) len)
    ∙ take-append-drop (c + n) l

-- lists that are the same when the same is written into both
but_part : (l l' zs : List ℕ) (c n : ℕ) → length zs ≡ n → c + n ≤ length l → c + n ≤ length l' → sets l c zs ≡ sets l' c zs → l ≡ sets l' c (take n (drop c l))
but_part l l' zs c n e h h' same =
    let len : length (take n (drop c l)) ≡ n = omega (arith, length-take n (drop c l), length-drop c l) in
    sym (sets_self l c n h)
    ∙ sym (sets_over zs (take n (drop c l)) l c (e ∙ sym len) (omega arith))
    ∙ ap (λ (x : List ℕ). sets x c (take n (drop c l))) same
    ∙ sets_over zs (take n (drop c l)) l' c (e ∙ sym len) (omega arith)

-- row r of a table whose rows have so many words
abbrev pub row_of : ℕ → ℕ → List ℕ → List ℕ
row_of a r l = take a (drop (r * a) l)

pub row_length : (a r : ℕ) (l : List ℕ) → r * a + a ≤ length l → length (row_of a r l) ≡ a
row_length a r l h = omega (arith, length-take a (drop (r * a) l), length-drop (r * a) l)

-- a row, and the rows after it
pub drop_row : (a r : ℕ) (l : List ℕ) → drop (r * a) l ≡ row_of a r l ++ drop (suc r * a) l
drop_row a r l = sym (take-append-drop a (drop (r * a) l)) ∙ ap (λ (x : List ℕ). row_of a r l ++ x) (drop-drop a (r * a) l ∙ ap (λ (k : ℕ). drop k l) (sym (suc-mul r a)))

-- a table is what its rows are
by_rows : (a n : ℕ) (x y : List ℕ) → drop (n * a) x ≡ drop (n * a) y → ((r : ℕ) → r < n → row_of a r x ≡ row_of a r y) → x ≡ y
by_rows a zero x y e h = rw (zero-mul a) at e
by_rows a (suc n) x y e h = by_rows a n x y (drop_row a n x ∙ ap₂ (λ (u v : List ℕ). u ++ v) (h n (omega arith)) e ∙ sym (drop_row a n y)) (λ r l. h r (omega arith))

-- in each row before the given one, so many words were written from the place c on; the rows from there on stayed
pub record Writes (a count c : ℕ) (words : ℕ → List ℕ) (l l' : List ℕ) : Type 0 where
  pub last : drop (count * a) l' ≡ drop (count * a) l
  pub rows : (r : ℕ) → r < count → row_of a r l' ≡ sets (row_of a r l) c (words r)

-- a row as the front of what was read together with it
pub front : (k a r c : ℕ) (g l vs t : List ℕ) → a ≤ k * a → r * a + a ≤ length l → c + length vs ≤ a → window_of k a r g ≡ sets (row_of a r l ++ t) c vs → row_of a r g ≡ sets (row_of a r l) c vs
front k a r c g l vs t w h room e =
    let len : length (row_of a r l) ≡ a = row_length a r l h in
    sym (take-take a (k * a) (drop (r * a) g) w)
    ∙ ap (take a) (e ∙ sets_left vs (row_of a r l) t c (omega arith))
    ∙ take_at (sets (row_of a r l) c vs) t a (length-sets (row_of a r l) c vs ∙ len)

-- what is read together is a row and what follows it
pub row_then_lem : (k a r : ℕ) (l : List ℕ) → a ≤ k * a → window_of k a r l ≡ row_then k a r l l
row_then_lem k a r l w =
    let all : a + (k * a - a) ≡ k * a = omega arith in
    ap (λ (n : ℕ). take n (drop (r * a) l)) (sym all)
    ∙ take-add a (k * a - a) (drop (r * a) l)
    ∙ ap (λ (x : List ℕ). row_of a r l ++ take (k * a - a) x) (drop-drop a (r * a) l)

module _ (a count c n : ℕ) (room : c + n ≤ a) where
  abbrev zeros : List ℕ
  zeros = replicate n 0

  size : length zeros ≡ n
  size = length-replicate n 0

  -- every row lies in the table
  abbrev pub Inside : List ℕ → Type 0
  Inside l = (r : ℕ) → r < count → r * a + a ≤ length l

  -- cleared, two tables are the same if one is the other with words written in
  pub cleared_same : (words : ℕ → List ℕ) → ((r : ℕ) → r < count → length (words r) ≡ n) → (l l' g g' : List ℕ) → Inside l
      → Writes a count c words l l' → Writes a count c (λ r. zeros) l g → Writes a count c (λ r. zeros) l' g' → g' ≡ g
  cleared_same words number l l' g g' in-l w z z' =
      by_rows a count g' g (z'.last ∙ w.last ∙ sym z.last)
      (λ r k.
      let len = row_length a r l (in-l r k) in
      z'.rows r k ∙ ap (λ (x : List ℕ). sets x c zeros) (w.rows r k)
      ∙ sets_over (words r) zeros (row_of a r l) c (number r k ∙ sym size) (omega (arith, size, len))
      ∙ sym (z.rows r k))

  -- and only then
  pub same_cleared : (l x g : List ℕ) → Inside l → Inside x → Writes a count c (λ r. zeros) l g → Writes a count c (λ r. zeros) x g → Writes a count c (λ r. take n (drop c (row_of a r x))) l x
  same_cleared l x g in-l in-x z z' =
      record {
        last = sym z'.last ∙ z.last;
        rows = λ r k.
            let len = row_length a r l (in-l r k) in
            let len' = row_length a r x (in-x r k) in
            but_part (row_of a r x) (row_of a r l) zeros c n size (omega arith) (omega arith) (sym (z'.rows r k) ∙ z.rows r k);
      }

  module _ (words : ℕ → List ℕ) (l l' : List ℕ) (w : Writes a count c words l l') where
    -- a cell before the written ones, also of the row after the last that was written
    pub cell_kept : (r i : ℕ) → r ≤ count → i < c → get_or l' (r * a + i) 0 ≡ get_or l (r * a + i) 0
    cell_kept r i h k = ⊎_elim (λ e. rw e (sym (get_or-drop (count * a) l' i 0) ∙ ap (λ (x : List ℕ). get_or x i 0) w.last ∙ get_or-drop (count * a) l i 0)) before (last_or r count (omega arith))
      where
        cell : (x : List ℕ) → get_or (row_of a r x) i 0 ≡ get_or x (r * a + i) 0
        cell x = get_or-take a (drop (r * a) x) i 0 (omega arith) ∙ get_or-drop (r * a) x i 0

        before : r < count → get_or l' (r * a + i) 0 ≡ get_or l (r * a + i) 0
        before q = sym (cell l') ∙ ap (λ (x : List ℕ). get_or x i 0) (w.rows r q) ∙ sets_before (words r) (row_of a r l) c i k ∙ cell l

    -- row r of the one and what follows it in the other, cleared, say the same there as the rows of the one
    module _ (k r : ℕ) (wide : a ≤ k * a) (here : r < count) (fit : r * a + k * a ≤ length l) (i : ℕ) (before : i < c) where
      row_long : length (row_of a r l) ≡ a
      row_long = row_length a r l (omega arith)

      pub current_kept : get_or (sets (row_then k a r l l') c (replicate n 0)) i 0 ≡ get_or (window_of k a r l) i 0
      current_kept =
          sets_before (replicate n 0) (row_then k a r l l') c i before
          ∙ get_or-append (row_of a r l) (take (k * a - a) (drop (r * a + a) l')) 0 i (omega (arith, row_long))
          ∙ sym (get_or-append (row_of a r l) (take (k * a - a) (drop (r * a + a) l)) 0 i (omega (arith, row_long)))
          ∙ ap (λ (x : List ℕ). get_or x i 0) (sym (row_then_lem k a r l wide))

      pub next_kept : k ≡ 2 → length l' ≡ length l → get_or (next_row (sets (row_then k a r l l') c (replicate n 0))) i 0 ≡ get_or (next_row (window_of k a r l)) i 0
      unfolding next_row
      next_kept two same =
          ap (λ (x : List ℕ). get_or x i 0) (sets_next (replicate n 0) (row_then k a r l l') c (omega (arith, size, long l' same)))
          ∙ said l' same
          ∙ after
          ∙ sym (said l refl)
          ∙ ap (λ (x : List ℕ). get_or (next_row x) i 0) (sym (row_then_lem k a r l wide))
        where
          twice : k * a ≡ a + a
          twice = rw two (omega arith)

          long : (x : List ℕ) → length x ≡ length l → length (row_then k a r l x) ≡ a + a
          long x e = omega (arith, twice, row_long, length-append (row_of a r l) (take (k * a - a) (drop (r * a + a) x)), length-take (k * a - a) (drop (r * a + a) x), length-drop (r * a + a) x)

          said : (x : List ℕ) → length x ≡ length l → get_or (next_row (row_then k a r l x)) i 0 ≡ get_or x (r * a + a + i) 0
          said x e =
              let half : length (row_then k a r l x) / 2 ≡ a = omega (arith, long x e) in
              ap (λ (j : ℕ). get_or (drop j (row_then k a r l x)) i 0) half
              ∙ ap (λ (y : List ℕ). get_or y i 0) (drop_at (row_of a r l) (take (k * a - a) (drop (r * a + a) x)) a row_long)
              ∙ get_or-take (k * a - a) (drop (r * a + a) x) i 0 (omega (arith, twice))
              ∙ get_or-drop (r * a + a) x i 0

          after : get_or l' (r * a + a + i) 0 ≡ get_or l (r * a + a + i) 0
          after = rw (suc-mul r a) at (cell_kept (suc r) i (omega arith) before)

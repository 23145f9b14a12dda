-- A whole trace, of any lists: once it is filled every listed constraint is zero on every row; only the cells to be filled were written; and no other words
-- in them make every constraint zero. Assumes nothing.
use Prim.Native.Nat.{ℕ, zero, suc, ◌+◌, ◌-◌, ◌*◌, ◌/◌, ◌<◌, ◌≤◌}
use mathlib.Core.Path.{◌≡◌, refl, sym, ◌∙◌, ap, ap₂, subst}
use mathlib.Core.Bool.{false}
use mathlib.Core.List.{List, ◌++◌}
use native.Mathlib.Nat.{zero-mul, suc-mul}
use native.Mathlib.Omega.{arith}
use lib.ListN.{length, get_or, take, drop, replicate, length-take, length-drop}
use lib.Seq.{sets}
use Rattle.layout.specs.Words.{row_kind}
use Rattle.reading.specs.Calls.{next_row}
use Rattle.filling.specs.Refusals.{bad_rows}
use Rattle.filling.specs.Calls.{row_cleared, all_rows, fill_rows_call}
use Rattle.filling.specs.Promise.{new_main, new_aux, window_of, row_then, Zero, Solves, RowByRow}
use Rattle.filling.proofs.Cleared.{kind_one, kind_wide, sizes, aux_room, inside, cleared_main_lem, cleared_aux_lem}
use Rattle.filling.proofs.RowByRow.{PassedRows, passed_rows, rows_lengths, rows_are, rows_solve}
use Rattle.filling.proofs.Written.{row_of, sets_left, row_length, drop_row, Writes, Inside, front, row_then_lem, cleared_same, same_cleared, current_kept, next_kept}

-- words that were written into a row, as they stand in it
part_long : (k a r c n : ℕ) (l : List ℕ) → r * a + k * a ≤ length l → c + n ≤ a → a ≤ k * a → length (take n (drop c (window_of k a r l))) ≡ n
part_long k a r c n l h room w = omega (arith, length-take n (drop c (window_of k a r l)), length-drop c (window_of k a r l), length-take (k * a) (drop (r * a) l), length-drop (r * a) l)

module _ (main_count aux_count : ℕ) (m mains auxs challenges : List ℕ) (rows : ℕ) (main aux : List ℕ) (h : (fill_rows_call main_count aux_count m mains auxs challenges rows main aux).number ≡ 0)
    (main' aux' : List ℕ) (is : (fill_rows_call main_count aux_count m mains auxs challenges rows main aux).lent ≡ (main', aux')) where
  abbrev a : ℕ
  a = length main / rows

  abbrev b : ℕ
  b = length aux / rows

  abbrev count : ℕ
  count = suc rows - row_kind m

  abbrev cleared : List ℕ × List ℕ → List ℕ × List ℕ
  cleared t = all_rows (row_kind m) (row_cleared main_count aux_count mains auxs) rows t

  ok : PassedRows main_count aux_count m mains auxs challenges rows main aux
  ok = passed_rows main_count aux_count m mains auxs challenges rows main aux h

  all : RowByRow main_count aux_count m mains auxs challenges rows main aux main' aux'
  all = rows_are main_count aux_count m mains auxs challenges rows main aux h main' aux' is

  solved : (r : ℕ) → r < count → Solves main_count aux_count m mains auxs challenges (row_then (row_kind m) a r main main') (row_then (row_kind m) b r aux aux') (window_of (row_kind m) a r main') (window_of (row_kind m) b r aux')
  solved r l = rows_solve main_count aux_count m mains auxs challenges rows main aux h main' aux' is r (omega arith)

  pub lengths_kept : (length main' ≡ length main) × (length aux' ≡ length aux)
  lengths_kept =
      let (e, f) = rows_lengths main_count aux_count m mains auxs challenges rows main aux h in
      (ap (λ (t : List ℕ × List ℕ). length t.0) (sym is) ∙ e, ap (λ (t : List ℕ × List ℕ). length t.1) (sym is) ∙ f)

  -- tables of the same lengths pass TABLE too
  tested : (x y : List ℕ) → length x ≡ length main → length y ≡ length aux → bad_rows rows main_count aux_count m mains auxs x y challenges ≡ false
  unfolding bad_rows
  tested x y e f = rw (e, f) ok.rows-test

  room_main : main_count + length mains ≤ a
  room_main = (sizes main_count aux_count m mains auxs challenges rows main aux ok.rows-test).main_room

  room_aux : 3 * aux_count + 3 * length auxs ≤ b
  room_aux = aux_room main_count aux_count m mains auxs challenges rows main aux ok.valid ok.rows-test

  wide : (x : ℕ) → x ≤ row_kind m * x
  wide = kind_wide m ok.valid

  within : (r : ℕ) → r < count → (r * a + row_kind m * a ≤ length main) × (r * b + row_kind m * b ≤ length aux)
  within = inside main_count aux_count m mains auxs challenges rows main aux ok.valid ok.rows-test

  in_main : (x : List ℕ) → length x ≡ length main → Inside a count main_count (length mains) room_main x
  in_main x e r l = let w = wide a in omega (arith, (within r l).0)

  in_aux : (y : List ℕ) → length y ≡ length aux → Inside b count (3 * aux_count) (3 * length auxs) room_aux y
  in_aux y f r l = let w = wide b in omega (arith, (within r l).1)

  -- clearing, and filling, row by row
  clears_main : (x y : List ℕ) → length x ≡ length main → length y ≡ length aux → Writes a count main_count (λ r. replicate (length mains) 0) x (cleared (x, y)).0
  unfolding all_rows
  clears_main x y e f = subst (λ (n : ℕ). Writes n count main_count (λ r. replicate (length mains) 0) x (cleared (x, y)).0) (ap (λ (n : ℕ). n / rows) e) (cleared_main_lem main_count aux_count m mains auxs challenges rows x y ok.valid (tested x y e f))

  clears_aux : (x y : List ℕ) → length x ≡ length main → length y ≡ length aux → Writes b count (3 * aux_count) (λ r. replicate (3 * length auxs) 0) y (cleared (x, y)).1
  unfolding all_rows
  clears_aux x y e f = subst (λ (n : ℕ). Writes n count (3 * aux_count) (λ r. replicate (3 * length auxs) 0) y (cleared (x, y)).1) (ap (λ (n : ℕ). n / rows) f) (cleared_aux_lem main_count aux_count m mains auxs challenges rows x y ok.valid (tested x y e f))

  main_words : ℕ → List ℕ
  main_words r = new_main main_count (length mains) (window_of (row_kind m) a r main')

  aux_words : ℕ → List ℕ
  aux_words r = new_aux aux_count (length auxs) (window_of (row_kind m) b r aux')

  main_number : (r : ℕ) → r < count → length (main_words r) ≡ length mains
  unfolding main_words
  main_number r l = part_long (row_kind m) a r main_count (length mains) main' (omega (arith, lengths_kept.0, (within r l).0)) room_main (wide a)

  aux_number : (r : ℕ) → r < count → length (aux_words r) ≡ 3 * length auxs
  unfolding aux_words
  aux_number r l = part_long (row_kind m) b r (3 * aux_count) (3 * length auxs) aux' (omega (arith, lengths_kept.1, (within r l).1)) room_aux (wide b)

  fills_main : Writes a count main_count main_words main main'
  unfolding main_words
  fills_main =
      record {
        last = all.main_last;
        rows = λ r l.
            front (row_kind m) a r main_count main' main (main_words r) (take (row_kind m * a - a) (drop (r * a + a) main')) (wide a) (in_main main refl r l)
            (omega (arith, main_number r l, room_main)) (solved r l).main_kept;
      }

  fills_aux : Writes b count (3 * aux_count) aux_words aux aux'
  unfolding aux_words
  fills_aux =
      record {
        last = all.aux_last;
        rows = λ r l.
            front (row_kind m) b r (3 * aux_count) aux' aux (aux_words r) (take (row_kind m * b - b) (drop (r * b + b) aux')) (wide b) (in_aux aux refl r l)
            (omega (arith, aux_number r l, room_aux)) (solved r l).aux_kept;
      }

  -- ZERO: every listed constraint, on every row
  pub rows_zero : (r : ℕ) → r + row_kind m ≤ rows → Zero main_count aux_count m mains auxs challenges (window_of (row_kind m) (length main' / rows) r main') (window_of (row_kind m) (length aux' / rows) r aux')
  rows_zero r l = let k = kind_one m ok.valid in rw (lengths_kept.0, lengths_kept.1) (solved r (omega arith)).zeros

  -- KEPT: only the cells to be filled were written
  pub rows-kept : cleared (main', aux') ≡ cleared (main, aux)
  rows-kept = λ i. (e i, f i)
    where
      e : (cleared (main', aux')).0 ≡ (cleared (main, aux)).0
      e =
          cleared_same a count main_count (length mains) room_main main_words main_number main main' (cleared (main, aux)).0 (cleared (main', aux')).0 (in_main main refl)
          fills_main (clears_main main aux refl refl) (clears_main main' aux' lengths_kept.0 lengths_kept.1)

      f : (cleared (main', aux')).1 ≡ (cleared (main, aux)).1
      f =
          cleared_same b count (3 * aux_count) (3 * length auxs) room_aux aux_words aux_number aux aux' (cleared (main, aux)).1 (cleared (main', aux')).1 (in_aux aux refl)
          fills_aux (clears_aux main aux refl refl) (clears_aux main' aux' lengths_kept.0 lengths_kept.1)

  -- ONLY: other words in the cells to be filled, with which every constraint is zero
  module _ (x y : List ℕ) (ex : length x ≡ length main) (ey : length y ≡ length aux) (beside : cleared (x, y) ≡ cleared (main, aux))
      (zero-on : (r : ℕ) → r + row_kind m ≤ rows → Zero main_count aux_count m mains auxs challenges (window_of (row_kind m) (length x / rows) r x) (window_of (row_kind m) (length y / rows) r y)) where
    other_main : ℕ → List ℕ
    other_main r = take (length mains) (drop main_count (row_of a r x))

    other_aux : ℕ → List ℕ
    other_aux r = take (3 * length auxs) (drop (3 * aux_count) (row_of b r y))

    writes_main : Writes a count main_count other_main main x
    unfolding other_main
    writes_main =
        same_cleared a count main_count (length mains) room_main main x (cleared (main, aux)).0 (in_main main refl) (in_main x ex) (clears_main main aux refl refl)
        (subst (λ (t : List ℕ × List ℕ). Writes a count main_count (λ r. replicate (length mains) 0) x t.0) beside (clears_main x y ex ey))

    writes_aux : Writes b count (3 * aux_count) other_aux aux y
    unfolding other_aux
    writes_aux =
        same_cleared b count (3 * aux_count) (3 * length auxs) room_aux aux y (cleared (main, aux)).1 (in_aux aux refl) (in_aux y ey) (clears_aux main aux refl refl)
        (subst (λ (t : List ℕ × List ℕ). Writes b count (3 * aux_count) (λ r. replicate (3 * length auxs) 0) y t.1) beside (clears_aux x y ex ey))

    -- a row, where the rows after it are the filled ones: its words are the one choice
    module _ (r : ℕ) (here : r < count) (after-main : drop (suc r * a) x ≡ drop (suc r * a) main') (after-aux : drop (suc r * b) y ≡ drop (suc r * b) aux') where
      main_count_lem : length (other_main r) ≡ length mains
      unfolding other_main
      main_count_lem = omega (arith, length-take (length mains) (drop main_count (row_of a r x)), length-drop main_count (row_of a r x), row_length a r x (in_main x ex r here), room_main)

      aux_count_lem : length (other_aux r) ≡ 3 * length auxs
      unfolding other_aux
      aux_count_lem = omega (arith, length-take (3 * length auxs) (drop (3 * aux_count) (row_of b r y)), length-drop (3 * aux_count) (row_of b r y), row_length b r y (in_aux y ey r here), room_aux)

      main_window : window_of (row_kind m) a r x ≡ sets (row_then (row_kind m) a r main main') main_count (other_main r)
      main_window =
          row_then_lem (row_kind m) a r x (wide a)
          ∙ ap₂ (λ (u v : List ℕ). u ++ take (row_kind m * a - a) v) (writes_main.rows r here) (rw (suc-mul r a) at after-main)
          ∙ sym (sets_left (other_main r) (row_of a r main) (take (row_kind m * a - a) (drop (r * a + a) main')) main_count (omega (arith, main_count_lem, row_length a r main (in_main main refl r here), room_main)))

      aux_window : window_of (row_kind m) b r y ≡ sets (row_then (row_kind m) b r aux aux') (3 * aux_count) (other_aux r)
      aux_window =
          row_then_lem (row_kind m) b r y (wide b)
          ∙ ap₂ (λ (u v : List ℕ). u ++ take (row_kind m * b - b) v) (writes_aux.rows r here) (rw (suc-mul r b) at after-aux)
          ∙ sym (sets_left (other_aux r) (row_of b r aux) (take (row_kind m * b - b) (drop (r * b + b) aux')) (3 * aux_count) (omega (arith, aux_count_lem, row_length b r aux (in_aux aux refl r here), room_aux)))

      zero-here : Zero main_count aux_count m mains auxs challenges (window_of (row_kind m) a r x) (window_of (row_kind m) b r y)
      zero-here = let k = kind_one m ok.valid in subst (λ (t : ℕ × ℕ). Zero main_count aux_count m mains auxs challenges (window_of (row_kind m) (t.0 / rows) r x) (window_of (row_kind m) (t.1 / rows) r y)) (λ i. (ex i, ey i)) (zero-on r (omega arith))

      same_words_lem : (other_main r ≡ main_words r) × (other_aux r ≡ aux_words r)
      unfolding main_words aux_words
      same_words_lem =
          (solved r here).only (other_main r) (other_aux r) main_count_lem aux_count_lem
          (subst (λ (t : List ℕ × List ℕ). Zero main_count aux_count m mains auxs challenges t.0 t.1) (λ i. (main_window i, aux_window i)) zero-here)

      same_row : (row_of a r x ≡ row_of a r main') × (row_of b r y ≡ row_of b r aux')
      same_row = (
        writes_main.rows r here ∙ ap (sets (row_of a r main) main_count) same_words_lem.0 ∙ sym (fills_main.rows r here),
        writes_aux.rows r here ∙ ap (sets (row_of b r aux) (3 * aux_count)) same_words_lem.1 ∙ sym (fills_aux.rows r here),
      )

    -- from the last row to the first
    same_from : (d r : ℕ) → r + d ≡ count → (drop (r * a) x ≡ drop (r * a) main') × (drop (r * b) y ≡ drop (r * b) aux')
    same_from zero r e = let q : r ≡ count = omega arith in rw q (writes_main.last ∙ sym fills_main.last, writes_aux.last ∙ sym fills_aux.last)
    same_from (suc d) r e =
        let (p, q) = same_from d (suc r) (omega arith) in
        let (u, v) = same_row r (omega arith) p q in
        (drop_row a r x ∙ ap₂ (λ (s t : List ℕ). s ++ t) u p ∙ sym (drop_row a r main'), drop_row b r y ∙ ap₂ (λ (s t : List ℕ). s ++ t) v q ∙ sym (drop_row b r aux'))

    pub rows_only : (x ≡ main') × (y ≡ aux')
    rows_only = let (p, q) = same_from count 0 (omega arith) in (rw (zero-mul a) at p, rw (zero-mul b) at q)

  -- THE OTHER CELLS of a row, before it is filled and after the row below it was: as they were lent, in both rows
  module _ (r : ℕ) (l : r + row_kind m ≤ rows) where
    abbrev seen : List ℕ × List ℕ
    seen = row_cleared main_count aux_count mains auxs (row_then (row_kind m) a r main main', row_then (row_kind m) b r aux aux')

    here : r < count
    here = let k = kind_one m ok.valid in omega arith

    pub main_current : (i : ℕ) → i < main_count → get_or seen.0 i 0 ≡ get_or (window_of (row_kind m) a r main) i 0
    unfolding row_cleared
    main_current = current_kept a count main_count (length mains) room_main main_words main main' fills_main (row_kind m) r (wide a) here (within r here).0

    pub aux_current : (i : ℕ) → i < 3 * aux_count → get_or seen.1 i 0 ≡ get_or (window_of (row_kind m) b r aux) i 0
    unfolding row_cleared
    aux_current = current_kept b count (3 * aux_count) (3 * length auxs) room_aux aux_words aux aux' fills_aux (row_kind m) r (wide b) here (within r here).1

    pub main_after : row_kind m ≡ 2 → (i : ℕ) → i < main_count → get_or (next_row seen.0) i 0 ≡ get_or (next_row (window_of (row_kind m) a r main)) i 0
    unfolding row_cleared
    main_after two i k = next_kept a count main_count (length mains) room_main main_words main main' fills_main (row_kind m) r (wide a) here (within r here).0 i k two lengths_kept.0

    pub aux_after : row_kind m ≡ 2 → (i : ℕ) → i < 3 * aux_count → get_or (next_row seen.1) i 0 ≡ get_or (next_row (window_of (row_kind m) b r aux)) i 0
    unfolding row_cleared
    aux_after two i k = next_kept b count (3 * aux_count) (3 * length auxs) room_aux aux_words aux aux' fills_aux (row_kind m) r (wide b) here (within r here).1 i k two lengths_kept.1

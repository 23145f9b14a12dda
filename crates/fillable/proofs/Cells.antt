-- The given words of tables of so many rows are the words beside the cells to be filled. Assumes nothing.
use Prim.Native.Nat.{ℕ, zero, suc, ◌+◌, ◌-◌, ◌*◌, ◌/◌, ◌<◌, ◌≤◌}
use mathlib.Core.Path.{◌≡◌, refl, sym, ap, ◌∙◌}
use mathlib.Core.Bool.{Bool, true, false, ◌||◌}
use mathlib.Core.List.{List, ◌++◌, append_assoc}
use native.Mathlib.Nat.{zero-mul, suc-mul, div-le_self}
use native.Mathlib.Omega.{arith}
use lib.ListN.{length, take, drop, replicate, take-append-drop, length-append, length-take, length-drop, length-replicate}
use lib.Seq.{sets, sets-eq, take-take, take-add, take_at, take-append-le, drop-append-le}
use Rattle.layout.specs.Lists.{any, up_to}
use Rattle.layout.specs.Words.{row_kind}
use Rattle.layout.specs.NotCircuit.{not_circuit, bad_word}
use Rattle.layout.proofs.Tests.{any_start, any-more}
use Rattle.read.proofs.Lists.{any_append, any_three, any_none_yet}
use Rattle.filling.specs.Refusals.{bad_rows}
use Rattle.filling.specs.Calls.{row_cleared, all_rows, each_row}
use Rattle.filling.proofs.Cleared.{kind_one, kind_wide, sizes, aux_room, inside, clears}
use Rattle.fillable.specs.Given.{given_words}
use Rattle.fillable.specs.Beside.{row_of, bad_beside, bad_table_beside, Rowed}

zeros_good : (n : ℕ) → any bad_word (replicate n 0) ≡ false
unfolding any
zeros_good zero = refl
zeros_good (suc n) = zeros_good n

-- one row, before other words: what was cleared, and what is tested
row_cleared_lem : (row z : List ℕ) (a c n : ℕ) → length row ≡ a → c + n ≤ a → any bad_word (take a (sets (row ++ z) c (replicate n 0))) ≡ bad_beside c (c + n) row
unfolding bad_beside
row_cleared_lem row z a c n e h =
    ap (λ (x : List ℕ). any bad_word (take a x)) spread
    ∙ ap (any bad_word) (take_at (take c row ++ zeros ++ drop (c + n) row) z a long)
    ∙ any_three bad_word (take c row) zeros (drop (c + n) row)
    ∙ rw (zeros_good n) (go (any bad_word (take c row)) (any bad_word (drop (c + n) row)))
  where
    zeros : List ℕ
    zeros = replicate n 0

    size : length zeros ≡ n
    size = length-replicate n 0

    spread : sets (row ++ z) c zeros ≡ (take c row ++ zeros ++ drop (c + n) row) ++ z
    spread =
        sets-eq zeros (row ++ z) c (omega (arith, size, length-append row z))
        ∙ ap (λ (k : ℕ). take c (row ++ z) ++ zeros ++ drop (c + k) (row ++ z)) size
        ∙ ap (λ (x : List ℕ). x ++ zeros ++ drop (c + n) (row ++ z)) (take-append-le c row z (omega arith))
        ∙ ap (λ (x : List ℕ). take c row ++ zeros ++ x) (drop-append-le (c + n) row z (omega arith))
        ∙ sym (append_assoc (take c row ++ zeros) (drop (c + n) row) z)

    long : length (take c row ++ zeros ++ drop (c + n) row) ≡ a
    long = omega (arith, length-append (take c row ++ zeros) (drop (c + n) row), length-append (take c row) zeros, length-take c row, length-drop (c + n) row, size)

    go : (x y : Bool) → ((x || false) || y) ≡ (x || y)
    go true y = refl
    go false y = refl

-- a table l, and g, of which n rows of a words were cleared from the place c on, each before the words that follow it there
module _ (l g : List ℕ) (a w c k n : ℕ) (wide : a ≤ w) (cells : c + k ≤ a) (fits : (r : ℕ) → r < n → r * a + w ≤ length l) (next : ℕ → List ℕ)
    (cleared : (r : ℕ) → r < n → take w (drop (r * a) g) ≡ sets (row_of a l r ++ next r) c (replicate k 0)) (after : drop (n * a) g ≡ drop (n * a) l) where
  one_row : (r : ℕ) → r < n → any bad_word (take a (drop (r * a) g)) ≡ bad_beside c (c + k) (row_of a l r)
  one_row r h =
      let f = fits r h in
      ap (any bad_word) (sym (take-take a w (drop (r * a) g) wide) ∙ ap (take a) (cleared r h))
      ∙ row_cleared_lem (row_of a l r) (next r) a c k (omega (arith, length-take a (drop (r * a) l), length-drop (r * a) l)) cells

  first_rows : (j : ℕ) → j ≤ n → any bad_word (take (j * a) g) ≡ any (λ r. bad_beside c (c + k) (row_of a l r)) (up_to j)
  first_rows zero h = rw (zero-mul a) (any_none_yet bad_word g ∙ sym (any_start (λ r. bad_beside c (c + k) (row_of a l r))))
  first_rows (suc j) h =
      ap (λ (x : ℕ). any bad_word (take x g)) (suc-mul j a)
      ∙ ap (any bad_word) (take-add (j * a) a g)
      ∙ any_append bad_word (take (j * a) g) (take a (drop (j * a) g))
      ∙ ap (λ (b : Bool). b || any bad_word (take a (drop (j * a) g))) (first_rows j (omega arith))
      ∙ ap (λ (b : Bool). any (λ r. bad_beside c (c + k) (row_of a l r)) (up_to j) || b) (one_row j h)
      ∙ sym (any-more (λ r. bad_beside c (c + k) (row_of a l r)) j)

  table_cleared : any bad_word g ≡ bad_table_beside a c (c + k) n l
  unfolding bad_table_beside
  table_cleared =
      ap (any bad_word) (sym (take-append-drop (n * a) g))
      ∙ any_append bad_word (take (n * a) g) (drop (n * a) g)
      ∙ ap (λ (b : Bool). b || any bad_word (drop (n * a) g)) (first_rows n (omega arith))
      ∙ ap (λ (x : List ℕ). any (λ r. bad_beside c (c + k) (row_of a l r)) (up_to n) || any bad_word x) after

module _ (main_count aux_count : ℕ) (m mains auxs challenges : List ℕ) (rows : ℕ) (main aux : List ℕ) (valid : not_circuit m ≡ false) (tested : bad_rows rows main_count aux_count m mains auxs main aux challenges ≡ false) where
  abbrev a : ℕ
  a = length main / rows

  abbrev b : ℕ
  b = length aux / rows

  abbrev filled : ℕ
  filled = suc rows - row_kind m

  abbrev given : List ℕ × List ℕ
  given = each_row (row_kind m) (row_cleared main_count aux_count mains auxs) a b filled (main, aux)

  -- where the cells lie
  room : main_count + length mains ≤ a
  room = (sizes main_count aux_count m mains auxs challenges rows main aux tested).main_room

  room' : 3 * aux_count + 3 * length auxs ≤ b
  room' = aux_room main_count aux_count m mains auxs challenges rows main aux valid tested

  main_given : any bad_word given.0 ≡ bad_table_beside a main_count (main_count + length mains) filled main
  unfolding row_cleared
  main_given =
      let done = clears main_count aux_count m mains auxs challenges rows main aux valid tested in
      table_cleared main given.0 a (row_kind m * a) main_count (length mains) filled (kind_wide m valid a) room
      (λ r h. (inside main_count aux_count m mains auxs challenges rows main aux valid tested r h).0)
      (λ r. take (row_kind m * a - a) (drop (r * a + a) given.0))
      (λ r h. ap (λ (t : List ℕ × List ℕ). t.0) (done.rows r h))
      done.main_after

  aux_given : any bad_word given.1 ≡ bad_table_beside b (3 * aux_count) (3 * aux_count + 3 * length auxs) filled aux
  unfolding row_cleared
  aux_given =
      let done = clears main_count aux_count m mains auxs challenges rows main aux valid tested in
      table_cleared aux given.1 b (row_kind m * b) (3 * aux_count) (3 * length auxs) filled (kind_wide m valid b) room'
      (λ r h. (inside main_count aux_count m mains auxs challenges rows main aux valid tested r h).1)
      (λ r. take (row_kind m * b - b) (drop (r * b + b) given.1))
      (λ r h. ap (λ (t : List ℕ × List ℕ). t.1) (done.rows r h))
      done.aux_after

  pub main_short : main_count + length mains ≤ length main
  main_short = let r = room in let d = div-le_self (length main) rows in omega arith

  pub aux_short : 3 * aux_count + 3 * length auxs ≤ length aux
  aux_short = let r = room' in let d = div-le_self (length aux) rows in omega arith

  pub kind_fits : row_kind m ≤ rows
  kind_fits = (sizes main_count aux_count m mains auxs challenges rows main aux tested).kind_fits

  module _ (n : ℕ) (is : n ≡ filled) where
    pub main_rowed : Rowed rows main_count (main_count + length mains) n main
    main_rowed = let k = kind_one m valid in let f = kind_fits in let r = room in record { some = omega arith; fewer = omega arith; front = omega arith; back = r }

    pub aux_rowed : Rowed rows (3 * aux_count) (3 * aux_count + 3 * length auxs) n aux
    aux_rowed = let k = kind_one m valid in let f = kind_fits in let r = room' in record { some = omega arith; fewer = omega arith; front = omega arith; back = r }

    -- the main table, the auxiliary one, the challenges
    pub given_tests : any bad_word (given_words rows main_count aux_count m mains auxs main aux challenges)
        ≡ (bad_table_beside a main_count (main_count + length mains) n main || bad_table_beside b (3 * aux_count) (3 * aux_count + 3 * length auxs) n aux || any bad_word challenges)
    unfolding all_rows
    given_tests = any_three bad_word given.0 given.1 challenges ∙ rw (main_given, aux_given, is)

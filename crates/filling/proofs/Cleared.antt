-- Tables of many rows whose sizes TABLE has tested: how wide they are, and that clearing the cells to be filled does each row as one. Assumes nothing.
use Prim.Native.Nat.{ℕ, suc, ◌+◌, ◌-◌, ◌*◌, ◌/◌, ◌%◌, ◌<◌, ◌≤◌}
use mathlib.Core.Path.{◌≡◌, sym, ◌∙◌, ap}
use mathlib.Core.Logic.{⊎_elim}
use mathlib.Core.Bool.{true, false, ◌||◌}
use mathlib.Core.List.{List, ◌++◌}
use native.Mathlib.Nat.{add-mul, mul_comm, mul_assoc, mul-le-mul_right, mul-div-le, mul-div_right, div-add-mod}
use native.Mathlib.Omega.{arith}
use lib.ListN.{length, take, drop, replicate, length-replicate}
use lib.Seq.{length-sets}
use lib.Dec.{ltb, eqb}
use borrow.Author.Tests.{ltb-false, eqb-true, not-false}
use Rattle.layout.specs.Lists.{any}
use Rattle.layout.specs.Words.{row_kind, expression_at}
use Rattle.layout.specs.NotCircuit.{not_circuit}
use Rattle.layout.proofs.Tests.{neither}
use Rattle.layout.proofs.Lists.{and-true}
use Rattle.walking.specs.Paths.{walks}
use Rattle.filling.specs.Refusals.{beyond, bad_rows}
use Rattle.filling.specs.Calls.{row_cleared, each_row}
use Rattle.filling.proofs.Tables.{sets_drop}
use Rattle.filling.proofs.Accepts.{kinds}
use Rattle.filling.proofs.Rows.{Tame, Done, each_done}
use Rattle.filling.proofs.Written.{Writes, front}

-- a circuit reads one row at least
pub kind_one : (m : List ℕ) → not_circuit m ≡ false → 1 ≤ row_kind m
kind_one m valid = ⊎_elim (λ e. omega arith) (λ e. omega arith) (kinds m valid)

pub kind_wide : (m : List ℕ) → not_circuit m ≡ false → (x : ℕ) → x ≤ row_kind m * x
kind_wide m valid x = let h : 1 * x ≤ row_kind m * x = mul-le-mul_right x (kind_one m valid) in omega arith

module _ (main_count aux_count : ℕ) (m mains auxs challenges : List ℕ) (rows : ℕ) (main aux : List ℕ) where
  abbrev a : ℕ
  a = length main / rows

  abbrev b : ℕ
  b = length aux / rows

  abbrev count : ℕ
  count = suc rows - row_kind m

  abbrev given : List ℕ × List ℕ
  given = each_row (row_kind m) (row_cleared main_count aux_count mains auxs) a b count (main, aux)

  -- the sizes that TABLE has tested
  pub record Sizes : Type 0 where
    pub kind_fits : row_kind m ≤ rows
    pub main_even : length main % rows ≡ 0
    pub aux_even : length aux % (3 * rows) ≡ 0
    pub challenges_even : eqb (length challenges % 3) 0 ≡ true
    pub main_room : main_count + length mains ≤ a
    pub aux_room : aux_count + length auxs ≤ length aux / (3 * rows)
    pub reads : any (λ i. beyond a (length aux / (3 * rows)) (length challenges / 3) (expression_at m i)) (walks m (mains ++ auxs)) ≡ false

  pub sizes : bad_rows rows main_count aux_count m mains auxs main aux challenges ≡ false → Sizes
  unfolding bad_rows
  sizes h =
      let (x, reads) = neither _ (any (λ i. beyond a (length aux / (3 * rows)) (length challenges / 3) (expression_at m i)) (walks m (mains ++ auxs))) h in
      let (y, rooms) = neither _ (ltb a (main_count + length mains) || ltb (length aux / (3 * rows)) (aux_count + length auxs)) x in
      let (z, layout) = neither (ltb rows (row_kind m)) _ y in
      let (r₀, r₁) = neither (ltb a (main_count + length mains)) (ltb (length aux / (3 * rows)) (aux_count + length auxs)) rooms in
      let (l₀, l₁) = and-true (eqb (length main % rows) 0) _ (not-false _ layout) in
      let (l₂, l₃) = and-true (eqb (length aux % (3 * rows)) 0) _ l₁ in
      record { kind_fits = ltb-false _ _ z; main_even = eqb-true _ 0 l₀; aux_even = eqb-true _ 0 l₂; challenges_even = l₃; main_room = ltb-false _ _ r₀; aux_room = ltb-false _ _ r₁; reads = reads }

  module _ (valid : not_circuit m ≡ false) (tested : bad_rows rows main_count aux_count m mains auxs main aux challenges ≡ false) where
    sized : Sizes
    sized = sizes tested

    -- three words an auxiliary column
    pub aux_width : b ≡ 3 * (length aux / (3 * rows))
    aux_width =
        let all : (3 * rows) * (length aux / (3 * rows)) + length aux % (3 * rows) ≡ length aux = div-add-mod (length aux) (3 * rows) in
        let even = sized.aux_even in
        let whole : (3 * rows) * (length aux / (3 * rows)) ≡ length aux = omega arith in
        let turned : (3 * rows) * (length aux / (3 * rows)) ≡ rows * (3 * (length aux / (3 * rows))) =
        ap (λ (x : ℕ). x * (length aux / (3 * rows))) (mul_comm 3 rows) ∙ mul_assoc rows 3 (length aux / (3 * rows)) in
        let k = kind_one m valid in
        let f = sized.kind_fits in
        let some : 0 < rows = omega arith in
        ap (λ (x : ℕ). x / rows) (sym whole ∙ turned) ∙ mul-div_right (3 * (length aux / (3 * rows))) some

    pub aux_room : 3 * aux_count + 3 * length auxs ≤ b
    aux_room = let r = sized.aux_room in let w = aux_width in omega arith

    -- a row that is filled, and those that it reads, lie in the tables
    pub inside : (r : ℕ) → r < count → (r * a + row_kind m * a ≤ length main) × (r * b + row_kind m * b ≤ length aux)
    inside r l =
        let k = kind_one m valid in
        let f = sized.kind_fits in
        let fit : r + row_kind m ≤ rows = omega arith in
        let part : (n c : ℕ) → rows * c ≤ n → r * c + row_kind m * c ≤ n = λ n c h. let g : (r + row_kind m) * c ≤ rows * c = mul-le-mul_right c fit in let e : (r + row_kind m) * c ≡ r * c + row_kind m * c = add-mul r (row_kind m) c in omega arith in
        (part (length main) a (mul-div-le (length main) rows), part (length aux) b (mul-div-le (length aux) rows))

    pub clear_tame : Tame (row_kind m) (kind_one m valid) a b (row_cleared main_count aux_count mains auxs)
    unfolding row_cleared
    clear_tame =
        let zeros : List ℕ = replicate (length mains) 0 in
        let zeros' : List ℕ = replicate (3 * length auxs) 0 in
        record {
          main_length = λ w p q. length-sets w.0 main_count zeros ∙ p;
          aux_length = λ w p q. length-sets w.1 (3 * aux_count) zeros' ∙ q;
          main_next = λ w p q. sets_drop zeros w.0 main_count a (omega (arith, length-replicate {A = ℕ} (length mains) 0, sized.main_room));
          aux_next = λ w p q. sets_drop zeros' w.1 (3 * aux_count) b (omega (arith, length-replicate {A = ℕ} (3 * length auxs) 0, aux_room));
        }

    pub clears : Done (row_kind m) (kind_one m valid) a b (row_cleared main_count aux_count mains auxs) clear_tame count (main, aux) given
    clears = each_done (row_kind m) (kind_one m valid) a b (row_cleared main_count aux_count mains auxs) clear_tame count (main, aux) inside

    -- so it writes zeros into each row
    pub cleared_main_lem : Writes a count main_count (λ r. replicate (length mains) 0) main given.0
    unfolding row_cleared
    cleared_main_lem =
        record {
          last = clears.main_after;
          rows = λ r l.
              let w = kind_wide m valid a in
              front (row_kind m) a r main_count given.0 main (replicate (length mains) 0) (take (row_kind m * a - a) (drop (r * a + a) given.0)) w (omega (arith, (inside r l).0))
              (omega (arith, length-replicate {A = ℕ} (length mains) 0, sized.main_room)) (ap (λ (t : List ℕ × List ℕ). t.0) (clears.rows r l));
        }

    pub cleared_aux_lem : Writes b count (3 * aux_count) (λ r. replicate (3 * length auxs) 0) aux given.1
    unfolding row_cleared
    cleared_aux_lem =
        record {
          last = clears.aux_after;
          rows = λ r l.
              let w = kind_wide m valid b in
              front (row_kind m) b r (3 * aux_count) given.1 aux (replicate (3 * length auxs) 0) (take (row_kind m * b - b) (drop (r * b + b) given.1)) w (omega (arith, (inside r l).1))
              (omega (arith, length-replicate {A = ℕ} (3 * length auxs) 0, aux_room)) (ap (λ (t : List ℕ × List ℕ). t.1) (clears.rows r l));
        }

-- One row of tables of many: it lies in them, and the plan runs on it. Assumes nothing.
use Prim.Native.Nat.{ℕ, ◌+◌, ◌-◌, ◌*◌, ◌<◌, ◌≤◌}
use mathlib.Core.Path.{◌≡◌, sym, ap, ◌∙◌}
use mathlib.Core.List.{List}
use native.Mathlib.Nat.{mul_assoc, mul_comm, mul-le-mul_right}
use native.Mathlib.Omega.{arith}
use lib.ListN.{length, drop, length-take, length-drop}
use Rattle.filler.specs.declared.plan.Shape.{Shape}
use Rattle.filler.specs.Running.{Runnable}
use lib.Seq.{sets}
use borrow.Rule.Slice.PartMut.{mid_of, put_mid, mid_len}
use Rattle.circuit.specs.Rank.{at}
use Rattle.filling.specs.Promise.{window_of}
use Rattle.filler.specs.Rowing.{words_for, triples_for, RowInside, RowFillable, Storing, StoringWide}
use Rattle.filler.proofs.Stores.{part_sets, words_length, triples_length}

pub window_length : (kind width r : ℕ) (l : List ℕ) → r * width + kind * width ≤ length l → length (window_of kind width r l) ≡ kind * width
window_length kind width r l h = omega (arith, length-take (kind * width) (drop (r * width) l), length-drop (r * width) l)

three_out : (k w : ℕ) → k * (3 * w) ≡ 3 * (k * w)
three_out k w = sym (mul_assoc k 3 w) ∙ ap (λ (x : ℕ). x * w) (mul_comm k 3) ∙ mul_assoc 3 k w

pub row_runnable : (s : Shape) (kind r many : ℕ) (plan targets bases main aux words triples : List ℕ) → RowFillable s kind r many plan targets bases main aux words triples
    → Runnable plan many (window_of kind s.row r main) (window_of kind (3 * s.wide) r aux) words triples
row_runnable s kind r many plan targets bases main aux words triples h =
    let f = h.fits in
    let a = window_length kind s.row r main h.inside.main_inside in
    let b = window_length kind (3 * s.wide) r aux h.inside.aux_inside ∙ three_out kind s.wide in
    record { rooms = h.rooms; plan_room = f.plan_room; few = f.few; sound = λ q l. rw (a, b) (f.sound q l) }

-- a part from start to start + n has n words
pub cut : (a b : ℕ) → (a + b) - a ≡ b
cut a b = omega arith

-- the row by itself
pub record Alone (s : Shape) (r : ℕ) (main aux : List ℕ) : Type 0 where
  pub main_alone : r * s.row + s.row ≤ length main
  pub aux_alone : r * (3 * s.wide) + 3 * s.wide ≤ length aux

pub row_alone : (s : Shape) (kind r : ℕ) (main aux : List ℕ) → 1 ≤ kind → RowInside s kind r main aux → Alone s r main aux
row_alone s kind r main aux k h =
    let a : 1 * s.row ≤ kind * s.row = mul-le-mul_right s.row k in
    let b : 1 * (3 * s.wide) ≤ kind * (3 * s.wide) = mul-le-mul_right (3 * s.wide) k in
    let x = h.main_inside in
    let y = h.aux_inside in
    record { main_alone = omega arith; aux_alone = omega arith }

-- what is stored in the part of a row that begins at the old columns' count
pub stored_main : (s : Shape) (r : ℕ) (main targets words : List ℕ) → Storing s r main targets words → (part : List ℕ)
    → part ≡ sets (mid_of (r * s.row + s.main) ((r * s.row + s.row) - (r * s.row + s.main)) main) 0 (words_for words targets s.fresh)
    → put_mid (r * s.row + s.main) ((r * s.row + s.row) - (r * s.row + s.main)) main part ≡ sets main (r * s.row + s.main) (words_for words targets s.fresh)
stored_main s r main targets words h part e =
    let i = h.inside in
    let f = h.fits in
    let n : length (words_for words targets s.fresh) ≡ s.fresh = words_length words targets s.fresh in
    let from : r * s.row + s.main + 0 ≡ r * s.row + s.main = omega arith in
    rw e (part_sets (r * s.row + s.main) ((r * s.row + s.row) - (r * s.row + s.main)) 0 main (words_for words targets s.fresh) (omega arith) (omega arith)) ∙ ap (λ (k : ℕ). sets main k (words_for words targets s.fresh)) from

module _ (s : Shape) (r : ℕ) (aux targets bases words triples : List ℕ) (h : StoringWide s r aux targets bases words triples) where
  pub wide-requires : (3 * (s.items - s.fresh) ≤ length (mid_of (r * (3 * s.wide) + 3 * s.aux) ((r * (3 * s.wide) + 3 * s.wide) - (r * (3 * s.wide) + 3 * s.aux)) aux))
      × ((s.fresh + (s.items - s.fresh) ≤ length targets) × ((k : ℕ) → k < s.fresh + (s.items - s.fresh) → (at targets k < length bases) × ((at targets k < length words) × (3 * at targets k + 2 < length triples))))
  wide-requires =
      let i = h.inside in
      let f = h.fits in
      let n = h.few in
      let t = h.targets_room in
      let len = mid_len (r * (3 * s.wide) + 3 * s.aux) (r * (3 * s.wide) + 3 * s.wide) aux i in
      (omega arith, (omega arith, λ k l. h.entries k (omega arith)))

  pub stored_aux : (part : List ℕ)
      → part ≡ sets (mid_of (r * (3 * s.wide) + 3 * s.aux) ((r * (3 * s.wide) + 3 * s.wide) - (r * (3 * s.wide) + 3 * s.aux)) aux) 0 (triples_for bases (words, triples) targets s.fresh (s.items - s.fresh))
      → put_mid (r * (3 * s.wide) + 3 * s.aux) ((r * (3 * s.wide) + 3 * s.wide) - (r * (3 * s.wide) + 3 * s.aux)) aux part ≡ sets aux (r * (3 * s.wide) + 3 * s.aux) (triples_for bases (words, triples) targets s.fresh (s.items - s.fresh))
  stored_aux part e =
      let i = h.inside in
      let f = h.fits in
      let n : length (triples_for bases (words, triples) targets s.fresh (s.items - s.fresh)) ≡ 3 * (s.items - s.fresh) = triples_length bases (words, triples) targets s.fresh (s.items - s.fresh) in
      let from : r * (3 * s.wide) + 3 * s.aux + 0 ≡ r * (3 * s.wide) + 3 * s.aux = omega arith in
      rw e (part_sets (r * (3 * s.wide) + 3 * s.aux) ((r * (3 * s.wide) + 3 * s.wide) - (r * (3 * s.wide) + 3 * s.aux)) 0 aux (triples_for bases (words, triples) targets s.fresh (s.items - s.fresh)) (omega arith) (omega arith))
      ∙ ap (λ (k : ℕ). sets aux k (triples_for bases (words, triples) targets s.fresh (s.items - s.fresh))) from

-- what a row's stores ask, from what the row asks
module _ (s : Shape) (kind r many : ℕ) (plan targets bases main aux words triples words' : List ℕ) (h : RowFillable s kind r many plan targets bases main aux words triples) (same_words_lem : length words' ≡ length words) where
  pub row_storing : Storing s r main targets words'
  row_storing =
      let f = h.fits in
      let n = f.fresh_few in
      let t = f.targets_room in
      let w = h.rooms.words_room in
      record { inside = (row_alone s kind r main aux f.kind_some h.inside).main_alone; fits = f.main_fits; targets_room = omega arith; entries = λ k l. let e = f.entries k (omega arith) in omega arith }

  pub row_storing_wide : (triples' : List ℕ) → length triples' ≡ length triples → StoringWide s r aux targets bases words' triples'
  row_storing_wide triples' same_triples =
      let f = h.fits in
      let w = h.rooms.words_room in
      let t = h.rooms.triples_room in
      let b = f.bases_room in
      record {
        inside = (row_alone s kind r main aux f.kind_some h.inside).aux_alone;
        few = f.fresh_few;
        fits = f.aux_fits;
        targets_room = f.targets_room;
        entries = λ k l. let e = f.entries k l in (omega arith, (omega arith, omega arith));
      }

-- Rows filled one after the other, from the last to the first. Assumes nothing.
use Prim.Native.Nat.{ℕ, zero, suc, ◌+◌, ◌-◌, ◌*◌, ◌<◌, ◌≤◌}
use mathlib.Core.Path.{◌≡◌, refl, sym, ap, ◌∙◌}
use mathlib.Core.List.{List, [], ◌∷◌}
use native.Mathlib.Nat.{mul-le-mul_right}
use native.Mathlib.Omega.{arith}
use lib.ListN.{length}
use lib.Seq.{sets, length-sets}
use Rattle.layout.specs.Words.{row_kind}
use Rattle.filling.specs.Calls.{main_filled, aux_filled, row_filled, at_row, each_row}
use Rattle.filling.specs.Promise.{window_of}
use Rattle.filler.specs.declared.plan.Shape.{Shape}
use Rattle.filler.specs.Running.{Values}
use Rattle.filler.specs.Planning.{Ready}
use Rattle.filler.specs.Rowing.{words_for, triples_for, row_stored, RowInside, RowDone}
use Rattle.filler.specs.Filling.{Fillable}
use Rattle.filler.proofs.Runs.{ran_lengths}
use Rattle.filler.proofs.Stores.{words_length, triples_length, window_sets}
use Rattle.filler.proofs.Rowings.{window_length}

-- the last rows are filled, and r are left
pub record Filling (s : Shape) (filled : ℕ) (m mains auxs challenges main₀ aux₀ words₀ triples₀ main aux words triples : List ℕ) (r : ℕ) : Type 0 where
  pub same_main : length main ≡ length main₀
  pub same_aux : length aux ≡ length aux₀
  pub same_words_lem : length words ≡ length words₀
  pub same_triples : length triples ≡ length triples₀
  pub ready : Ready m challenges (words, triples)
  pub rest : each_row (row_kind m) (row_filled s.main s.aux m mains auxs challenges) s.row (3 * s.wide) r (main, aux)
      ≡ each_row (row_kind m) (row_filled s.main s.aux m mains auxs challenges) s.row (3 * s.wide) filled (main₀, aux₀)

module _ (s : Shape) (filled many : ℕ) (m mains auxs challenges targets bases plan main₀ aux₀ words₀ triples₀ : List ℕ) (able : Fillable s filled many m mains auxs challenges targets bases plan main₀ aux₀ words₀ triples₀) where
  abbrev f : List ℕ × List ℕ → List ℕ × List ℕ
  f = row_filled s.main s.aux m mains auxs challenges

  module _ (main aux words triples : List ℕ) (r : ℕ) (x : Filling s filled m mains auxs challenges main₀ aux₀ words₀ triples₀ main aux words triples r) (w : r ≤ filled) (some : 0 < r) where
    inside_now : RowInside s (row_kind m) (r - 1) main aux
    inside_now =
        let i = able.within.each (r - 1) (omega arith) in
        record { main_inside = rw x.same_main i.main_inside; aux_inside = rw x.same_aux i.aux_inside }

    module _ (main' aux' words' triples' : List ℕ) (d : RowDone s (row_kind m) (r - 1) many plan targets bases main aux words triples main' aux' words' triples') where
      abbrev wm : List ℕ
      wm = window_of (row_kind m) s.row (r - 1) main

      abbrev wa : List ℕ
      wa = window_of (row_kind m) (3 * s.wide) (r - 1) aux

      long_main : length wm ≡ row_kind m * s.row
      long_main = window_length (row_kind m) s.row (r - 1) main inside_now.main_inside

      long_aux : length wa ≡ row_kind m * (3 * s.wide)
      long_aux = window_length (row_kind m) (3 * s.wide) (r - 1) aux inside_now.aux_inside

      row_is : f (wm, wa) ≡ row_stored s targets bases (words', triples') (wm, wa)
      row_is = able.prepared.fills (wm, wa) (words, triples) long_main long_aux x.ready ∙ ap (λ (v : Values). row_stored s targets bases v (wm, wa)) (sym d.values)

      one_done : (main', aux') ≡ at_row (row_kind m) f s.row (3 * s.wide) (r - 1) (main, aux)
      unfolding at_row
      one_done =
          let ft = able.prepared.fits in
          let a = ft.main_fits in
          let b = ft.aux_fits in
          let k = ft.kind_some in
          let n = words_length words' targets s.fresh in
          let o = triples_length bases (words', triples') targets s.fresh (s.items - s.fresh) in
          let one : 1 * s.row ≤ row_kind m * s.row = mul-le-mul_right s.row k in
          let two : 1 * (3 * s.wide) ≤ row_kind m * (3 * s.wide) = mul-le-mul_right (3 * s.wide) k in
          let p : main' ≡ sets main ((r - 1) * s.row) (sets wm s.main (words_for words' targets s.fresh)) =
          d.main_stored ∙ sym (window_sets main (words_for words' targets s.fresh) ((r - 1) * s.row) (row_kind m * s.row) s.main inside_now.main_inside (omega arith)) in
          let q : aux' ≡ sets aux ((r - 1) * (3 * s.wide)) (sets wa (3 * s.aux) (triples_for bases (words', triples') targets s.fresh (s.items - s.fresh))) =
          d.aux_stored ∙ sym (window_sets aux (triples_for bases (words', triples') targets s.fresh (s.items - s.fresh)) ((r - 1) * (3 * s.wide)) (row_kind m * (3 * s.wide)) (3 * s.aux) inside_now.aux_inside (omega arith)) in
          let both : ◌≡◌ {A = List ℕ × List ℕ} (main', aux') (sets main ((r - 1) * s.row) (row_stored s targets bases (words', triples') (wm, wa)).0, sets aux ((r - 1) * (3 * s.wide)) (row_stored s targets bases (words', triples') (wm, wa)).1) = λ i. (p i, q i) in
          both ∙ ap (λ (t : List ℕ × List ℕ). (sets main ((r - 1) * s.row) t.0, sets aux ((r - 1) * (3 * s.wide)) t.1)) (sym row_is)

      pub filling_next : Filling s filled m mains auxs challenges main₀ aux₀ words₀ triples₀ main' aux' words' triples' (r - 1)
      unfolding each_row
      filling_next =
          let back : suc (r - 1) ≡ r = omega arith in
          let (lw, lt) = ran_lengths plan wm wa (words, triples) many in
          record {
            same_main = ap length d.main_stored ∙ length-sets main ((r - 1) * s.row + s.main) (words_for words' targets s.fresh) ∙ x.same_main;
            same_aux = ap length d.aux_stored ∙ length-sets aux ((r - 1) * (3 * s.wide) + 3 * s.aux) (triples_for bases (words', triples') targets s.fresh (s.items - s.fresh)) ∙ x.same_aux;
            same_words_lem = ap (λ (v : Values). length v.0) d.values ∙ lw ∙ x.same_words_lem;
            same_triples = ap (λ (v : Values). length v.1) d.values ∙ lt ∙ x.same_triples;
            ready = rw d.values (able.prepared.ready (wm, wa) (words, triples) x.ready);
            rest = ap (each_row (row_kind m) f s.row (3 * s.wide) (r - 1)) one_done ∙ ap (λ (n : ℕ). each_row (row_kind m) f s.row (3 * s.wide) n (main, aux)) back ∙ x.rest;
          }

  pub filling_done : (main aux words triples : List ℕ) (r : ℕ) → Filling s filled m mains auxs challenges main₀ aux₀ words₀ triples₀ main aux words triples r → r ≤ 0
      → (main, aux) ≡ each_row (row_kind m) f s.row (3 * s.wide) filled (main₀, aux₀)
  unfolding each_row
  filling_done main aux words triples r x h = let e : r ≡ 0 = omega arith in rw e at x.rest

-- without a new column every row stays
none_filled : (main_count aux_count : ℕ) (m mains auxs challenges : List ℕ) → length mains ≡ 0 → length auxs ≡ 0 → (t : List ℕ × List ℕ) → row_filled main_count aux_count m mains auxs challenges t ≡ t
unfolding row_filled main_filled aux_filled
none_filled main_count aux_count m [] [] challenges e f t = refl
none_filled main_count aux_count m (q ∷ qs) auxs challenges e f t = absurd (omega arith)
none_filled main_count aux_count m [] (q ∷ qs) challenges e f t = absurd (omega arith)

module _ (s : Shape) (m mains auxs challenges main aux : List ℕ) (no_main : length mains ≡ 0) (no-aux : length auxs ≡ 0) where
  abbrev g : List ℕ × List ℕ → List ℕ × List ℕ
  g = row_filled s.main s.aux m mains auxs challenges

  at_none : (r : ℕ) → RowInside s (row_kind m) r main aux → at_row (row_kind m) g s.row (3 * s.wide) r (main, aux) ≡ (main, aux)
  unfolding at_row
  at_none r i =
      let p : sets main (r * s.row) (window_of (row_kind m) s.row r main) ≡ main = window_sets main [] (r * s.row) (row_kind m * s.row) 0 i.main_inside (omega arith) in
      let q : sets aux (r * (3 * s.wide)) (window_of (row_kind m) (3 * s.wide) r aux) ≡ aux = window_sets aux [] (r * (3 * s.wide)) (row_kind m * (3 * s.wide)) 0 i.aux_inside (omega arith) in
      ap (λ (t : List ℕ × List ℕ). (sets main (r * s.row) t.0, sets aux (r * (3 * s.wide)) t.1)) (none_filled s.main s.aux m mains auxs challenges no_main no-aux (window_of (row_kind m) s.row r main, window_of (row_kind m) (3 * s.wide) r aux))
      ∙ (λ k. (p k, q k))

  pub each_none : (n : ℕ) → ((r : ℕ) → r < n → RowInside s (row_kind m) r main aux) → each_row (row_kind m) g s.row (3 * s.wide) n (main, aux) ≡ (main, aux)
  unfolding each_row
  each_none zero h = refl
  each_none (suc n) h = ap (each_row (row_kind m) g s.row (3 * s.wide) n) (at_none n (h n (omega arith))) ∙ each_none n (λ r l. h r (omega arith))

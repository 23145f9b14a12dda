-- The plan of a call that has passed the tests: by it each row is filled as defined. Assumes nothing.
use Rattle.std.specs.Prelude.{if◌then◌else◌}
use Prim.Native.Nat.{ℕ, ◌+◌, ◌-◌, ◌*◌, ◌<◌, ◌≤◌}
use mathlib.Core.Path.{◌≡◌, refl, sym, ap, ◌∙◌, subst}
use mathlib.Core.Bool.{Bool, true, false}
use mathlib.Core.List.{List}
use native.Mathlib.Omega.{arith}
use lib.Dec.{eqb}
use lib.ListN.{length, get_or}
use lib.Seq.{sets, ext_get_or}
use Rattle.arithmetic.specs.declared.Triple.{Triple}
use Rattle.arithmetic.specs.Extension.{lift}
use Rattle.layout.specs.Lists.{bit}
use Rattle.layout.specs.Words.{row_kind, used}
use Rattle.layout.specs.Tree.{tree}
use Rattle.circuit.specs.Rank.{at}
use Rattle.paths.proofs.Counts.{valid_top}
use Rattle.reading.specs.Readings.{Assignment, is_base, value}
use Rattle.reading.specs.Calls.{triple_at}
use Rattle.read.specs.Bases.{base_bit}
use Rattle.filling.specs.Calls.{row_filled}
use Rattle.filling.proofs.Values.{base_lifted}
use Rattle.filling.proofs.Solves.{sets_at, words_of}
use Rattle.filling.proofs.Holds.{Fitting, final}
use Rattle.read.proofs.Lent.{valid_rows}
use Rattle.filling.proofs.Cleared.{kind_one}
use Rattle.filler.specs.declared.plan.Shape.{Shape}
use Rattle.filler.specs.Running.{Values, ran}
use Rattle.filler.specs.Planning.{Staged, Stands, Ready, Says, Planned}
use Rattle.filler.specs.Rowing.{words_for, triple_for, triples_for, row_stored, Prepared}
use Rattle.filler.specs.Filling.{shape_of}
use Rattle.filler.specs.Preparing.{RightLists, Preparing, Resolved}
use Rattle.filler.proofs.Plans.{ready_ran}
use Rattle.filler.proofs.Stores.{words_length, words_at_lem, triples_length, triples_at}
use Rattle.filler.proofs.Says.{main_written, aux_written, new_main_lem, new_aux_lem, row_says}
use Rattle.filler.proofs.Targeting.{passed_targeted, passed_fitting}

-- words by their places
same_words_lem : (x y : List ℕ) (n : ℕ) → length x ≡ n → length y ≡ n → ((k : ℕ) → k < n → get_or x k 0 ≡ get_or y k 0) → x ≡ y
same_words_lem x y n e f h = ext_get_or 0 x y (e ∙ sym f) (λ k l. h k (omega arith))

-- a triple that was written
written_triple : (vs l : List ℕ) (c k : ℕ) → 3 * c + length vs ≤ length l → 3 * k + 2 < length vs → triple_at (sets l (3 * c) vs) (c + k) ≡ triple_at vs k
unfolding triple_at
written_triple vs l c k h g =
    let e₀ : get_or (sets l (3 * c) vs) (3 * (c + k)) 0 ≡ get_or vs (3 * k) 0 = ap (λ (j : ℕ). get_or (sets l (3 * c) vs) j 0) (omega arith) ∙ sets_at vs l (3 * c) (3 * k) h (omega arith) in
    let e₁ : get_or (sets l (3 * c) vs) (3 * (c + k) + 1) 0 ≡ get_or vs (3 * k + 1) 0 = ap (λ (j : ℕ). get_or (sets l (3 * c) vs) j 0) (omega arith) ∙ sets_at vs l (3 * c) (3 * k + 1) h (omega arith) in
    let e₂ : get_or (sets l (3 * c) vs) (3 * (c + k) + 2) 0 ≡ get_or vs (3 * k + 2) 0 = ap (λ (j : ℕ). get_or (sets l (3 * c) vs) j 0) (omega arith) ∙ sets_at vs l (3 * c) (3 * k + 2) h (omega arith) in
    λ i. record { c0 = e₀ i; c1 = e₁ i; c2 = e₂ i }

module _ (s : Shape) (m mains auxs challenges targets bases plan₀ : List ℕ) (given : Preparing s m mains auxs challenges targets bases plan₀) (order rank alias plan : List ℕ) (done many : ℕ) (staged : Staged s m targets order rank done) (planned : Planned s m bases targets challenges order rank alias plan done many) (targets' : List ℕ) (resolved : Resolved targets alias targets' s.items) where
  ok : RightLists s m mains auxs challenges targets
  ok = given.passed

  -- each item's value has an entry
  rank_low : (k : ℕ) → k < s.items → at rank (at targets k) < done
  rank_low k l = staged.rank_done (at targets k) (staged.target_below k l) (staged.target_done k l)

  is_node : (k : ℕ) → k < s.items → at order (at rank (at targets k)) ≡ at targets k
  is_node k l = staged.order_rank (at targets k) (staged.target_below k l) (staged.target_done k l)

  entry_low : (k : ℕ) → k < s.items → at targets' k < used m
  entry_low k l = rw (resolved.told k l) (rw (is_node k l) at (planned.entry_below (at rank (at targets k)) (rank_low k l)))

  entry_bit : (k : ℕ) → k < s.items → at bases (at targets' k) ≡ bit (is_base (tree m (at targets k)))
  unfolding base_bit
  entry_bit k l =
      let e : at bases (at alias (at targets k)) ≡ at bases (at targets k) = rw (is_node k l) at (planned.entry_base (at rank (at targets k)) (rank_low k l)) in
      ap (at bases) (resolved.told k l) ∙ e ∙ given.base_bits.told (at targets k) (staged.target_below k l)

  shape_is : s ≡ shape_of s.main s.aux mains auxs s.row s.wide
  shape_is = λ i. record { main = s.main; fresh = ok.is_fresh i; row = s.row; aux = s.aux; wide = s.wide; items = ok.is_items i }

  module _ (main aux : List ℕ) (v : Values) (main_long : length main ≡ row_kind m * s.row) (aux_long : length aux ≡ row_kind m * (3 * s.wide)) (ready : Ready m challenges v) where
    fit : Fitting s.main s.aux m mains auxs challenges main aux
    fit = passed_fitting s m mains auxs challenges targets ok main aux main_long aux_long

    abbrev a : Assignment
    a = final s.main s.aux m mains auxs challenges main aux

    abbrev filled : List ℕ × List ℕ
    filled = row_filled s.main s.aux m mains auxs challenges (main, aux)

    abbrev w : Values
    w = ran plan main aux many v

    says : Says s m targets challenges main aux a
    says = subst (λ (x : Shape). Says x m targets challenges main aux a) (sym shape_is) (row_says s.main s.aux s.row s.wide m mains auxs challenges targets main aux fit ok.found main_long aux_long)

    stands : (k : ℕ) → k < s.items → Stands a m w (at targets' k) (at targets k)
    stands k l = rw (resolved.told k l) (rw (is_node k l) at (planned.stand a main aux v says ready (at rank (at targets k)) (rank_low k l)))

    -- the word of a main item, the triple of any
    main_word : (k : ℕ) → k < length mains → at w.0 (at targets' k) ≡ (value a (tree m (at targets k))).c0
    main_word k l =
        let i = ok.is_items in
        let f = ok.is_fresh in
        (stands k (omega arith)).word ((passed_targeted s m mains auxs challenges targets ok).main_base k (omega arith))

    triple_of_lem : (k : ℕ) → k < s.items → triple_for bases w (at targets' k) ≡ value a (tree m (at targets k))
    triple_of_lem k l = rw (entry_bit k l) (go (is_base (tree m (at targets k))) refl)
      where
        go : (b : Bool) → is_base (tree m (at targets k)) ≡ b → (if eqb (bit b) 1 then lift (at w.0 (at targets' k)) else triple_at w.1 (at targets' k)) ≡ value a (tree m (at targets k))
        go true p = ap lift ((stands k l).word p) ∙ sym (base_lifted a (tree m (at targets k)) p)
        go false p = (stands k l).triple p

    -- what was written is what is stored
    main_words_lem : (main_written s.main s.aux s.row s.wide m mains auxs challenges targets main aux fit ok.found main_long aux_long).words ≡ words_for w.0 targets' (length mains)
    main_words_lem =
        let x = main_written s.main s.aux s.row s.wide m mains auxs challenges targets main aux fit ok.found main_long aux_long in
        let n = x.number in
        let room = fit.main_room in
        same_words_lem x.words (words_for w.0 targets' (length mains)) (length mains) n (words_length w.0 targets' (length mains)) (λ k l.
        sym (sets_at x.words main s.main k (omega arith) (omega arith)) ∙ ap (λ (y : List ℕ). get_or y (s.main + k) 0) (sym x.is)
        ∙ ap (λ (y : Triple). y.c0) (new_main_lem s.main s.aux s.row s.wide m mains auxs challenges targets main aux fit ok.found main_long aux_long k l)
        ∙ sym (main_word k l) ∙ sym (words_at_lem w.0 targets' (length mains) k l))

    aux_words_lem : (aux_written s.main s.aux s.row s.wide m mains auxs challenges targets main aux fit ok.found main_long aux_long).words ≡ triples_for bases w targets' (length mains) (length auxs)
    aux_words_lem =
        let x = aux_written s.main s.aux s.row s.wide m mains auxs challenges targets main aux fit ok.found main_long aux_long in
        let n = x.number in
        let room = fit.aux_room in
        let i = ok.is_items in
        same_words_lem x.words (triples_for bases w targets' (length mains) (length auxs)) (3 * length auxs) n (triples_length bases w targets' (length mains) (length auxs))
        (words_of x.words (triples_for bases w targets' (length mains) (length auxs)) (length auxs) (λ k l.
        sym (written_triple x.words aux s.aux k (omega arith) (omega arith)) ∙ ap (λ (y : List ℕ). triple_at y (s.aux + k)) (sym x.is)
        ∙ new_aux_lem s.main s.aux s.row s.wide m mains auxs challenges targets main aux fit ok.found main_long aux_long k l
        ∙ sym (triple_of_lem (length mains + k) (omega arith)) ∙ sym (triples_at bases w targets' (length mains) (length auxs) k l)))

    row_filled_lem : row_filled s.main s.aux m mains auxs challenges (main, aux) ≡ row_stored s targets' bases w (main, aux)
    row_filled_lem =
        let x = main_written s.main s.aux s.row s.wide m mains auxs challenges targets main aux fit ok.found main_long aux_long in
        let y = aux_written s.main s.aux s.row s.wide m mains auxs challenges targets main aux fit ok.found main_long aux_long in
        let f : length mains ≡ s.fresh = sym ok.is_fresh in
        let g : length auxs ≡ s.items - s.fresh = let i = ok.is_items in let j = ok.is_fresh in omega arith in
        let p : filled.0 ≡ sets main s.main (words_for w.0 targets' s.fresh) = x.is ∙ ap (sets main s.main) (main_words_lem ∙ ap (words_for w.0 targets') f) in
        let q : filled.1 ≡ sets aux (3 * s.aux) (triples_for bases w targets' s.fresh (s.items - s.fresh)) =
        y.is ∙ ap (sets aux (3 * s.aux)) (aux_words_lem ∙ ap (λ (k : ℕ). triples_for bases w targets' k (length auxs)) f ∙ ap (triples_for bases w targets' s.fresh) g) in
        λ i. (p i, q i)

  pub prepared : length plan ≡ length plan₀ → Prepared s m mains auxs challenges targets' bases plan many
  prepared same =
      let top = valid_top m ok.valid in
      let f = ok.is_fresh in
      let i = ok.is_items in
      let a = ok.main_fits in
      let b = ok.aux_fits in
      let c = ok.found.few in
      let d = staged.few in
      let e = planned.few in
      let t = given.targets_room in
      let r = given.plan_room in
      let u = resolved.same in
      let k = kind_one m ok.valid in
      record {
        fits =
            record {
              plan_room = omega arith;
              few = omega arith;
              sound = planned.sound;
              targets_room = omega arith;
              entries = λ j l. let x = entry_low j l in omega arith;
              bases_room = given.bases_room;
              fresh_few = omega arith;
              items_few = omega arith;
              main_fits = omega arith;
              aux_fits = omega arith;
              kind_some = k;
              kind_few = two;
            };
        fills = λ t v x y z. row_filled_lem t.0 t.1 v x y z;
        ready = λ t v z. ready_ran s m challenges plan t.0 t.1 v many planned.spares z;
      }
    where
      two : row_kind m ≤ 2
      two = (valid_rows m ok.valid).1

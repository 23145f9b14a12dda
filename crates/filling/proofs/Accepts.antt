-- What an accepted fill has passed, and what an evaluation on such tables says. Assumes nothing.
use Prim.Native.Nat.{ℕ, ◌+◌, ◌*◌, ◌/◌, ◌%◌, ◌≤◌}
use mathlib.Core.Path.{◌≡◌, refl, sym, ◌∙◌, ap}
use mathlib.Core.Logic.{◌⊎◌, inl, inr, ⊎_elim}
use mathlib.Core.Bool.{Bool, false, ◌&&◌, ◌||◌, not}
use mathlib.Core.List.{List, [], ◌∷◌, ◌++◌}
use native.Mathlib.Omega.{arith}
use lib.ListN.{length, get_or, replicate, length-replicate}
use lib.Seq.{sets}
use lib.Dec.{ltb, leb, eqb}
use borrow.Author.Tests.{ltb-false, leb-false, eqb-true, not-false}
use Rattle.arithmetic.specs.declared.Triple.{Triple}
use Rattle.arithmetic.specs.Extension.{triple, lift}
use Rattle.layout.specs.declared.node.Expression.{Expression}
use Rattle.layout.specs.declared.node.Expression.TheVariants.{Base, Extension, Challenge, Operation, Input}
use Rattle.layout.specs.Lists.{In, any}
use Rattle.layout.specs.Words.{row_kind, used, limit, expression_at}
use Rattle.layout.specs.Tree.{tree}
use Rattle.layout.specs.NotCircuit.{not_circuit, bad_header, bad_id, bad_word}
use Rattle.layout.specs.Outcomes.{Outcome, refusal, outcome}
use Rattle.layout.specs.Answers.{accepted}
use Rattle.layout.specs.Calls.{reading}
use Rattle.layout.proofs.Tests.{neither, either, or-false}
use Rattle.layout.proofs.Valid.{valid_header}
use Rattle.layout.proofs.Refusals.{refusal_none, refusal_next, outcome_accepted, reading_accepted, bad_id_next, no_bad_id}
use Rattle.walking.specs.Paths.{walk, walks}
use Rattle.reading.specs.Readings.{value}
use Rattle.reading.specs.Refusals.{columns_lent, reads_beyond, bad_table}
use Rattle.reading.specs.Calls.{assigned, evaluate_call}
use Rattle.filling.specs.Refusals.{beyond, bad_rows, mains_wrong, auxs_wrong, not_lowered}
use Rattle.filling.specs.Calls.{row_filled, row_cleared, fill_outcome, fill_call}
use Rattle.lowering.proofs.ListLaws.{any_false}
use Rattle.filling.proofs.Values.{any-split}
use Rattle.lowering.proofs.Accepts.{peel, number_is}
use Rattle.filling.proofs.Settled.{Listed}
use Rattle.filling.proofs.Tables.{sets_before, sets_after, Low, any_low}

pub outcome_number : {A L : Type 0} (tests : List (ℕ × Bool)) (values : A) (after : L) (zeros : A) (lent : L) → (outcome tests values after zeros lent).number ≡ refusal tests
unfolding outcome
outcome_number tests values after zeros lent = number_is (refusal tests) values after zeros lent

-- the row kind is 1 or 2
pub kinds : (m : List ℕ) → not_circuit m ≡ false → (row_kind m ≡ 1) ⊎ (row_kind m ≡ 2)
unfolding bad_header
kinds m valid =
    let (x, y) = neither (ltb (length m) 2) _ (valid_header m valid) in
    let (z, w) = neither (not (eqb (row_kind m) 1 || eqb (row_kind m) 2)) (ltb (limit m) (used m)) y in
    ⊎_elim (λ e. inl (eqb-true (row_kind m) 1 e)) (λ e. inr (eqb-true (row_kind m) 2 e)) (either (eqb (row_kind m) 1) (eqb (row_kind m) 2) (not-false _ z))

any_same : (f g : ℕ → Bool) → ((i : ℕ) → f i ≡ g i) → (xs : List ℕ) → any f xs ≡ any g xs
unfolding any
any_same f g h [] = refl
any_same f g h (x ∷ xs) = rw (h x, any_same f g h xs)

pub any_walks : (t : ℕ → Bool) (m qs : List ℕ) → any t (walks m qs) ≡ false → (q : ℕ) → In q qs → any t (walk (tree m q)) ≡ false
unfolding walks
any_walks t m [] h q k = absurd k
any_walks t m (r ∷ rs) h q (inl e) = rw e (any-split t (walk (tree m r)) (walks m rs) h).0
any_walks t m (r ∷ rs) h q (inr k) = any_walks t m rs (any-split t (walk (tree m r)) (walks m rs) h).1 q k

module _ (main_count aux_count : ℕ) (m mains auxs challenges main aux : List ℕ) where
  -- the tests, passed
  pub record Passed : Type 0 where
    pub valid : not_circuit m ≡ false
    pub ids : Listed m (mains ++ auxs)
    pub rows : bad_rows (row_kind m) main_count aux_count m mains auxs main aux challenges ≡ false
    pub main_words_lem : any bad_word (sets main main_count (replicate (length mains) 0)) ≡ false
    pub aux_words_lem : any bad_word (sets aux (3 * aux_count) (replicate (3 * length auxs) 0)) ≡ false
    pub challenge_words : any bad_word challenges ≡ false
    pub mains_right : mains_wrong aux_count m main_count mains ≡ false
    pub auxs_right : auxs_wrong (main_count + length mains) m aux_count auxs ≡ false
    pub filled : (fill_call main_count aux_count m mains auxs challenges main aux).lent ≡ row_filled main_count aux_count m mains auxs challenges (main, aux)

  pub passed : (fill_call main_count aux_count m mains auxs challenges main aux).number ≡ 0 → Passed
  unfolding fill_call fill_outcome row_cleared bad_id not_lowered
  passed h =
      let given = row_cleared main_count aux_count mains auxs (main, aux) in
      let all : refusal _ ≡ 0 = sym (outcome_number _ tt _ tt (main, aux)) ∙ h in
      let (a, r₁) = peel 0 (not_circuit m) _ all in
      let (b, r₂) = peel 1 (bad_id m (mains ++ auxs)) _ r₁ in
      let (c, r₃) = peel 14 (bad_rows (row_kind m) main_count aux_count m mains auxs main aux challenges) _ r₂ in
      let (d, r₄) = peel 4 (any bad_word (given.0 ++ given.1 ++ challenges)) _ r₃ in
      let (e, r₅) = peel 16 (not_lowered main_count aux_count m mains auxs) [] r₄ in
      let (d₁, d₂) = any-split bad_word (given.0 ++ given.1) challenges d in
      let (d₃, d₄) = any-split bad_word given.0 given.1 d₁ in
      let (e₁, e₂) = neither (mains_wrong aux_count m main_count mains) _ e in
      record {
        valid = a;
        ids = λ q k. leb-false (used m) q (any_false (leb (used m)) (mains ++ auxs) b q k);
        rows = c;
        main_words_lem = d₃;
        aux_words_lem = d₄;
        challenge_words = d₂;
        mains_right = e₁;
        auxs_right = e₂;
        filled = ap (λ (o : Outcome (Unit {0}) (List ℕ × List ℕ)). o.lent) (outcome_accepted _ tt (row_filled main_count aux_count m mains auxs challenges (main, aux)) tt (main, aux) all);
      }

  -- what TABLE has tested: the layout, the room, the reads
  pub record Fits : Type 0 where
    pub layout : not (eqb (length main % row_kind m) 0 && (eqb (length aux % (3 * row_kind m)) 0 && eqb (length challenges % 3) 0)) ≡ false
    pub main_fits : main_count + length mains ≤ length main / row_kind m
    pub aux_fits : aux_count + length auxs ≤ length aux / (3 * row_kind m)
    pub reads : any (λ i. beyond (length main / row_kind m) (length aux / (3 * row_kind m)) (length challenges / 3) (expression_at m i)) (walks m (mains ++ auxs)) ≡ false

  pub fits : bad_rows (row_kind m) main_count aux_count m mains auxs main aux challenges ≡ false → Fits
  unfolding bad_rows
  fits h =
      let (x, reads) = neither _ (any (λ i. beyond (length main / row_kind m) (length aux / (3 * row_kind m)) (length challenges / 3) (expression_at m i)) (walks m (mains ++ auxs))) h in
      let (y, rooms) = neither _ (ltb (length main / row_kind m) (main_count + length mains) || ltb (length aux / (3 * row_kind m)) (aux_count + length auxs)) x in
      let (z, layout) = neither (ltb (row_kind m) (row_kind m)) _ y in
      let (a, b) = neither (ltb (length main / row_kind m) (main_count + length mains)) (ltb (length aux / (3 * row_kind m)) (aux_count + length auxs)) rooms in
      record { layout = layout; main_fits = ltb-false _ _ a; aux_fits = ltb-false _ _ b; reads = reads }

  module _ (ok : Passed) where
    rooms : Fits
    rooms = fits ok.rows

    pub main_room : main_count + length mains ≤ length main
    main_room = ⊎_elim (λ e. let f : main_count + length mains ≤ length main / 1 = rw e at rooms.main_fits in omega arith) (λ e. let f : main_count + length mains ≤ length main / 2 = rw e at rooms.main_fits in omega arith) (kinds m ok.valid)

    pub main_next : row_kind m ≡ 2 → main_count + length mains ≤ length main / 2
    main_next e = rw e at rooms.main_fits

    pub aux_room : 3 * aux_count + 3 * length auxs ≤ length aux
    aux_room = ⊎_elim (λ e. let f : aux_count + length auxs ≤ length aux / 3 = rw e at rooms.aux_fits in omega arith) (λ e. let f : aux_count + length auxs ≤ length aux / 6 = rw e at rooms.aux_fits in omega arith) (kinds m ok.valid)

    pub aux_next : row_kind m ≡ 2 → 3 * aux_count + 3 * length auxs ≤ length aux / 2
    aux_next e = let f : aux_count + length auxs ≤ length aux / 6 = rw e at rooms.aux_fits in omega arith

    -- the given words are elements of the field
    pub main_low : Low main_count (main_count + length mains) main
    main_low i k =
        let zeros : List ℕ = replicate (length mains) 0 in
        let n : length zeros ≡ length mains = length-replicate (length mains) 0 in
        let e : get_or (sets main main_count zeros) i 0 ≡ get_or main i 0 = ⊎_elim (λ l. sets_before zeros main main_count i l) (λ l. sets_after zeros main main_count i (omega arith)) k in
        rw e at (any_low (sets main main_count zeros) ok.main_words_lem i)

    pub aux_low : Low (3 * aux_count) (3 * aux_count + 3 * length auxs) aux
    aux_low i k =
        let zeros : List ℕ = replicate (3 * length auxs) 0 in
        let n : length zeros ≡ 3 * length auxs = length-replicate (3 * length auxs) 0 in
        let e : get_or (sets aux (3 * aux_count) zeros) i 0 ≡ get_or aux i 0 = ⊎_elim (λ l. sets_before zeros aux (3 * aux_count) i l) (λ l. sets_after zeros aux (3 * aux_count) i (omega arith)) k in
        rw e at (any_low (sets aux (3 * aux_count) zeros) ok.aux_words_lem i)

    -- EVALUATION on tables of the same lengths
    module _ (main' aux' : List ℕ) (same_main : length main' ≡ length main) (same_aux : length aux' ≡ length aux) (q : ℕ) (listed : In q (mains ++ auxs)) where
      beyond_is : (e : Expression) → reads_beyond m main aux challenges e ≡ beyond (length main / row_kind m) (length aux / (3 * row_kind m)) (length challenges / 3) e
      unfolding columns_lent
      beyond_is (Base w) = refl
      beyond_is (Extension x) = refl
      beyond_is (Challenge k) = refl
      beyond_is (Operation o l r) = refl
      beyond_is (Input y) = refl

      lengths : (e : Expression) → reads_beyond m main' aux' challenges e ≡ reads_beyond m main aux challenges e
      unfolding columns_lent
      lengths (Base w) = refl
      lengths (Extension x) = refl
      lengths (Challenge k) = refl
      lengths (Operation o l r) = refl
      lengths (Input y) = rw (same_main, same_aux)

      table_fair : bad_table m q main' aux' challenges ≡ false
      unfolding bad_table
      table_fair =
          or-false (not (eqb (length main' % row_kind m) 0 && (eqb (length aux' % (3 * row_kind m)) 0 && eqb (length challenges % 3) 0))) _ (rw (same_main, same_aux) rooms.layout)
          (any_same _ _ (λ i. lengths (expression_at m i) ∙ beyond_is (expression_at m i)) (walk (tree m q)) ∙ any_walks _ m (mains ++ auxs) rooms.reads q listed)

      one_id : bad_id m (q ∷ []) ≡ false
      one_id = bad_id_next m q [] (ok.ids q listed) ∙ no_bad_id m

      -- accepted, if no word is at or above p
      pub evaluated : any bad_word (main' ++ aux' ++ challenges) ≡ false → evaluate_call m q main' aux' challenges ≡ accepted (value (assigned main' aux' challenges) (tree m q)) tt
      unfolding evaluate_call
      evaluated words =
          reading_accepted m (q ∷ []) _ (value (assigned main' aux' challenges) (tree m q)) (triple 0 0 0) ok.valid one_id
          (refusal_next 15 (bad_table m q main' aux' challenges) _ table_fair ∙ refusal_next 5 (any bad_word (main' ++ aux' ++ challenges)) [] words ∙ refusal_none)

      -- and only then
      pub accepted_words : (evaluate_call m q main' aux' challenges).number ≡ 0 → any bad_word (main' ++ aux' ++ challenges) ≡ false
      unfolding evaluate_call reading
      accepted_words h =
          let (a, r₁) = peel 0 (not_circuit m) _ (sym (outcome_number _ (value (assigned main' aux' challenges) (tree m q)) tt (triple 0 0 0) tt) ∙ h) in
          let (b, r₂) = peel 1 (bad_id m (q ∷ [])) _ r₁ in
          let (c, r₃) = peel 14 (bad_table m q main' aux' challenges) _ r₂ in
          (peel 4 (any bad_word (main' ++ aux' ++ challenges)) [] r₃).0

      pub zero_value : evaluate_call m q main' aux' challenges ≡ accepted (lift 0) tt → (any bad_word (main' ++ aux' ++ challenges) ≡ false) × (value (assigned main' aux' challenges) (tree m q) ≡ lift 0)
      zero_value h =
          let words = accepted_words (ap (λ (o : Outcome Triple (Unit {0})). o.number) h) in
          (words, ap (λ (o : Outcome Triple (Unit {0})). o.values) (sym (evaluated words) ∙ h))

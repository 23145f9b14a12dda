-- An accepted fill of many rows fills each as one. Assumes nothing.
use Prim.Native.Nat.{ℕ, zero, suc, ◌+◌, ◌-◌, ◌*◌, ◌/◌, ◌%◌, ◌<◌, ◌≤◌}
use mathlib.Core.Path.{◌≡◌, sym, ◌∙◌, ap, subst}
use mathlib.Core.Logic.{inl, inr, ⊎_elim}
use mathlib.Core.Bool.{false}
use mathlib.Core.List.{List, [], ◌∷◌, ◌++◌}
use native.Mathlib.Nat.{suc-mul}
use native.Mathlib.Omega.{arith}
use native.Mathlib.Decide.{dec_lt}
use lib.ListN.{length, get_or, take, drop, replicate, take-append-drop, length-append, length-take, length-drop, length-replicate, get_or-append}
use lib.Seq.{sets, length-sets, take-take, drop-drop, get_or-take, get_or-drop, get_or-append-add}
use borrow.Author.Tests.{le-ltb}
use Rattle.arithmetic.specs.Base.{p}
use Rattle.layout.specs.Lists.{any}
use Rattle.layout.specs.Words.{row_kind}
use Rattle.layout.specs.NotCircuit.{not_circuit, bad_id, bad_word}
use Rattle.layout.specs.Outcomes.{Outcome, refusal}
use Rattle.layout.specs.Answers.{accepted}
use Rattle.layout.proofs.Tests.{below_or}
use Rattle.layout.proofs.Refusals.{refusal_none, refusal_next, outcome_accepted}
use Rattle.filling.specs.Refusals.{bad_rows, not_lowered}
use Rattle.filling.specs.Calls.{main_filled, row_filled, row_cleared, each_row, fill_rows_call, all_rows, fill_outcome, fill_call}
use Rattle.filling.specs.Promise.{window_of, row_then, Solves, RowByRow}
use Rattle.filling.proofs.Values.{any-split}
use Rattle.filling.proofs.Tables.{sets_before, sets_after, sets_drop, Low, any_low, low_any, any_join}
use Rattle.filling.proofs.Fills.{low_set, written_main, written_aux}
use Rattle.lowering.proofs.Accepts.{peel}
use Rattle.filling.proofs.Accepts.{kinds, outcome_number}
use Rattle.filling.proofs.Solves.{solves}
use Rattle.filling.proofs.Rows.{Tame, Done, each_done}
use Rattle.filling.proofs.Cleared.{kind_one, kind_wide, Sizes, sizes, aux_width, aux_room, inside, clear_tame, clears}

-- zeros in the cells to be filled: then every word is below p
zeros_low : (n c : ℕ) (l : List ℕ) → c + n ≤ length l → Low c (c + n) l → any bad_word (sets l c (replicate n 0)) ≡ false
zeros_low zero c l h low = low_any l (λ i. low i (⊎_elim inl (λ k. inr (omega arith)) (below_or i c)))
zeros_low (suc n) c l h low =
    let e : c + suc n ≡ suc c + n = omega arith in
    let low₁ : Low (suc c) (suc c + n) (set_zero l c) = low_set c (suc c + n) 0 l (omega arith) (omega arith) (omega arith) (rw e at low) in
    zeros_low n (suc c) (set_zero l c) (omega (arith, length-sets l c (0 ∷ []))) low₁
  where
    set_zero : List ℕ → ℕ → List ℕ
    set_zero l c = sets l c (0 ∷ [])

-- a part of words below p
part_low : (n : ℕ) (l : List ℕ) → any bad_word l ≡ false → any bad_word (take n l) ≡ false
part_low n l h = (any-split bad_word (take n l) (drop n l) (rw (take-append-drop n l) h)).0

rest_low : (n : ℕ) (l : List ℕ) → any bad_word l ≡ false → any bad_word (drop n l) ≡ false
rest_low n l h = (any-split bad_word (take n l) (drop n l) (rw (take-append-drop n l) h)).1

-- a word of a row, in the row before other words
row_word : (l y : List ℕ) (s a i : ℕ) → s + a ≤ length l → i < a → get_or (take a (drop s l) ++ y) i 0 ≡ get_or l (s + i) 0
row_word l y s a i h k =
    let len : length (take a (drop s l)) ≡ a = omega (arith, length-take a (drop s l), length-drop s l) in
    get_or-append (take a (drop s l)) y 0 i (omega arith) ∙ get_or-take a (drop s l) i 0 k ∙ get_or-drop s l i 0

-- what was cleared tells of the row's other words, and what follows is below p
row_low : (l g y z : List ℕ) (s a w c n : ℕ) → s + a ≤ length l → a ≤ w → c + n ≤ a → any bad_word g ≡ false → any bad_word y ≡ false
    → take w (drop s g) ≡ sets (take a (drop s l) ++ z) c (replicate n 0) → Low c (c + n) (take a (drop s l) ++ y)
row_low l g y z s a w c n h aw cn low-g low-y e i out = go (dec_lt i a)
  where
    len : length (take a (drop s l)) ≡ a
    len = omega (arith, length-take a (drop s l), length-drop s l)

    cells : List ℕ
    cells = replicate n 0

    size : length cells ≡ n
    size = length-replicate n 0

    go : Dec (i < a) → get_or (take a (drop s l) ++ y) i 0 < p
    go (yes k) =
        let kept : get_or (sets (take a (drop s l) ++ z) c cells) i 0 ≡ get_or (take a (drop s l) ++ z) i 0 = ⊎_elim (λ o. sets_before cells (take a (drop s l) ++ z) c i o) (λ o. sets_after cells (take a (drop s l) ++ z) c i (omega (arith, size))) out in
        let seen : get_or g (s + i) 0 ≡ get_or l (s + i) 0 = sym (get_or-drop s g i 0) ∙ sym (get_or-take w (drop s g) i 0 (omega arith)) ∙ ap (λ (x : List ℕ). get_or x i 0) e ∙ kept ∙ row_word l z s a i h k in
        let same : get_or (take a (drop s l) ++ y) i 0 ≡ get_or g (s + i) 0 = row_word l y s a i h k ∙ sym seen in
        rw same (any_low g low-g (s + i))
    go (no k) =
        let j : ℕ = i - a in
        let place : i ≡ length (take a (drop s l)) + j = omega (arith, len) in
        let same : get_or (take a (drop s l) ++ y) i 0 ≡ get_or y j 0 = ap (λ (x : ℕ). get_or (take a (drop s l) ++ y) x 0) place ∙ get_or-append-add (take a (drop s l)) y j 0 in
        rw same (any_low y low-y j)

module _ (main_count aux_count : ℕ) (m mains auxs challenges : List ℕ) (rows : ℕ) (main aux : List ℕ) where
  abbrev a : ℕ
  a = length main / rows

  abbrev b : ℕ
  b = length aux / rows

  abbrev count : ℕ
  count = suc rows - row_kind m

  abbrev given : List ℕ × List ℕ
  given = each_row (row_kind m) (row_cleared main_count aux_count mains auxs) a b count (main, aux)

  abbrev filled : List ℕ × List ℕ
  filled = each_row (row_kind m) (row_filled main_count aux_count m mains auxs challenges) a b count (main, aux)

  pub record PassedRows : Type 0 where
    pub valid : not_circuit m ≡ false
    ids : bad_id m (mains ++ auxs) ≡ false
    pub rows-test : bad_rows rows main_count aux_count m mains auxs main aux challenges ≡ false
    main_words_lem : any bad_word given.0 ≡ false
    aux_words_lem : any bad_word given.1 ≡ false
    challenge_words : any bad_word challenges ≡ false
    lowered : not_lowered main_count aux_count m mains auxs ≡ false
    is : (fill_rows_call main_count aux_count m mains auxs challenges rows main aux).lent ≡ filled

  pub passed_rows : (fill_rows_call main_count aux_count m mains auxs challenges rows main aux).number ≡ 0 → PassedRows
  unfolding fill_rows_call fill_outcome all_rows
  passed_rows h =
      let all : refusal _ ≡ 0 = sym (outcome_number _ tt _ tt (main, aux)) ∙ h in
      let (t₁, r₁) = peel 0 (not_circuit m) _ all in
      let (t₂, r₂) = peel 1 (bad_id m (mains ++ auxs)) _ r₁ in
      let (t₃, r₃) = peel 14 (bad_rows rows main_count aux_count m mains auxs main aux challenges) _ r₂ in
      let (t₄, r₄) = peel 4 (any bad_word (given.0 ++ given.1 ++ challenges)) _ r₃ in
      let (t₅, r₅) = peel 16 (not_lowered main_count aux_count m mains auxs) [] r₄ in
      let (d₁, d₂) = any-split bad_word (given.0 ++ given.1) challenges t₄ in
      let (d₃, d₄) = any-split bad_word given.0 given.1 d₁ in
      record {
        valid = t₁;
        ids = t₂;
        rows-test = t₃;
        main_words_lem = d₃;
        aux_words_lem = d₄;
        challenge_words = d₂;
        lowered = t₅;
        is = ap (λ (o : Outcome (Unit {0}) (List ℕ × List ℕ)). o.lent) (outcome_accepted _ tt filled tt (main, aux) all);
      }

  module _ (ok : PassedRows) where
    sized : Sizes main_count aux_count m mains auxs challenges rows main aux
    sized = sizes main_count aux_count m mains auxs challenges rows main aux ok.rows-test

    abbrev some_row : 1 ≤ row_kind m
    some_row = kind_one m ok.valid

    columns : ℕ
    columns = length aux / (3 * rows)

    width : b ≡ 3 * columns
    unfolding columns
    width = aux_width main_count aux_count m mains auxs challenges rows main aux ok.valid ok.rows-test

    room : 3 * aux_count + 3 * length auxs ≤ b
    room = aux_room main_count aux_count m mains auxs challenges rows main aux ok.valid ok.rows-test

    within : (r : ℕ) → r < count → (r * a + row_kind m * a ≤ length main) × (r * b + row_kind m * b ≤ length aux)
    within = inside main_count aux_count m mains auxs challenges rows main aux ok.valid ok.rows-test

    cleared : Done (row_kind m) some_row a b (row_cleared main_count aux_count mains auxs) (clear_tame main_count aux_count m mains auxs challenges rows main aux ok.valid ok.rows-test) count (main, aux) given
    cleared = clears main_count aux_count m mains auxs challenges rows main aux ok.valid ok.rows-test

    fill_tame : Tame (row_kind m) some_row a b (row_filled main_count aux_count m mains auxs challenges)
    unfolding row_filled
    fill_tame =
        record {
          main_length = λ w p q. let v = written_main m challenges w.1 mains main_count w.0 in ap length v.is ∙ length-sets w.0 main_count v.words ∙ p;
          aux_length = λ w p q. let v = written_aux m challenges (main_filled m w.1 challenges main_count w.0 mains) auxs aux_count w.1 in ap length v.is ∙ length-sets w.1 (3 * aux_count) v.words ∙ q;
          main_next = λ w p q. let v = written_main m challenges w.1 mains main_count w.0 in ap (drop a) v.is ∙ sets_drop v.words w.0 main_count a (omega (arith, v.number, sized.main_room));
          aux_next = λ w p q. let v = written_aux m challenges (main_filled m w.1 challenges main_count w.0 mains) auxs aux_count w.1 in ap (drop b) v.is ∙ sets_drop v.words w.1 (3 * aux_count) b (omega (arith, v.number, room));
        }

    fills : Done (row_kind m) some_row a b (row_filled main_count aux_count m mains auxs challenges) fill_tame count (main, aux) filled
    fills = each_done (row_kind m) some_row a b (row_filled main_count aux_count m mains auxs challenges) fill_tame count (main, aux) within

    abbrev row_main : ℕ → List ℕ
    row_main r = row_then (row_kind m) a r main filled.0

    abbrev row_aux : ℕ → List ℕ
    row_aux r = row_then (row_kind m) b r aux filled.1

    wide : (x : ℕ) → x ≤ row_kind m * x
    wide = kind_wide m ok.valid

    then_length : (l u : List ℕ) (s c : ℕ) → length u ≡ length l → s + row_kind m * c ≤ length l → length (take c (drop s l) ++ take (row_kind m * c - c) (drop (s + c) u)) ≡ row_kind m * c
    then_length l u s c e h =
        let w = wide c in
        omega (arith, length-append (take c (drop s l)) (take (row_kind m * c - c) (drop (s + c) u)), length-take c (drop s l), length-drop s l, length-take (row_kind m * c - c) (drop (s + c) u), length-drop (s + c) u)

    -- its tables are as wide as the rows are
    module _ (r : ℕ) (l : r < count) where
      main_long : length (row_main r) ≡ row_kind m * a
      main_long = then_length main filled.0 (r * a) a fills.main_same (within r l).0

      aux_long : length (row_aux r) ≡ row_kind m * b
      aux_long = then_length aux filled.1 (r * b) b fills.aux_same (within r l).1

      -- so TABLE's tests say the same of them
      record Shares : Type 0 where
        main_rest : length (row_main r) % row_kind m ≡ 0
        main_part : length (row_main r) / row_kind m ≡ a
        aux_rest : length (row_aux r) % (3 * row_kind m) ≡ 0
        aux_part : length (row_aux r) / (3 * row_kind m) ≡ columns

      one_kind : (x y c n w k : ℕ) → k ≡ 1 → x ≡ k * w → y ≡ k * n → n ≡ 3 * c → (x % k ≡ 0) × (x / k ≡ w) × (y % (3 * k) ≡ 0) × (y / (3 * k) ≡ c)
      one_kind x y c n w k e p q h = rw e (let p' : x ≡ 1 * w = rw e at p in let q' : y ≡ 1 * n = rw e at q in (omega arith, omega arith, omega arith, omega arith))

      two_kind : (x y c n w k : ℕ) → k ≡ 2 → x ≡ k * w → y ≡ k * n → n ≡ 3 * c → (x % k ≡ 0) × (x / k ≡ w) × (y % (3 * k) ≡ 0) × (y / (3 * k) ≡ c)
      two_kind x y c n w k e p q h = rw e (let p' : x ≡ 2 * w = rw e at p in let q' : y ≡ 2 * n = rw e at q in (omega arith, omega arith, omega arith, omega arith))

      shares : Shares
      shares =
          let (s₀, s₁, s₂, s₃) = ⊎_elim (λ e. one_kind (length (row_main r)) (length (row_aux r)) columns b a (row_kind m) e main_long aux_long width) (λ e. two_kind (length (row_main r)) (length (row_aux r)) columns b a (row_kind m) e main_long aux_long width) (kinds m ok.valid) in
          record { main_rest = s₀; main_part = s₁; aux_rest = s₂; aux_part = s₃ }

      row-test : bad_rows (row_kind m) main_count aux_count m mains auxs (row_main r) (row_aux r) challenges ≡ false
      unfolding bad_rows columns
      row-test =
          let s = shares in
          rw (s.main_rest, s.main_part, s.aux_rest, s.aux_part, sized.challenges_even, le-ltb (row_kind m) (row_kind m) (omega arith), le-ltb a (main_count + length mains) sized.main_room, le-ltb (length aux / (3 * rows)) (aux_count + length auxs) sized.aux_room) sized.reads

      module _ (low_main_lem : any bad_word (drop (r * a + a) filled.0) ≡ false) (low_aux_lem : any bad_word (drop (r * b + b) filled.1) ≡ false) where
        main_row_low : Low main_count (main_count + length mains) (row_main r)
        unfolding row_cleared
        main_row_low =
            let w = wide a in
            row_low main given.0 (take (row_kind m * a - a) (drop (r * a + a) filled.0)) (take (row_kind m * a - a) (drop (r * a + a) given.0)) (r * a) a (row_kind m * a) main_count (length mains) (omega (arith, (within r l).0)) (wide a) sized.main_room
            ok.main_words_lem (part_low (row_kind m * a - a) (drop (r * a + a) filled.0) low_main_lem) (ap (λ (t : List ℕ × List ℕ). t.0) (cleared.rows r l))

        aux_row_low : Low (3 * aux_count) (3 * aux_count + 3 * length auxs) (row_aux r)
        unfolding row_cleared
        aux_row_low =
            let w = wide b in
            row_low aux given.1 (take (row_kind m * b - b) (drop (r * b + b) filled.1)) (take (row_kind m * b - b) (drop (r * b + b) given.1)) (r * b) b (row_kind m * b) (3 * aux_count) (3 * length auxs) (omega (arith, (within r l).1)) (wide b) room
            ok.aux_words_lem (part_low (row_kind m * b - b) (drop (r * b + b) filled.1) low_aux_lem) (ap (λ (t : List ℕ × List ℕ). t.1) (cleared.rows r l))

        row_accepted : fill_call main_count aux_count m mains auxs challenges (row_main r) (row_aux r) ≡ accepted tt (window_of (row_kind m) a r filled.0, window_of (row_kind m) b r filled.1)
        unfolding fill_call fill_outcome row_cleared
        row_accepted =
            let w = wide a in
            let w' = wide b in
            outcome_accepted _ tt (row_filled main_count aux_count m mains auxs challenges (row_main r, row_aux r)) tt (row_main r, row_aux r)
            (refusal_next 1 (not_circuit m) _ ok.valid ∙ refusal_next 2 (bad_id m (mains ++ auxs)) _ ok.ids ∙ refusal_next 15 (bad_rows (row_kind m) main_count aux_count m mains auxs (row_main r) (row_aux r) challenges) _ row-test
            ∙ refusal_next 5 (any bad_word (sets (row_main r) main_count (replicate (length mains) 0) ++ sets (row_aux r) (3 * aux_count) (replicate (3 * length auxs) 0) ++ challenges)) _
            (any_join (sets (row_main r) main_count (replicate (length mains) 0) ++ sets (row_aux r) (3 * aux_count) (replicate (3 * length auxs) 0)) challenges
            (any_join (sets (row_main r) main_count (replicate (length mains) 0)) (sets (row_aux r) (3 * aux_count) (replicate (3 * length auxs) 0))
            (zeros_low (length mains) main_count (row_main r) (omega (arith, main_long, sized.main_room)) main_row_low)
            (zeros_low (3 * length auxs) (3 * aux_count) (row_aux r) (omega (arith, aux_long, room)) aux_row_low))
            ok.challenge_words)
            ∙ refusal_next 17 (not_lowered main_count aux_count m mains auxs) [] ok.lowered ∙ refusal_none)
            ∙ ap (λ (t : List ℕ × List ℕ). accepted tt t) (sym (fills.rows r l))

        -- all its words are below p then
        row_words : (any bad_word (window_of (row_kind m) a r filled.0) ≡ false) × (any bad_word (window_of (row_kind m) b r filled.1) ≡ false)
        row_words =
            let number : (fill_call main_count aux_count m mains auxs challenges (row_main r) (row_aux r)).number ≡ 0 = ap (λ (o : Outcome (Unit {0}) (List ℕ × List ℕ)). o.number) row_accepted in
            let lent = ap (λ (o : Outcome (Unit {0}) (List ℕ × List ℕ)). o.lent) row_accepted in
            let words = (solves main_count aux_count m mains auxs challenges (row_main r) (row_aux r) number).words in
            let (x, y) = any-split bad_word _ challenges words in
            let (u, v) = any-split bad_word (fill_call main_count aux_count m mains auxs challenges (row_main r) (row_aux r)).lent.0 (fill_call main_count aux_count m mains auxs challenges (row_main r) (row_aux r)).lent.1 x in
            (ap (λ (t : List ℕ × List ℕ). any bad_word t.0) (sym lent) ∙ u, ap (λ (t : List ℕ × List ℕ). any bad_word t.1) (sym lent) ∙ v)

    -- the words from a row on, from the last row to the first
    from_row : (f : List ℕ) (s c w : ℕ) → c ≤ w → any bad_word (take w (drop s f)) ≡ false → any bad_word (drop (s + c) f) ≡ false → any bad_word (drop s f) ≡ false
    from_row f s c w h x y =
        let front : any bad_word (take c (drop s f)) ≡ false = rw (take-take c w (drop s f) h) at (part_low c (take w (drop s f)) x) in
        let back : any bad_word (drop c (drop s f)) ≡ false = rw (drop-drop c s f) y in
        rw (take-append-drop c (drop s f)) at (any_join (take c (drop s f)) (drop c (drop s f)) front back)

    low_from : (d j : ℕ) → j + d ≡ count → (any bad_word (drop (j * a) filled.0) ≡ false) × (any bad_word (drop (j * b) filled.1) ≡ false)
    low_from zero j e =
        let q : j ≡ count = omega arith in
        rw q (
          rw (fills.main_after ∙ sym cleared.main_after) (rest_low (count * a) given.0 ok.main_words_lem),
          rw (fills.aux_after ∙ sym cleared.aux_after) (rest_low (count * b) given.1 ok.aux_words_lem),
        )
    low_from (suc d) j e =
        let (x, y) = low_from d (suc j) (omega arith) in
        let x' : any bad_word (drop (j * a + a) filled.0) ≡ false = rw (suc-mul j a) at x in
        let y' : any bad_word (drop (j * b + b) filled.1) ≡ false = rw (suc-mul j b) at y in
        let (u, v) = row_words j (omega arith) x' y' in
        (from_row filled.0 (j * a) a (row_kind m * a) (wide a) u x', from_row filled.1 (j * b) b (row_kind m * b) (wide b) v y')

    row_is : (r : ℕ) → r + row_kind m ≤ rows → fill_call main_count aux_count m mains auxs challenges (row_main r) (row_aux r) ≡ accepted tt (window_of (row_kind m) a r filled.0, window_of (row_kind m) b r filled.1)
    row_is r h =
        let k = some_row in
        let here : r < count = omega arith in
        let (x, y) = low_from (count - suc r) (suc r) (omega arith) in
        row_accepted r here (rw (suc-mul r a) at x) (rw (suc-mul r b) at y)

    by_row : RowByRow main_count aux_count m mains auxs challenges rows main aux filled.0 filled.1
    by_row = record { each = row_is; main_last = fills.main_after; aux_last = fills.aux_after }

-- EACH ROW IS FILLED AS ONE
pub row_by_row : (main_count aux_count : ℕ) (m mains auxs challenges : List ℕ) (rows : ℕ) (main aux : List ℕ) → (fill_rows_call main_count aux_count m mains auxs challenges rows main aux).number ≡ 0
    → RowByRow main_count aux_count m mains auxs challenges rows main aux (fill_rows_call main_count aux_count m mains auxs challenges rows main aux).lent.0 (fill_rows_call main_count aux_count m mains auxs challenges rows main aux).lent.1
row_by_row main_count aux_count m mains auxs challenges rows main aux h =
    let ok = passed_rows main_count aux_count m mains auxs challenges rows main aux h in
    rw ok.is (by_row main_count aux_count m mains auxs challenges rows main aux ok)

-- and the tables keep their lengths
pub rows_lengths : (main_count aux_count : ℕ) (m mains auxs challenges : List ℕ) (rows : ℕ) (main aux : List ℕ) → (fill_rows_call main_count aux_count m mains auxs challenges rows main aux).number ≡ 0
    → (length (fill_rows_call main_count aux_count m mains auxs challenges rows main aux).lent.0 ≡ length main) × (length (fill_rows_call main_count aux_count m mains auxs challenges rows main aux).lent.1 ≡ length aux)
rows_lengths main_count aux_count m mains auxs challenges rows main aux h =
    let ok = passed_rows main_count aux_count m mains auxs challenges rows main aux h in
    let done = fills main_count aux_count m mains auxs challenges rows main aux ok in
    rw ok.is (done.main_same, done.aux_same)

-- each row, of tables that are what it left
pub rows_are : (main_count aux_count : ℕ) (m mains auxs challenges : List ℕ) (rows : ℕ) (main aux : List ℕ) → (fill_rows_call main_count aux_count m mains auxs challenges rows main aux).number ≡ 0
    → (main' aux' : List ℕ) → (fill_rows_call main_count aux_count m mains auxs challenges rows main aux).lent ≡ (main', aux') → RowByRow main_count aux_count m mains auxs challenges rows main aux main' aux'
rows_are main_count aux_count m mains auxs challenges rows main aux h main' aux' e =
    subst (λ (t : List ℕ × List ℕ). RowByRow main_count aux_count m mains auxs challenges rows main aux t.0 t.1) e (row_by_row main_count aux_count m mains auxs challenges rows main aux h)

-- so every row's constraints are zero, and no other words in its new cells make them so
pub rows_solve : (main_count aux_count : ℕ) (m mains auxs challenges : List ℕ) (rows : ℕ) (main aux : List ℕ) → (fill_rows_call main_count aux_count m mains auxs challenges rows main aux).number ≡ 0
    → (main' aux' : List ℕ) → (fill_rows_call main_count aux_count m mains auxs challenges rows main aux).lent ≡ (main', aux') → (r : ℕ) → r + row_kind m ≤ rows
    → Solves main_count aux_count m mains auxs challenges (row_then (row_kind m) (length main / rows) r main main') (row_then (row_kind m) (length aux / rows) r aux aux') (window_of (row_kind m) (length main / rows) r main') (window_of (row_kind m) (length aux / rows) r aux')
rows_solve main_count aux_count m mains auxs challenges rows main aux h main' aux' e r l =
    let all = rows_are main_count aux_count m mains auxs challenges rows main aux h main' aux' e in
    subst (λ (t : List ℕ × List ℕ). Solves main_count aux_count m mains auxs challenges (row_then (row_kind m) (length main / rows) r main main') (row_then (row_kind m) (length aux / rows) r aux aux') t.0 t.1)
    (ap (λ (o : Outcome (Unit {0}) (List ℕ × List ℕ)). o.lent) (all.each r l))
    (solves main_count aux_count m mains auxs challenges _ _ (ap (λ (o : Outcome (Unit {0}) (List ℕ × List ℕ)). o.number) (all.each r l)))

-- An accepted fill: each new cell holds its expression's value, every listed constraint is zero, and no other words do that. Assumes nothing.
use Prim.Native.Nat.{ℕ, ◌+◌, ◌-◌, ◌*◌, ◌/◌, ◌<◌, ◌≤◌}
use mathlib.Core.Path.{◌≡◌, refl, sym, ◌∙◌, ap}
use mathlib.Core.Logic.{◌⊎◌, inl, inr, ⊎_elim}
use mathlib.Core.Bool.{false}
use mathlib.Core.List.{List, [], ◌∷◌, ◌++◌}
use native.Mathlib.Decide.{dec_lt}
use native.Mathlib.Omega.{arith}
use lib.ListN.{length, get_or, take, drop, length-append}
use lib.Seq.{sets, length-sets, get_or-take, get_or-drop, ext_get_or}
use Rattle.arithmetic.specs.declared.Triple.{Triple}
use Rattle.arithmetic.specs.Base.{p}
use Rattle.arithmetic.specs.Extension.{lift}
use Rattle.layout.specs.Lists.{In, any}
use Rattle.layout.specs.Words.{row_kind}
use Rattle.layout.specs.Tree.{tree}
use Rattle.layout.specs.NotCircuit.{bad_word}
use Rattle.layout.specs.Answers.{accepted}
use Rattle.layout.proofs.Tests.{same_or}
use Rattle.reading.specs.Readings.{Assignment, value}
use Rattle.reading.specs.Calls.{triple_at, assigned}
use Rattle.filling.specs.Calls.{main_filled, aux_filled, row_filled, fill_call}
use Rattle.filling.specs.Promise.{new_main, new_aux, Zero, Holds, Solves}
use Rattle.lowering.proofs.ListLaws.{in_left, in_right, in_cases}
use Rattle.filling.proofs.Values.{Agree, Good, any-split}
use Rattle.filling.proofs.Settled.{SettledMain, SettledAux, Listed, Vanishing, fewer_good, one_main, one_aux, zero_main, zero_aux, main_zero, aux_zero}
use Rattle.filling.proofs.Tables.{sets_before, sets_after, sets_part, sets_next, tables_agree, tables_good, any_low, low_any, any_join}
use Rattle.filling.proofs.Fills.{Written, written_main, written_aux, low_main_lem, low_aux_lem}
use Rattle.filling.proofs.Holds.{Fitting, settled_mains, settled_auxs, row-holds}
use Rattle.filling.proofs.Accepts.{Passed, passed, main_room, main_next, aux_room, aux_next, main_low, aux_low, evaluated, zero_value}

-- a list has an element, or is empty
some_id : (l : List ℕ) → (l ≡ []) ⊎ ((q : ℕ) × In q l)
some_id [] = inl refl
some_id (q ∷ l) = inr (q, inl refl)

-- a word that was written, by its place
pub sets_at : (vs l : List ℕ) (c k : ℕ) → c + length vs ≤ length l → k < length vs → get_or (sets l c vs) (c + k) 0 ≡ get_or vs k 0
sets_at vs l c k h g =
    sym (get_or-drop c (sets l c vs) k 0) ∙ sym (get_or-take (length vs) (drop c (sets l c vs)) k 0 g) ∙ ap (λ (x : List ℕ). get_or x k 0) (sets_part vs l c (length vs) refl h)

-- written over twice, the second time stands
pub sets_over : (zs xs l : List ℕ) (c : ℕ) → length zs ≡ length xs → c + length xs ≤ length l → sets (sets l c zs) c xs ≡ sets l c xs
sets_over zs xs l c e h = ext_get_or 0 (sets (sets l c zs) c xs) (sets l c xs) (length-sets (sets l c zs) c xs ∙ length-sets l c zs ∙ sym (length-sets l c xs)) (λ i k. go i (dec_lt i c) (dec_lt i (c + length xs)))
  where
    go : (i : ℕ) → Dec (i < c) → Dec (i < c + length xs) → get_or (sets (sets l c zs) c xs) i 0 ≡ get_or (sets l c xs) i 0
    go i (yes a) b = sets_before xs (sets l c zs) c i a ∙ sets_before zs l c i a ∙ sym (sets_before xs l c i a)
    go i (no a) (no b) = sets_after xs (sets l c zs) c i (omega arith) ∙ sets_after zs l c i (omega arith) ∙ sym (sets_after xs l c i (omega arith))
    go i (no a) (yes b) = middle (i - c) (omega arith) (omega arith)
      where
        middle : (k : ℕ) → i ≡ c + k → k < length xs → get_or (sets (sets l c zs) c xs) i 0 ≡ get_or (sets l c xs) i 0
        middle k q r = rw q (sets_at xs (sets l c zs) c k (omega (arith, length-sets l c zs)) r ∙ sym (sets_at xs l c k h r))

-- tables whose new cells agree have the same new words
words_same : (x y l : List ℕ) (c n : ℕ) → length x ≡ n → length y ≡ n → c + n ≤ length l → ((i : ℕ) → c ≤ i → i < c + n → get_or (sets l c x) i 0 ≡ get_or (sets l c y) i 0) → x ≡ y
words_same x y l c n e f h g =
    ext_get_or 0 x y (e ∙ sym f) (λ i k. sym (sets_at x l c i (omega arith) k) ∙ g (c + i) (omega arith) (omega arith) ∙ sets_at y l c i (omega arith) (omega arith))

-- triples that agree have the same words
word_of : (u v : List ℕ) (c : ℕ) → triple_at u c ≡ triple_at v c → (get_or u (3 * c) 0 ≡ get_or v (3 * c) 0) × (get_or u (3 * c + 1) 0 ≡ get_or v (3 * c + 1) 0) × (get_or u (3 * c + 2) 0 ≡ get_or v (3 * c + 2) 0)
unfolding triple_at
word_of u v c h = (ap (λ (x : Triple). x.c0) h, ap (λ (x : Triple). x.c1) h, ap (λ (x : Triple). x.c2) h)

pub words_of : (u v : List ℕ) (b : ℕ) → ((c : ℕ) → c < b → triple_at u c ≡ triple_at v c) → (i : ℕ) → i < 3 * b → get_or u i 0 ≡ get_or v i 0
words_of u v b h i l =
    let (w0, w1, w2) = word_of u v (i / 3) (h (i / 3) (omega arith)) in
    ⊎_elim
    (λ e. at (3 * (i / 3)) e w0)
    (λ n. ⊎_elim (λ e. at (3 * (i / 3) + 1) e w1) (λ n'. at (3 * (i / 3) + 2) (omega arith) w2) (same_or i (3 * (i / 3) + 1)))
    (same_or i (3 * (i / 3)))
  where
    at : (j : ℕ) → i ≡ j → get_or u j 0 ≡ get_or v j 0 → get_or u i 0 ≡ get_or v i 0
    at j e w = rw e w

-- what an assignment of tables says
cells : (main aux challenges : List ℕ) → ((assigned main aux challenges).main ≡ (λ c. get_or main c 0)) × ((assigned main aux challenges).aux ≡ triple_at aux)
unfolding assigned
cells main aux challenges = (refl, refl)

module _ (main_count aux_count : ℕ) (m mains auxs challenges main aux : List ℕ) (ok : Passed main_count aux_count m mains auxs challenges main aux) where
  main_end : ℕ
  main_end = main_count + length mains

  aux_end : ℕ
  aux_end = aux_count + length auxs

  after : List ℕ
  after = main_filled m aux challenges main_count main mains

  after_aux : List ℕ
  after_aux = aux_filled m after challenges aux_count aux auxs

  w_main : Written main main_count (length mains) after
  unfolding after
  w_main = written_main m challenges aux mains main_count main

  w_aux : Written aux (3 * aux_count) (3 * length auxs) after_aux
  unfolding after_aux
  w_aux = written_aux m challenges after auxs aux_count aux

  ids_main : Listed m mains
  ids_main q k = ok.ids q (in_left q mains auxs k)

  ids_aux : Listed m auxs
  ids_aux q k = ok.ids q (in_right q mains auxs k)

  room_main : main_count + length mains ≤ length main
  room_main = main_room main_count aux_count m mains auxs challenges main aux ok

  next_main : row_kind m ≡ 2 → main_count + length mains ≤ length main / 2
  next_main = main_next main_count aux_count m mains auxs challenges main aux ok

  room_aux : 3 * aux_count + 3 * length auxs ≤ length aux
  room_aux = aux_room main_count aux_count m mains auxs challenges main aux ok

  next_aux : row_kind m ≡ 2 → 3 * aux_count + 3 * length auxs ≤ length aux / 2
  next_aux = aux_next main_count aux_count m mains auxs challenges main aux ok

  low_challenges : (i : ℕ) → get_or challenges i 0 < p
  low_challenges = any_low challenges ok.challenge_words

  final : Assignment
  final = assigned after after_aux challenges

  fit : Fitting main_count aux_count m mains auxs challenges main aux
  fit = record { valid = ok.valid; main_ids = ids_main; aux_ids = ids_aux; mains_right = ok.mains_right; auxs_right = ok.auxs_right; main_room = room_main; main_next = next_main; aux_room = room_aux; aux_next = next_aux }

  -- the filled tables are settled
  settled_main : SettledMain final m main_count mains
  unfolding row_filled after after_aux final
  settled_main = settled_mains main_count aux_count m mains auxs challenges main aux fit

  settled_aux : SettledAux final m aux_count auxs
  unfolding row_filled after after_aux final
  settled_aux = settled_auxs main_count aux_count m mains auxs challenges main aux fit

  -- their words are elements of the field
  low_main : (i : ℕ) → get_or after i 0 < p
  unfolding after
  low_main =
      low_main_lem m challenges ok.valid aux_count (3 * aux_count + 3 * length auxs) aux (aux_low main_count aux_count m mains auxs challenges main aux ok) next_aux low_challenges
      mains main_count (main_count + length mains) main ids_main ok.mains_right refl room_main next_main (main_low main_count aux_count m mains auxs challenges main aux ok)

  low_aux : (i : ℕ) → get_or after_aux i 0 < p
  unfolding after_aux
  low_aux =
      low_aux_lem m challenges ok.valid (main_count + length mains) 0 after (λ i k. low_main i) (λ d. omega arith) low_challenges
      auxs aux_count (3 * aux_count + 3 * length auxs) aux ids_aux ok.auxs_right refl room_aux next_aux (aux_low main_count aux_count m mains auxs challenges main aux ok)

  all_words : any bad_word (after ++ after_aux ++ challenges) ≡ false
  all_words = any_join (after ++ after_aux) challenges (any_join after after_aux (low_any after low_main) (low_any after_aux low_aux)) ok.challenge_words

  -- tables without a word at or above p
  good_tables : (x y : List ℕ) → ((i : ℕ) → get_or x i 0 < p) → ((i : ℕ) → get_or y i 0 < p) → Good m main_end aux_end (assigned x y challenges)
  good_tables x y h k = tables_good m main_end aux_end 0 0 x y challenges (λ i u. h i) (λ i u. k i) low_challenges (λ d. omega arith) (λ d. omega arith)

  -- every listed constraint is zero
  vanish : Vanishing final m (mains ++ auxs)
  unfolding final main_end aux_end
  vanish q k =
      ⊎_elim
      (λ i. zero_main m ok.valid aux_count mains main_count final ids_main ok.mains_right (fewer_good main_end aux_count (omega arith) (omega arith) (good_tables after after_aux low_main low_aux)) settled_main q i)
      (λ i. zero_aux m ok.valid (main_count + length mains) auxs aux_count final ids_aux ok.auxs_right (good_tables after after_aux low_main low_aux) settled_aux q i)
      (in_cases q mains auxs k)

  length_main : length after ≡ length main
  length_main = ap length w_main.is ∙ length-sets main main_count w_main.words

  length_aux : length after_aux ≡ length aux
  length_aux = ap length w_aux.is ∙ length-sets aux (3 * aux_count) w_aux.words

  zeros : Zero main_count aux_count m mains auxs challenges after after_aux
  unfolding final
  zeros q k = evaluated main_count aux_count m mains auxs challenges main aux ok after after_aux length_main length_aux q k all_words ∙ ap (λ (v : Triple). accepted v tt) (vanish q k)

  -- the new words are those that were written
  new_main_lem : new_main main_count (length mains) after ≡ w_main.words
  new_main_lem = ap (λ (x : List ℕ). take (length mains) (drop main_count x)) w_main.is ∙ sets_part w_main.words main main_count (length mains) w_main.number room_main

  new_aux_lem : new_aux aux_count (length auxs) after_aux ≡ w_aux.words
  new_aux_lem = ap (λ (x : List ℕ). take (3 * length auxs) (drop (3 * aux_count) x)) w_aux.is ∙ sets_part w_aux.words aux (3 * aux_count) (3 * length auxs) w_aux.number room_aux

  -- other words that make every constraint zero
  module _ (x y : List ℕ) (nx : length x ≡ length mains) (ny : length y ≡ 3 * length auxs) (z : Zero main_count aux_count m mains auxs challenges (sets main main_count x) (sets aux (3 * aux_count) y)) where
    other : Assignment
    other = assigned (sets main main_count x) (sets aux (3 * aux_count) y) challenges

    each_zero : (q : ℕ) → In q (mains ++ auxs) → (any bad_word (sets main main_count x ++ sets aux (3 * aux_count) y ++ challenges) ≡ false) × (value other (tree m q) ≡ lift 0)
    unfolding other
    each_zero q k = zero_value main_count aux_count m mains auxs challenges main aux ok (sets main main_count x) (sets aux (3 * aux_count) y) (length-sets main main_count x) (length-sets aux (3 * aux_count) y) q k (z q k)

    old_cells : Agree m main_count aux_count other final
    unfolding other final
    old_cells =
        let n : length w_main.words ≡ length mains = w_main.number in
        let k : length w_aux.words ≡ 3 * length auxs = w_aux.number in
        rw (w_main.is, w_aux.is) (tables_agree m main_count aux_count (sets main main_count x) (sets aux (3 * aux_count) y) (sets main main_count w_main.words) (sets aux (3 * aux_count) w_aux.words) challenges
        (λ i l. sets_before x main main_count i l ∙ sym (sets_before w_main.words main main_count i l))
        (λ i l. sets_before y aux (3 * aux_count) i l ∙ sym (sets_before w_aux.words aux (3 * aux_count) i l))
        (λ d. let r = next_main d in sets_next x main main_count (omega arith) ∙ sym (sets_next w_main.words main main_count (omega arith)))
        (λ d. let r = next_aux d in sets_next y aux (3 * aux_count) (omega arith) ∙ sym (sets_next w_aux.words aux (3 * aux_count) (omega arith))))

    -- with a constraint at all, the other words are elements of the field, so they are settled too, and agree
    agree_all : (q : ℕ) → In q (mains ++ auxs) → Agree m main_end aux_end other final
    unfolding other main_end aux_end
    agree_all q k =
        let (front, c) = any-split bad_word (sets main main_count x ++ sets aux (3 * aux_count) y) challenges (each_zero q k).0 in
        let (a, b) = any-split bad_word (sets main main_count x) (sets aux (3 * aux_count) y) front in
        let good : Good m main_end aux_end other = good_tables (sets main main_count x) (sets aux (3 * aux_count) y) (any_low (sets main main_count x) a) (any_low (sets aux (3 * aux_count) y) b) in
        let sm : SettledMain other m main_count mains =
        main_zero m ok.valid aux_count mains main_count other ids_main ok.mains_right (fewer_good main_end aux_count (omega arith) (omega arith) good) (λ r i. (each_zero r (in_left r mains auxs i)).1) in
        let sa : SettledAux other m aux_count auxs =
        aux_zero m ok.valid main_end auxs aux_count other ids_aux ok.auxs_right good (λ r i. (each_zero r (in_right r mains auxs i)).1) in
        one_aux m ok.valid main_end auxs aux_count other final ids_aux ok.auxs_right sa settled_aux
        (one_main m ok.valid aux_count mains main_count other final ids_main ok.mains_right sm settled_main old_cells)

    same_main : Agree m main_end aux_end other final → (i : ℕ) → i < main_count + length mains → get_or (sets main main_count x) i 0 ≡ get_or (sets main main_count w_main.words) i 0
    unfolding other final main_end assigned
    same_main g i l = g.main i l ∙ ap (λ (t : List ℕ). get_or t i 0) w_main.is

    same_aux : Agree m main_end aux_end other final → (i : ℕ) → i < 3 * (aux_count + length auxs) → get_or (sets aux (3 * aux_count) y) i 0 ≡ get_or (sets aux (3 * aux_count) w_aux.words) i 0
    unfolding other final aux_end assigned
    same_aux g = words_of (sets aux (3 * aux_count) y) (sets aux (3 * aux_count) w_aux.words) (aux_count + length auxs) (λ c l. g.aux c l ∙ ap (λ (t : List ℕ). triple_at t c) w_aux.is)

    only_words : (x ≡ w_main.words) × (y ≡ w_aux.words)
    only_words = ⊎_elim none_listed (λ (q, k). both (agree_all q k)) (some_id (mains ++ auxs))
      where
        both : Agree m main_end aux_end other final → (x ≡ w_main.words) × (y ≡ w_aux.words)
        both g = (
          words_same x w_main.words main main_count (length mains) nx w_main.number room_main (λ i u v. same_main g i v),
          words_same y w_aux.words aux (3 * aux_count) (3 * length auxs) ny w_aux.number room_aux (λ i u v. same_aux g i (omega arith)),
        )

        none_listed : mains ++ auxs ≡ [] → (x ≡ w_main.words) × (y ≡ w_aux.words)
        none_listed e =
            let n : length mains + length auxs ≡ 0 = sym (length-append mains auxs) ∙ ap length e in (
              ext_get_or 0 x w_main.words (nx ∙ sym w_main.number) (λ i l. absurd (omega arith)),
              ext_get_or 0 y w_aux.words (ny ∙ sym w_aux.number) (λ i l. absurd (omega arith)),
            )

  -- each new cell holds its expression's value
  holds : Holds main_count aux_count m mains auxs challenges after after_aux
  unfolding row_filled after after_aux
  holds = row-holds main_count aux_count m mains auxs challenges main aux fit

  solved : Solves main_count aux_count m mains auxs challenges main aux after after_aux
  solved =
      record {
        main_kept = w_main.is ∙ ap (sets main main_count) (sym new_main_lem);
        aux_kept = w_aux.is ∙ ap (sets aux (3 * aux_count)) (sym new_aux_lem);
        words = all_words;
        holds = holds;
        zeros = zeros;
        only = λ x y nx ny z. let (e, f) = only_words x y nx ny z in (e ∙ sym new_main_lem, f ∙ sym new_aux_lem);
      }

  row_is : row_filled main_count aux_count m mains auxs challenges (main, aux) ≡ (after, after_aux)
  unfolding row_filled after after_aux
  row_is = refl

-- whatever the lists are and wherever they come from
pub solves : (main_count aux_count : ℕ) (m mains auxs challenges main aux : List ℕ) → (fill_call main_count aux_count m mains auxs challenges main aux).number ≡ 0
    → Solves main_count aux_count m mains auxs challenges main aux (fill_call main_count aux_count m mains auxs challenges main aux).lent.0 (fill_call main_count aux_count m mains auxs challenges main aux).lent.1
solves main_count aux_count m mains auxs challenges main aux h =
    let ok = passed main_count aux_count m mains auxs challenges main aux h in
    rw (ok.filled ∙ row_is main_count aux_count m mains auxs challenges main aux ok) (solved main_count aux_count m mains auxs challenges main aux ok)

-- The main columns can be filled first, without auxiliary words and challenges, and the auxiliary ones later. Assumes nothing.
use Prim.Native.Nat.{ℕ, zero, suc, ◌+◌, ◌*◌, ◌/◌, ◌%◌, ◌<◌}
use mathlib.Core.Path.{◌≡◌, refl, sym, ◌∙◌, ap, ap₂, subst}
use mathlib.Core.Logic.{inl, inr, ⊎_elim}
use mathlib.Core.Bool.{Bool, true, false, not}
use mathlib.Core.List.{List, [], ◌∷◌, ◌++◌}
use native.Mathlib.Omega.{arith}
use lib.ListN.{length, set, replicate}
use lib.Seq.{sets, length-sets}
use lib.Dec.{leb, eqb}
use borrow.Author.Tests.{le-ltb, lt-leb, not-false}
use Rattle.arithmetic.specs.declared.Triple.{Triple}
use Rattle.arithmetic.specs.Extension.{lift}
use Rattle.layout.specs.declared.node.Position.TheVariants.{Main, Aux, NextMain, NextAux}
use Rattle.layout.specs.declared.node.Expression.{Expression}
use Rattle.layout.specs.declared.node.Expression.TheVariants.{Base, Extension, Challenge, Operation, Input}
use Rattle.layout.specs.Lists.{In, any}
use Rattle.layout.specs.Words.{row_kind, used, expression_at, is_main, apply}
use Rattle.layout.specs.Tree.{base_leaf, extension_leaf, challenge_leaf, input_leaf, Tree, leaf, branch, tree_over, unfolded, tree}
use Rattle.layout.specs.NotCircuit.{not_circuit, either_operand, goes_on, bad_id, bad_word}
use Rattle.layout.specs.Answers.{accepted}
use Rattle.layout.proofs.Tests.{neither, or-false}
use Rattle.layout.proofs.Lists.{clash, and-true}
use Rattle.layout.proofs.Valid.{valid_operands, valid_ends}
use Rattle.layout.proofs.Refusals.{refusal_none, refusal_next, outcome_accepted}
use Rattle.walking.specs.Paths.{walk, walks}
use Rattle.reading.specs.Readings.{Assignment, is_base, value}
use Rattle.reading.specs.Calls.{assigned}
use Rattle.filling.specs.Constraints.{expression_of, unfilled, reads_unfilled}
use Rattle.filling.specs.Refusals.{beyond, bad_rows, wrong_main, mains_wrong, auxs_wrong, not_lowered}
use Rattle.filling.specs.Calls.{worth, main_filled, aux_filled, row_filled, row_cleared, fill_outcome, fill_call}
use Rattle.filling.specs.Promise.{new_main, InTwo, Solves}
use Rattle.lowering.proofs.ListLaws.{any_false, in_left, in_right, in_cases}
use Rattle.filling.proofs.Values.{any-split}
use Rattle.filling.proofs.Items.{item}
use Rattle.filling.proofs.Settled.{Listed, mains_head}
use Rattle.filling.proofs.Tables.{any_join}
use Rattle.filling.proofs.Accepts.{Passed, passed, kinds, Fits, fits}
use Rattle.filling.proofs.Solves.{solves}

-- an expression that a tree which passes the base test may hold
abbrev Plain : Expression → Type 0
Plain (Base w) = Unit {0}
Plain (Extension x) = ⊥
Plain (Challenge k) = ⊥
Plain (Operation o l r) = Unit {0}
Plain (Input q) = is_main q ≡ true

-- its value hangs on the main cells alone
base_value : (s t : Assignment) → ((c : ℕ) → s.main c ≡ t.main c) → ((c : ℕ) → s.next_main c ≡ t.next_main c) → (x : Tree) → is_base x ≡ true → value s x ≡ value t x
unfolding value is_base
base_value s t h k (leaf i (base_leaf w)) b = refl
base_value s t h k (leaf i (extension_leaf x)) b = clash false b refl
base_value s t h k (leaf i (challenge_leaf j)) b = clash false b refl
base_value s t h k (leaf i (input_leaf (Main c))) b = ap lift (h c)
base_value s t h k (leaf i (input_leaf (Aux c))) b = clash false b refl
base_value s t h k (leaf i (input_leaf (NextMain c))) b = ap lift (k c)
base_value s t h k (leaf i (input_leaf (NextAux c))) b = clash false b refl
base_value s t h k (branch i o l r) b = let (x, y) = and-true (is_base l) (is_base r) b in ap₂ (apply o) (base_value s t h k l x) (base_value s t h k r y)

at_plain : (m : List ℕ) (i j : ℕ) (e : Expression) → expression_at m i ≡ e → Plain e → j ≡ i → Plain (expression_at m j)
at_plain m i j e q p h = subst (λ (x : ℕ). Plain (expression_at m x)) (sym h) (subst Plain (sym q) p)

module _ (m : List ℕ) (valid : not_circuit m ≡ false) where
  -- the nodes of a tree that passes
  levels_plain : (levels i : ℕ) → i < used m → goes_on m levels i ≡ false → is_base (unfolded m levels i) ≡ true → (j : ℕ) → In j (walk (unfolded m levels i)) → Plain (expression_at m j)
  unfolding unfolded goes_on is_base walk
  levels_plain zero i here g b j k = clash true refl g
  levels_plain (suc levels) i here g b j k = over (λ x h u v w. levels_plain levels x h u v j w) (expression_at m i) refl g b k
    where
      over : ((x : ℕ) → x < used m → goes_on m levels x ≡ false → is_base (unfolded m levels x) ≡ true → In j (walk (unfolded m levels x)) → Plain (expression_at m j))
          → (e : Expression) → expression_at m i ≡ e → either_operand (goes_on m levels) e ≡ false → is_base (tree_over i e (unfolded m levels)) ≡ true → In j (walk (tree_over i e (unfolded m levels))) → Plain (expression_at m j)
      over below (Base w) e u v (inl q) = at_plain m i j (Base w) e tt q
      over below (Base w) e u v (inr q) = absurd q
      over below (Extension x) e u v w = clash false v refl
      over below (Challenge x) e u v w = clash false v refl
      over below (Input y) e u v (inl q) = at_plain m i j (Input y) e v q
      over below (Input y) e u v (inr q) = absurd q
      over below (Operation o l r) e u v w =
          let (hl, hr) = valid_operands m valid i here o l r e in
          let (gl, gr) = neither (goes_on m levels l) (goes_on m levels r) u in
          let (bl, br) = and-true (is_base (unfolded m levels l)) (is_base (unfolded m levels r)) v in
          ⊎_elim (below l hl gl bl) (λ z. ⊎_elim (at_plain m i j (Operation o l r) e tt) (below r hr gr br) z) (in_cases j (walk (unfolded m levels l)) (i ∷ walk (unfolded m levels r)) w)

  plain : (i : ℕ) → i < used m → is_base (tree m i) ≡ true → (j : ℕ) → In j (walk (tree m i)) → Plain (expression_at m j)
  plain i here b = levels_plain (used m) i here (valid_ends m valid i here) b

-- a test that fails at each
none_passes : (t : ℕ → Bool) (xs : List ℕ) → ((x : ℕ) → In x xs → t x ≡ false) → any t xs ≡ false
unfolding any
none_passes t [] h = refl
none_passes t (x ∷ xs) h = or-false (t x) (any t xs) (h x (inl refl)) (none_passes t xs (λ y k. h y (inr k)))

-- plain expressions read no auxiliary column and no challenge
plain_filled : (a b : ℕ) (e : Expression) → Plain e → unfilled a b e ≡ false → unfilled a 0 e ≡ false
plain_filled a b (Base w) p h = h
plain_filled a b (Extension x) p h = absurd p
plain_filled a b (Challenge k) p h = absurd p
plain_filled a b (Operation o l r) p h = h
plain_filled a b (Input (Main c)) p h = h
plain_filled a b (Input (Aux c)) p h = clash false p refl
plain_filled a b (Input (NextMain c)) p h = h
plain_filled a b (Input (NextAux c)) p h = clash false p refl

plain_beyond : (a b c : ℕ) (e : Expression) → Plain e → beyond a b c e ≡ false → beyond a 0 0 e ≡ false
plain_beyond a b c (Base w) p h = h
plain_beyond a b c (Extension x) p h = absurd p
plain_beyond a b c (Challenge k) p h = absurd p
plain_beyond a b c (Operation o l r) p h = h
plain_beyond a b c (Input (Main d)) p h = h
plain_beyond a b c (Input (Aux d)) p h = clash false p refl
plain_beyond a b c (Input (NextMain d)) p h = h
plain_beyond a b c (Input (NextAux d)) p h = clash false p refl

walks_in : (m qs : List ℕ) (x : ℕ) → In x (walks m qs) → (q : ℕ) × In q qs × In x (walk (tree m q))
unfolding walks
walks_in m [] x h = absurd h
walks_in m (q ∷ qs) x h = ⊎_elim (λ k. (q, inl refl, k)) (λ k. let (r, i, j) = walks_in m qs x k in (r, inr i, j)) (in_cases x (walk (tree m q)) (walks m qs) h)

in_walks : (m qs : List ℕ) (q x : ℕ) → In q qs → In x (walk (tree m q)) → In x (walks m qs)
unfolding walks
in_walks m [] q x h k = absurd h
in_walks m (r ∷ qs) q x (inl e) k = in_left x (walk (tree m r)) (walks m qs) (rw e at k)
in_walks m (r ∷ qs) q x (inr h) k = in_right x (walk (tree m r)) (walks m qs) (in_walks m qs q x h k)

module _ (m : List ℕ) (valid : not_circuit m ≡ false) where
  -- the main list asks for no auxiliary column
  mains_alone : (b : ℕ) (qs : List ℕ) (c : ℕ) → Listed m qs → mains_wrong b m c qs ≡ false → mains_wrong 0 m c qs ≡ false
  unfolding mains_wrong reads_unfilled
  mains_alone b [] c ids h = refl
  mains_alone b (q ∷ qs) c ids h =
      let (right, rest) = mains_head b m c q qs h in
      let it = item m valid (Main c) q (ids q (inl refl)) right.e right.is in
      let reads : reads_unfilled c 0 m right.e ≡ false =
      none_passes _ (walk (tree m right.e)) (λ j k. plain_filled c b (expression_at m j) (plain m valid right.e it.here right.base j k) (any_false (λ i. unfilled c b (expression_at m i)) (walk (tree m right.e)) right.reads j k)) in
      let first : wrong_main c 0 m (expression_of m (Main c) q) ≡ false = ap (wrong_main c 0 m) right.is ∙ or-false _ _ reads (ap not right.base) in
      or-false (wrong_main c 0 m (expression_of m (Main c) q)) (mains_wrong 0 m (suc c) qs) first (mains_alone b qs (suc c) (λ r k. ids r (inr k)) rest)

  -- a listed main constraint passes the base test
  main_plain : (b : ℕ) (qs : List ℕ) (c : ℕ) → Listed m qs → mains_wrong b m c qs ≡ false → (q : ℕ) → In q qs → is_base (tree m q) ≡ true
  main_plain b [] c ids h q k = absurd k
  main_plain b (r ∷ qs) c ids h q k =
      let (right, rest) = mains_head b m c r qs h in
      let it = item m valid (Main c) r (ids r (inl refl)) right.e right.is in
      ⊎_elim (λ e. ap (λ (i : ℕ). is_base (tree m i)) e ∙ it.base refl right.base) (λ i. main_plain b qs (suc c) (λ x j. ids x (inr j)) rest q i) k

  -- and the values are the same
  fill_alone : (b : ℕ) (aux challenges : List ℕ) (qs : List ℕ) (c : ℕ) (main : List ℕ) → mains_wrong b m c qs ≡ false → main_filled m [] [] c main qs ≡ main_filled m aux challenges c main qs
  unfolding main_filled assigned
  fill_alone b aux challenges [] c main h = refl
  fill_alone b aux challenges (q ∷ qs) c main h =
      let (right, rest) = mains_head b m c q qs h in
      let s = assigned main [] [] in
      let t = assigned main aux challenges in
      let same : (worth s m (expression_of m (Main c) q)).c0 ≡ (worth t m (expression_of m (Main c) q)).c0 =
      rw right.is (ap (λ (x : Triple). x.c0) (base_value s t (λ d. refl) (λ d. refl) (tree m right.e) right.base)) in
      ap (λ (v : ℕ). main_filled m [] [] (suc c) (set main c v) qs) same ∙ fill_alone b aux challenges qs (suc c) (set main c (worth t m (expression_of m (Main c) q)).c0) rest

any_nil : any bad_word [] ≡ false
unfolding any
any_nil = refl

append-nil : (x : List ℕ) → x ++ [] ≡ x
append-nil [] = refl
append-nil (a ∷ x) = ap (λ (r : List ℕ). a ∷ r) (append-nil x)

module _ (main_count aux_count : ℕ) (m mains auxs challenges main aux : List ℕ) (h : (fill_call main_count aux_count m mains auxs challenges main aux).number ≡ 0) where
  ok : Passed main_count aux_count m mains auxs challenges main aux
  ok = passed main_count aux_count m mains auxs challenges main aux h

  room : Fits main_count aux_count m mains auxs challenges main aux
  room = fits main_count aux_count m mains auxs challenges main aux ok.rows

  ids_main : Listed m mains
  ids_main q k = ok.ids q (in_left q mains auxs k)

  even : (eqb (length main % row_kind m) 0 ≡ true) × (eqb (length aux % (3 * row_kind m)) 0 ≡ true) × (eqb (length challenges % 3) 0 ≡ true)
  even =
      let (a, r) = and-true (eqb (length main % row_kind m) 0) _ (not-false _ room.layout) in
      let (b, c) = and-true (eqb (length aux % (3 * row_kind m)) 0) _ r in
      (a, b, c)

  -- THE MAIN COLUMNS FIRST
  first_reads : any (λ i. beyond (length main / row_kind m) 0 0 (expression_at m i)) (walks m mains) ≡ false
  first_reads =
      none_passes _ (walks m mains) (λ x k.
      let (q, i, j) = walks_in m mains x k in
      plain_beyond (length main / row_kind m) (length aux / (3 * row_kind m)) (length challenges / 3) (expression_at m x)
      (plain m ok.valid q (ids_main q i) (main_plain m ok.valid aux_count mains main_count ids_main ok.mains_right q i) x j)
      (any_false (λ i. beyond (length main / row_kind m) (length aux / (3 * row_kind m)) (length challenges / 3) (expression_at m i)) (walks m (mains ++ auxs)) room.reads x (in_walks m (mains ++ auxs) q x (in_left q mains auxs i) j)))

  no_rows : (0 % (3 * row_kind m) ≡ 0) × (0 / (3 * row_kind m) ≡ 0)
  no_rows = ⊎_elim (λ e. rw e (refl, refl)) (λ e. rw e (refl, refl)) (kinds m ok.valid)

  first_rows : bad_rows (row_kind m) main_count 0 m mains [] main [] [] ≡ false
  unfolding bad_rows
  first_rows =
      rw (append-nil mains, no_rows.0, no_rows.1, even.0, le-ltb (row_kind m) (row_kind m) (omega arith), le-ltb (length main / row_kind m) (main_count + length mains) room.main_fits) first_reads

  first_ids : bad_id m (mains ++ []) ≡ false
  unfolding bad_id
  first_ids = rw (append-nil mains) (none_passes (leb (used m)) mains (λ q k. lt-leb (used m) q (ids_main q k)))

  first_lowered : not_lowered main_count 0 m mains [] ≡ false
  unfolding not_lowered auxs_wrong
  first_lowered = or-false (mains_wrong 0 m main_count mains) false (mains_alone m ok.valid aux_count mains main_count ids_main ok.mains_right) refl

  mains_first : fill_call main_count 0 m mains [] [] main [] ≡ accepted tt (main_filled m aux challenges main_count main mains, [])
  unfolding fill_call fill_outcome row_cleared row_filled aux_filled
  mains_first =
      outcome_accepted _ tt (main_filled m [] [] main_count main mains, []) tt (main, [])
      (refusal_next 1 (not_circuit m) _ ok.valid ∙ refusal_next 2 (bad_id m (mains ++ [])) _ first_ids ∙ refusal_next 15 (bad_rows (row_kind m) main_count 0 m mains [] main [] []) _ first_rows
      ∙ refusal_next 5 (any bad_word (sets main main_count (replicate (length mains) 0) ++ [] ++ [])) _ (any_join (sets main main_count (replicate (length mains) 0) ++ []) [] (any_join (sets main main_count (replicate (length mains) 0)) [] ok.main_words_lem any_nil) any_nil)
      ∙ refusal_next 17 (not_lowered main_count 0 m mains []) [] first_lowered ∙ refusal_none)
      ∙ ap (λ (x : List ℕ). accepted tt (x, [])) (fill_alone m ok.valid aux_count aux challenges mains main_count main ok.mains_right)

  -- THEN THE AUXILIARY ONES
  after : List ℕ
  after = main_filled m aux challenges main_count main mains

  after_aux : List ℕ
  after_aux = aux_filled m after challenges aux_count aux auxs

  lent_is : (fill_call main_count aux_count m mains auxs challenges main aux).lent ≡ (after, after_aux)
  unfolding row_filled after after_aux
  lent_is = ok.filled

  solved : Solves main_count aux_count m mains auxs challenges main aux after after_aux
  solved = subst (λ (t : List ℕ × List ℕ). Solves main_count aux_count m mains auxs challenges main aux t.0 t.1) lent_is (solves main_count aux_count m mains auxs challenges main aux h)

  same_length : length after ≡ length main
  same_length = ap length solved.main_kept ∙ length-sets main main_count (new_main main_count (length mains) after)

  then-reads : any (λ i. beyond (length main / row_kind m) (length aux / (3 * row_kind m)) (length challenges / 3) (expression_at m i)) (walks m auxs) ≡ false
  then-reads =
      none_passes _ (walks m auxs) (λ x k.
      let (q, i, j) = walks_in m auxs x k in
      any_false (λ i. beyond (length main / row_kind m) (length aux / (3 * row_kind m)) (length challenges / 3) (expression_at m i)) (walks m (mains ++ auxs)) room.reads x (in_walks m (mains ++ auxs) q x (in_right q mains auxs i) j))

  none_more : (main_count + length mains) + 0 ≡ main_count + length mains
  none_more = omega arith

  then_rows : bad_rows (row_kind m) (main_count + length mains) aux_count m [] auxs after aux challenges ≡ false
  unfolding bad_rows
  then_rows =
      rw (none_more, same_length, even.0, even.1, even.2, le-ltb (row_kind m) (row_kind m) (omega arith), le-ltb (length main / row_kind m) (main_count + length mains) room.main_fits, le-ltb (length aux / (3 * row_kind m)) (aux_count + length auxs) room.aux_fits) then-reads

  then_ids : bad_id m auxs ≡ false
  unfolding bad_id
  then_ids = none_passes (leb (used m)) auxs (λ q k. lt-leb (used m) q (ok.ids q (in_right q mains auxs k)))

  then_lowered : not_lowered (main_count + length mains) aux_count m [] auxs ≡ false
  unfolding not_lowered mains_wrong
  then_lowered = rw none_more ok.auxs_right

  main_low : any bad_word after ≡ false
  main_low = (any-split bad_word after after_aux (any-split bad_word (after ++ after_aux) challenges solved.words).0).0

  auxs_then : fill_call (main_count + length mains) aux_count m [] auxs challenges after aux ≡ accepted tt (after, after_aux)
  unfolding fill_call fill_outcome row_cleared row_filled main_filled after_aux
  auxs_then =
      outcome_accepted _ tt (after, aux_filled m after challenges aux_count aux auxs) tt (after, aux)
      (refusal_next 1 (not_circuit m) _ ok.valid ∙ refusal_next 2 (bad_id m auxs) _ then_ids ∙ refusal_next 15 (bad_rows (row_kind m) (main_count + length mains) aux_count m [] auxs after aux challenges) _ then_rows
      ∙ refusal_next 5 (any bad_word (after ++ sets aux (3 * aux_count) (replicate (3 * length auxs) 0) ++ challenges)) _
      (any_join (after ++ sets aux (3 * aux_count) (replicate (3 * length auxs) 0)) challenges (any_join after (sets aux (3 * aux_count) (replicate (3 * length auxs) 0)) main_low ok.aux_words_lem) ok.challenge_words)
      ∙ refusal_next 17 (not_lowered (main_count + length mains) aux_count m [] auxs) [] then_lowered ∙ refusal_none)

  two_steps : InTwo main_count aux_count m mains auxs challenges main aux after after_aux
  unfolding after
  two_steps = record { mains_first = mains_first; auxs_then = auxs_then }

  -- every accepted fill can be done in two steps
  pub in_two : InTwo main_count aux_count m mains auxs challenges main aux (fill_call main_count aux_count m mains auxs challenges main aux).lent.0 (fill_call main_count aux_count m mains auxs challenges main aux).lent.1
  in_two = rw lent_is two_steps

-- The tables with new words stored in the current row say, wherever a node of the lowered circuit reads, what the choice means; so evaluation answers
-- the values under it. The original's nodes read no further. Assumes nothing.
use Rattle.std.specs.Prelude.{Some}
use Prim.Native.Nat.{ℕ, zero, suc, ◌+◌, ◌*◌, ◌/◌, ◌≤◌, ◌<◌}
use mathlib.Core.Path.{◌≡◌, refl, ap, ◌∙◌}
use mathlib.Core.Logic.{◌⊎◌, inl, inr, ⊎_elim}
use mathlib.Core.Bool.{true, false, ◌&&◌, not}
use mathlib.Core.List.{List, [], ◌∷◌}
use native.Mathlib.Omega.{arith}
use lib.ListN.{length, get_or}
use lib.Seq.{sets}
use lib.Dec.{eqb}
use borrow.Author.Tests.{leb-false, eqb-true, not-false}
use Rattle.arithmetic.specs.declared.Triple.{Triple}
use Rattle.arithmetic.specs.Extension.{lift}
use Rattle.layout.specs.declared.node.Position.{Position}
use Rattle.layout.specs.declared.node.Position.TheVariants.{Main, Aux, NextMain, NextAux}
use Rattle.layout.specs.declared.node.Expression.{Expression}
use Rattle.layout.specs.declared.node.Expression.TheVariants.{Base, Extension, Challenge, Operation, Input}
use Rattle.layout.specs.Words.{row_kind, used, expression_at, is_next, column}
use Rattle.layout.specs.Tree.{input_leaf, tree}
use Rattle.layout.specs.NotCircuit.{bad_index, not_circuit}
use Rattle.layout.specs.Answers.{accepted}
use Rattle.layout.proofs.Tests.{neither, either}
use Rattle.reading.specs.Readings.{Assignment, input_value, value}
use Rattle.reading.specs.Refusals.{columns_lent, reads_beyond}
use Rattle.reading.specs.Calls.{triple_at, next_row, assigned}
use Rattle.lowering.specs.Lowering.{Lowering}
use Rattle.lowering.proofs.Shape.{leaf_e, expr_of}
use Rattle.lowering.proofs.Words.{look, look_in, look_lt, says, valid_sound}
use Rattle.lowering.proofs.Proper.{proper_of}
use Rattle.grown.specs.Promise.{with_new}
use Rattle.grown.specs.Evaluated.{Wide, NewWords, evaluates}
use Rattle.grown.proofs.Remains.{Remains}
use Rattle.grown.proofs.Agrees.{Agree, value_agrees}
use Rattle.grown.proofs.Evaluates.{evaluates_to, wide_stored}
use Rattle.grown.proofs.Stores.{stored_main, stored_aux, stored_next, triples}

module _ (mc ac : ℕ) (m : List ℕ) (x : Lowering) (left : Remains mc ac m x) (valid : not_circuit x.circuit ≡ false) (main aux challenges : List ℕ) (wide : Wide x.circuit main aux challenges) where
  -- one row or two
  rows : (row_kind x.circuit ≡ 1) ⊎ (row_kind x.circuit ≡ 2)
  rows = ⊎_elim (λ e. inl (eqb-true (row_kind x.circuit) 1 e)) (λ e. inr (eqb-true (row_kind x.circuit) 2 e)) (either (eqb (row_kind x.circuit) 1) (eqb (row_kind x.circuit) 2) (proper_of x.circuit valid).row)

  -- an input's column lies in the tables
  column_lent : (n : ℕ) (q : Position) → look x.circuit n ≡ Some (leaf_e (input_leaf q)) → column q < columns_lent x.circuit main aux q
  column_lent n q h =
      let e : expression_at x.circuit n ≡ Input q = says x.circuit n (Input q) h in
      leb-false (columns_lent x.circuit main aux q) (column q) (rw e at (wide.reads n (look_lt x.circuit n (leaf_e (input_leaf q)) h)))

  -- so do the new columns
  main_room : (v : List ℕ) → length v ≡ length x.main → (v ≡ []) ⊎ (mc + length v ≤ length main / row_kind x.circuit)
  unfolding columns_lent
  main_room [] e = inl refl
  main_room (w ∷ v) e = let (n, h) = left.main_new (length v) (omega arith) in inr (omega (arith, column_lent n (Main (mc + length v)) h))

  aux_room : (v : List ℕ) (l : ℕ) → l ≡ length x.aux → length v ≡ 3 * l → (v ≡ []) ⊎ (ac + l ≤ length aux / (3 * row_kind x.circuit))
  unfolding columns_lent
  aux_room [] zero f e = inl refl
  aux_room (w ∷ v) zero f e = absurd (omega arith)
  aux_room v (suc l) f e = let (n, h) = left.aux_new l (omega arith) in inr (omega (arith, column_lent n (Aux (ac + l)) h))

  -- a leaf of the circuit afterwards reads no further than the tables go
  read_after : (i : ℕ) (e : Expression) → look x.circuit i ≡ Some (expr_of e) → reads_beyond x.circuit main aux challenges e ≡ false
  read_after i e h =
      let q : expression_at x.circuit i ≡ e = says x.circuit i e h in
      rw q at (wide.reads i (look_lt x.circuit i (expr_of e) h))

  -- a circuit that reads the next row is dual-row
  dual : (n : ℕ) (q : Position) → is_next q ≡ true → look x.circuit n ≡ Some (leaf_e (input_leaf q)) → row_kind x.circuit ≡ 2
  dual n q e h =
      let (a, b) = neither (bad_index (column q)) (is_next q && not (eqb (row_kind x.circuit) 2)) ((proper_of x.circuit valid).leaves n (input_leaf q) h) in
      let c : (true && not (eqb (row_kind x.circuit) 2)) ≡ false = rw e at b in
      eqb-true (row_kind x.circuit) 2 (not-false (eqb (row_kind x.circuit) 2) c)

  module _ (v : NewWords (length x.main) (length x.aux)) where
    abbrev said : Assignment
    said = assigned (sets main mc v.main) (sets aux (3 * ac) v.aux) challenges

    abbrev meant : Assignment
    meant = with_new mc ac (assigned main aux challenges) v.main (triples v.aux)

    main_inside : (v.main ≡ []) ⊎ (mc + length v.main ≤ length main)
    main_inside = ⊎_elim inl (λ h. inr (⊎_elim (λ e. inside_one (length main) (rw e at h)) (λ e. inside_two (length main) (rw e at h)) rows)) (main_room v.main v.main_count)
      where
        inside_one : (n : ℕ) → mc + length v.main ≤ n / 1 → mc + length v.main ≤ n
        inside_one n h = omega arith

        inside_two : (n : ℕ) → mc + length v.main ≤ n / 2 → mc + length v.main ≤ n
        inside_two n h = omega arith

    aux_inside : (v.aux ≡ []) ⊎ (3 * (ac + length x.aux) ≤ length aux)
    aux_inside = ⊎_elim inl (λ h. inr (⊎_elim (λ e. inside_one (length aux) (rw e at h)) (λ e. inside_two (length aux) (rw e at h)) rows)) (aux_room v.aux (length x.aux) refl v.aux_count)
      where
        inside_one : (n : ℕ) → ac + length x.aux ≤ n / (3 * 1) → 3 * (ac + length x.aux) ≤ n
        inside_one n h = omega arith

        inside_two : (n : ℕ) → ac + length x.aux ≤ n / (3 * 2) → 3 * (ac + length x.aux) ≤ n
        inside_two n h = omega arith

    next_main_lem : row_kind x.circuit ≡ 2 → next_row (sets main mc v.main) ≡ next_row main
    next_main_lem e = stored_next main v.main mc (⊎_elim inl (λ h. inr (rw e at h)) (main_room v.main v.main_count))

    next_aux_lem : row_kind x.circuit ≡ 2 → next_row (sets aux (3 * ac) v.aux) ≡ next_row aux
    next_aux_lem e = stored_next aux v.aux (3 * ac) (⊎_elim inl (λ h. inr (half (length aux) (rw e at h))) (aux_room v.aux (length x.aux) refl v.aux_count))
      where
        half : (n : ℕ) → ac + length x.aux ≤ n / (3 * 2) → 3 * ac + length v.aux ≤ n / 2
        half n h = omega (arith, v.aux_count)

    -- the tables say what the choice means
    agrees : Agree (look x.circuit) said meant
    unfolding assigned
    agrees = record { inputs = at; challenges = λ k. refl }
      where
        at : (n : ℕ) (q : Position) → look x.circuit n ≡ Some (leaf_e (input_leaf q)) → input_value said q ≡ input_value meant q
        at n (Main c) h = ap lift (stored_main main v.main mc main_inside c)
        at n (Aux c) h = stored_aux aux v.aux ac (length x.aux) v.aux_count aux_inside c
        at n (NextMain c) h = ap (λ (t : List ℕ). lift (get_or t c 0)) (next_main_lem (dual n (NextMain c) refl h))
        at n (NextAux c) h = ap (λ (t : List ℕ). triple_at t c) (next_aux_lem (dual n (NextAux c) refl h))

    -- so evaluation answers the values under it
    pub evaluates_meant : (m₀ roots : List ℕ) (i : ℕ) → i < used x.circuit → evaluates mc ac m₀ roots x main aux challenges v.main v.aux i ≡ accepted (value meant (tree x.circuit i)) tt
    evaluates_meant m₀ roots i h =
        evaluates_to x.circuit (sets main mc v.main) (sets aux (3 * ac) v.aux) challenges valid (wide_stored x.circuit main aux challenges mc (3 * ac) (length x.main) (length x.aux) wide v) i h
        ∙ ap (λ (t : Triple). accepted {L = Unit {0}} t tt) (value_agrees x.circuit (valid_sound x.circuit valid) said meant agrees i h)

  -- the original's nodes read no further
  leaf-reads : (i : ℕ) (e : Expression) → look m i ≡ Some (expr_of e) → reads_beyond m main aux challenges e ≡ false
  unfolding columns_lent
  leaf-reads i (Base w) h = refl
  leaf-reads i (Extension t) h = refl
  leaf-reads i (Challenge k) h = read_after i (Challenge k) (left.leaves i _ h)
  leaf-reads i (Operation o l r) h = refl
  leaf-reads i (Input q) h = rw left.row at (read_after i (Input q) (left.leaves i _ h))

  pub wide_before : Wide m main aux challenges
  wide_before = record {
    lengths = rw left.row at wide.lengths;
    reads = λ i h. leaf-reads i (expression_at m i) (look_in m i h);
    words = wide.words;
  }

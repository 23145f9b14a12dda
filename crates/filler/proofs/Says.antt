-- The filled row says an assignment: its old cells and the next row's are as lent, and each new cell holds its expression's value. Assumes nothing.
use Rattle.std.specs.Prelude.{if◌then◌else◌, Some}
use Prim.Native.Nat.{ℕ, ◌+◌, ◌-◌, ◌*◌, ◌/◌, ◌<◌}
use mathlib.Core.Path.{◌≡◌, refl, sym, ap, ◌∙◌}
use mathlib.Core.Bool.{Bool, true, false}
use mathlib.Core.List.{List}
use native.Mathlib.Omega.{arith}
use lib.Dec.{ltb}
use lib.ListN.{length, get_or}
use lib.Seq.{get_or-drop}
use borrow.Author.Tests.{ltb-true}
use Rattle.arithmetic.specs.Extension.{lift}
use Rattle.layout.specs.declared.node.Position.{Position}
use Rattle.layout.specs.declared.node.Position.TheVariants.{Main, Aux, NextMain, NextAux}
use Rattle.layout.specs.declared.node.Expression.TheVariants.{Input}
use Rattle.layout.specs.Words.{row_kind, used, expression_at, is_main, is_next}
use Rattle.layout.specs.Tree.{tree}
use Rattle.circuit.specs.Rank.{at}
use Rattle.reading.specs.Readings.{Assignment, input_value, value}
use Rattle.reading.specs.Calls.{triple_at, next_row, assigned}
use Rattle.filling.specs.Calls.{main_filled, row_filled}
use Rattle.filling.specs.Promise.{Holds}
use Rattle.filling.proofs.Values.{fair, dual}
use Rattle.filling.proofs.Tables.{sets_before, sets_next}
use Rattle.filling.proofs.Fills.{Written, written_main, written_aux}
use Rattle.filling.proofs.Holds.{Fitting, final, row-holds}
use Rattle.fillable.specs.Targets.{Targets}
use Rattle.filler.specs.declared.plan.Shape.{Shape}
use Rattle.filler.specs.declared.plan.Source.TheVariants.{Word, Wide, Item}
use Rattle.filler.specs.Planning.{source_of, Says}
use Rattle.filler.specs.Filling.{shape_of}
use Rattle.filler.proofs.Instructions.{ItemOf, main_item, aux_item, item_input}

module _ (main_count aux_count row wide : ℕ) (m mains auxs challenges targets main aux : List ℕ) (fit : Fitting main_count aux_count m mains auxs challenges main aux) (found : Targets main_count aux_count m mains auxs targets) (main_long : length main ≡ row_kind m * row) (aux_long : length aux ≡ row_kind m * (3 * wide)) where
  abbrev filled : List ℕ × List ℕ
  filled = row_filled main_count aux_count m mains auxs challenges (main, aux)

  pub main_written : Written main main_count (length mains) filled.0
  unfolding row_filled
  main_written = written_main m challenges aux mains main_count main

  pub aux_written : Written aux (3 * aux_count) (3 * length auxs) filled.1
  unfolding row_filled
  aux_written = written_aux m challenges (main_filled m aux challenges main_count main mains) auxs aux_count aux

  holds : Holds main_count aux_count m mains auxs challenges filled.0 filled.1
  holds = row-holds main_count aux_count m mains auxs challenges main aux fit

  -- the new cells
  pub new_main_lem : (k : ℕ) → k < length mains → lift (get_or filled.0 (main_count + k) 0) ≡ value (final main_count aux_count m mains auxs challenges main aux) (tree m (at targets k))
  new_main_lem k l =
      let (e, is, v) = holds.main_cells k l in
      let same : e ≡ at targets k = let h : Some e ≡ Some (at targets k) = sym is ∙ found.of_main k l in cc in
      v ∙ ap (λ (j : ℕ). value (final main_count aux_count m mains auxs challenges main aux) (tree m j)) same

  pub new_aux_lem : (k : ℕ) → k < length auxs → triple_at filled.1 (aux_count + k) ≡ value (final main_count aux_count m mains auxs challenges main aux) (tree m (at targets (length mains + k)))
  new_aux_lem k l =
      let (e, is, v) = holds.aux_cells k l in
      let same : e ≡ at targets (length mains + k) = let h : Some e ≡ Some (at targets (length mains + k)) = sym is ∙ found.of_aux k l in cc in
      v ∙ ap (λ (j : ℕ). value (final main_count aux_count m mains auxs challenges main aux) (tree m j)) same

  -- the old ones
  old_main_lem : (c : ℕ) → c < main_count → get_or filled.0 c 0 ≡ get_or main c 0
  old_main_lem c h = ap (λ (l : List ℕ). get_or l c 0) main_written.is ∙ sets_before main_written.words main main_count c h

  old_aux_lem : (c : ℕ) → c < aux_count → triple_at filled.1 c ≡ triple_at aux c
  unfolding triple_at
  old_aux_lem c h = rw (aux_written.is, sets_before aux_written.words aux (3 * aux_count) (3 * c) (omega arith), sets_before aux_written.words aux (3 * aux_count) (3 * c + 1) (omega arith), sets_before aux_written.words aux (3 * aux_count) (3 * c + 2) (omega arith))

  -- the next row's
  next_main_lem : row_kind m ≡ 2 → (c : ℕ) → get_or (next_row filled.0) c 0 ≡ get_or main (row + c) 0
  unfolding next_row
  next_main_lem d c =
      let n = main_written.number in
      let r = fit.main_next d in
      let half : length main / 2 ≡ row = let e : length main ≡ 2 * row = rw d at main_long in omega arith in
      ap (λ (l : List ℕ). get_or (next_row l) c 0) main_written.is ∙ ap (λ (l : List ℕ). get_or l c 0) (sets_next main_written.words main main_count (omega arith)) ∙ get_or-drop (length main / 2) main c 0 ∙ ap (λ (k : ℕ). get_or main (k + c) 0) half

  next_aux_lem : row_kind m ≡ 2 → (c : ℕ) → triple_at (next_row filled.1) c ≡ triple_at aux (wide + c)
  unfolding next_row triple_at
  next_aux_lem d c =
      let n = aux_written.number in
      let r = fit.aux_next d in
      let half : length aux / 2 ≡ 3 * wide = let e : length aux ≡ 2 * (3 * wide) = rw d at aux_long in omega arith in
      let e₀ : length aux / 2 + 3 * c ≡ 3 * (wide + c) = omega arith in
      let e₁ : length aux / 2 + (3 * c + 1) ≡ 3 * (wide + c) + 1 = omega arith in
      let e₂ : length aux / 2 + (3 * c + 2) ≡ 3 * (wide + c) + 2 = omega arith in
      ap (λ (l : List ℕ). triple_at (next_row l) c) aux_written.is ∙ ap (λ (l : List ℕ). triple_at l c) (sets_next aux_written.words aux (3 * aux_count) (omega arith))
      ∙ rw (get_or-drop (length aux / 2) aux (3 * c) 0, get_or-drop (length aux / 2) aux (3 * c + 1) 0, get_or-drop (length aux / 2) aux (3 * c + 2) 0, e₀, e₁, e₂)

  -- a next-row input is one of a dual-row circuit
  two_rows : (i : ℕ) (y : Position) → i < used m → expression_at m i ≡ Input y → is_next y ≡ true → row_kind m ≡ 2
  two_rows i y h e n = dual m fit.valid y n (fair m fit.valid i h (Input y) e)

  abbrev shape : Shape
  shape = shape_of main_count aux_count mains auxs row wide

  abbrev a : Assignment
  a = final main_count aux_count m mains auxs challenges main aux

  cell_of : (i c : ℕ) (y : Position) → i < used m → expression_at m i ≡ Input y → source_of shape (Input y) ≡ Word c → input_value a y ≡ lift (at main c)
  unfolding assigned
  cell_of i c (Main k) h e src = go (ltb k main_count) refl src
    where
      go : (b : Bool) → ltb k main_count ≡ b → (if b then Word k else Item (k - main_count)) ≡ Word c → lift (get_or filled.0 k 0) ≡ lift (at main c)
      go true p q = let z : k ≡ c = cc in ap lift (old_main_lem k (ltb-true k main_count p) ∙ ap (at main) z)
      go false p q = let z : ◌≡◌ {A = ℕ} 0 1 = cc in absurd (omega arith)
  cell_of i c (Aux k) h e src = go (ltb k aux_count) src
    where
      go : (b : Bool) → (if b then Wide k else Item (length mains + (k - aux_count))) ≡ Word c → triple_at filled.1 k ≡ lift (at main c)
      go true q = let z : ◌≡◌ {A = ℕ} 0 1 = cc in absurd (omega arith)
      go false q = let z : ◌≡◌ {A = ℕ} 0 1 = cc in absurd (omega arith)
  cell_of i c (NextMain k) h e src = let z : row + k ≡ c = cc in ap lift (next_main_lem (two_rows i (NextMain k) h e refl) k ∙ ap (at main) z)
  cell_of i c (NextAux k) h e src = let z : ◌≡◌ {A = ℕ} 0 1 = cc in absurd (omega arith)

  wide_of : (i c : ℕ) (y : Position) → i < used m → expression_at m i ≡ Input y → source_of shape (Input y) ≡ Wide c → input_value a y ≡ triple_at aux c
  unfolding assigned
  wide_of i c (Main k) h e src = go (ltb k main_count) src
    where
      go : (b : Bool) → (if b then Word k else Item (k - main_count)) ≡ Wide c → lift (get_or filled.0 k 0) ≡ triple_at aux c
      go true q = let z : ◌≡◌ {A = ℕ} 0 1 = cc in absurd (omega arith)
      go false q = let z : ◌≡◌ {A = ℕ} 0 1 = cc in absurd (omega arith)
  wide_of i c (Aux k) h e src = go (ltb k aux_count) refl src
    where
      go : (b : Bool) → ltb k aux_count ≡ b → (if b then Wide k else Item (length mains + (k - aux_count))) ≡ Wide c → triple_at filled.1 k ≡ triple_at aux c
      go true p q = let z : k ≡ c = cc in old_aux_lem k (ltb-true k aux_count p) ∙ ap (triple_at aux) z
      go false p q = let z : ◌≡◌ {A = ℕ} 0 1 = cc in absurd (omega arith)
  wide_of i c (NextMain k) h e src = let z : ◌≡◌ {A = ℕ} 0 1 = cc in absurd (omega arith)
  wide_of i c (NextAux k) h e src = let z : wide + k ≡ c = cc in next_aux_lem (two_rows i (NextAux k) h e refl) k ∙ ap (triple_at aux) z

  item_of : (i k : ℕ) (y : Position) → i < used m → expression_at m i ≡ Input y → source_of shape (Input y) ≡ Item k → k < length mains + length auxs → (is_main y ≡ true → k < length mains) → input_value a y ≡ value a (tree m (at targets k))
  unfolding assigned
  item_of i k y h e src few fresh = go (item_input shape (Input y) k src)
    where
      go : ItemOf shape k (Input y) → input_value a y ≡ value a (tree m (at targets k))
      go (main_item c f l q) =
          let z : y ≡ Main c = cc in
          let low : k < length mains = fresh (ap is_main z) in
          let at_c : c ≡ main_count + k = omega arith in
          ap (input_value a) z ∙ ap (λ (j : ℕ). lift (get_or filled.0 j 0)) at_c ∙ new_main_lem k low
      go (aux_item c f l q) =
          let z : y ≡ Aux c = cc in
          let j : ℕ = c - aux_count in
          let at_c : c ≡ aux_count + j = omega arith in
          ap (input_value a) z ∙ ap (triple_at filled.1) at_c ∙ new_aux_lem j (omega arith) ∙ ap (λ (x : ℕ). value a (tree m (at targets x))) (sym q)

  pub row_says : Says shape m targets challenges main aux a
  unfolding assigned
  row_says = record { cell = cell_of; wide = wide_of; item = item_of; given = λ k. refl }

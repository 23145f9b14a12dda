-- Which columns are read where so many items are filled: none beyond the row, and no new one that is not filled. Assumes nothing.
use Rattle.std.specs.Prelude.{if◌then◌else◌}
use Prim.Native.Nat.{ℕ, ◌+◌, ◌-◌, ◌*◌, ◌<◌, ◌≤◌, min}
use mathlib.Core.Path.{◌≡◌, refl, sym, ap, ◌∙◌}
use mathlib.Core.Logic.{◌⊎◌, ⊎_elim}
use mathlib.Core.Bool.{Bool, true, false, ◌||◌}
use mathlib.Core.List.{List, [], ◌∷◌}
use native.Mathlib.Omega.{arith}
use lib.Dec.{ltb}
use borrow.Author.Tests.{ltb-true, leb-false, lt-leb}
use Rattle.layout.specs.declared.node.Position.{Position}
use Rattle.layout.specs.declared.node.Position.TheVariants.{Main, Aux, NextMain, NextAux}
use Rattle.layout.specs.declared.node.Expression.{Expression}
use Rattle.layout.specs.declared.node.Expression.TheVariants.{Base, Extension, Challenge, Operation, Input}
use Rattle.layout.specs.Lists.{any}
use Rattle.layout.specs.Words.{row_kind, used, expression_at, is_main, is_next}
use Rattle.layout.specs.Tree.{tree_over, tree}
use Rattle.layout.specs.NotCircuit.{not_circuit}
use Rattle.layout.proofs.Tests.{neither, or-false, below_or}
use Rattle.layout.proofs.Lists.{clash}
use Rattle.layout.proofs.Trees.{tree_fixed}
use Rattle.walking.specs.Paths.{walk}
use Rattle.reading.specs.Readings.{is_base}
use Rattle.circuit.specs.Rank.{at}
use Rattle.filling.specs.Constraints.{unfilled, reads_unfilled}
use Rattle.filling.specs.Refusals.{beyond}
use Rattle.filling.proofs.Values.{fair, dual}
use Rattle.filling.proofs.Accepts.{kinds}
use Rattle.filler.specs.declared.plan.Shape.{Shape}
use Rattle.filler.specs.declared.plan.Source.TheVariants.{Word, Wide, Item}
use Rattle.filler.specs.Planning.{source_of}
use Rattle.filler.specs.Ordering.{Targeted}
use Rattle.filler.specs.Ranking.{unread}
use Rattle.filler.proofs.Instructions.{word_input, wide_input, ItemOf, main_item, aux_item, item_input}

-- THE TEST

-- neither of two tests passes
any_neither : (f g : ℕ → Bool) (xs : List ℕ) → any f xs ≡ false → any g xs ≡ false → any (λ i. f i || g i) xs ≡ false
unfolding any
any_neither f g [] h k = refl
any_neither f g (x ∷ xs) h k =
    let (a, b) = neither (f x) (any f xs) h in
    let (p, q) = neither (g x) (any g xs) k in
    or-false (f x || g x) (any (λ i. f i || g i) xs) (or-false (f x) (g x) a p) (any_neither f g xs b q)

-- what is filled stays filled
unfilled_later : (a b a' b' : ℕ) (e : Expression) → a ≤ a' → b ≤ b' → unfilled a b e ≡ false → unfilled a' b' e ≡ false
unfilled_later a b a' b' (Base w) l k h = refl
unfilled_later a b a' b' (Extension x) l k h = refl
unfilled_later a b a' b' (Challenge j) l k h = refl
unfilled_later a b a' b' (Operation o i j) l k h = refl
unfilled_later a b a' b' (Input (Main c)) l k h = let u = leb-false a c h in lt-leb a' c (omega arith)
unfilled_later a b a' b' (Input (Aux c)) l k h = let u = leb-false b c h in lt-leb b' c (omega arith)
unfilled_later a b a' b' (Input (NextMain c)) l k h = refl
unfilled_later a b a' b' (Input (NextAux c)) l k h = refl

module _ (s : Shape) (c k : ℕ) (e : Expression) (clear : unread s c k e ≡ false) where
  parts : (unfilled (s.main + min k s.fresh) (s.aux + (k - s.fresh)) e ≡ false) × (beyond s.row s.wide c e ≡ false)
  unfolding unread
  parts = neither (unfilled (s.main + min k s.fresh) (s.aux + (k - s.fresh)) e) (beyond s.row s.wide c e) clear

  -- no column that is read lies beyond the row
  pub inside_row : beyond s.row s.wide c e ≡ false
  inside_row = parts.1

  pub unread_later : unread s c (k + 1) e ≡ false
  unfolding unread
  unread_later =
      or-false (unfilled (s.main + min (k + 1) s.fresh) (s.aux + (k + 1 - s.fresh)) e) (beyond s.row s.wide c e)
      (unfilled_later (s.main + min k s.fresh) (s.aux + (k - s.fresh)) _ _ e (omega arith) (omega arith) parts.0)
      parts.1

  filled : (x : Expression) → e ≡ x → unfilled (s.main + min k s.fresh) (s.aux + (k - s.fresh)) x ≡ false
  filled x q = sym (ap (unfilled (s.main + min k s.fresh) (s.aux + (k - s.fresh))) q) ∙ parts.0

  -- a new column that is read is filled
  pub item_filled : (i : ℕ) → source_of s e ≡ Item i → i < k
  item_filled i h = go (item_input s e i h)
    where
      go : ItemOf s i e → i < k
      go (main_item x q l p) = let u = leb-false (s.main + min k s.fresh) x (filled (Input (Main x)) q) in omega arith
      go (aux_item x q l p) = let u = leb-false (s.aux + (k - s.fresh)) x (filled (Input (Aux x)) q) in omega arith

  -- a main column that is read is an old one, or has an expression
  main_fresh : (x : ℕ) → e ≡ Input (Main x) → x < s.main + s.fresh
  main_fresh x q = let u = leb-false (s.main + min k s.fresh) x (filled (Input (Main x)) q) in omega arith

-- THE CELLS

in_row : (rows a c : ℕ) → (rows ≡ 1) ⊎ (rows ≡ 2) → c < a → c < rows * a
in_row rows a c d l = ⊎_elim (λ e. rw e (omega arith)) (λ e. rw e (omega arith)) d

in_next : (rows a c : ℕ) → rows ≡ 2 → c < a → a + c < rows * a
in_next rows a c e l = rw e (omega arith)

module _ (s : Shape) (c : ℕ) (m : List ℕ) (valid : not_circuit m ≡ false) (i : ℕ) (here : i < used m) where
  next_dual : (q : Position) → is_next q ≡ true → expression_at m i ≡ Input q → row_kind m ≡ 2
  next_dual q n e = dual m valid q n (fair m valid i here (Input q) e)

  module _ (x : ℕ) (clear : beyond s.row s.wide c (expression_at m i) ≡ false) where
    within : (q : Position) → expression_at m i ≡ Input q → beyond s.row s.wide c (Input q) ≡ false
    within q e = sym (ap (beyond s.row s.wide c) e) ∙ clear

    pub word_within : s.main ≤ s.row → source_of s (expression_at m i) ≡ Word x → x < row_kind m * s.row
    word_within f h = let y = word_input s (expression_at m i) x h in go y.position y.is y.kind (sym (ap (source_of s) y.is) ∙ h)
      where
        old : (y : ℕ) (b : Bool) → ltb y s.main ≡ b → (if b then Word y else Item (y - s.main)) ≡ Word x → (x ≡ y) × (y < s.main)
        old y true p e = (cc, ltb-true y s.main p)
        old y false p e = let z : ◌≡◌ {A = ℕ} 0 1 = cc in absurd (omega arith)

        go : (q : Position) → expression_at m i ≡ Input q → is_main q ≡ true → source_of s (Input q) ≡ Word x → x < row_kind m * s.row
        go (Main y) e n p = let (a, b) = old y (ltb y s.main) refl p in in_row (row_kind m) s.row x (kinds m valid) (omega arith)
        go (Aux y) e n p = clash false n refl
        go (NextMain y) e n p = let a : x ≡ s.row + y = cc in rw a (in_next (row_kind m) s.row y (next_dual (NextMain y) refl e) (leb-false s.row y (within (NextMain y) e)))
        go (NextAux y) e n p = clash false n refl

    pub wide_within : s.aux ≤ s.wide → source_of s (expression_at m i) ≡ Wide x → x < row_kind m * s.wide
    wide_within f h = let y = wide_input s (expression_at m i) x h in go y.position y.is y.kind (sym (ap (source_of s) y.is) ∙ h)
      where
        old : (y : ℕ) (b : Bool) → ltb y s.aux ≡ b → (if b then Wide y else Item (s.fresh + (y - s.aux))) ≡ Wide x → (x ≡ y) × (y < s.aux)
        old y true p e = (cc, ltb-true y s.aux p)
        old y false p e = let z : ◌≡◌ {A = ℕ} 0 1 = cc in absurd (omega arith)

        go : (q : Position) → expression_at m i ≡ Input q → is_main q ≡ false → source_of s (Input q) ≡ Wide x → x < row_kind m * s.wide
        go (Main y) e n p = clash true refl n
        go (Aux y) e n p = let (a, b) = old y (ltb y s.aux) refl p in in_row (row_kind m) s.wide x (kinds m valid) (omega arith)
        go (NextMain y) e n p = clash true refl n
        go (NextAux y) e n p = let a : x ≡ s.wide + y = cc in rw a (in_next (row_kind m) s.wide y (next_dual (NextAux y) refl e) (leb-false s.wide y (within (NextAux y) e)))

  -- of the inputs of new columns, a main one passes the base test
  pub base_fresh : (k j : ℕ) → unread s c k (expression_at m i) ≡ false → source_of s (expression_at m i) ≡ Item j → is_base (tree m i) ≡ true → j < s.fresh
  unfolding is_base
  base_fresh k j u h b = go (item_input s (expression_at m i) j h)
    where
      go : ItemOf s j (expression_at m i) → j < s.fresh
      go (main_item x q l p) = let f = main_fresh s c k (expression_at m i) u x q in omega arith
      go (aux_item x q l p) = clash (is_base (tree m i)) b (ap is_base (tree_fixed m valid i here) ∙ ap (λ (e : Expression). is_base (tree_over i e (tree m))) q)

-- THE EXPRESSIONS

-- an item's expression has none of what it may not read
pub target_clear : (s : Shape) (c : ℕ) (m targets : List ℕ) → Targeted s c m targets → (k : ℕ) → k < s.items → any (λ i. unread s c k (expression_at m i)) (walk (tree m (at targets k))) ≡ false
unfolding unread reads_unfilled
target_clear s c m targets t k l =
    any_neither (λ i. unfilled (s.main + min k s.fresh) (s.aux + (k - s.fresh)) (expression_at m i)) (λ i. beyond s.row s.wide c (expression_at m i)) (walk (tree m (at targets k)))
    (⊎_elim main aux (below_or k s.fresh))
    (t.inside k l)
  where
    main : k < s.fresh → any (λ i. unfilled (s.main + min k s.fresh) (s.aux + (k - s.fresh)) (expression_at m i)) (walk (tree m (at targets k))) ≡ false
    main h =
        let a : min k s.fresh ≡ k = omega arith in
        let b : s.aux + (k - s.fresh) ≡ s.aux = omega arith in
        rw (a, b) (t.main-reads k h)

    aux : s.fresh ≤ k → any (λ i. unfilled (s.main + min k s.fresh) (s.aux + (k - s.fresh)) (expression_at m i)) (walk (tree m (at targets k))) ≡ false
    aux h =
        let a : min k s.fresh ≡ s.fresh = omega arith in
        rw a (t.aux-reads k h l)

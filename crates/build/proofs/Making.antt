-- Making a node keeps a circuit a circuit: its operands are old, so no cycle comes about, and old nodes say what they said. Assumes nothing.
use Prim.Native.Nat.{ℕ, zero, suc, ◌+◌, ◌-◌, ◌<◌, ◌≤◌}
use mathlib.Core.Path.{◌≡◌, refl, sym, ap, ◌∙◌}
use mathlib.Core.Logic.{◌⊎◌, inl, inr, ⊎_elim, ◌≢◌}
use mathlib.Core.Bool.{Bool, false, ◌||◌, not}
use mathlib.Core.List.{List, [], ◌∷◌, ◌++◌}
use native.Mathlib.Omega.{arith}
use lib.Dec.{ltb, leb, eqb}
use lib.ListN.{length, get_or, take, drop, length-append, get_or-append}
use lib.Seq.{sets, sets-eq, length-take-le, get_or-set_same, get_or-set_other, get_or-take, get_or-drop, get_or-append-add}
use borrow.Author.Tests.{le-ltb, lt-leb, leb-false}
use Rattle.layout.specs.declared.node.Op.{Op}
use Rattle.layout.specs.declared.node.Op.TheVariants.{Add, Multiply}
use Rattle.layout.specs.declared.node.Position.TheVariants.{Main, Aux, NextMain, NextAux}
use Rattle.layout.specs.declared.node.Expression.{Expression}
use Rattle.layout.specs.declared.node.Expression.TheVariants.{Base, Extension, Challenge, Operation, Input}
use Rattle.layout.specs.declared.node.Node.{Node}
use Rattle.layout.specs.Words.{row_kind, used, limit, offset, word, node_at, expression_at, encode, made}
use Rattle.layout.specs.NotCircuit.{bad_row, bad_expression, bad_node, bad_header, either_operand, goes_on, cyclic, not_circuit}
use Rattle.layout.proofs.Tests.{neither, or-false, last_or, any_none}
use Rattle.circuit.proofs.Places.{encode_length, fresh, made_stores, made_length, made_limit, made_row, made_here, made_other}
use Rattle.layout.proofs.Valid.{place_fits, valid_header, valid_node, valid_ends, valid_operands}

-- one node more, in the lent words or beyond them
pub made_one : (m : List ℕ) (e : Expression) → used (made m e) ≡ used m + 1
unfolding made
made_one m e =
    get_or-set_same body 1 (used m + 1) 0
    (omega (arith, encode_length e, length-append head (drop (offset (used m + 1)) m), length-append (take (offset (used m)) m ++ encode e) (1 ∷ 0 ∷ []), length-append (take (offset (used m)) m) (encode e)))
  where
    head : List ℕ
    head = (take (offset (used m)) m ++ encode e) ++ (1 ∷ 0 ∷ [])

    body : List ℕ
    body = head ++ drop (offset (used m + 1)) m

-- the words of a circuit with a node more
module _ (m : List ℕ) (e : Expression) (room : used m < limit m) where
  fits : offset (used m) + length (fresh e) ≤ length m
  fits = omega (arith, place_fits m (used m) room, length-append (encode e) (1 ∷ 0 ∷ []), encode_length e)

  stored : (j : ℕ) → j ≢ 1 → get_or (made m e) j 0 ≡ get_or (take (offset (used m)) m ++ fresh e ++ drop (offset (used m) + length (fresh e)) m) j 0
  stored j n = rw (made_stores m e room) (get_or-set_other (sets m (offset (used m)) (fresh e)) 1 j (used m + 1) 0 n ∙ rw (sets-eq (fresh e) m (offset (used m)) fits))

  before : List ℕ
  before = take (offset (used m)) m

  before_length : length before ≡ offset (used m)
  unfolding before
  before_length = length-take-le (offset (used m)) m (omega (arith, fits))

  head_length : length (before ++ fresh e) ≡ offset (used m) + 6
  head_length = omega (arith, before_length, length-append before (fresh e), length-append (encode e) (1 ∷ 0 ∷ []), encode_length e)

  -- those of other places, and of none
  pub made_word : (j : ℕ) → j ≢ 1 → ((j < offset (used m)) ⊎ (offset (used m) + 6 ≤ j)) → get_or (made m e) j 0 ≡ get_or m j 0
  unfolding before
  made_word j n (inl h) =
      stored j n
      ∙ get_or-append (before ++ fresh e) (drop (offset (used m) + length (fresh e)) m) 0 j (omega (arith, head_length))
      ∙ get_or-append before (fresh e) 0 j (omega (arith, before_length))
      ∙ get_or-take (offset (used m)) m j 0 h
  made_word j n (inr h) =
      let k : ℕ = j - length (before ++ fresh e) in
      let p : length (before ++ fresh e) + k ≡ j = omega (arith, head_length) in
      let q : offset (used m) + length (fresh e) + k ≡ j = omega (arith, head_length, length-append (encode e) (1 ∷ 0 ∷ []), encode_length e) in
      stored j n
      ∙ ap (λ (x : ℕ). get_or ((before ++ fresh e) ++ drop (offset (used m) + length (fresh e)) m) x 0) (sym p)
      ∙ get_or-append-add (before ++ fresh e) (drop (offset (used m) + length (fresh e)) m) k 0
      ∙ get_or-drop (offset (used m) + length (fresh e)) m k 0
      ∙ ap (λ (x : ℕ). get_or m x 0) q

  -- and of its own
  new_word : (k : ℕ) → k < 6 → word (made m e) (used m) k ≡ get_or (fresh e) k 0
  unfolding before
  new_word k h =
      stored (offset (used m) + k) (omega arith)
      ∙ get_or-append (before ++ fresh e) (drop (offset (used m) + length (fresh e)) m) 0 (offset (used m) + k) (omega (arith, head_length))
      ∙ ap (λ (x : ℕ). get_or (before ++ fresh e) (x + k) 0) (sym before_length)
      ∙ get_or-append-add before (fresh e) k 0

-- a kind, and a mark, that are known
fresh_known : (e : Expression) → (get_or (fresh e) 0 0 ≤ 8) × (get_or (fresh e) 4 0 ≤ 1)
unfolding encode
fresh_known (Base w) = (omega arith, omega arith)
fresh_known (Extension x) = (omega arith, omega arith)
fresh_known (Challenge k) = (omega arith, omega arith)
fresh_known (Operation Add l r) = (omega arith, omega arith)
fresh_known (Operation Multiply l r) = (omega arith, omega arith)
fresh_known (Input (Main c)) = (omega arith, omega arith)
fresh_known (Input (Aux c)) = (omega arith, omega arith)
fresh_known (Input (NextMain c)) = (omega arith, omega arith)
fresh_known (Input (NextAux c)) = (omega arith, omega arith)

-- what is good stays so where there are more nodes and the row kind is the same
good_more : (m m' : List ℕ) (e : Expression) → row_kind m' ≡ row_kind m → used m ≤ used m' → bad_expression m e ≡ false → bad_expression m' e ≡ false
unfolding bad_expression bad_row
good_more m m' (Base w) r u h = h
good_more m m' (Extension x) r u h = h
good_more m m' (Challenge k) r u h = h
good_more m m' (Operation o a b) r u h =
    let (p, q) = neither (leb (used m) a) (leb (used m) b) h in
    let x = leb-false (used m) a p in
    let y = leb-false (used m) b q in
    or-false (leb (used m') a) (leb (used m') b) (lt-leb (used m') a (omega arith)) (lt-leb (used m') b (omega arith))
good_more m m' (Input q) r u h = rw r h

-- a test on operands that agrees with another on those that an expression has
either_same : (p q : ℕ → Bool) (e : Expression) → ((o : Op) (l r : ℕ) → e ≡ Operation o l r → (p l ≡ q l) × (p r ≡ q r)) → either_operand p e ≡ either_operand q e
either_same p q (Base w) f = refl
either_same p q (Extension x) f = refl
either_same p q (Challenge k) f = refl
either_same p q (Operation o l r) f = let (a, b) = f o l r refl in rw (a, b)
either_same p q (Input x) f = refl

-- the operands of a good expression are nodes
pub good_operands : (m : List ℕ) (o : Op) (l r : ℕ) → bad_expression m (Operation o l r) ≡ false → (l < used m) × (r < used m)
unfolding bad_expression
good_operands m o l r h =
    let (p, q) = neither (leb (used m) l) (leb (used m) r) h in
    (leb-false (used m) l p, leb-false (used m) r q)

-- more levels than enough
more_levels : (m : List ℕ) (n i : ℕ) → goes_on m n i ≡ false → goes_on m (suc n) i ≡ false
unfolding goes_on
more_levels m zero i h = absurd (let z : ◌≡◌ {A = ℕ} 0 1 = cc in omega arith)
more_levels m (suc n) i h = go (expression_at m i) h (λ l. more_levels m n l)
  where
    go : (e : Expression) → either_operand (goes_on m n) e ≡ false → ((l : ℕ) → goes_on m n l ≡ false → goes_on m (suc n) l ≡ false) → either_operand (goes_on m (suc n)) e ≡ false
    go (Base w) h f = refl
    go (Extension x) h f = refl
    go (Challenge k) h f = refl
    go (Operation o l r) h f = let (a, b) = neither (goes_on m n l) (goes_on m n r) h in or-false (goes_on m (suc n) l) (goes_on m (suc n) r) (f l a) (f r b)
    go (Input q) h f = refl

module _ (m : List ℕ) (e : Expression) (valid : not_circuit m ≡ false) (good : bad_expression m e ≡ false) (room : used m < limit m) where
  pub old_node : (i : ℕ) → i < used m → node_at (made m e) i ≡ node_at m i
  old_node i l = made_other m e room i (omega arith)

  old_expression : (i : ℕ) → i < used m → expression_at (made m e) i ≡ expression_at m i
  old_expression i l = ap (λ (x : Node). x.expression) (old_node i l)

  new_expression : expression_at (made m e) (used m) ≡ e
  new_expression = ap (λ (x : Node). x.expression) (made_here m e room)

  good_node : (i : ℕ) → i < used (made m e) → bad_node (made m e) i ≡ false
  unfolding bad_node
  good_node i l = ⊎_elim new old (last_or i (used m) (omega (arith, made_one m e)))
    where
      made_good : (x : Expression) → bad_expression m x ≡ false → bad_expression (made m e) x ≡ false
      made_good x h = good_more m (made m e) x (made_row m e room) (omega (arith, made_one m e)) h

      new : i ≡ used m → bad_node (made m e) i ≡ false
      new p =
          let (k, n) = fresh_known e in
          rw (p, new_word m e room 0 (omega arith), new_word m e room 4 (omega arith), le-ltb 8 (get_or (fresh e) 0 0) k, le-ltb 1 (get_or (fresh e) 4 0) n, new_expression) (made_good e good)

      old : i < used m → bad_node (made m e) i ≡ false
      old l =
          let (a, h) = neither (ltb 8 (word m i 0)) (ltb 1 (word m i 4) || bad_expression m (expression_at m i)) (valid_node m valid i l) in
          let (b, g) = neither (ltb 1 (word m i 4)) (bad_expression m (expression_at m i)) h in
          rw (made_word m e room (offset i + 0) (omega arith) (inl (omega arith)), made_word m e room (offset i + 4) (omega arith) (inl (omega arith)), a, b, old_expression i l) (made_good (expression_at m i) g)

  old_path : (n i : ℕ) → i < used m → goes_on (made m e) n i ≡ goes_on m n i
  unfolding goes_on
  old_path zero i l = refl
  old_path (suc n) i l =
      ap (either_operand (goes_on (made m e) n)) (old_expression i l)
      ∙ either_same (goes_on (made m e) n) (goes_on m n) (expression_at m i)
      (λ o x y q. let (a, b) = valid_operands m valid i l o x y q in (old_path n x a, old_path n y b))

  path_ends : (i : ℕ) → i < used (made m e) → goes_on (made m e) (suc (used m)) i ≡ false
  unfolding goes_on
  path_ends i l = ⊎_elim new old (last_or i (used m) (omega (arith, made_one m e)))
    where
      old : i < used m → goes_on (made m e) (suc (used m)) i ≡ false
      old l = old_path (suc (used m)) i l ∙ more_levels m (used m) i (valid_ends m valid i l)

      over : (x : Expression) → bad_expression m x ≡ false → either_operand (goes_on (made m e) (used m)) x ≡ false
      over (Base w) h = refl
      over (Extension w) h = refl
      over (Challenge w) h = refl
      over (Operation o a b) h =
          let (x, y) = good_operands m o a b h in
          or-false (goes_on (made m e) (used m) a) (goes_on (made m e) (used m) b) (old_path (used m) a x ∙ valid_ends m valid a x) (old_path (used m) b y ∙ valid_ends m valid b y)
      over (Input w) h = refl

      new : i ≡ used m → goes_on (made m e) (suc (used m)) i ≡ false
      new p = rw (p, new_expression) (over e good)

  made_header : bad_header (made m e) ≡ false
  unfolding bad_header
  made_header =
      let (a, h) = neither (ltb (length m) 2) (not (eqb (row_kind m) 1 || eqb (row_kind m) 2) || ltb (limit m) (used m)) (valid_header m valid) in
      let (b, g) = neither (not (eqb (row_kind m) 1 || eqb (row_kind m) 2)) (ltb (limit m) (used m)) h in
      rw (made_length m e room, made_row m e room, made_limit m e room, a, b) (le-ltb (limit m) (used (made m e)) (omega (arith, made_one m e)))

  pub made_circuit : not_circuit (made m e) ≡ false
  unfolding not_circuit cyclic
  made_circuit =
      rw (made_header, any_none (bad_node (made m e)) (used (made m e)) good_node)
      (any_none (goes_on (made m e) (used (made m e))) (used (made m e)) (λ i l. rw (let q = made_one m e in let p : used (made m e) ≡ suc (used m) = omega arith in p) (path_ends i l)))

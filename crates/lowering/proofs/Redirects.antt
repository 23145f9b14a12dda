-- The redirect: what the words say afterwards. Assumes nothing.
use Rattle.std.specs.Prelude.{if◌then◌else◌, Some}
use Prim.Native.Nat.{ℕ, zero, suc, ◌+◌, ◌*◌, ◌≤◌, ◌<◌}
use mathlib.Core.Path.{◌≡◌, refl, sym, ◌∙◌, ap}
use mathlib.Core.Logic.{◌≢◌, ◌⊎◌, inl, inr}
use mathlib.Core.Bool.{Bool, true, false, ◌&&◌, ◌||◌}
use mathlib.Core.List.{List, [], ◌∷◌, ◌++◌}
use native.Mathlib.Decide.{ℕ_discrete}
use native.Mathlib.Omega.{arith}
use lib.ListN.{length, get_or, set, length-set}
use lib.Seq.{get_or-set_same, get_or-set_other}
use lib.Dec.{eqb}
use borrow.Author.Tests.{eqb-true, eq-eqb, ne_eqb}
use Rattle.arithmetic.specs.Extension.{triple}
use Rattle.layout.specs.Lists.{up_to, each}
use Rattle.layout.specs.declared.node.Position.TheVariants.{Main, Aux, NextMain, NextAux}
use Rattle.layout.specs.declared.node.Op.TheVariants.{Add, Multiply}
use Rattle.layout.specs.declared.node.Expression.{Expression}
use Rattle.layout.specs.declared.node.Expression.TheVariants.{Base, Extension, Challenge, Operation, Input}
use Rattle.layout.specs.declared.node.Node.{Node}
use Rattle.layout.specs.Words.{used, offset, word, decode, node_at, expression_at, registered}
use Rattle.layout.specs.Tree.{Leaf}
use Rattle.lowering.specs.Lowering.{renamed, rename_operands, redirected}
use Rattle.lowering.proofs.Shape.{Expr, leaf_e, op_e, expr_of, pick}
use Rattle.lowering.proofs.Steps.{Kept, redir_id, redir_e}
use Rattle.lowering.proofs.ListLaws.{clash, true_or_false}
use Rattle.lowering.proofs.Words.{look, look_in, look_lt, look_is}
use Rattle.lowering.proofs.Made.{node_same}
use Rattle.lowering.proofs.Count.{moved}

pub renamed_is : (s n i : ℕ) → renamed s n i ≡ redir_id s n i
renamed_is s n i = go (ℕ_discrete i s)
  where
    go : (d : Dec (i ≡ s)) → (if eqb i s then n else i) ≡ pick d n i
    go (yes p) = rw (eq-eqb i s p)
    go (no g) = rw (ne_eqb i s g)

-- the operands of a registered node are redirected, those of a loose one are not
abbrev pub redir_if : ℕ → ℕ → Bool → Expr → Expr
redir_if s n true e = redir_e s n e
redir_if s n false e = e

-- no operation: nothing to redirect
plain_stays : (s n k a b c : ℕ) → eqb k 3 ≡ false → eqb k 4 ≡ false → redir_e s n (expr_of (decode k a b c)) ≡ expr_of (decode k a b c)
unfolding decode
plain_stays s n k a b c h₃ h₄ = go (eqb k 0) (eqb k 1) (eqb k 2) (eqb k 3) (eqb k 4) (eqb k 5) (eqb k 6) (eqb k 7) h₃ h₄
  where
    go : (b0 b1 b2 b3 b4 b5 b6 b7 : Bool) → b3 ≡ false → b4 ≡ false
        → redir_e s n (expr_of (if b0 then Base a else if b1 then Extension (triple a b c) else if b2 then Challenge a else if b3 then Operation Add a b else if b4 then Operation Multiply a b else if b5 then Input (Main a) else if b6 then Input (Aux a) else if b7 then Input (NextMain a) else Input (NextAux a)))
        ≡ expr_of (if b0 then Base a else if b1 then Extension (triple a b c) else if b2 then Challenge a else if b3 then Operation Add a b else if b4 then Operation Multiply a b else if b5 then Input (Main a) else if b6 then Input (Aux a) else if b7 then Input (NextMain a) else Input (NextAux a))
    go true b1 b2 b3 b4 b5 b6 b7 p q = refl
    go false true b2 b3 b4 b5 b6 b7 p q = refl
    go false false true b3 b4 b5 b6 b7 p q = refl
    go false false false true b4 b5 b6 b7 p q = clash true refl p
    go false false false false true b5 b6 b7 p q = clash true refl q
    go false false false false false true b6 b7 p q = refl
    go false false false false false false true b7 p q = refl
    go false false false false false false false true p q = refl
    go false false false false false false false false p q = refl

operation_turns : (s n k a b c : ℕ) → (k ≡ 3) ⊎ (k ≡ 4) → expr_of (decode k (redir_id s n a) (redir_id s n b) c) ≡ redir_e s n (expr_of (decode k a b c))
unfolding decode
operation_turns s n k a b c (inl e) = rw e
operation_turns s n k a b c (inr e) = rw e

module _ (s n : ℕ) (x : List ℕ) (i : ℕ) where
  test : Bool
  test = registered x i && (eqb (word x i 0) 3 || eqb (word x i 0) 4)

  turned_words : List ℕ
  turned_words = set (set x (offset i + 1) (renamed s n (word x i 1))) (offset i + 2) (renamed s n (word x i 2))

  rename_yes : test ≡ true → rename_operands s n x i ≡ turned_words
  unfolding rename_operands test turned_words
  rename_yes h = rw h

  rename_no : test ≡ false → rename_operands s n x i ≡ x
  unfolding rename_operands test
  rename_no h = rw h

  turned_other : (j : ℕ) → j ≢ offset i + 1 → j ≢ offset i + 2 → get_or turned_words j 0 ≡ get_or x j 0
  unfolding turned_words
  turned_other j h k = get_or-set_other (set x (offset i + 1) (renamed s n (word x i 1))) (offset i + 2) j (renamed s n (word x i 2)) 0 k ∙ get_or-set_other x (offset i + 1) j (renamed s n (word x i 1)) 0 h

  rename_word : (j : ℕ) → j ≢ offset i + 1 → j ≢ offset i + 2 → get_or (rename_operands s n x i) j 0 ≡ get_or x j 0
  rename_word j h k = go (true_or_false test)
    where
      go : (test ≡ true) ⊎ (test ≡ false) → get_or (rename_operands s n x i) j 0 ≡ get_or x j 0
      go (inl p) = rw (rename_yes p) (turned_other j h k)
      go (inr p) = rw (rename_no p)

  pub rename_length : length (rename_operands s n x i) ≡ length x
  unfolding turned_words
  rename_length = go (true_or_false test)
    where
      go : (test ≡ true) ⊎ (test ≡ false) → length (rename_operands s n x i) ≡ length x
      go (inl p) = rw (rename_yes p) (length-set (set x (offset i + 1) (renamed s n (word x i 1))) (offset i + 2) (renamed s n (word x i 2)) ∙ length-set x (offset i + 1) (renamed s n (word x i 1)))
      go (inr p) = rw (rename_no p)

  pub rename_used : used (rename_operands s n x i) ≡ used x
  rename_used = rename_word 1 (λ h. omega arith) (λ h. omega arith)

  pub rename_other : (j : ℕ) → j ≢ i → node_at (rename_operands s n x i) j ≡ node_at x j
  rename_other j h = node_same x (rename_operands s n x i) j (λ k q. rename_word (offset j + k) (λ e. h (omega arith)) (λ e. h (omega arith)))

  pub rename_mark : registered (rename_operands s n x i) i ≡ registered x i
  unfolding node_at
  rename_mark = ap (λ (w : ℕ). eqb w 1) (rename_word (offset i + 4) (λ h. omega arith) (λ h. omega arith))

  pub rename_here : offset i + 6 ≤ length x → expr_of (expression_at (rename_operands s n x i) i) ≡ redir_if s n (registered x i) (expr_of (expression_at x i))
  unfolding turned_words test node_at
  rename_here room = go (true_or_false (registered x i)) (true_or_false (eqb (word x i 0) 3)) (true_or_false (eqb (word x i 0) 4))
    where
      y : List ℕ
      y = rename_operands s n x i

      first_operand : test ≡ true → word y i 1 ≡ redir_id s n (word x i 1)
      first_operand p =
          ap (λ (l : List ℕ). get_or l (offset i + 1) 0) (rename_yes p)
          ∙ (get_or-set_other (set x (offset i + 1) (renamed s n (word x i 1))) (offset i + 2) (offset i + 1) (renamed s n (word x i 2)) 0 (λ h. omega arith)
          ∙ get_or-set_same x (offset i + 1) (renamed s n (word x i 1)) 0 (omega arith))
          ∙ renamed_is s n (word x i 1)

      second_operand : test ≡ true → word y i 2 ≡ redir_id s n (word x i 2)
      second_operand p =
          ap (λ (l : List ℕ). get_or l (offset i + 2) 0) (rename_yes p)
          ∙ (get_or-set_same (set x (offset i + 1) (renamed s n (word x i 1))) (offset i + 2) (renamed s n (word x i 2)) 0 (omega (arith, length-set x (offset i + 1) (renamed s n (word x i 1)))))
          ∙ renamed_is s n (word x i 2)

      turn : test ≡ true → (word x i 0 ≡ 3) ⊎ (word x i 0 ≡ 4) → expr_of (expression_at y i) ≡ redir_e s n (expr_of (expression_at x i))
      turn p q =
          rw (rename_word (offset i + 0) (λ h. omega arith) (λ h. omega arith), first_operand p, second_operand p, rename_word (offset i + 3) (λ h. omega arith) (λ h. omega arith))
          (operation_turns s n (word x i 0) (word x i 1) (word x i 2) (word x i 3) q)

      go : (registered x i ≡ true) ⊎ (registered x i ≡ false) → (eqb (word x i 0) 3 ≡ true) ⊎ (eqb (word x i 0) 3 ≡ false) → (eqb (word x i 0) 4 ≡ true) ⊎ (eqb (word x i 0) 4 ≡ false)
          → expr_of (expression_at y i) ≡ redir_if s n (registered x i) (expr_of (expression_at x i))
      go (inr r) a b = rw (rename_no (rw (r)), r)
      go (inl r) (inl a) b = rw r (turn (rw (r, a)) (inl (eqb-true _ _ a)))
      go (inl r) (inr a) (inl b) = rw r (turn (rw (r, a, b)) (inr (eqb-true _ _ b)))
      go (inl r) (inr a) (inr b) = rw (rename_no (rw (r, a, b)), r) (sym (plain_stays s n (word x i 0) (word x i 1) (word x i 2) (word x i 3) a b))

pub each_snoc : {A B : Type 0} (f : A → B → A) (a : A) (xs : List B) (b : B) → each f a (xs ++ (b ∷ [])) ≡ f (each f a xs) b
unfolding each
each_snoc f a [] b = refl
each_snoc f a (x ∷ xs) b = each_snoc f (f a x) xs b

kept_self : (s n : ℕ) (e : Expr) → Kept s n e e
kept_self s n (leaf_e x) = refl
kept_self s n (op_e o l r) = (l, r, refl, inl refl, inl refl)

pub kept : (s n : ℕ) (b : Bool) (e : Expr) → Kept s n e (redir_if s n b e)
kept s n true (leaf_e x) = refl
kept s n true (op_e o l r) = (redir_id s n l, redir_id s n r, refl, moved s n l, moved s n r)
kept s n false e = kept_self s n e

module _ (s n : ℕ) (m : List ℕ) (room : 2 + 6 * used m ≤ length m) (hs : s < used m) where
  cut : List ℕ
  cut = set m (offset s + 4) 0

  cut_word : (j : ℕ) → j ≢ offset s + 4 → get_or cut j 0 ≡ get_or m j 0
  unfolding cut
  cut_word j h = get_or-set_other m (offset s + 4) j 0 0 h

  cut_other : (i : ℕ) → i ≢ s → node_at cut i ≡ node_at m i
  cut_other i h = node_same m cut i (λ k q. cut_word (offset i + k) (λ e. h (omega arith)))

  cut_expression : (i : ℕ) → expression_at cut i ≡ expression_at m i
  unfolding node_at
  cut_expression i =
      rw (cut_word (offset i + 0) (λ e. omega arith), cut_word (offset i + 1) (λ e. omega arith), cut_word (offset i + 2) (λ e. omega arith), cut_word (offset i + 3) (λ e. omega arith))

  cut_mark : registered cut s ≡ false
  unfolding node_at cut
  cut_mark = rw (get_or-set_same m (offset s + 4) 0 0 (omega arith))

  cut-length : length cut ≡ length m
  unfolding cut
  cut-length = length-set m (offset s + 4) 0

  part : ℕ → List ℕ
  part k = each (rename_operands s n) cut (up_to k)

  part_zero : part zero ≡ cut
  unfolding part each up_to
  part_zero = refl

  part_suc : (k : ℕ) → part (suc k) ≡ rename_operands s n (part k) k
  unfolding part up_to
  part_suc k = each_snoc (rename_operands s n) cut (up_to k) k

  part_length : (k : ℕ) → length (part k) ≡ length m
  part_length zero = ap length part_zero ∙ cut-length
  part_length (suc k) = ap length (part_suc k) ∙ rename_length s n (part k) k ∙ part_length k

  part_used : (k : ℕ) → used (part k) ≡ used m
  part_used zero = ap (λ (l : List ℕ). get_or l 1 0) part_zero ∙ cut_word 1 (λ e. omega arith)
  part_used (suc k) = ap (λ (l : List ℕ). get_or l 1 0) (part_suc k) ∙ rename_used s n (part k) k ∙ part_used k

  part_after : (k i : ℕ) → k ≤ i → node_at (part k) i ≡ node_at cut i
  part_after zero i h = ap (λ (l : List ℕ). node_at l i) part_zero
  part_after (suc k) i h = ap (λ (l : List ℕ). node_at l i) (part_suc k) ∙ rename_other s n (part k) k i (λ e. omega arith) ∙ part_after k i (omega arith)

  part_mark : (k i : ℕ) → registered (part k) i ≡ registered cut i
  part_mark zero i = ap (λ (l : List ℕ). registered l i) part_zero
  part_mark (suc k) i = ap (λ (l : List ℕ). registered l i) (part_suc k) ∙ go (ℕ_discrete i k) ∙ part_mark k i
    where
      go : Dec (i ≡ k) → registered (rename_operands s n (part k) k) i ≡ registered (part k) i
      go (yes p) = rw p (rename_mark s n (part k) k)
      go (no h) = ap (λ (x : Node). x.registered) (rename_other s n (part k) k i h)

  part_before : (k i : ℕ) → k ≤ used m → i < k → expr_of (expression_at (part k) i) ≡ redir_if s n (registered cut i) (expr_of (expression_at cut i))
  part_before zero i u h = absurd (omega arith)
  part_before (suc k) i u h = ap (λ (l : List ℕ). expr_of (expression_at l i)) (part_suc k) ∙ go (ℕ_discrete i k) (λ q. part_before k i (omega arith) q)
    where
      go : Dec (i ≡ k) → (i < k → expr_of (expression_at (part k) i) ≡ redir_if s n (registered cut i) (expr_of (expression_at cut i)))
          → expr_of (expression_at (rename_operands s n (part k) k) i) ≡ redir_if s n (registered cut i) (expr_of (expression_at cut i))
      go (yes p) f =
          rw p (rename_here s n (part k) k (omega (arith, part_length k)) ∙ ap (λ (x : Node). redir_if s n x.registered (expr_of x.expression)) (part_after k k (omega arith)))
      go (no q) f = ap (λ (x : Node). expr_of x.expression) (rename_other s n (part k) k i q) ∙ f (omega arith)

  part_row : (k : ℕ) → get_or (part k) 0 0 ≡ get_or m 0 0
  part_row zero = ap (λ (l : List ℕ). get_or l 0 0) part_zero ∙ cut_word 0 (λ e. omega arith)
  part_row (suc k) = ap (λ (l : List ℕ). get_or l 0 0) (part_suc k) ∙ rename_word s n (part k) k 0 (λ h. omega arith) (λ h. omega arith) ∙ part_row k

  part_kind : (k i : ℕ) → word (part k) i 0 ≡ word m i 0
  part_kind zero i = ap (λ (l : List ℕ). word l i 0) part_zero ∙ cut_word (offset i + 0) (λ e. omega arith)
  part_kind (suc k) i = ap (λ (l : List ℕ). word l i 0) (part_suc k) ∙ rename_word s n (part k) k (offset i + 0) (λ h. omega arith) (λ h. omega arith) ∙ part_kind k i

  part_mark_word : (k i : ℕ) → word (part k) i 4 ≡ word cut i 4
  part_mark_word zero i = ap (λ (l : List ℕ). word l i 4) part_zero
  part_mark_word (suc k) i = ap (λ (l : List ℕ). word l i 4) (part_suc k) ∙ rename_word s n (part k) k (offset i + 4) (λ h. omega arith) (λ h. omega arith) ∙ part_mark_word k i

  part_count : (k i : ℕ) → word (part k) i 5 ≡ word m i 5
  part_count zero i = ap (λ (l : List ℕ). word l i 5) part_zero ∙ cut_word (offset i + 5) (λ e. omega arith)
  part_count (suc k) i = ap (λ (l : List ℕ). word l i 5) (part_suc k) ∙ rename_word s n (part k) k (offset i + 5) (λ h. omega arith) (λ h. omega arith) ∙ part_count k i

  cut_mark_word : (i : ℕ) → word m i 4 ≤ 1 → word cut i 4 ≤ 1
  unfolding cut
  cut_mark_word i h = go (ℕ_discrete i s)
    where
      go : Dec (i ≡ s) → word (set m (offset s + 4) 0) i 4 ≤ 1
      go (yes e) = rw (e, get_or-set_same m (offset s + 4) 0 0 (omega arith)) (omega arith)
      go (no e) = rw (get_or-set_other m (offset s + 4) (offset i + 4) 0 0 (λ z. e (omega arith))) h

  all_parts : redirected m s n ≡ part (used m)
  unfolding redirected part cut
  all_parts = refl

  pub redirected_used : used (redirected m s n) ≡ used m
  redirected_used = ap (λ (l : List ℕ). get_or l 1 0) all_parts ∙ part_used (used m)

  pub redirected_room : 2 + 6 * used (redirected m s n) ≤ length (redirected m s n)
  redirected_room = omega (arith, redirected_used, ap length all_parts, part_length (used m))

  pub redirected_length : length (redirected m s n) ≡ length m
  redirected_length = ap length all_parts ∙ part_length (used m)

  pub redirected_row : get_or (redirected m s n) 0 0 ≡ get_or m 0 0
  redirected_row = ap (λ (l : List ℕ). get_or l 0 0) all_parts ∙ part_row (used m)

  pub redirected_kind : (i : ℕ) → word (redirected m s n) i 0 ≡ word m i 0
  redirected_kind i = ap (λ (l : List ℕ). word l i 0) all_parts ∙ part_kind (used m) i

  pub redirected_count : (i : ℕ) → (node_at (redirected m s n) i).references ≡ (node_at m i).references
  unfolding node_at
  redirected_count i = ap (λ (l : List ℕ). word l i 5) all_parts ∙ part_count (used m) i

  pub redirected_mark_word : (i : ℕ) → word m i 4 ≤ 1 → word (redirected m s n) i 4 ≤ 1
  redirected_mark_word i h = rw (all_parts, part_mark_word (used m) i) (cut_mark_word i h)

  -- the chosen node is loose
  pub redirected_loose : registered (redirected m s n) s ≡ false
  redirected_loose = ap (λ (l : List ℕ). registered l s) all_parts ∙ part_mark (used m) s ∙ cut_mark

  pub redirected_mark : (i : ℕ) → i ≢ s → registered (redirected m s n) i ≡ registered m i
  redirected_mark i h = ap (λ (l : List ℕ). registered l i) all_parts ∙ part_mark (used m) i ∙ ap (λ (x : Node). x.registered) (cut_other i h)

  look_redirected : (i : ℕ) (e : Expr) → look m i ≡ Some e → look (redirected m s n) i ≡ Some (redir_if s n (registered cut i) e)
  look_redirected i e h =
      let k : i < used m = look_lt m i e h in
      look_in (redirected m s n) i (rw redirected_used k)
      ∙ ap (λ (l : List ℕ). Some (expr_of (expression_at l i))) all_parts
      ∙ ap (λ (x : Expr). Some x) (part_before (used m) i (omega arith) k)
      ∙ ap (λ (x : Expression). Some (redir_if s n (registered cut i) (expr_of x))) (cut_expression i)
      ∙ ap (λ (x : Expr). Some (redir_if s n (registered cut i) x)) (look_is m i e h)

  pub redirected_kept : (i : ℕ) (e : Expr) → look m i ≡ Some e → (e' : Expr) × (look (redirected m s n) i ≡ Some e') × Kept s n e e'
  redirected_kept i e h = (redir_if s n (registered cut i) e, look_redirected i e h, kept s n (registered cut i) e)

  pub redirected_turned : (i : ℕ) (e : Expr) → registered m i ≡ true → i ≢ s → look m i ≡ Some e → look (redirected m s n) i ≡ Some (redir_e s n e)
  redirected_turned i e g q h =
      let k : registered cut i ≡ true = ap (λ (x : Node). x.registered) (cut_other i q) ∙ g in
      look_redirected i e h ∙ ap (λ (b : Bool). Some (redir_if s n b e)) k

  -- no new leaf
  pub redirected_leaf : (i : ℕ) (x : Leaf) → look (redirected m s n) i ≡ Some (leaf_e x) → look m i ≡ Some (leaf_e x)
  redirected_leaf i x h =
      let k : i < used m = omega (arith, look_lt (redirected m s n) i (leaf_e x) h, redirected_used) in
      go (expr_of (expression_at m i)) (registered cut i) (look_in m i k) (look_redirected i (expr_of (expression_at m i)) (look_in m i k))
    where
      go : (e : Expr) (b : Bool) → look m i ≡ Some e → look (redirected m s n) i ≡ Some (redir_if s n b e) → look m i ≡ Some (leaf_e x)
      go (leaf_e z) true p q = cc
      go (leaf_e z) false p q = cc
      go (op_e o l r) true p q = absurd (let z : ◌≡◌ {A = ℕ} 0 1 = cc in omega arith)
      go (op_e o l r) false p q = absurd (let z : ◌≡◌ {A = ℕ} 0 1 = cc in omega arith)

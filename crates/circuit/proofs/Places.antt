-- The laws of the places, which are used instead of the layout: what is read after a node was made, and after a word of a place was written,
-- at that place and at the others. Assumes nothing.
use Rattle.std.specs.Prelude.{if◌then◌else◌}
use mathlib.Core.Path.{◌≡◌, refl, sym, ap, ◌∙◌}
use mathlib.Core.Logic.{◌⊎◌, inl, inr, ⊎_elim, ◌≢◌}
use mathlib.Core.Bool.{Bool, true, false}
use mathlib.Core.List.{List, [], ◌∷◌, ◌++◌, append_assoc}
use Prim.Native.Nat.{ℕ, zero, suc, ◌+◌, ◌<◌, ◌≤◌}
use native.Mathlib.Nat.{add-zero, add-suc, suc-add, not-suc-le-zero}
use native.Mathlib.Omega.{arith}
use lib.Dec.{eqb}
use lib.ListN.{length, get_or, set, take, length-set, length-append}
use lib.Seq.{sets, sets-eq, length-sets, get_or-set_same, get_or-set_other}
use Rattle.layout.specs.declared.node.Position.{Position}
use Rattle.layout.specs.declared.node.Position.TheVariants.{Main, Aux, NextMain, NextAux}
use Rattle.layout.specs.declared.node.Op.{Op}
use Rattle.layout.specs.declared.node.Op.TheVariants.{Add, Multiply}
use Rattle.layout.specs.declared.node.Expression.{Expression}
use Rattle.layout.specs.declared.node.Expression.TheVariants.{Base, Extension, Challenge, Operation, Input}
use Rattle.layout.specs.declared.node.Node.{Node}
use Rattle.layout.specs.Words.{row_kind, used, limit, offset, word, decode, node_at, expression_at, op_kind, encode, made}
use borrow.Author.Tests.{eqb-true}
use Rattle.layout.proofs.Tests.{below_or}
use Rattle.layout.proofs.Valid.{place_fits}

-- a node, by its parts
abbrev pub node : Expression → Bool → ℕ → Node
node e r n = record { expression = e; registered = r; references = n }

-- runs of stores

get_d_sets_out : (vs l : List ℕ) (i j d : ℕ) → ((j < i) ⊎ (i + length vs ≤ j)) → get_or (sets l i vs) j d ≡ get_or l j d
get_d_sets_out [] l i j d h = refl
get_d_sets_out (a ∷ vs) l i j d h =
    let n : j ≢ i = ⊎_elim (λ x. omega arith) (λ x. omega arith) h in
    get_d_sets_out vs (set l i a) (suc i) j d (⊎_elim (λ x. inl (omega arith)) (λ x. inr (omega arith)) h) ∙ get_or-set_other l i j a d n

get_d_sets_in : (vs l : List ℕ) (i k d : ℕ) → i + length vs ≤ length l → k < length vs → get_or (sets l i vs) (i + k) d ≡ get_or vs k d
get_d_sets_in [] l i k d f h = absurd (not-suc-le-zero h)
get_d_sets_in (a ∷ vs) l i zero d f h =
    rw add-zero (get_d_sets_out vs (set l i a) (suc i) i d (inl (omega arith)) ∙ get_or-set_same l i a d (omega arith))
get_d_sets_in (a ∷ vs) l i (suc k) d f h =
    rw (add-suc, ← suc-add) (get_d_sets_in vs (set l i a) (suc i) k d (rw length-set (omega arith)) (omega arith))

-- an expression and its words

pub encode_length : (e : Expression) → ◌≡◌ {A = ℕ} (length (encode e)) 4
unfolding encode
encode_length (Base w) = refl
encode_length (Extension x) = refl
encode_length (Challenge k) = refl
encode_length (Operation o l r) = refl
encode_length (Input q) = refl

decode_operation : (o : Op) (l r : ℕ) → decode (get_or (encode (Operation o l r)) 0 0) l r 0 ≡ Operation o l r
unfolding decode encode
decode_operation Add l r = refl
decode_operation Multiply l r = refl

decode_input : (q : Position) → decode (get_or (encode (Input q)) 0 0) (get_or (encode (Input q)) 1 0) 0 0 ≡ Input q
unfolding decode encode
decode_input (Main c) = refl
decode_input (Aux c) = refl
decode_input (NextMain c) = refl
decode_input (NextAux c) = refl

-- what is written is read back
pub decode-encode : (e : Expression) → decode (get_or (encode e) 0 0) (get_or (encode e) 1 0) (get_or (encode e) 2 0) (get_or (encode e) 3 0) ≡ e
unfolding decode encode
decode-encode (Base w) = refl
decode-encode (Extension x) = refl
decode-encode (Challenge k) = refl
decode-encode (Operation o l r) = decode_operation o l r
decode-encode (Input q) = decode_input q

-- a choice that gives e: one side gives it
either_gives : {P : Type 0} (b : Bool) (x y e : Expression) → (b ≡ true → x ≡ e → P) → (y ≡ e → P) → (if b then x else y) ≡ e → P
either_gives true x y e f g h = f refl h
either_gives false x y e f g h = g h

-- words that say an operation: its kind and its operands
pub record OperationWords (kind a b : ℕ) (o : Op) (l r : ℕ) : Type 0 where
  pub kind_is : kind ≡ op_kind o
  pub left_is : a ≡ l
  pub right_is : b ≡ r

operation_of : (kind a b n : ℕ) (o' o : Op) (l r : ℕ) → op_kind o' ≡ n → eqb kind n ≡ true → Operation o' a b ≡ Operation o l r → OperationWords kind a b o l r
operation_of kind a b n o' o l r w k e =
    let q : o' ≡ o = cc in
    record { kind_is = eqb-true kind n k ∙ sym w ∙ ap op_kind q; left_is = cc; right_is = cc }

pub operation_words : (kind a b c : ℕ) (o : Op) (l r : ℕ) → decode kind a b c ≡ Operation o l r → OperationWords kind a b o l r
unfolding decode
operation_words kind a b c o l r =
    either_gives (eqb kind 0) _ _ _ (λ _ h. let z : ◌≡◌ {A = ℕ} 0 1 = cc in absurd (omega arith))
    (either_gives (eqb kind 1) _ _ _ (λ _ h. let z : ◌≡◌ {A = ℕ} 0 1 = cc in absurd (omega arith))
    (either_gives (eqb kind 2) _ _ _ (λ _ h. let z : ◌≡◌ {A = ℕ} 0 1 = cc in absurd (omega arith))
    (either_gives (eqb kind 3) _ _ _ (operation_of kind a b 3 Add o l r refl)
    (either_gives (eqb kind 4) _ _ _ (operation_of kind a b 4 Multiply o l r refl)
    (either_gives (eqb kind 5) _ _ _ (λ _ h. let z : ◌≡◌ {A = ℕ} 0 1 = cc in absurd (omega arith))
    (either_gives (eqb kind 6) _ _ _ (λ _ h. let z : ◌≡◌ {A = ℕ} 0 1 = cc in absurd (omega arith))
    (either_gives (eqb kind 7) _ _ _ (λ _ h. let z : ◌≡◌ {A = ℕ} 0 1 = cc in absurd (omega arith))
    (λ h. let z : ◌≡◌ {A = ℕ} 0 1 = cc in absurd (omega arith)))))))))

decode_kind : (o : Op) (a b c : ℕ) → decode (op_kind o) a b c ≡ Operation o a b
unfolding decode
decode_kind Add a b c = refl
decode_kind Multiply a b c = refl

-- other operands of the same operation
redecode : (kind a b c : ℕ) (o : Op) (l r a' b' c' : ℕ) → decode kind a b c ≡ Operation o l r → decode kind a' b' c' ≡ Operation o a' b'
redecode kind a b c o l r a' b' c' e = rw (operation_words kind a b c o l r e).kind_is (decode_kind o a' b' c')

-- a place's words decide its node
pub same_words_lem : (m n : List ℕ) (i j : ℕ) → ((k : ℕ) → k < 6 → word m i k ≡ word n j k) → node_at m i ≡ node_at n j
unfolding node_at
same_words_lem m n i j h =
    rw (h 0 (omega arith), h 1 (omega arith), h 2 (omega arith), h 3 (omega arith), h 4 (omega arith), h 5 (omega arith))

-- a node made

-- the six words of a new node
abbrev pub fresh : Expression → List ℕ
fresh e = encode e ++ (1 ∷ 0 ∷ [])

fresh_length : (e : Expression) → length (fresh e) ≡ 6
fresh_length e = length-append (encode e) (1 ∷ 0 ∷ []) ∙ rw (encode_length e) refl

fresh_node : (m : List ℕ) (e : Expression) (i : ℕ) → ((k : ℕ) → k < 6 → word m i k ≡ get_or (fresh e) k 0) → node_at m i ≡ node e true 0
unfolding node_at encode decode
fresh_node m e i h =
    rw (h 0 (omega arith), h 1 (omega arith), h 2 (omega arith), h 3 (omega arith), h 4 (omega arith), h 5 (omega arith)) (go e)
  where
    go : (e : Expression) → node (decode (get_or (fresh e) 0 0) (get_or (fresh e) 1 0) (get_or (fresh e) 2 0) (get_or (fresh e) 3 0)) (eqb (get_or (fresh e) 4 0) 1) (get_or (fresh e) 5 0) ≡ node e true 0
    go (Base w) = refl
    go (Extension x) = refl
    go (Challenge k) = refl
    go (Operation o l r) = ap (λ (x : Expression). node x true 0) (decode_operation o l r)
    go (Input q) = ap (λ (x : Expression). node x true 0) (decode_input q)

-- the words of a new node, in their place
abbrev pub placed : List ℕ → Expression → List ℕ
placed m e = sets m (offset (used m)) (fresh e)

module _ (m : List ℕ) (e : Expression) (room : used m < limit m) where
  made_fits : offset (used m) + length (fresh e) ≤ length m
  made_fits = let f = place_fits m (used m) room in let l = fresh_length e in omega arith

  -- making a node is a run of stores, and a store of the used count
  pub made_stores : made m e ≡ set (placed m e) 1 (used m + 1)
  unfolding made
  made_stores =
      let l : offset (used m) + length (fresh e) ≡ offset (used m + 1) = let q = fresh_length e in omega arith in
      rw (sets-eq (fresh e) m (offset (used m)) made_fits, l, ← append_assoc (take (offset (used m)) m) (encode e) (1 ∷ 0 ∷ []))

  pub made_length : length (made m e) ≡ length m
  made_length = ap length made_stores ∙ length-set (placed m e) 1 (used m + 1) ∙ length-sets m (offset (used m)) (fresh e)

  pub made_limit : limit (made m e) ≡ limit m
  unfolding limit
  made_limit = rw made_length

  pub made_used : used (made m e) ≡ used m + 1
  made_used = rw made_stores (get_or-set_same (placed m e) 1 (used m + 1) 0 (rw length-sets (let f = made_fits in omega arith)))

  -- words of no place, and of other places
  made_out : (j : ℕ) → j ≢ 1 → ((j < offset (used m)) ⊎ (offset (used m) + 6 ≤ j)) → get_or (made m e) j 0 ≡ get_or m j 0
  made_out j n h =
      rw made_stores (get_or-set_other (placed m e) 1 j (used m + 1) 0 n ∙ get_d_sets_out (fresh e) m (offset (used m)) j 0 (rw (fresh_length e) h))

  pub made_row : row_kind (made m e) ≡ row_kind m
  made_row = made_out 0 (omega arith) (inl (omega arith))

  -- the new node, registered and its count 0
  pub made_here : node_at (made m e) (used m) ≡ node e true 0
  made_here =
      fresh_node (made m e) e (used m) λ k l.
      rw made_stores (get_or-set_other (placed m e) 1 (offset (used m) + k) (used m + 1) 0 (omega arith) ∙ get_d_sets_in (fresh e) m (offset (used m)) k 0 made_fits (rw (fresh_length e) l))

  -- every other node stays
  pub made_other : (i : ℕ) → i ≢ used m → node_at (made m e) i ≡ node_at m i
  made_other i n =
      same_words_lem (made m e) m i i λ k l. made_out (offset i + k) (omega arith) (⊎_elim (λ h. inl (omega arith)) (λ h. inr (omega arith)) (below_or i (used m)))

-- the stores that make a node
pub made_by : (m m' ws : List ℕ) (e : Expression) → used m < limit m → ws ≡ encode e → m' ≡ sets m (offset (used m)) (ws ++ (1 ∷ 0 ∷ [])) → set m' 1 (used m + 1) ≡ made m e
made_by m m' ws e room p q = rw (q, p) (sym (made_stores m e room))

-- a word of a place written

module _ (m : List ℕ) (i k v : ℕ) (small : k < 6) where
  -- the row kind, the used count, the length, the limit and every other node stay
  pub write_row : row_kind (set m (offset i + k) v) ≡ row_kind m
  write_row = get_or-set_other m (offset i + k) 0 v 0 (omega arith)

  pub write_used : used (set m (offset i + k) v) ≡ used m
  write_used = get_or-set_other m (offset i + k) 1 v 0 (omega arith)

  pub write_length : length (set m (offset i + k) v) ≡ length m
  write_length = length-set m (offset i + k) v

  pub write_limit : limit (set m (offset i + k) v) ≡ limit m
  unfolding limit
  write_limit = rw write_length

  pub write_other : (j : ℕ) → j ≢ i → node_at (set m (offset i + k) v) j ≡ node_at m j
  write_other j n = same_words_lem (set m (offset i + k) v) m j j λ q l. get_or-set_other m (offset i + k) (offset j + q) v 0 (omega arith)

-- what the place itself then says

module _ (m : List ℕ) (i v : ℕ) (fits : offset i + 6 ≤ length m) where
  at_same : (k : ℕ) → k < 6 → word (set m (offset i + k) v) i k ≡ v
  at_same k l = get_or-set_same m (offset i + k) v 0 (omega arith)

  at_other : (k q : ℕ) → q ≢ k → word (set m (offset i + k) v) i q ≡ word m i q
  at_other k q n = get_or-set_other m (offset i + k) (offset i + q) v 0 (omega arith)

  -- the mark
  pub write_mark : node_at (set m (offset i + 4) v) i ≡ node (expression_at m i) (eqb v 1) (node_at m i).references
  unfolding node_at
  write_mark =
      rw (
        at_other 4 0 (omega arith),
        at_other 4 1 (omega arith),
        at_other 4 2 (omega arith),
        at_other 4 3 (omega arith),
        at_same 4 (omega arith),
        at_other 4 5 (omega arith),
      )

  -- the reference count
  pub write_count : node_at (set m (offset i + 5) v) i ≡ node (expression_at m i) (node_at m i).registered v
  unfolding node_at
  write_count =
      rw (
        at_other 5 0 (omega arith),
        at_other 5 1 (omega arith),
        at_other 5 2 (omega arith),
        at_other 5 3 (omega arith),
        at_other 5 4 (omega arith),
        at_same 5 (omega arith),
      )

  -- the left operand of an operation
  pub write_left : (o : Op) (l r : ℕ) → expression_at m i ≡ Operation o l r → node_at (set m (offset i + 1) v) i ≡ node (Operation o v r) (node_at m i).registered (node_at m i).references
  unfolding node_at
  write_left o l r e =
      rw (
        at_other 1 0 (omega arith),
        at_same 1 (omega arith),
        at_other 1 2 (omega arith),
        at_other 1 3 (omega arith),
        at_other 1 4 (omega arith),
        at_other 1 5 (omega arith),
        redecode (word m i 0) (word m i 1) (word m i 2) (word m i 3) o l r v (word m i 2) (word m i 3) e,
        (operation_words (word m i 0) (word m i 1) (word m i 2) (word m i 3) o l r e).right_is,
      )

  -- the right operand of an operation
  pub write_right : (o : Op) (l r : ℕ) → expression_at m i ≡ Operation o l r → node_at (set m (offset i + 2) v) i ≡ node (Operation o l v) (node_at m i).registered (node_at m i).references
  unfolding node_at
  write_right o l r e =
      rw (
        at_other 2 0 (omega arith),
        at_other 2 1 (omega arith),
        at_same 2 (omega arith),
        at_other 2 3 (omega arith),
        at_other 2 4 (omega arith),
        at_other 2 5 (omega arith),
        redecode (word m i 0) (word m i 1) (word m i 2) (word m i 3) o l r (word m i 1) v (word m i 3) e,
        (operation_words (word m i 0) (word m i 1) (word m i 2) (word m i 3) o l r e).left_is,
      )

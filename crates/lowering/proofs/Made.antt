-- One node more: what the words say afterwards. Assumes nothing.
use Rattle.std.specs.Prelude.{Some}
use Prim.Native.Nat.{ℕ, suc, ◌+◌, ◌*◌, ◌≤◌, ◌<◌}
use mathlib.Core.Path.{◌≡◌, refl, sym, ◌∙◌, ap}
use mathlib.Core.Logic.{◌≢◌, ◌⊎◌, inl, inr}
use mathlib.Core.Bool.{true}
use mathlib.Core.List.{List, [], ◌∷◌, ◌++◌, append_assoc}
use native.Mathlib.Decide.{ℕ_discrete}
use native.Mathlib.Omega.{arith}
use lib.ListN.{length, get_or, set, take, drop, length-append, length-drop, length-set, get_or-append}
use lib.Seq.{get_or-set_same, get_or-set_other, get_or-take, get_or-append-add, length-take-le}
use Rattle.layout.specs.declared.node.Position.TheVariants.{Main, Aux, NextMain, NextAux}
use Rattle.layout.specs.declared.node.Op.TheVariants.{Add, Multiply}
use Rattle.layout.specs.declared.node.Expression.{Expression}
use Rattle.layout.specs.declared.node.Expression.TheVariants.{Base, Extension, Challenge, Operation, Input}
use Rattle.layout.specs.declared.node.Node.{Node}
use Rattle.layout.specs.Words.{used, offset, word, decode, node_at, expression_at, registered, encode, made}
use Rattle.lowering.proofs.Shape.{Expr, expr_of}
use Rattle.lowering.proofs.Words.{look, look_in, look_lt}

-- words that agree at a node's six places say the same node
pub node_same : (m m' : List ℕ) (i : ℕ) → ((k : ℕ) → k < 6 → word m' i k ≡ word m i k) → node_at m' i ≡ node_at m i
unfolding node_at
node_same m m' i h = rw (h 0 (omega arith), h 1 (omega arith), h 2 (omega arith), h 3 (omega arith), h 4 (omega arith), h 5 (omega arith))

-- an expression is read back from its words
pub decode-encode : (e : Expression) → decode (get_or (encode e) 0 0) (get_or (encode e) 1 0) (get_or (encode e) 2 0) (get_or (encode e) 3 0) ≡ e
unfolding decode encode
decode-encode (Base w) = refl
decode-encode (Extension x) = refl
decode-encode (Challenge k) = refl
decode-encode (Operation Add l r) = refl
decode-encode (Operation Multiply l r) = refl
decode-encode (Input (Main c)) = refl
decode-encode (Input (Aux c)) = refl
decode-encode (Input (NextMain c)) = refl
decode-encode (Input (NextAux c)) = refl

encode_length : (e : Expression) → length (encode e) ≡ 4
unfolding encode
encode_length (Base w) = refl
encode_length (Extension x) = refl
encode_length (Challenge k) = refl
encode_length (Operation o l r) = refl
encode_length (Input q) = refl

module _ (m : List ℕ) (e : Expression) (room : 2 + 6 * used m ≤ length m) where
  tail : List ℕ
  tail = encode e ++ ((1 ∷ 0 ∷ []) ++ drop (offset (used m + 1)) m)

  body : List ℕ
  body = take (offset (used m)) m ++ tail

  made-is : made m e ≡ set body 1 (used m + 1)
  unfolding made body tail
  made-is = ap (λ (l : List ℕ). set l 1 (used m + 1)) (append_assoc (take (offset (used m)) m ++ encode e) (1 ∷ 0 ∷ []) (drop (offset (used m + 1)) m) ∙ append_assoc (take (offset (used m)) m) (encode e) ((1 ∷ 0 ∷ []) ++ drop (offset (used m + 1)) m))

  front : length (take (offset (used m)) m) ≡ offset (used m)
  front = length-take-le (offset (used m)) m room

  tail_length : 6 ≤ length tail
  unfolding tail
  tail_length = omega (arith, encode_length e, length-append (encode e) ((1 ∷ 0 ∷ []) ++ drop (offset (used m + 1)) m))

  body_length : 8 + 6 * used m ≤ length body
  unfolding body
  body_length = omega (arith, front, tail_length, length-append (take (offset (used m)) m) tail)

  pub made_used : used (made m e) ≡ suc (used m)
  made_used = ap (λ (l : List ℕ). get_or l 1 0) made-is ∙ get_or-set_same body 1 (used m + 1) 0 (omega (arith, body_length)) ∙ omega arith

  pub made_room : 2 + 6 * used (made m e) ≤ length (made m e)
  made_room = rw (made_used, made-is, length-set body 1 (used m + 1)) (omega (arith, body_length))

  -- in the lent words, if it fits
  pub made_length : 2 + 6 * suc (used m) ≤ length m → length (made m e) ≡ length m
  unfolding body tail
  made_length h =
      ap length made-is
      ∙ length-set body 1 (used m + 1)
      ∙ omega (
        arith,
        front,
        encode_length e,
        length-append (take (offset (used m)) m) tail,
        length-append (encode e) ((1 ∷ 0 ∷ []) ++ drop (offset (used m + 1)) m),
        length-drop (offset (used m + 1)) m,
      )

  old_word : (j : ℕ) → j < offset (used m) → j ≢ 1 → get_or (made m e) j 0 ≡ get_or m j 0
  unfolding body
  old_word j h n =
      ap (λ (l : List ℕ). get_or l j 0) made-is
      ∙ get_or-set_other body 1 j (used m + 1) 0 n
      ∙ get_or-append (take (offset (used m)) m) tail 0 j (omega (arith, front))
      ∙ get_or-take (offset (used m)) m j 0 h

  new_word : (k : ℕ) → get_or (made m e) (offset (used m) + k) 0 ≡ get_or tail k 0
  unfolding body
  new_word k =
      ap (λ (l : List ℕ). get_or l (offset (used m) + k) 0) made-is
      ∙ get_or-set_other body 1 (offset (used m) + k) (used m + 1) 0 (λ h. omega arith)
      ∙ ap (λ (x : ℕ). get_or body (x + k) 0) (sym front)
      ∙ get_or-append-add (take (offset (used m)) m) tail k 0

  pub made_old : (i : ℕ) → i < used m → node_at (made m e) i ≡ node_at m i
  made_old i h = node_same m (made m e) i (λ k q. old_word (offset i + k) (omega arith) (λ z. omega arith))

  tail_word : (k : ℕ) → k < 4 → get_or tail k 0 ≡ get_or (encode e) k 0
  unfolding tail
  tail_word k h = get_or-append (encode e) ((1 ∷ 0 ∷ []) ++ drop (offset (used m + 1)) m) 0 k (omega (arith, encode_length e))

  tail_mark : get_or tail 4 0 ≡ 1
  unfolding tail
  tail_mark = ap (λ (x : ℕ). get_or tail (x + 0) 0) (sym (encode_length e)) ∙ get_or-append-add (encode e) ((1 ∷ 0 ∷ []) ++ drop (offset (used m + 1)) m) 0 0

  encode_kind : (e : Expression) → get_or (encode e) 0 0 ≤ 8
  unfolding encode
  encode_kind (Base w) = omega arith
  encode_kind (Extension x) = omega arith
  encode_kind (Challenge k) = omega arith
  encode_kind (Operation Add l r) = omega arith
  encode_kind (Operation Multiply l r) = omega arith
  encode_kind (Input (Main c)) = omega arith
  encode_kind (Input (Aux c)) = omega arith
  encode_kind (Input (NextMain c)) = omega arith
  encode_kind (Input (NextAux c)) = omega arith

  pub made_kind : word (made m e) (used m) 0 ≤ 8
  made_kind = rw (new_word 0, tail_word 0 (omega arith)) (encode_kind e)

  pub made_mark_word : word (made m e) (used m) 4 ≡ 1
  made_mark_word = new_word 4 ∙ tail_mark

  pub made_row : get_or (made m e) 0 0 ≡ get_or m 0 0
  made_row = old_word 0 (omega arith) (λ h. omega arith)

  pub made_old_word : (i k : ℕ) → i < used m → k < 6 → word (made m e) i k ≡ word m i k
  made_old_word i k h q = old_word (offset i + k) (omega arith) (λ z. omega arith)

  pub made_new : expression_at (made m e) (used m) ≡ e
  unfolding node_at
  made_new =
      rw (new_word 0, new_word 1, new_word 2, new_word 3, tail_word 0 (omega arith), tail_word 1 (omega arith), tail_word 2 (omega arith), tail_word 3 (omega arith)) (decode-encode e)

  pub made_mark : registered (made m e) (used m) ≡ true
  unfolding node_at
  made_mark = rw (new_word 4, tail_mark)

  pub look_made_old : (i : ℕ) → i < used m → look (made m e) i ≡ look m i
  look_made_old i h =
      look_in (made m e) i (rw made_used (omega arith)) ∙ ap (λ (n : Node). Some (expr_of n.expression)) (made_old i h) ∙ sym (look_in m i h)

  pub look_made_new : look (made m e) (used m) ≡ Some (expr_of e)
  look_made_new = look_in (made m e) (used m) (rw made_used (omega arith)) ∙ ap (λ (x : Expression). Some (expr_of x)) made_new

  pub look_made_back : (i : ℕ) (f : Expr) → look (made m e) i ≡ Some f → (look m i ≡ Some f) ⊎ ((i ≡ used m) × (f ≡ expr_of e))
  look_made_back i f h = go (ℕ_discrete i (used m))
    where
      go : Dec (i ≡ used m) → (look m i ≡ Some f) ⊎ ((i ≡ used m) × (f ≡ expr_of e))
      go (yes p) =
          let k : look (made m e) i ≡ Some (expr_of e) = rw p look_made_new in
          inr (p, cc)
      go (no g) =
          let k : i < used (made m e) = look_lt (made m e) i f h in
          let l : i < used m = omega (arith, made_used) in
          inl (sym (look_made_old i l) ∙ h)

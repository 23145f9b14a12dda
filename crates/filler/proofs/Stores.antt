-- Words stored one after the other, in a part of a table that is lent on. Assumes nothing.
use Prim.Native.Nat.{ℕ, zero, suc, ◌+◌, ◌*◌, ◌<◌, ◌≤◌}
use mathlib.Core.Path.{◌≡◌, refl, sym, ap, ◌∙◌}
use mathlib.Core.Logic.{⊎_elim}
use mathlib.Core.List.{List, [], ◌∷◌, ◌++◌, append_assoc}
use native.Mathlib.Numerals.{add-one}
use native.Mathlib.Omega.{arith}
use lib.ListN.{length, get_or, set, take, drop, length-set, length-append, take-append-drop, length-take, length-drop, get_or-append}
use lib.Seq.{sets, sets-eq, length-sets, set-append_left, length-take-le, drop-drop, get_or-append-add}
use borrow.Rule.Slice.PartMut.{mid_of, post_of, put_mid}
use Rattle.arithmetic.specs.declared.Triple.{Triple}
use Rattle.layout.proofs.Tests.{last_or}
use Rattle.circuit.specs.Rank.{at}
use Rattle.reading.specs.Calls.{triple_at}
use Rattle.read.specs.Values.{put_triple}
use Rattle.filler.specs.Running.{Values}
use Rattle.filler.specs.Rowing.{words_for, triple_for, triples_for}

-- what is stored in the first of two lists, or in the second
pub sets_left : (ws xs ys : List ℕ) (j : ℕ) → j + length ws ≤ length xs → sets (xs ++ ys) j ws ≡ sets xs j ws ++ ys
sets_left [] xs ys j h = refl
sets_left (w ∷ ws) xs ys j h = ap (λ (l : List ℕ). sets l (suc j) ws) (set-append_left xs ys j w (omega arith)) ∙ sets_left ws (set xs j w) ys (suc j) (rw (length-set xs j w) (omega arith))

set_right : (xs ys : List ℕ) (n j v : ℕ) → n ≡ length xs + j → set (xs ++ ys) n v ≡ xs ++ set ys j v
set_right [] ys n j v e = let f : n ≡ j = omega arith in rw f
set_right (x ∷ xs) ys zero j v e = absurd (omega arith)
set_right (x ∷ xs) ys (suc n) j v e = ap (λ (l : List ℕ). x ∷ l) (set_right xs ys n j v (omega arith))

pub sets_right : (ws xs ys : List ℕ) (n j : ℕ) → n ≡ length xs + j → sets (xs ++ ys) n ws ≡ xs ++ sets ys j ws
sets_right [] xs ys n j e = refl
sets_right (w ∷ ws) xs ys n j e = ap (λ (l : List ℕ). sets l (suc n) ws) (set_right xs ys n j w e) ∙ sets_right ws xs (set ys j w) (suc n) (suc j) (omega arith)

-- more, after what is stored
pub sets_more : (xs ys l : List ℕ) (c n : ℕ) → n ≡ c + length xs → sets l c (xs ++ ys) ≡ sets (sets l c xs) n ys
sets_more [] ys l c n e = let f : n ≡ c = omega arith in rw f
sets_more (x ∷ xs) ys l c n e = sets_more xs ys (set l c x) (suc c) n (omega arith)

-- what is stored in a part is stored in the table
pub part_sets : (s k j : ℕ) (l ws : List ℕ) → s + k ≤ length l → j + length ws ≤ k → put_mid s k l (sets (mid_of s k l) j ws) ≡ sets l (s + j) ws
part_sets s k j l ws h g =
    let len : length (mid_of s k l) ≡ k = omega (arith, length-take k (drop s l), length-drop s l) in
    let front : length (take s l) ≡ s = length-take-le s l (omega arith) in
    ap (λ (z : List ℕ). take s l ++ z) (sym (sets_left ws (mid_of s k l) (post_of s k l) j (omega arith)))
    ∙ sym (sets_right ws (take s l) (mid_of s k l ++ post_of s k l) (s + j) j (omega arith))
    ∙ ap (λ (z : List ℕ). sets z (s + j) ws) (ap (λ (z : List ℕ). take s l ++ z) (take-append-drop k (drop s l)) ∙ take-append-drop s l)

-- and so is what is stored in rows that are written back
pub window_sets : (l ws : List ℕ) (s k j : ℕ) → s + k ≤ length l → j + length ws ≤ k → sets l s (sets (take k (drop s l)) j ws) ≡ sets l (s + j) ws
window_sets l ws s k j h g =
    let len : length (sets (take k (drop s l)) j ws) ≡ k = omega (arith, length-sets (take k (drop s l)) j ws, length-take k (drop s l), length-drop s l) in
    sets-eq (sets (take k (drop s l)) j ws) l s (omega arith)
    ∙ ap (λ (n : ℕ). take s l ++ sets (take k (drop s l)) j ws ++ drop (s + n) l) len
    ∙ ap (λ (z : List ℕ). take s l ++ sets (take k (drop s l)) j ws ++ z) (sym (drop-drop k s l))
    ∙ append_assoc (take s l) (sets (take k (drop s l)) j ws) (drop k (drop s l))
    ∙ part_sets s k j l ws h g

-- the words of targets
module _ (words targets : List ℕ) where
  pub words_length : (n : ℕ) → length (words_for words targets n) ≡ n
  unfolding words_for
  words_length zero = refl
  words_length (suc n) = omega (arith, length-append (words_for words targets n) (at words (at targets n) ∷ []), words_length n)

  pub words_none : (l : List ℕ) → l ≡ sets l 0 (words_for words targets 0)
  unfolding words_for
  words_none l = refl

  pub words_next : (l : List ℕ) (n : ℕ) → set (sets l 0 (words_for words targets n)) n (at words (at targets n)) ≡ sets l 0 (words_for words targets (n + 1))
  unfolding words_for
  words_next l n = rw add-one (sym (sets_more (words_for words targets n) (at words (at targets n) ∷ []) l 0 n (omega (arith, words_length n))))

module _ (bases : List ℕ) (v : Values) (targets : List ℕ) (from : ℕ) where
  pub triples_length : (n : ℕ) → length (triples_for bases v targets from n) ≡ 3 * n
  unfolding triples_for
  triples_length zero = refl
  triples_length (suc n) =
      let x = triple_for bases v (at targets (from + n)) in
      omega (arith, length-append (triples_for bases v targets from n) (x.c0 ∷ x.c1 ∷ x.c2 ∷ []), triples_length n)

  pub triples_none : (l : List ℕ) → l ≡ sets l 0 (triples_for bases v targets from 0)
  unfolding triples_for
  triples_none l = refl

  pub triples_next : (l : List ℕ) (n : ℕ) → put_triple (sets l 0 (triples_for bases v targets from n)) n (triple_for bases v (at targets (from + n))) ≡ sets l 0 (triples_for bases v targets from (n + 1))
  unfolding triples_for
  triples_next l n =
      let x = triple_for bases v (at targets (from + n)) in
      let one : 3 * n + 1 ≡ suc (3 * n) = omega arith in
      let two : 3 * n + 2 ≡ suc (suc (3 * n)) = omega arith in
      let more : suc n ≡ n + 1 = omega arith in
      rw (one, two) (sym (sets_more (triples_for bases v targets from n) (x.c0 ∷ x.c1 ∷ x.c2 ∷ []) l 0 (3 * n) (omega (arith, triples_length n)))) ∙ ap (λ (k : ℕ). sets l 0 (triples_for bases v targets from k)) more

-- read back, word by word and triple by triple
pub words_at_lem : (words targets : List ℕ) (n k : ℕ) → k < n → get_or (words_for words targets n) k 0 ≡ at words (at targets k)
unfolding words_for
words_at_lem words targets zero k h = absurd (omega arith)
words_at_lem words targets (suc n) k h =
    let long : length (words_for words targets n) ≡ n = words_length words targets n in
    ⊎_elim
    (λ e. let p : k ≡ length (words_for words targets n) + 0 = omega arith in ap (λ (j : ℕ). get_or (words_for words targets n ++ (at words (at targets n) ∷ [])) j 0) p ∙ get_or-append-add (words_for words targets n) (at words (at targets n) ∷ []) 0 0 ∙ ap (λ (j : ℕ). at words (at targets j)) (sym e))
    (λ l. get_or-append (words_for words targets n) (at words (at targets n) ∷ []) 0 k (omega arith) ∙ words_at_lem words targets n k l)
    (last_or k n h)

-- a triple of a list, and of what stands behind it
front_triple : (xs ys : List ℕ) (k : ℕ) → 3 * k + 2 < length xs → triple_at (xs ++ ys) k ≡ triple_at xs k
unfolding triple_at
front_triple xs ys k h = rw (get_or-append xs ys 0 (3 * k) (omega arith), get_or-append xs ys 0 (3 * k + 1) (omega arith), get_or-append xs ys 0 (3 * k + 2) (omega arith))

back_triple : (xs : List ℕ) (x : Triple) (k : ℕ) → length xs ≡ 3 * k → triple_at (xs ++ (x.c0 ∷ x.c1 ∷ x.c2 ∷ [])) k ≡ x
unfolding triple_at
back_triple xs x k e =
    let ys : List ℕ = x.c0 ∷ x.c1 ∷ x.c2 ∷ [] in
    let p₀ : 3 * k ≡ length xs + 0 = omega arith in
    let p₁ : 3 * k + 1 ≡ length xs + 1 = omega arith in
    let p₂ : 3 * k + 2 ≡ length xs + 2 = omega arith in
    let e₀ : get_or (xs ++ ys) (3 * k) 0 ≡ x.c0 = ap (λ (j : ℕ). get_or (xs ++ ys) j 0) p₀ ∙ get_or-append-add xs ys 0 0 in
    let e₁ : get_or (xs ++ ys) (3 * k + 1) 0 ≡ x.c1 = ap (λ (j : ℕ). get_or (xs ++ ys) j 0) p₁ ∙ get_or-append-add xs ys 1 0 in
    let e₂ : get_or (xs ++ ys) (3 * k + 2) 0 ≡ x.c2 = ap (λ (j : ℕ). get_or (xs ++ ys) j 0) p₂ ∙ get_or-append-add xs ys 2 0 in
    λ i. record { c0 = e₀ i; c1 = e₁ i; c2 = e₂ i }

pub triples_at : (bases : List ℕ) (v : Values) (targets : List ℕ) (from n k : ℕ) → k < n → triple_at (triples_for bases v targets from n) k ≡ triple_for bases v (at targets (from + k))
unfolding triples_for
triples_at bases v targets from zero k h = absurd (omega arith)
triples_at bases v targets from (suc n) k h =
    let x = triple_for bases v (at targets (from + n)) in
    let long : length (triples_for bases v targets from n) ≡ 3 * n = triples_length bases v targets from n in
    ⊎_elim
    (λ e. ap (triple_at (triples_for bases v targets from n ++ (x.c0 ∷ x.c1 ∷ x.c2 ∷ []))) e ∙ back_triple (triples_for bases v targets from n) x n long ∙ ap (λ (j : ℕ). triple_for bases v (at targets (from + j))) (sym e))
    (λ l. front_triple (triples_for bases v targets from n) (x.c0 ∷ x.c1 ∷ x.c2 ∷ []) k (omega arith) ∙ triples_at bases v targets from n k l)
    (last_or k n h)

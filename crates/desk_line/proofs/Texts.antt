-- Laws of words that are written, sixteen characters each. Assumes nothing.
use Prim.Native.Nat.{ℕ, ◌+◌, ◌*◌, ◌/◌, ◌%◌, ◌<◌, ◌≤◌}
use mathlib.Core.Path.{◌≡◌, refl, sym, ap, ◌∙◌}
use mathlib.Core.List.{List, [], ◌∷◌, ◌++◌, append_assoc, append-nil}
use native.Mathlib.Numerals.{add-one}
use native.Mathlib.Omega.{arith}
use lib.ListN.{length, get_or, take, length-append}
use lib.Seq.{take-suc, take_all, length-take-le}
use Rattle.framing.specs.Digits.{hexadecimal, two}
use Rattle.frame.specs.Puts.{Put}
use Rattle.frame.proofs.Writing.{put_then, put_none, hexadecimal_append, length_hexadecimal}
use Rattle.desk.specs.Words.{four, eight, eights}

pub four_put : (n : ℕ) {l l₁ l₂ : List ℕ} {at k₁ k₂ : ℕ} → Put l at (hexadecimal (two (n / 0x1_0000))) l₁ k₁ → Put l₁ k₁ (hexadecimal (two (n % 0x1_0000))) l₂ k₂ → Put l at (hexadecimal (four n)) l₂ k₂
unfolding four
four_put n p q = rw (hexadecimal_append (two (n / 0x1_0000)) (two (n % 0x1_0000))) (put_then p q)

pub eight_put : (n : ℕ) {l l₁ l₂ : List ℕ} {at k₁ k₂ : ℕ} → Put l at (hexadecimal (four (n / 0x1_0000_0000))) l₁ k₁ → Put l₁ k₁ (hexadecimal (four (n % 0x1_0000_0000))) l₂ k₂ → Put l at (hexadecimal (eight n)) l₂ k₂
unfolding eight
eight_put n p q = rw (hexadecimal_append (four (n / 0x1_0000_0000)) (four (n % 0x1_0000_0000))) (put_then p q)

length_four : (n : ℕ) → length (four n) ≡ 4
unfolding four two
length_four n = refl

pub four_behind : (n : ℕ) {l l' : List ℕ} {at k : ℕ} → Put l at (hexadecimal (four n)) l' k → k ≡ at + 8
four_behind n put = omega (arith, put.behind, length_hexadecimal (four n), length_four n)

length_eight : (n : ℕ) → length (eight n) ≡ 8
unfolding eight
length_eight n = omega (arith, length-append (four (n / 0x1_0000_0000)) (four (n % 0x1_0000_0000)), length_four (n / 0x1_0000_0000), length_four (n % 0x1_0000_0000))

pub length_eights : (ns : List ℕ) → length (eights ns) ≡ 8 * length ns
unfolding eights
length_eights [] = refl
length_eights (n ∷ ns) = omega (arith, length-append (eight n) (eights ns), length_eight n, length_eights ns)

-- words as text
abbrev pub words_text : List ℕ → List ℕ
words_text ws = hexadecimal (eights ws)

pub length_words : (ws : List ℕ) → length (words_text ws) ≡ 16 * length ws
length_words ws = omega (arith, length_hexadecimal (eights ws), length_eights ws)

eights_append : (xs ys : List ℕ) → eights (xs ++ ys) ≡ eights xs ++ eights ys
unfolding eights
eights_append [] ys = refl
eights_append (x ∷ xs) ys = ap (λ (t : List ℕ). eight x ++ t) (eights_append xs ys) ∙ sym (append_assoc (eight x) (eights xs) (eights ys))

pub words_append : (xs ys : List ℕ) → words_text (xs ++ ys) ≡ words_text xs ++ words_text ys
words_append xs ys = ap hexadecimal (eights_append xs ys) ∙ hexadecimal_append (eights xs) (eights ys)

word_text : (w : ℕ) → words_text (w ∷ []) ≡ hexadecimal (eight w)
unfolding eights
word_text w = ap hexadecimal (append-nil (eight w))

module _ (l : List ℕ) (at : ℕ) (words : List ℕ) where
  pub words_unwritten : Put l at (words_text (take 0 words)) l at
  unfolding hexadecimal eights
  words_unwritten = put_none l at

  module _ (k next : ℕ) (l' : List ℕ) (put : Put l at (words_text (take k words)) l' next) where
    pub words_behind : k ≤ length words → next ≡ at + 16 * k
    words_behind h = omega (arith, put.behind, length_words (take k words), length-take-le k words h)

    pub words_one_more : (l'' : List ℕ) (next' : ℕ) → k < length words → Put l' next (hexadecimal (eight (get_or words k 0))) l'' next' → Put l at (words_text (take (k + 1) words)) l'' next'
    words_one_more l'' next' h p =
        let e : words_text (take k words) ++ hexadecimal (eight (get_or words k 0)) ≡ words_text (take (k + 1) words) =
        ap (λ (t : List ℕ). words_text (take k words) ++ t) (sym (word_text (get_or words k 0))) ∙ sym (words_append (take k words) (get_or words k 0 ∷ []))
        ∙ ap words_text (sym (take-suc words k 0 h) ∙ ap (λ (q : ℕ). take q words) (sym (add-one k))) in
        rw e at (put_then put p)

    pub words_all : length words ≤ k → Put l at (words_text words) l' next
    words_all h =
        let e : take k words ≡ words = take_all k words h in
        rw e at put

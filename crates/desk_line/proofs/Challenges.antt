-- Laws of a line of challenges. Assumes nothing.
use Prim.Native.Nat.{ℕ, suc, ◌+◌, ◌-◌, ◌*◌, ◌/◌, ◌<◌, ◌≤◌}
use mathlib.Core.Path.{◌≡◌, refl, sym, ap, ◌∙◌}
use mathlib.Core.Bool.{Bool, true, false, ◌&&◌, ◌||◌, not, false≢true}
use mathlib.Core.List.{List, [], ◌∷◌}
use native.Mathlib.Omega.{arith}
use lib.ListN.{length}
use lib.Dec.{ltb, leb, eqb}
use borrow.Author.Tests.{ltb-false, lt-ltb, le-ltb, leb-true, leb-false, eq-eqb, ne_eqb}
use Rattle.layout.specs.Lists.{all, any}
use Rattle.layout.specs.NotCircuit.{bad_word}
use Rattle.layout.proofs.Lists.{and-true}
use Rattle.framing.specs.Digits.{is_digit, bytes_of, number_at}
use Rattle.framing.specs.Answers.{FRAME}
use Rattle.desk.specs.Words.{words_at}
use Rattle.desk.specs.Desks.{Desk, desk}
use Rattle.desk.specs.Lines.{told, too_many, is_challenges, challenges_told}

-- what is left of the words decides
pub record Left (n k after : ℕ) (bs : List ℕ) : Type 0 where
  pub same : any bad_word (words_at (n - k) (after + 8 * k) bs) ≡ any bad_word (words_at n after bs)

pub left_all : (n after : ℕ) (bs : List ℕ) → Left n 0 after bs
left_all n after bs =
    let a : n - 0 ≡ n = omega arith in
    let b : after + 8 * 0 ≡ after = omega arith in
    record { same = rw (a, b) refl }

module _ (n k after : ℕ) (bs : List ℕ) (left : Left n k after bs) where
  one_left : k < n → bad_word (number_at 8 (after + 8 * k) bs) || any bad_word (words_at (n - (k + 1)) (after + 8 * (k + 1)) bs) ≡ any bad_word (words_at n after bs)
  unfolding words_at any
  one_left h =
      let a : n - k ≡ suc (n - (k + 1)) = omega arith in
      let b : after + 8 * (k + 1) ≡ after + 8 * k + 8 = omega arith in
      rw b (sym (ap (λ (q : ℕ). any bad_word (words_at q (after + 8 * k) bs)) a) ∙ left.same)

  pub bad_here : k < n → (r : Bool) (w : ℕ) → w ≡ number_at 8 (after + 8 * k) bs → r ≡ bad_word w → r ≡ true → true ≡ any bad_word (words_at n after bs)
  bad_here h r w e f t = sym (ap (λ (q : Bool). q || any bad_word (words_at (n - (k + 1)) (after + 8 * (k + 1)) bs)) (ap bad_word (sym e) ∙ sym f ∙ t)) ∙ one_left h

  pub left_less : k < n → (r : Bool) (w : ℕ) → w ≡ number_at 8 (after + 8 * k) bs → r ≡ bad_word w → r ≡ false → Left n (k + 1) after bs
  left_less h r w e f t = record { same = sym (ap (λ (q : Bool). q || any bad_word (words_at (n - (k + 1)) (after + 8 * (k + 1)) bs)) (ap bad_word (sym e) ∙ sym f ∙ t)) ∙ one_left h }

  pub left_none : n ≤ k → false ≡ any bad_word (words_at n after bs)
  unfolding words_at any
  left_none h =
      let a : n - k ≡ 0 = omega arith in
      sym (ap (λ (q : ℕ). any bad_word (words_at q (after + 8 * k) bs)) a) ∙ left.same

-- at most so many
few_enough : (n : ℕ) → leb n 1024 ≡ not (too_many n)
unfolding too_many
few_enough n = go (leb n 1024) refl
  where
    go : (b : Bool) → leb n 1024 ≡ b → b ≡ not (ltb 1024 n)
    go true e = sym (ap not (le-ltb 1024 n (leb-true n 1024 e)))
    go false e = sym (ap not (lt-ltb 1024 n (leb-false n 1024 e)))

-- digits, and as many as the challenges have
module _ (n : ℕ) (line : List ℕ) (a : Bool) (is : a ≡ all is_digit line) where
  abbrev rest : Bool
  rest = eqb (length line) (2 + 48 * n) && not (too_many n)

  pub given_no_digits : a ≡ false → false ≡ is_challenges n line
  unfolding is_challenges
  given_no_digits f = sym (ap (λ (q : Bool). q && rest) (sym is ∙ f))

  module _ (t : a ≡ true) (h : 48 * n ≤ length line) where
    pub given_other_length : (length line - 48 * n ≡ 2 → ⊥) → false ≡ is_challenges n line
    unfolding is_challenges
    given_other_length g =
        sym (ap (λ (q : Bool). q && rest) (sym is ∙ t) ∙ ap (λ (q : Bool). q && not (too_many n)) (ne_eqb (length line) (2 + 48 * n) (λ e. g (omega arith))))

    pub given_counted : length line - 48 * n ≡ 2 → leb n 1024 ≡ is_challenges n line
    unfolding is_challenges
    given_counted g =
        few_enough n ∙ sym (ap (λ (q : Bool). q && rest) (sym is ∙ t) ∙ ap (λ (q : Bool). q && not (too_many n)) (eq-eqb (length line) (2 + 48 * n) (omega arith)))

pub given_few : (n : ℕ) (line : List ℕ) → is_challenges n line ≡ true → n ≤ 1024
unfolding is_challenges too_many
given_few n line h =
    let t = (and-true (eqb (length line) (2 + 48 * n)) (not (ltb 1024 n)) (and-true (all is_digit line) (eqb (length line) (2 + 48 * n) && not (ltb 1024 n)) h).1).1 in
    go (ltb 1024 n) refl t
  where
    go : (b : Bool) → ltb 1024 n ≡ b → not b ≡ true → n ≤ 1024
    go false e q = ltb-false 1024 n e
    go true e q = absurd (false≢true q)

-- what the line is answered, and what is kept
module _ (d : Desk) (line : List ℕ) where
  abbrev many : ℕ
  many = length line / 48

  abbrev words : List ℕ
  words = words_at (3 * many) 1 (bytes_of line)

  pub no_challenges : is_challenges many line ≡ false → told d (FRAME ∷ []) ≡ challenges_told d line
  unfolding challenges_told
  no_challenges h = sym (rw h)

  pub bad_challenges : is_challenges many line ≡ true → any bad_word words ≡ true → told d (5 ∷ []) ≡ challenges_told d line
  unfolding challenges_told
  bad_challenges h b = sym (rw (h, b))

  pub challenges_given : is_challenges many line ≡ true → any bad_word words ≡ false → (kept : List ℕ) → kept ≡ words → told (desk d.state d.latest kept) (0 ∷ []) ≡ challenges_told d line
  unfolding challenges_told
  challenges_given h b kept e = sym (rw (h, b, e))

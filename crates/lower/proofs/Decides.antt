-- How the two groups of tests decide a lowering's outcome. Assumes nothing.
use Rattle.std.specs.Prelude.{if◌then◌else◌}
use Prim.Native.Nat.{ℕ, zero, suc, ◌≤◌}
use mathlib.Core.Path.{◌≡◌, refl, sym, ◌∙◌}
use mathlib.Core.Logic.{◌≢◌}
use mathlib.Core.Bool.{Bool, true, false}
use mathlib.Core.List.{List, [], ◌∷◌, ◌++◌}
use native.Mathlib.Omega.{arith}
use lib.ListN.{length}
use lib.Dec.{ltb}
use borrow.Author.Tests.{ltb-false}
use Rattle.layout.specs.declared.refusal.Refusal.{Refusal}
use Rattle.layout.specs.Refusals.{number_of}
use Rattle.layout.proofs.Unique.{number_some}
use Rattle.layout.specs.Outcomes.{refusal}
use Rattle.layout.specs.Answers.{accepted, refused}
use Rattle.layout.proofs.Refusals.{refusal_none, refusal_next, outcome_accepted, outcome_refused}
use Rattle.paths.proofs.Written.{written_none}
use Rattle.lowering.specs.Lowering.{Lowering, M, too_high}
use Rattle.lowering.specs.Refusals.{over_occurrences}
use Rattle.lowering.specs.Calls.{tests_first, tests_then, lower_call}
use Rattle.lower.specs.Refusing.{first_refusal, then_refusal, Passed}
use Rattle.lower.specs.Advancing.{Begun, finished}
use Rattle.lowering.proofs.Accepts.{First, peel, tests, then_tests_lem, list_tests}
use Rattle.lowering.proofs.Theorem.{lowered_none}
use Rattle.lowering.proofs.Fills.{start}
use Rattle.lower.proofs.Along.{Bounded, Going}
use Rattle.lower.proofs.Begins.{bounded, going_start}

-- one that applies, whatever comes after
refusal_front : (ts us : List (ℕ × Bool)) (k : ℕ) → refusal ts ≡ suc k → refusal (ts ++ us) ≡ suc k
unfolding refusal
refusal_front [] us k h = absurd (omega arith)
refusal_front (t ∷ ts) us k h = go t.1 h (refusal_front ts us k)
  where
    go : (b : Bool) → (if b then t.0 else refusal ts) ≡ suc k → (refusal ts ≡ suc k → refusal (ts ++ us) ≡ suc k) → (if b then t.0 else refusal (ts ++ us)) ≡ suc k
    go true e f = e
    go false e f = f e

-- what the first group leaves
pub first_passed : (T : ℕ) (m roots : List ℕ) → first_refusal T m roots ≡ 0 → Passed m roots × (ltb T 2 ≡ false)
unfolding first_refusal
first_passed T m roots h =
    let (a, h₁) = peel 0 _ _ h in
    let (b, h₂) = peel 7 _ _ h₁ in
    let (c, h₃) = peel 1 _ _ h₂ in
    let (d, h₄) = peel 10 _ _ h₃ in
    (record { valid = a; ids = c; degree = d }, b)

few_occurrences : (T mc ac mr ar : ℕ) (m roots : List ℕ) → then_refusal T mc ac mr ar m roots ≡ 0 → over_occurrences T m roots ≡ false
unfolding then_refusal
few_occurrences T mc ac mr ar m roots h =
    let (a, h₁) = peel 9 _ _ h in
    let (b, h₂) = peel 8 _ _ h₁ in
    let (c, h₃) = peel 11 _ _ h₂ in
    c

module _ (T mc ac : ℕ) (lent : Lowering) where
  abbrev m : List ℕ
  m = lent.circuit

  abbrev roots : List ℕ
  roots = lent.roots

  first-is : first_refusal T m roots ≡ refusal (tests_first T lent)
  unfolding first_refusal tests_first
  first-is = refl

  rest-is : then_refusal T mc ac (length lent.main) (length lent.aux) m roots ≡ refusal (tests_then T mc ac lent)
  unfolding then_refusal tests_then
  rest-is = refl

  -- the second group decides, where it comes into play
  tests_rest : first_refusal T m roots ≡ 0 → refusal (tests T mc ac lent) ≡ refusal (if too_high T m roots then tests_then T mc ac lent else [])
  unfolding tests_first
  tests_rest h =
      let (p, t) = first_passed T m roots h in
      refusal_next 1 _ _ p.valid ∙ refusal_next 8 _ _ t ∙ refusal_next 2 _ _ p.ids ∙ refusal_next 11 _ _ p.degree

  some_number : (n : ℕ) → n ≢ 0 → refusal (tests T mc ac lent) ≡ n → refused n (0, 0) lent ≡ lower_call T mc ac lent
  unfolding lower_call
  some_number zero h e = absurd (h refl)
  some_number (suc k) h e = sym (outcome_refused (tests T mc ac lent) _ _ _ lent k e)

  first_number : (n : ℕ) → n ≡ first_refusal T m roots → n ≢ 0 → refused n (0, 0) lent ≡ lower_call T mc ac lent
  first_number zero e h = absurd (h refl)
  first_number (suc k) e h = some_number (suc k) h (refusal_front (tests_first T lent) _ k (sym first-is ∙ sym e))

  pub refused_first : (r : Refusal) → number_of r ≡ first_refusal T m roots → refused (number_of r) (0, 0) lent ≡ lower_call T mc ac lent
  refused_first r e = first_number (number_of r) e (λ z. number_some r (sym z))

  module _ (none : first_refusal T m roots ≡ 0) where
    -- no roots, or all within target
    pub nothing-done : too_high T m roots ≡ false → accepted (0, 0) lent ≡ lower_call T mc ac lent
    unfolding lower_call
    nothing-done low =
        let r : refusal (tests T mc ac lent) ≡ 0 = tests_rest none ∙ rw low refusal_none in
        sym (outcome_accepted (tests T mc ac lent) _ _ _ lent r ∙ rw (lowered_none T mc ac m roots low, written_none lent.main, written_none lent.aux))

    module _ (high : too_high T m roots ≡ true) where
      then_decides : refusal (tests T mc ac lent) ≡ then_refusal T mc ac (length lent.main) (length lent.aux) m roots
      then_decides = tests_rest none ∙ rw high (sym rest-is)

      pub refused_then : (r : Refusal) → number_of r ≡ then_refusal T mc ac (length lent.main) (length lent.aux) m roots → refused (number_of r) (0, 0) lent ≡ lower_call T mc ac lent
      refused_then r e = some_number (number_of r) (λ z. number_some r (sym z)) (then_decides ∙ sym e)

  pub begun : first_refusal T m roots ≡ 0 → too_high T m roots ≡ true → then_refusal T mc ac (length lent.main) (length lent.aux) m roots ≡ 0 → Begun T mc ac lent
  begun f h r = record { first = f; high = h; rest = r }

  module _ (b : Begun T mc ac lent) where
    -- accepted
    pub finished_is : finished T mc ac lent ≡ lower_call T mc ac lent
    unfolding finished lower_call
    finished_is = sym (outcome_accepted (tests T mc ac lent) _ _ _ lent (then_decides b.first b.high ∙ b.rest))

    first_of : First T m roots
    first_of = let (p, t) = first_passed T m roots b.first in record { circuit = p.valid; target = ltb-false T 2 t; ids = p.ids }

    pub begun_bounded : Bounded T mc ac m roots
    begun_bounded = bounded T mc ac m roots first_of (then_tests_lem T mc ac lent (sym rest-is ∙ b.rest)) b.high

    pub begun_going : Going T mc ac m roots (start m roots) (M m roots)
    begun_going =
        going_start T mc ac m roots first_of (then_tests_lem T mc ac lent (sym rest-is ∙ b.rest)) b.high (first_passed T m roots b.first).0.degree
        (few_occurrences T mc ac _ _ m roots b.rest)

    pub begun_room : (M m roots ≤ length lent.main) × (M m roots ≤ length lent.aux)
    begun_room = list_tests T mc ac lent (sym rest-is ∙ b.rest)

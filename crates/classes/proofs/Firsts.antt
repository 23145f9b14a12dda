-- The laws of the least ids of the class numbers. Assumes nothing.
use Rattle.std.specs.Prelude.{if◌then◌else◌, Option, None, Some}
use Rattle.std.specs.Option.{SomeIff}
use Prim.Native.Nat.{ℕ, zero, suc, ◌+◌, ◌-◌, ◌<◌, ◌≤◌}
use mathlib.Core.Path.{◌≡◌, refl, sym, ap, ◌∙◌}
use mathlib.Core.Logic.{⊎_elim, ◌≢◌}
use mathlib.Core.Bool.{Bool, true, false, ◌&&◌}
use mathlib.Core.List.{List}
use native.Mathlib.Numerals.{add-one}
use native.Mathlib.Omega.{arith}
use lib.Dec.{eqb}
use lib.ListN.{length, get_or, set, get_or-eq_default}
use lib.Seq.{get_or-set_same, get_or-set_other}
use borrow.Author.Tests.{eq-eqb, ne_eqb}
use Rattle.layout.specs.Lists.{up_to, first}
use Rattle.circuit.specs.Rank.{at}
use Rattle.layout.proofs.Tests.{last_or, below_or, same_or}
use Rattle.layout.proofs.Lists.{clash, or_next, first_more, first_found, first-is, Found}
use Rattle.classes.specs.Least.{slot, least_with, any_id, Firsts, noted, Inside}

-- one id more

more_no : (q : ℕ → Bool) (n : ℕ) → q n ≡ false → first q (up_to (n + 1)) ≡ first q (up_to n)
more_no q n e = rw (add-one, first_more q n, e) (go (first q (up_to n)))
  where
    go : (r : Option ℕ) → or_next r None ≡ r
    go None = refl
    go (Some i) = refl

more_yes : (q : ℕ → Bool) (n : ℕ) → q n ≡ true → first q (up_to (n + 1)) ≡ or_next (first q (up_to n)) (Some n)
more_yes q n e = rw (add-one, first_more q n, e)

noted_same : (least : List ℕ) (v i : ℕ) → v < length least → slot (at (noted least v i) v) ≡ or_next (slot (at least v)) (Some i)
unfolding noted
noted_same least v i l = go (at least v) refl
  where
    go : (s : ℕ) → at least v ≡ s → slot (at (if eqb (at least v) 0 then set least v (i + 1) else least) v) ≡ or_next (slot (at least v)) (Some i)
    go zero e = rw e (rw (get_or-set_same least v (i + 1) 0 l, add-one))
    go (suc s) e = rw (ne_eqb (at least v) 0 (omega arith), e)

noted_other : (least : List ℕ) (v i u : ℕ) → u ≢ v → at (noted least v i) u ≡ at least u
unfolding noted
noted_other least v i u d = go (eqb (at least v) 0)
  where
    go : (b : Bool) → at (if b then set least v (i + 1) else least) u ≡ at least u
    go true = get_or-set_other least v u (i + 1) 0 d
    go false = refl

module _ (p : ℕ → Bool) (num least : List ℕ) where
  pub firsts_none : ((v : ℕ) → v < length least → get_or least v 0 ≡ 0) → Firsts p num least 0
  unfolding least_with first up_to
  firsts_none b = record {
    each = λ v. ap slot (⊎_elim (λ l. b v l) (λ l. get_or-eq_default least 0 l) (below_or v (length least)));
  }

  module _ (n : ℕ) (f : Firsts p num least n) where
    pub firsts_skip : p n ≡ false → Firsts p num least (n + 1)
    unfolding least_with
    firsts_skip e = record { each = λ v. f.each v ∙ sym (more_no (λ i. p i && eqb (at num i) v) n (rw e)) }

    pub firsts_more : p n ≡ true → at num n < length least → Firsts p num (noted least (at num n) n) (n + 1)
    unfolding least_with
    firsts_more e l = record {
      each = λ v. ⊎_elim
          (λ q.
          ap (λ (x : ℕ). slot (at (noted least (at num n) n) x)) q
          ∙ noted_same least (at num n) n l
          ∙ ap (λ (x : ℕ). or_next (slot (at least x)) (Some n)) (sym q)
          ∙ ap (λ (x : Option ℕ). or_next x (Some n)) (f.each v)
          ∙ sym (more_yes (λ i. p i && eqb (at num i) v) n (rw (e, eq-eqb (at num n) v (sym q)))))
          (λ d.
          ap slot (noted_other least (at num n) n v d)
          ∙ f.each v
          ∙ sym (more_no (λ i. p i && eqb (at num i) v) n (rw (e, ne_eqb (at num n) v (λ q. d (sym q))))))
          (same_or v (at num n));
    }

-- what is the first of some is the first of more
pub first_longer : (q : ℕ → Bool) (k n i : ℕ) → k ≤ n → first q (up_to k) ≡ Some i → first q (up_to n) ≡ Some i
first_longer q k n i l e =
    let f : Found q k (Some i) = rw e at (first_found q k) in
    let a = f.below in
    first-is q n (Some i) (record { below = omega arith; passes = f.passes; before = f.before })

-- what a word stands for: the number before it
pub slot_at : (s : ℕ) → (s ≡ 0 → ⊥) → Some (s - 1) ≡ slot s
slot_at zero n = absurd (n refl)
slot_at (suc r) n = ap Some (less r)
  where
    less : (r : ℕ) → suc r - 1 ≡ r
    less r = omega arith

pub slot_told : (s : ℕ) (r : Option ℕ) → SomeIff r (1 ≤ s) (s - 1) → r ≡ slot s
slot_told s None n = let z : s ≡ 0 = omega arith in rw z
slot_told s (Some i) h = let l = h.0 in ap Some h.1 ∙ slot_at s (λ z. omega arith)

-- a word that stands for the first of those that pass, of which there is one
pub slot_some : (q : ℕ → Bool) (i n s : ℕ) → i < n → q i ≡ true → slot s ≡ first q (up_to (i + 1)) → (1 ≤ s) × (Some (s - 1) ≡ first q (up_to n))
slot_some q i n zero l y e =
    let f : Found q (i + 1) None = rw (sym e) at (first_found q (i + 1)) in
    clash (q i) y (f i (omega arith))
slot_some q i n (suc r) l y e = (omega arith, slot_at (suc r) (λ z. omega arith) ∙ sym (first_longer q (i + 1) n r (omega arith) (sym e)))

-- the loop that turns numbers into least ids
pub record Lowering (num class least : List ℕ) (n i : ℕ) : Type 0 where
  pub firsts : Firsts any_id num least i
  pub done : (j : ℕ) → j < i → Some (at class j) ≡ least_with any_id num n (at num j)
  pub rest : (j : ℕ) → i ≤ j → at class j ≡ at num j

pub lower_start : (num least : List ℕ) (n : ℕ) → ((v : ℕ) → v < length least → get_or least v 0 ≡ 0) → Lowering num num least n 0
lower_start num least n b = record { firsts = firsts_none any_id num least b; done = λ j l. absurd (omega arith); rest = λ j l. refl }

module _ (num class least₁ least : List ℕ) (n i : ℕ) (w : Inside num least₁ n) (z : length least ≡ length least₁) (ids : length class ≡ length num) (g : Lowering num class least n i) (l : i < n) (least' : List ℕ) (same : length least' ≡ length least) (e : least' ≡ noted least (at class i) i) where
  listed : Firsts any_id num least' (i + 1)
  listed = rw (e, g.rest i (omega arith)) (firsts_more any_id num least i g.firsts refl (let a = w.inside i l in omega arith))

  lowest : (1 ≤ at least' (at class i)) × (Some (at least' (at class i) - 1) ≡ least_with any_id num n (at num i))
  unfolding least_with
  lowest =
      rw (g.rest i (omega arith))
      (slot_some (λ k. any_id k && eqb (at num k) (at num i)) i n (at least' (at num i)) l (eq-eqb (at num i) (at num i) refl) (listed.each (at num i)))

  pub lower_some : 1 ≤ at least' (at class i)
  lower_some = lowest.0

  pub lower_turn : Lowering num (set class i (at least' (at class i) - 1)) least' n (i + 1)
  lower_turn =
      let x = at least' (at class i) - 1 in
      let k : i < length class = let h = w.numbers in omega arith in
      record {
        firsts = listed;
        done = λ j a. ⊎_elim
            (λ q. rw q (rw (get_or-set_same class i x 0 k) lowest.1))
            (λ b. rw (get_or-set_other class i j x 0 (omega arith)) (g.done j b))
            (last_or j i (omega arith));
        rest = λ j a. get_or-set_other class i j x 0 (omega arith) ∙ g.rest j (omega arith);
      }

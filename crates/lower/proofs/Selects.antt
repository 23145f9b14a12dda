-- The choice as the code does it: lists that grow by one id, and the best so far. Assumes nothing.
use Rattle.std.specs.Prelude.{if◌then◌else◌}
use Prim.Native.Nat.{ℕ, suc, ◌+◌, ◌<◌, ◌≤◌}
use mathlib.Core.Path.{◌≡◌, refl, sym, ◌∙◌, ap}
use mathlib.Core.Logic.{⊎_elim}
use mathlib.Core.Bool.{Bool, true, false}
use mathlib.Core.List.{List, [], ◌∷◌, ◌++◌, map}
use native.Mathlib.Numerals.{add-one}
use native.Mathlib.Omega.{arith}
use lib.ListN.{length, set, length-append}
use lib.Seq.{take-suc-set}
use borrow.Author.Tests.{ltb-true, lt-ltb, le-ltb, eq-eqb}
use Rattle.layout.specs.Lists.{up_to, keep, each}
use Rattle.circuit.specs.Rank.{at}
use Rattle.layout.proofs.Tests.{below_or}
use Rattle.layout.proofs.Lists.{and-true}
use Rattle.lowering.specs.Lowering.{Candidate, better, best}
use Rattle.lower.specs.Tables.{is_high_in, high_in, Listed, is_candidate_in, candidate_in, best_in, improved}

keep_last : (p : ℕ → Bool) (xs : List ℕ) (x : ℕ) → keep p (xs ++ (x ∷ [])) ≡ keep p xs ++ (if p x then x ∷ [] else [])
unfolding keep
keep_last p [] x = refl
keep_last p (y ∷ xs) x = rw (keep_last p xs x) (go (p y) (keep p xs) (if p x then x ∷ [] else []))
  where
    go : (b : Bool) (ys zs : List ℕ) → (if b then y ∷ (ys ++ zs) else (ys ++ zs)) ≡ (if b then y ∷ ys else ys) ++ zs
    go true ys zs = refl
    go false ys zs = refl

-- one number more
pub keep_more : (p : ℕ → Bool) (n : ℕ) → keep p (up_to (suc n)) ≡ keep p (up_to n) ++ (if p n then n ∷ [] else [])
unfolding up_to
keep_more p n = keep_last p (up_to n) n

append_nothing : (xs : List ℕ) → xs ++ [] ≡ xs
append_nothing [] = refl
append_nothing (x ∷ xs) = ap (λ (l : List ℕ). x ∷ l) (append_nothing xs)

-- the first i nodes are looked at, and `many` of them stand at the front of the list
pub record Listing (degrees counts : List ℕ) (d : ℕ) (list : List ℕ) (many i : ℕ) : Type 0 where
  pub few : many ≤ i
  pub listed : Listed (high_in degrees counts d i) list many

module _ (degrees counts : List ℕ) (d : ℕ) where
  more : (i : ℕ) → high_in degrees counts d (i + 1) ≡ high_in degrees counts d i ++ (if is_high_in degrees counts d i then i ∷ [] else [])
  unfolding high_in
  more i = rw add-one (keep_more (is_high_in degrees counts d) i)

  pub listing_start : (list : List ℕ) → Listing degrees counts d list 0 0
  unfolding high_in keep up_to
  listing_start list = record { few = omega arith; listed = record { many = refl; front = refl } }

  module _ (i many : ℕ) (list : List ℕ) (l : Listing degrees counts d list many i) where
    pub listing_yes : (many' : ℕ) (list' : List ℕ) → i < length list → is_high_in degrees counts d i ≡ true → list' ≡ set list many i → many' ≡ many + 1 → Listing degrees counts d list' many' (i + 1)
    listing_yes many' list' room h e q =
        let f = l.few in
        let x : high_in degrees counts d (i + 1) ≡ high_in degrees counts d i ++ (i ∷ []) = more i ∙ rw h in
        rw (e, q)
        record {
          few = omega arith;
          listed =
              record {
                many = omega (arith, ap length x, length-append (high_in degrees counts d i) (i ∷ []), l.listed.many);
                front = rw (add-one many) (take-suc-set list many i (omega arith) ∙ rw l.listed.front (sym x));
              };
        }

    pub listing_no : (many' : ℕ) (list' : List ℕ) → is_high_in degrees counts d i ≡ false → list' ≡ list → many' ≡ many → Listing degrees counts d list' many' (i + 1)
    listing_no many' list' h e q =
        let f = l.few in
        let x : high_in degrees counts d (i + 1) ≡ high_in degrees counts d i = more i ∙ rw h (append_nothing (high_in degrees counts d i)) in
        rw (e, q) record { few = omega arith; listed = rw x l.listed }

-- what each candidate is better than
abbrev pub nothing : Candidate
nothing = record { id = 0; degree = 0; occurrences = 0 }

better_first : (c : Candidate) → 0 < c.degree → better nothing c ≡ c
better_first c h =
    ⊎_elim
    (λ l. rw (lt-ltb 0 c.occurrences l))
    (λ l. rw (le-ltb 0 c.occurrences l, eq-eqb 0 c.occurrences (omega arith), lt-ltb 0 c.degree h))
    (below_or 0 c.occurrences)

module _ (f : ℕ → Candidate) (p : ℕ → Bool) (some : (i : ℕ) → p i ≡ true → 0 < (f i).degree) where
  each_kept : (a : Candidate) (xs : List ℕ) → each better a (map f (keep p xs)) ≡ each (λ b i. if p i then better b (f i) else b) a xs
  unfolding each keep
  each_kept a [] = refl
  each_kept a (x ∷ xs) = go (p x) refl (λ b. each_kept b xs)
    where
      go : (t : Bool) → p x ≡ t → ((b : Candidate) → each better b (map f (keep p xs)) ≡ each (λ b i. if p i then better b (f i) else b) b xs)
          → each better a (map f (if p x then x ∷ keep p xs else keep p xs)) ≡ each (λ b i. if p i then better b (f i) else b) (if p x then better a (f x) else a) xs
      go true e rest = rw e (rest (better a (f x)))
      go false e rest = rw e (rest a)

  best_first : (xs : List ℕ) → best (map f (keep p xs)) ≡ (each better nothing (map f (keep p xs))).id
  unfolding best each keep
  best_first [] = refl
  best_first (x ∷ xs) = go (p x) refl (best_first xs)
    where
      go : (t : Bool) → p x ≡ t → best (map f (keep p xs)) ≡ (each better nothing (map f (keep p xs))).id
          → best (map f (if p x then x ∷ keep p xs else keep p xs)) ≡ (each better nothing (map f (if p x then x ∷ keep p xs else keep p xs))).id
      go true e rest = rw e (ap (λ (y : Candidate). (each better y (map f (keep p xs))).id) (sym (better_first (f x) (some x e))))
      go false e rest = rw e rest

-- the best after all is the choice
pub best_last : (degrees occurrences : List ℕ) (target n : ℕ) → (each (improved degrees occurrences target) nothing (up_to n)).id ≡ best_in degrees occurrences target n
unfolding best_in improved
best_last degrees occurrences target n =
    sym (best_first (candidate_in degrees occurrences) (is_candidate_in degrees target) high (up_to n)
    ∙ ap (λ (c : Candidate). c.id) (each_kept (candidate_in degrees occurrences) (is_candidate_in degrees target) high nothing (up_to n)))
  where
    high : (i : ℕ) → is_candidate_in degrees target i ≡ true → 0 < at degrees i
    high i h = let k = ltb-true 2 (at degrees i) (and-true _ _ h).0 in omega arith

-- Occurrences: sums of paths over the high nodes. Assumes nothing.
use Rattle.std.specs.Prelude.{if◌then◌else◌}
use Prim.Native.Nat.{ℕ, ◌+◌, ◌≤◌, ◌<◌}
use mathlib.Core.Path.{◌≡◌, refl}
use mathlib.Core.Logic.{inl, inr}
use mathlib.Core.Bool.{Bool, true, false}
use mathlib.Core.List.{List, [], ◌∷◌}
use native.Mathlib.Omega.{arith}
use Rattle.layout.specs.Lists.{In, keep}
use Rattle.layout.proofs.Lists.{clash}
use Rattle.walking.specs.Paths.{paths}
use Rattle.paths.proofs.Walks.{from, paths_none, paths_more}
use Rattle.lowering.specs.Lowering.{Lowering, below_above}

-- how often z occurs: the paths to it from all high nodes
abbrev pub occurs : ℕ → Lowering → ℕ → ℕ
occurs T x z = paths x.circuit (below_above T x.circuit x.roots) z

-- C: SUMS. What each start loses, all of them lose, and no start comes in
pub paths_pass : (m m₁ : List ℕ) (p p₁ : ℕ → Bool) (s z : ℕ) (xs : List ℕ) → ((i : ℕ) → p i ≡ true → from m i s ≤ from m i z) → ((i : ℕ) → p₁ i ≡ true → (p i ≡ true) × (from m₁ i z + from m i s ≤ from m i z))
    → paths m₁ (keep p₁ xs) z + paths m (keep p xs) s ≤ paths m (keep p xs) z
unfolding keep
paths_pass m m₁ p p₁ s z [] f h = omega (arith, paths_none m z, paths_none m s, paths_none m₁ z)
paths_pass m m₁ p p₁ s z (i ∷ xs) f h = go (p₁ i) (p i) refl refl (paths_pass m m₁ p p₁ s z xs f h)
  where
    go : (b₁ b : Bool) → p₁ i ≡ b₁ → p i ≡ b → paths m₁ (keep p₁ xs) z + paths m (keep p xs) s ≤ paths m (keep p xs) z
        → paths m₁ (if b₁ then i ∷ keep p₁ xs else keep p₁ xs) z + paths m (if b then i ∷ keep p xs else keep p xs) s ≤ paths m (if b then i ∷ keep p xs else keep p xs) z
    go true true d e rest = omega (arith, paths_more m i (keep p xs) z, paths_more m i (keep p xs) s, paths_more m₁ i (keep p₁ xs) z, (h i d).1)
    go true false d e rest = clash (p i) (h i d).0 e
    go false true d e rest = omega (arith, paths_more m i (keep p xs) z, paths_more m i (keep p xs) s, f i e)
    go false false d e rest = rest

-- no start has more paths to s than to z
pub paths_least : (m : List ℕ) (s z : ℕ) (xs : List ℕ) → ((i : ℕ) → In i xs → from m i s ≤ from m i z) → paths m xs s ≤ paths m xs z
paths_least m s z [] f = omega (arith, paths_none m z, paths_none m s)
paths_least m s z (i ∷ xs) f = omega (arith, paths_more m i xs z, paths_more m i xs s, f i (inl refl), paths_least m s z xs (λ j h. f j (inr h)))

-- and one has fewer
pub paths-less : (m : List ℕ) (s z : ℕ) (xs : List ℕ) → ((i : ℕ) → In i xs → from m i s ≤ from m i z) → (h : ℕ) → In h xs → from m h s < from m h z → paths m xs s < paths m xs z
paths-less m s z [] f h k less = absurd k
paths-less m s z (i ∷ xs) f h (inl e) less =
    let here : from m i s < from m i z = rw e at less in
    omega (arith, paths_more m i xs z, paths_more m i xs s, paths_least m s z xs (λ j k. f j (inr k)))
paths-less m s z (i ∷ xs) f h (inr k) less = omega (arith, paths_more m i xs z, paths_more m i xs s, f i (inl refl), paths-less m s z xs (λ j q. f j (inr q)) h k less)

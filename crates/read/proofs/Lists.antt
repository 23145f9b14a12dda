-- Tests over lists, one element after the other. Assumes nothing.
use Rattle.std.specs.List.{list_any, fold}
use Rattle.std.specs.Simd.{first_chunks}
use Rattle.std.proofs.Math.Bool.{or_assoc, or-false}
use Rattle.std.proofs.lemmas.List.{take-append-drop, drop-drop}
use Prim.Native.Nat.{ℕ, zero, suc, ◌*◌, ◌<◌}
use mathlib.Core.Path.{◌≡◌, refl, sym, ap, ◌∙◌}
use mathlib.Core.Logic.{inl, inr}
use mathlib.Core.Bool.{Bool, false, ◌||◌}
use mathlib.Core.List.{List, [], ◌∷◌, ◌++◌, map}
use native.Mathlib.Nat.{zero-mul, suc-mul, add_comm}
use native.Mathlib.Omega.{arith}
use lib.ListN.{length, get_or, take, drop}
use Rattle.layout.specs.Lists.{In, any, up_to}
use Rattle.layout.specs.Words.{used}
use Rattle.layout.specs.NotCircuit.{bad_id}
use Rattle.layout.proofs.Tests.{any-more}
use Rattle.layout.proofs.Refusals.{no_bad_id, bad_id_next}

pub any_append : (p : ℕ → Bool) (xs ys : List ℕ) → any p (xs ++ ys) ≡ (any p xs || any p ys)
unfolding any
any_append p [] ys = refl
any_append p (x ∷ xs) ys = rw (any_append p xs ys) (sym (or_assoc (p x) (any p xs) (any p ys)))

pub any_three : (p : ℕ → Bool) (xs ys zs : List ℕ) → any p (xs ++ ys ++ zs) ≡ (any p xs || any p ys || any p zs)
any_three p xs ys zs = any_append p (xs ++ ys) zs ∙ ap (λ (b : Bool). b || any p zs) (any_append p xs ys)

-- std's word for it
pub any_listed : {A : Type 0} (p : A → Bool) (xs : List A) → list_any p xs ≡ any p xs
unfolding any
any_listed p [] = refl
any_listed p (x ∷ xs) = rw (any_listed p xs)

-- a loop over a list

pub any_none_yet : (p : ℕ → Bool) (xs : List ℕ) → any p (take 0 xs) ≡ false
unfolding any
any_none_yet p [] = refl
any_none_yet p (x ∷ xs) = refl

-- in chunks

pub any_folded : (p : ℕ → Bool) (b : Bool) (xs : List ℕ) → fold (λ c x. c || p x) b xs ≡ (b || any p xs)
unfolding any
any_folded p b [] = sym (or-false b)
any_folded p b (x ∷ xs) = any_folded p (b || p x) xs ∙ or_assoc b (p x) (any p xs)

pub any_chunks : (p : ℕ → Bool) (n k : ℕ) (xs : List ℕ) → any p xs ≡ (any (any p) (first_chunks n k xs) || any p (drop (k * n) xs))
unfolding any
any_chunks p n zero xs = ap (λ i. any p (drop i xs)) (sym (zero-mul n))
any_chunks p n (suc k) xs =
    ap (any p) (sym (take-append-drop n xs))
    ∙ any_append p (take n xs) (drop n xs)
    ∙ ap (λ (b : Bool). any p (take n xs) || b) (any_chunks p n k (drop n xs) ∙ ap (λ ys. any (any p) (first_chunks n k (drop n xs)) || any p ys) (drop-drop (k * n) n xs ∙ ap (λ i. drop i xs) (add_comm n (k * n) ∙ sym (suc-mul k n))))
    ∙ sym (or_assoc (any p (take n xs)) (any (any p) (first_chunks n k (drop n xs))) (any p (drop (suc k * n) xs)))

-- tests that agree below n
pub any_same : (p q : ℕ → Bool) (n : ℕ) → ((i : ℕ) → i < n → p i ≡ q i) → any p (up_to n) ≡ any q (up_to n)
unfolding any up_to
any_same p q zero h = refl
any_same p q (suc n) h = rw (any-more p n, any-more q n, any_same p q n (λ i l. h i (omega arith)), h n (omega arith))

-- functions that agree on a list
pub map_same : {A : Type 0} (f g : ℕ → A) (xs : List ℕ) → ((x : ℕ) → In x xs → f x ≡ g x) → map f xs ≡ map g xs
map_same f g [] h = refl
map_same f g (x ∷ xs) h = rw (h x (inl refl), map_same f g xs (λ y k. h y (inr k)))

pub in_at : (xs : List ℕ) (k : ℕ) → k < length xs → In (get_or xs k 0) xs
in_at [] k h = absurd (omega arith)
in_at (x ∷ xs) zero h = inl refl
in_at (x ∷ xs) (suc k) h = inr (in_at xs k (omega arith))

-- one id
pub good_id : (m : List ℕ) (i : ℕ) → i < used m → bad_id m (i ∷ []) ≡ false
good_id m i h = bad_id_next m i [] h ∙ no_bad_id m

-- Laws of hexadecimal: which numbers are digits, a line's bytes by their place, and how large numbers are. Assumes nothing.
use Prim.Native.Nat.{ℕ, zero, suc, ◌+◌, ◌-◌, ◌*◌, ◌^◌, ◌<◌, ◌≤◌}
use mathlib.Core.Path.{◌≡◌, refl, ap, ◌∙◌}
use mathlib.Core.Bool.{Bool, true, false, ◌&&◌, ◌||◌}
use mathlib.Core.List.{List, [], ◌∷◌}
use native.Mathlib.Omega.{arith}
use native.Mathlib.Nat.{pow-le-pow_right, pow-succ'}
use native.Mathlib.Numerals.{add-one}
use lib.ListN.{length, get_or}
use lib.Dec.{leb}
use borrow.Author.Tests.{lt-ltb, le-ltb, le-leb, lt-leb, leb-true, leb-false}
use Rattle.layout.specs.Lists.{all}
use Rattle.std.specs.List.{list_all}
use Rattle.layout.proofs.Lists.{clash}
use Rattle.framing.specs.Digits.{is_digit, digit, bytes_of, number_at, character}

-- which are digits, by their order
pub before_digits : (c : ℕ) → c < 48 → is_digit c ≡ false
unfolding is_digit
before_digits c h = rw (lt-leb 48 c h, lt-leb 97 c (omega arith))

pub decimal : (c : ℕ) → 48 ≤ c → c ≤ 57 → is_digit c ≡ true
unfolding is_digit
decimal c l h = rw (le-leb 48 c l, le-leb c 57 h)

pub between_digits : (c : ℕ) → 57 < c → c < 97 → is_digit c ≡ false
unfolding is_digit
between_digits c l h = rw (le-leb 48 c (omega arith), lt-leb c 57 l, lt-leb 97 c h)

pub letter : (c : ℕ) → 97 ≤ c → leb c 102 ≡ is_digit c
unfolding is_digit
letter c l = rw (le-leb 48 c (omega arith), lt-leb c 57 (omega arith), le-leb 97 c l)

-- what a digit's order is
pub record Ordered (c : ℕ) : Type 0 where
  pub low : 48 ≤ c
  pub high : c ≤ 102
  pub apart : 57 < c → 97 ≤ c

pub digit_ordered : (c : ℕ) → is_digit c ≡ true → Ordered c
unfolding is_digit
digit_ordered c h = go (leb 48 c) refl (leb c 57) refl (leb 97 c) refl (leb c 102) refl h
  where
    go : (a : Bool) → leb 48 c ≡ a → (b : Bool) → leb c 57 ≡ b → (d : Bool) → leb 97 c ≡ d → (e : Bool) → leb c 102 ≡ e → (a && b || d && e) ≡ true → Ordered c
    go true p true q d r e s t = record { low = leb-true 48 c p; high = omega (arith, leb-true c 57 q); apart = λ l. omega (arith, leb-true c 57 q) }
    go true p false q true r true s t = record { low = leb-true 48 c p; high = leb-true c 102 s; apart = λ l. leb-true 97 c r }
    go false p b q true r true s t = record { low = omega (arith, leb-true 97 c r); high = leb-true c 102 s; apart = λ l. leb-true 97 c r }
    go true p false q false r e s t = clash false t refl
    go true p false q true r false s t = clash false t refl
    go false p b q false r e s t = clash false t refl
    go false p b q true r false s t = clash false t refl

-- their values
pub no_digit : (c : ℕ) → is_digit c ≡ false → digit c ≡ 0
unfolding digit
no_digit c h = rw h

pub decimal_digit : (c : ℕ) → is_digit c ≡ true → c ≤ 57 → digit c ≡ c - 48
unfolding digit
decimal_digit c h l = rw (h, le-leb c 57 l)

pub letter_digit : (c : ℕ) → is_digit c ≡ true → 57 < c → digit c ≡ c - 87
unfolding digit
letter_digit c h l = rw (h, lt-leb c 57 l)

pub digit_below : (c : ℕ) → digit c < 16
digit_below c = go (is_digit c) refl (leb c 57) refl
  where
    go : (b : Bool) → is_digit c ≡ b → (l : Bool) → leb c 57 ≡ l → digit c < 16
    go false p l q = omega (arith, no_digit c p)
    go true p true q = omega (arith, decimal_digit c p (leb-true c 57 q), leb-true c 57 q)
    go true p false q = omega (arith, letter_digit c p (leb-false c 57 q), (digit_ordered c p).high)

-- a line's bytes by their place
pub byte_none : (line : List ℕ) (i : ℕ) → length line ≤ 2 * i + 1 → get_or (bytes_of line) i 0 ≡ 0
unfolding bytes_of
byte_none [] i h = refl
byte_none (a ∷ []) i h = refl
byte_none (a ∷ b ∷ cs) zero h = absurd (omega arith)
byte_none (a ∷ b ∷ cs) (suc i) h = byte_none cs i (omega arith)

pub byte_here : (line : List ℕ) (i : ℕ) → 2 * i + 1 < length line → 16 * digit (get_or line (2 * i) 0) + digit (get_or line (2 * i + 1) 0) ≡ get_or (bytes_of line) i 0
unfolding bytes_of
byte_here [] i h = absurd (omega arith)
byte_here (a ∷ []) i h = absurd (omega arith)
byte_here (a ∷ b ∷ cs) zero h = refl
byte_here (a ∷ b ∷ cs) (suc i) h =
    let e : 2 * suc i ≡ suc (suc (2 * i)) = omega arith in
    let f : 2 * suc i + 1 ≡ suc (suc (2 * i + 1)) = omega arith in
    rw (f, e) (byte_here cs i (omega arith))

pub byte_below : (line : List ℕ) (i : ℕ) → get_or (bytes_of line) i 0 < 256
unfolding bytes_of
byte_below [] i = omega arith
byte_below (a ∷ []) i = omega arith
byte_below (a ∷ b ∷ cs) zero = omega (arith, digit_below a, digit_below b)
byte_below (a ∷ b ∷ cs) (suc i) = byte_below cs i

-- numbers
pub number-none : (after : ℕ) (bs : List ℕ) → 0 ≡ number_at 0 after bs
unfolding number_at
number-none after bs = refl

pub number_more : (k after : ℕ) (bs : List ℕ) → 256 * number_at k after bs + get_or bs (after + k) 0 ≡ number_at (k + 1) after bs
unfolding number_at
number_more k after bs = rw (add-one k)

pub number_below : (line : List ℕ) (after k : ℕ) → number_at k after (bytes_of line) < 256 ^ k
unfolding number_at
number_below line after zero = omega arith
number_below line after (suc k) = omega (arith, number_below line after k, byte_below line (after + k), pow-succ' 256 k)

-- a byte more fits a word, up to eight
pub number_fits : (line : List ℕ) (after k : ℕ) → k < 8 → 256 * number_at k after (bytes_of line) + 255 < 2 ^ 64
number_fits line after k h =
    let t : 256 ^ k ≤ 256 ^ 7 = pow-le-pow_right {n = 256} (omega arith) {i = k} {j = 7} (omega arith) in
    omega (arith, number_below line after k, t)

-- the library's word for it
pub all_is : (p : ℕ → Bool) (xs : List ℕ) → list_all p xs ≡ all p xs
unfolding all
all_is p [] = refl
all_is p (x ∷ xs) = ap (λ (b : Bool). p x && b) (all_is p xs)

-- the digit of a value
pub low_character : (d : ℕ) → d < 10 → 48 + d ≡ character d
unfolding character
low_character d h = rw (lt-ltb d 10 h)

pub high_character : (d : ℕ) → 10 ≤ d → 87 + d ≡ character d
unfolding character
high_character d h = rw (le-ltb d 10 h)

-- the same of what a call answered
pub digit_small : (r c : ℕ) → r ≡ digit c → r < 16
digit_small r c e = omega (arith, e, digit_below c)

pub byte_small : (r : ℕ) (line : List ℕ) (i : ℕ) → r ≡ get_or (bytes_of line) i 0 → r < 256
byte_small r line i e = omega (arith, e, byte_below line i)

pub number_small : (r : ℕ) (line : List ℕ) (after k : ℕ) → r ≡ number_at k after (bytes_of line) → k < 8 → 256 * r + 255 < 2 ^ 64
number_small r line after k e h = omega (arith, e, number_fits line after k h)

pub number-again : (n b : ℕ) (line : List ℕ) (after k : ℕ) → n ≡ number_at k after (bytes_of line) → b ≡ get_or (bytes_of line) (after + k) 0 → 256 * n + b ≡ number_at (k + 1) after (bytes_of line)
number-again n b line after k e f = rw (e, f) (number_more k after (bytes_of line))

pub number_done : (n : ℕ) (line : List ℕ) (after k size : ℕ) → n ≡ number_at k after (bytes_of line) → k ≤ size → size ≤ k → n ≡ number_at size after (bytes_of line)
number_done n line after k size e l g =
    let q : k ≡ size = omega arith in
    e ∙ ap (λ (s : ℕ). number_at s after (bytes_of line)) q

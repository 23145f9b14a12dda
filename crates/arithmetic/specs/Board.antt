-- Request 5: the base product wire by wire, for docs/BOARD.md: each wire of crates/field/src/base.rt under the name that the code gives it, function by
-- function. u and v are words, so below 2^64. That the last wire is u·v modulo p, and that high and low are what the code's `product` answers, is proved in
-- crates/field/proofs/Board.antt. Assumes nothing.
use Rattle.std.specs.Prelude.{ℕ, ◌+◌, ◌-◌, ◌*◌, ◌/◌, ◌%◌, ◌^◌, cond, List, [], ◌∷◌, ltb, leb}
use Rattle.arithmetic.specs.Base.{p}

-- 2^64 modulo p
abbrev pub missed : ℕ
missed = 4294967295

-- `product`: the halves of a word ..
abbrev pub u0 : ℕ → ℕ
u0 u = u % 2 ^ 32

abbrev pub u1 : ℕ → ℕ
u1 u = u / 2 ^ 32

-- .. the four products of halves, ..
abbrev pub p00 : ℕ → ℕ → ℕ
p00 u v = u0 u * u0 v

abbrev pub p10 : ℕ → ℕ → ℕ
p10 u v = u1 u * u0 v

abbrev pub p01 : ℕ → ℕ → ℕ
p01 u v = u0 u * u1 v

abbrev pub p11 : ℕ → ℕ → ℕ
p11 u v = u1 u * u1 v

-- .. the two columns with what comes from below them, ..
abbrev pub right : ℕ → ℕ → ℕ
right u v = p10 u v + p00 u v / 2 ^ 32

abbrev pub left : ℕ → ℕ → ℕ
left u v = right u v % 2 ^ 32 + p01 u v

-- .. and the two words of u·v
abbrev pub high : ℕ → ℕ → ℕ
high u v = p11 u v + right u v / 2 ^ 32 + left u v / 2 ^ 32

abbrev pub cross : ℕ → ℕ → ℕ
cross u v = (p10 u v + p01 u v) % 2 ^ 64

abbrev pub low : ℕ → ℕ → ℕ
low u v = (cross u v % 2 ^ 32 * 2 ^ 32 + p00 u v) % 2 ^ 64

-- `difference`: a - b as it wraps; where it wrapped it is 2^64 too large
abbrev pub d : ℕ → ℕ → ℕ
d a b = (a + (2 ^ 64 - b)) % 2 ^ 64

abbrev pub difference : ℕ → ℕ → ℕ
difference a b = cond (ltb a b) (d a b - missed) (d a b)

-- `sum`: a + b as it wraps; where it wrapped it has missed 2^64, else it may be p or more
abbrev pub s : ℕ → ℕ → ℕ
s a b = (a + b) % 2 ^ 64

abbrev pub sum : ℕ → ℕ → ℕ
sum a b = cond (ltb (s a b) a) (s a b + missed) (cond (leb p (s a b)) (s a b - p) (s a b))

-- `reduced`: what stands at 2^96 is taken away, what stands at 2^64 is put back as 2^32 - 1 times as much
abbrev pub h1 : ℕ → ℕ → ℕ
h1 u v = high u v / 2 ^ 32

abbrev pub h0 : ℕ → ℕ → ℕ
h0 u v = high u v % 2 ^ 32

abbrev pub reduced : ℕ → ℕ → ℕ
reduced u v = sum (difference (low u v) (h1 u v)) (h0 u v * missed)

-- all wires, in the order of docs/BOARD.md
unfoldable pub wires : ℕ → ℕ → List ℕ
wires u v =
    u0 u
    ∷ u1 u
    ∷ u0 v
    ∷ u1 v
    ∷ p00 u v
    ∷ p10 u v
    ∷ p01 u v
    ∷ p11 u v
    ∷ right u v
    ∷ left u v
    ∷ cross u v
    ∷ high u v
    ∷ low u v
    ∷ h1 u v
    ∷ h0 u v
    ∷ d (low u v) (h1 u v)
    ∷ difference (low u v) (h1 u v)
    ∷ h0 u v * missed
    ∷ s (difference (low u v) (h1 u v)) (h0 u v * missed)
    ∷ reduced u v
    ∷ []

-- The worked products of docs/BOARD.md, wire by wire, from u0 to the answer. Assumes nothing.
use Rattle.std.specs.Prelude.{◌≡◌, refl, [], ◌∷◌}
use Rattle.arithmetic.specs.Board.{wires}

-- 3 · 5
pub small : wires 3 5 ≡ (3 ∷ 0 ∷ 5 ∷ 0 ∷ 0xf ∷ 0 ∷ 0 ∷ 0 ∷ 0 ∷ 0 ∷ 0 ∷ 0 ∷ 0xf ∷ 0 ∷ 0 ∷ 0xf ∷ 0xf ∷ 0 ∷ 0xf ∷ 0xf ∷ [])
unfolding wires
small = refl

-- every half in use, every column carries
pub every_half : wires 0x123456789abcdef 0xfedcba9876543210 ≡ (0x89abcdef ∷ 0x1234567 ∷ 0x76543210 ∷ 0xfedcba98 ∷ 0x3fa27837e5618cf0 ∷ 0x86a1c9358e7470 ∷ 0x890f2a50ad05ebe8 ∷ 0x121fa0023e20b28 ∷ 0x86a1c97530eca7 ∷ 0x890f2a512236d88f ∷ 0x8995cc19e2946058 ∷ 0x121fa00ad77d742 ∷ 0x2236d88fe5618cf0 ∷ 0x121fa00 ∷ 0xad77d742 ∷ 0x2236d88fe43f92f0 ∷ 0x2236d88fe43f92f0 ∷ 0xad77d741528828be ∷ 0xcfaeafd136c7bbae ∷ 0xcfaeafd136c7bbae ∷ [])
unfolding wires
every_half = refl

-- 2^32 · 2^32 (document 01): high is 1, and 2^64 is 2^32 - 1
pub a_word_above : wires 0x100000000 0x100000000 ≡ (0 ∷ 1 ∷ 0 ∷ 1 ∷ 0 ∷ 0 ∷ 0 ∷ 1 ∷ 0 ∷ 0 ∷ 0 ∷ 1 ∷ 0 ∷ 0 ∷ 1 ∷ 0 ∷ 0 ∷ 0xffffffff ∷ 0xffffffff ∷ 0xffffffff ∷ [])
unfolding wires
a_word_above = refl

-- (p-1) · (p-1) (document 01): low is below h1
pub minus_one_squared : wires 0xffffffff00000000 0xffffffff00000000 ≡ (0 ∷ 0xffffffff ∷ 0 ∷ 0xffffffff ∷ 0 ∷ 0 ∷ 0 ∷ 0xfffffffe00000001 ∷ 0 ∷ 0 ∷ 0 ∷ 0xfffffffe00000001 ∷ 0 ∷ 0xfffffffe ∷ 1 ∷ 0xffffffff00000002 ∷ 0xfffffffe00000003 ∷ 0xffffffff ∷ 0xffffffff00000002 ∷ 1 ∷ [])
unfolding wires
minus_one_squared = refl

-- 2^63 · 2^33: low is below h1, h0 is 0
pub low_below_h1 : wires 0x8000000000000000 0x200000000 ≡ (0 ∷ 0x80000000 ∷ 0 ∷ 2 ∷ 0 ∷ 0 ∷ 0 ∷ 0x100000000 ∷ 0 ∷ 0 ∷ 0 ∷ 0x100000000 ∷ 0 ∷ 1 ∷ 0 ∷ 0xffffffffffffffff ∷ 0xffffffff00000000 ∷ 0 ∷ 0xffffffff00000000 ∷ 0xffffffff00000000 ∷ [])
unfolding wires
low_below_h1 = refl

-- the last sum wraps
pub last_sum_wraps : wires 0xffffffff00000000 0x8000000100000001 ≡ (0 ∷ 0xffffffff ∷ 1 ∷ 0x80000001 ∷ 0 ∷ 0xffffffff ∷ 0 ∷ 0x800000007fffffff ∷ 0xffffffff ∷ 0xffffffff ∷ 0xffffffff ∷ 0x800000007fffffff ∷ 0xffffffff00000000 ∷ 0x80000000 ∷ 0x7fffffff ∷ 0xfffffffe80000000 ∷ 0xfffffffe80000000 ∷ 0x7ffffffe80000001 ∷ 0x7ffffffd00000001 ∷ 0x7ffffffe00000000 ∷ [])
unfolding wires
last_sum_wraps = refl

-- the last sum is p or more, and does not wrap
pub last_sum_above_p : wires 0xffffffff00000002 0x3fff ≡ (2 ∷ 0xffffffff ∷ 0x3fff ∷ 0 ∷ 0x7ffe ∷ 0x3ffeffffc001 ∷ 0 ∷ 0 ∷ 0x3ffeffffc001 ∷ 0xffffc001 ∷ 0x3ffeffffc001 ∷ 0x3ffe ∷ 0xffffc00100007ffe ∷ 0 ∷ 0x3ffe ∷ 0xffffc00100007ffe ∷ 0xffffc00100007ffe ∷ 0x3ffdffffc002 ∷ 0xffffffff00004000 ∷ 0x3fff ∷ [])
unfolding wires
last_sum_above_p = refl

-- words above p: (2^64-1) · (2^64-1)
pub words_above_p : wires 0xffffffffffffffff 0xffffffffffffffff ≡ (0xffffffff ∷ 0xffffffff ∷ 0xffffffff ∷ 0xffffffff ∷ 0xfffffffe00000001 ∷ 0xfffffffe00000001 ∷ 0xfffffffe00000001 ∷ 0xfffffffe00000001 ∷ 0xfffffffeffffffff ∷ 0xffffffff00000000 ∷ 0xfffffffc00000002 ∷ 0xfffffffffffffffe ∷ 1 ∷ 0xffffffff ∷ 0xfffffffe ∷ 0xffffffff00000002 ∷ 0xfffffffe00000003 ∷ 0xfffffffd00000002 ∷ 0xfffffffb00000005 ∷ 0xfffffffc00000004 ∷ [])
unfolding wires
words_above_p = refl

-- p · x is 0: the last sum is p
pub p_times_x : wires 0xffffffff00000001 0x75bcd15 ≡ (1 ∷ 0xffffffff ∷ 0x75bcd15 ∷ 0 ∷ 0x75bcd15 ∷ 0x75bcd14f8a432eb ∷ 0 ∷ 0 ∷ 0x75bcd14f8a432eb ∷ 0xf8a432eb ∷ 0x75bcd14f8a432eb ∷ 0x75bcd14 ∷ 0xf8a432eb075bcd15 ∷ 0 ∷ 0x75bcd14 ∷ 0xf8a432eb075bcd15 ∷ 0xf8a432eb075bcd15 ∷ 0x75bcd13f8a432ec ∷ 0xffffffff00000001 ∷ 0 ∷ [])
unfolding wires
p_times_x = refl

-- A table of keys, each a list of four words, numbered from 1 in the order in which they came. Assumes nothing.
--   Word 0: how many keys there are. Words 1 to 4,093: of each bucket the last number, or 0.
--   Then five words a key: its four words, and the number before it in its bucket, or 0.
use Rattle.std.specs.Prelude.{ℕ, suc, ◌+◌, ◌*◌, ◌%◌, ◌<◌, ◌≤◌, ◌≡◌, List, [], ◌∷◌, length, get_or, Option, Some, None}
use Rattle.circuit.specs.declared.place.FourWords.{FourWords}

abbrev pub count : List ℕ → ℕ
count t = get_or t 0 0

-- where the words of key v begin
abbrev pub place : ℕ → ℕ
place v = 4089 + 5 * v

unfoldable pub entry : List ℕ → ℕ → List ℕ
entry t v = get_or t (place v) 0 ∷ get_or t (place v + 1) 0 ∷ get_or t (place v + 2) 0 ∷ get_or t (place v + 3) 0 ∷ []

-- the number before v in its bucket
abbrev pub link : List ℕ → ℕ → ℕ
link t v = get_or t (place v + 4) 0

-- the last number of bucket h
abbrev pub head : List ℕ → ℕ → ℕ
head t h = get_or t (1 + h) 0

-- the words of a key
abbrev pub listed : FourWords → List ℕ
listed w = w.kind ∷ w.first ∷ w.second ∷ w.third ∷ []

-- the bucket of a key: any would do, as long as it is below 4,093, a prime
unfoldable pub spread : List ℕ → ℕ
spread w = (get_or w 0 0 % 16 + 1021 * (get_or w 1 0 % 4294967296) + 2801 * (get_or w 2 0 % 4294967296) + 3571 * (get_or w 3 0 % 4294967296)) % 4093

-- p is the last number below top in bucket h, or 0
pub record Last (t : List ℕ) (h top p : ℕ) : Type 0 where
  pub low : p < top
  pub bucket : (p ≡ 0 → ⊥) → spread (entry t p) ≡ h
  pub skips : (q : ℕ) → p < q → q < top → spread (entry t q) ≡ h → ⊥

-- each key has one number, and is in the chain of its bucket
pub record Tabled (t : List ℕ) : Type 0 where
  pub room : place (count t) + 5 ≤ length t
  pub distinct : (u v : ℕ) → 1 ≤ u → u ≤ count t → 1 ≤ v → v ≤ count t → entry t u ≡ entry t v → u ≡ v
  pub heads : (h : ℕ) → h < 4093 → Last t h (suc (count t)) (head t h)
  pub links : (v : ℕ) → 1 ≤ v → v ≤ count t → Last t (spread (entry t v)) v (link t v)

-- v is the number of key w
pub record Named (t w : List ℕ) (v : ℕ) : Type 0 where
  pub low : 1 ≤ v
  pub high : v ≤ count t
  pub entered : entry t v ≡ w

-- r is the number of key w, or none where it has none
pub record Sought (t w : List ℕ) (r : Option ℕ) : Type 0 where
  pub hit : (v : ℕ) → r ≡ Some v → Named t w v
  pub miss : r ≡ None → (v : ℕ) → 1 ≤ v → v ≤ count t → entry t v ≡ w → ⊥

-- there is room for one key more
pub record Roomy (t : List ℕ) : Type 0 where
  pub tabled : Tabled t
  pub more : place (count t) + 10 ≤ length t

-- key v is written, and its link; what stands before it stays
pub record Written (t t' w : List ℕ) (v p : ℕ) : Type 0 where
  pub written : entry t' v ≡ w
  pub linked : link t' v ≡ p
  pub others : (j : ℕ) → j < place v → get_or t' j 0 ≡ get_or t j 0

-- r is the number of key w, which is added where it had none
pub record Interned (t t' w : List ℕ) (r : ℕ) : Type 0 where
  pub tabled : Tabled t'
  pub low : 1 ≤ r
  pub high : r ≤ count t'
  pub entered : entry t' r ≡ w
  pub grows : count t ≤ count t'
  pub little : count t' ≤ suc (count t)
  pub keeps : (v : ℕ) → 1 ≤ v → v ≤ count t → entry t' v ≡ entry t v

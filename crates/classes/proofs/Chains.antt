-- The laws of the table of keys: a search along a chain, and a key added. Assumes nothing.
use Rattle.std.specs.Prelude.{Some, None}
use Rattle.std.proofs.lemmas.Option.{none-some, same_Some}
use Prim.Native.Nat.{ℕ, suc, ◌+◌, ◌<◌, ◌≤◌}
use mathlib.Core.Path.{◌≡◌, refl, sym, ap, ◌∙◌}
use mathlib.Core.Logic.{⊎_elim, ◌≢◌}
use mathlib.Core.Bool.{true, false}
use mathlib.Core.List.{List, [], ◌∷◌, ◌++◌, append_assoc}
use native.Mathlib.Nat.{add-zero}
use native.Mathlib.Numerals.{towards_suc}
use native.Mathlib.Omega.{arith}
use lib.ListN.{length, get_or, set, take, drop, length-set, get_or-append}
use lib.Seq.{sets, sets-eq, length-take-le, get_or-set_same, get_or-set_other, get_or-append-add, get_or-take}
use Rattle.layout.specs.Lists.{same_words}
use Rattle.layout.proofs.Tests.{last_or, below_or, same_or}
use Rattle.layout.proofs.Lists.{clash}
use Rattle.classes.specs.Table.{count, place, entry, link, head, spread, Last, Tabled, Named, Sought, Roomy, Written, Interned}
use Rattle.classes.proofs.Words.{words_refl, words_equal}

pub spread_lt : (w : List ℕ) → spread w < 4093
unfolding spread
spread_lt w = omega arith

-- the search along a chain: v is where it stands
pub record Going (t w : List ℕ) (v : ℕ) : Type 0 where
  pub high : v ≤ count t
  pub bucket : (v ≡ 0 → ⊥) → spread (entry t v) ≡ spread w
  pub past : (u : ℕ) → v < u → u ≤ count t → entry t u ≡ w → ⊥

module _ (t w : List ℕ) (s : Tabled t) where
  pub go_start : (h : ℕ) → h ≡ spread w → Going t w (head t h)
  go_start h e =
      let l : h < 4093 = omega (arith, spread_lt w) in
      let g = s.heads h l in
      let a = g.low in
      record {
        high = omega arith;
        bucket = λ n. g.bucket n ∙ e;
        past = λ u b c q. g.skips u b (omega arith) (ap spread q ∙ sym e);
      }

  module _ (v : ℕ) (n : v ≡ 0 → ⊥) (g : Going t w v) where
    next : Last t (spread w) v (link t v)
    next = rw (g.bucket n) at (s.links v (omega arith) g.high)

    pub go_falls : link t v < v
    go_falls = next.low

    pub go_on : same_words (entry t v) w ≡ false → Going t w (link t v)
    go_on f =
        let a = next.low in
        let b = g.high in
        record {
          high = omega arith;
          bucket = next.bucket;
          past = λ u c d q. ⊎_elim
              (λ l. next.skips u c l (ap spread q))
              (λ l. ⊎_elim (λ e. clash (same_words (entry t v) w) (ap (λ (x : ℕ). same_words (entry t x) w) e ∙ ap (λ (x : List ℕ). same_words x w) q ∙ words_refl w) f) (λ k. g.past u k d q) (last_or v u (omega arith)))
              (below_or u v);
        }

    pub go_hit : same_words (entry t v) w ≡ true → Sought t w (Some v)
    go_hit e =
        let here : Named t w v = record { low = omega arith; high = g.high; entered = words_equal (entry t v) w e } in
        record { hit = λ u q. rw (same_Some v u q) at here; miss = λ z. absurd (none-some v (sym z)) }

  pub go_end : (v : ℕ) → v ≡ 0 → Going t w v → Sought t w None
  go_end v z g = record { hit = λ u q. absurd (none-some u q); miss = λ _ u a b q. g.past u (omega arith) b q }

-- a key written

module _ (l vs : List ℕ) (i : ℕ) (fits : i + length vs ≤ length l) where
  front : length (take i l) ≡ i
  front = length-take-le i l (omega arith)

  parts : sets l i vs ≡ take i l ++ (vs ++ drop (i + length vs) l)
  parts = sets-eq vs l i fits ∙ append_assoc (take i l) vs (drop (i + length vs) l)

  sets_at : (k : ℕ) → k < length vs → get_or (sets l i vs) (i + k) 0 ≡ get_or vs k 0
  sets_at k h =
      ap (λ (x : List ℕ). get_or x (i + k) 0) parts
      ∙ ap (λ (n : ℕ). get_or (take i l ++ (vs ++ drop (i + length vs) l)) (n + k) 0) (sym front)
      ∙ get_or-append-add (take i l) (vs ++ drop (i + length vs) l) k 0
      ∙ get_or-append vs (drop (i + length vs) l) 0 k h

  sets_before : (j : ℕ) → j < i → get_or (sets l i vs) j 0 ≡ get_or l j 0
  sets_before j h =
      ap (λ (x : List ℕ). get_or x j 0) parts
      ∙ get_or-append (take i l) (vs ++ drop (i + length vs) l) 0 j (omega (arith, front))
      ∙ get_or-take i l j 0 h

entry-is : (t : List ℕ) (v a b c d : ℕ) → get_or t (place v + 0) 0 ≡ a → get_or t (place v + 1) 0 ≡ b → get_or t (place v + 2) 0 ≡ c → get_or t (place v + 3) 0 ≡ d → entry t v ≡ a ∷ b ∷ c ∷ d ∷ []
unfolding entry
entry-is t v a b c d p q r s = let z : get_or t (place v) 0 ≡ a = ap (λ (n : ℕ). get_or t n 0) (sym (add-zero (place v))) ∙ p in cc

key_written : (t : List ℕ) (v a b c d p : ℕ) → place v + 5 ≤ length t → Written t (sets t (place v) (a ∷ b ∷ c ∷ d ∷ p ∷ [])) (a ∷ b ∷ c ∷ d ∷ []) v p
key_written t v a b c d p f =
    let at = sets_at t (a ∷ b ∷ c ∷ d ∷ p ∷ []) (place v) f in
    record {
      written = entry-is (sets t (place v) (a ∷ b ∷ c ∷ d ∷ p ∷ [])) v a b c d (at 0 (omega arith)) (at 1 (omega arith)) (at 2 (omega arith)) (at 3 (omega arith));
      linked = at 4 (omega arith);
      others = sets_before t (a ∷ b ∷ c ∷ d ∷ p ∷ []) (place v) f;
    }

-- as the code's stores
pub key_stored : (t : List ℕ) (v a b c d p : ℕ) → place v + 5 ≤ length t → Written t (set (set (set (set (set t (place v) a) (place v + 1) b) (place v + 2) c) (place v + 3) d) (place v + 4) p) (a ∷ b ∷ c ∷ d ∷ []) v p
key_stored t v a b c d p f = simp towards_suc (key_written t v a b c d p f)

-- a key added

entry_same : (t t' : List ℕ) (v : ℕ) → ((j : ℕ) → place v ≤ j → j < place v + 4 → get_or t' j 0 ≡ get_or t j 0) → entry t' v ≡ entry t v
unfolding entry
entry_same t t' v f =
    rw (f (place v) (omega arith) (omega arith), f (place v + 1) (omega arith) (omega arith), f (place v + 2) (omega arith) (omega arith), f (place v + 3) (omega arith) (omega arith))

last_keeps : (t t' : List ℕ) (h top p : ℕ) → ((q : ℕ) → 1 ≤ q → q < top → entry t' q ≡ entry t q) → Last t h top p → Last t' h top p
last_keeps t t' h top p f l =
    let a = l.low in
    record {
      low = a;
      bucket = λ n. ap spread (f p (omega arith) a) ∙ l.bucket n;
      skips = λ q b c e. l.skips q b c (ap spread (sym (f q (omega arith) c)) ∙ e);
    }

module _ (t t₁ w : List ℕ) (h v : ℕ) (r : Roomy t) (s : Sought t w None) (e : h ≡ spread w) (n : v ≡ suc (count t)) (g : Written t t₁ w v (head t h)) (z : length t₁ ≡ length t) where
  abbrev after : List ℕ
  after = set (set t₁ 0 v) (1 + h) v

  inside : h < 4093
  inside = omega (arith, spread_lt w)

  long : place v + 5 ≤ length t
  long = let m = r.more in omega arith

  after_count : count after ≡ v
  after_count = get_or-set_other (set t₁ 0 v) (1 + h) 0 v 0 (omega arith) ∙ get_or-set_same t₁ 0 v 0 (let l = long in omega arith)

  after_head : head after h ≡ v
  after_head = get_or-set_same (set t₁ 0 v) (1 + h) v 0 (rw length-set (let l = long in let i = inside in omega arith))

  after_high : (j : ℕ) → 4094 ≤ j → get_or after j 0 ≡ get_or t₁ j 0
  after_high j l = get_or-set_other (set t₁ 0 v) (1 + h) j v 0 (let i = inside in omega arith) ∙ get_or-set_other t₁ 0 j v 0 (omega arith)

  other_head : (k : ℕ) → k < 4093 → k ≢ h → head after k ≡ head t k
  other_head k l d = get_or-set_other (set t₁ 0 v) (1 + h) (1 + k) v 0 (omega arith) ∙ get_or-set_other t₁ 0 (1 + k) v 0 (omega arith) ∙ g.others (1 + k) (omega arith)

  new : entry after v ≡ w
  new = entry_same t₁ after v (λ j a b. after_high j (omega arith)) ∙ g.written

  old : (q : ℕ) → 1 ≤ q → q ≤ count t → entry after q ≡ entry t q
  old q a b = entry_same t after q (λ j c d. after_high j (omega arith) ∙ g.others j (omega arith))

  distinct : (a b : ℕ) → 1 ≤ a → a ≤ v → 1 ≤ b → b ≤ v → entry after a ≡ entry after b → a ≡ b
  distinct a b i j k l q = ⊎_elim
      (λ x. ⊎_elim (λ y. omega arith) (λ y. absurd (clashes b k (omega arith) (sym q ∙ ap (entry after) x ∙ new))) (last_or b v (omega arith)))
      (λ x. ⊎_elim (λ y. absurd (clashes a i (omega arith) (q ∙ ap (entry after) y ∙ new))) (λ y. r.tabled.distinct a b i (omega arith) k (omega arith) (sym (old a i (omega arith)) ∙ q ∙ old b k (omega arith))) (last_or b v (omega arith)))
      (last_or a v (omega arith))
    where
      clashes : (u : ℕ) → 1 ≤ u → u ≤ count t → entry after u ≡ w → ⊥
      clashes u x y p = s.miss refl u x y (sym (old u x y) ∙ p)

  other_last : (k : ℕ) → k < 4093 → k ≢ h → Last after k (suc v) (head t k)
  other_last k l d =
      let o = r.tabled.heads k l in
      let a = o.low in
      record {
        low = omega arith;
        bucket = λ m. ap spread (old (head t k) (omega arith) (omega arith)) ∙ o.bucket m;
        skips = λ u b c f. ⊎_elim
            (λ x. d (sym f ∙ ap (λ (i : ℕ). spread (entry after i)) x ∙ ap spread new ∙ sym e))
            (λ x. o.skips u b (omega arith) (ap spread (sym (old u (omega arith) (omega arith))) ∙ f))
            (last_or u v c);
      }

  heads : (k : ℕ) → k < 4093 → Last after k (suc v) (head after k)
  heads k l = ⊎_elim
      (λ q. rw q (rw after_head (record { low = omega arith; bucket = λ _. ap spread new ∙ sym e; skips = λ u a b _. omega arith })))
      (λ d. rw (other_head k l d) (other_last k l d))
      (same_or k h)

  links : (u : ℕ) → 1 ≤ u → u ≤ v → Last after (spread (entry after u)) u (link after u)
  links u a b = ⊎_elim
      (λ x.
      let o = r.tabled.heads h inside in
      let p : link after v ≡ head t h = after_high (place v + 4) (omega arith) ∙ g.linked in
      rw x (rw (new, p, ← e) (last_keeps t after h v (head t h) (λ q c d. old q c (omega arith)) (rw n o))))
      (λ l.
      let c : u ≤ count t = omega arith in
      let p : link after u ≡ link t u = after_high (place u + 4) (omega arith) ∙ g.others (place u + 4) (omega arith) in
      rw (p, old u a c) (last_keeps t after (spread (entry t u)) u (link t u) (λ q d f. old q d (omega arith)) (r.tabled.links u a c)))
      (last_or u v (omega arith))

  pub key_added : Interned t after w v
  key_added = record {
    tabled = record {
      room = rw (after_count, length-set, length-set, z) long;
      distinct = rw after_count distinct;
      heads = rw after_count heads;
      links = rw after_count links;
    };
    low = omega arith;
    high = rw after_count (omega arith);
    entered = new;
    grows = rw after_count (omega arith);
    little = rw after_count (omega arith);
    keeps = old;
  }

pub key_known : (t w : List ℕ) (v : ℕ) → Roomy t → Named t w v → Interned t t w v
key_known t w v s g = record {
  tabled = s.tabled;
  low = g.low;
  high = g.high;
  entered = g.entered;
  grows = omega arith;
  little = omega arith;
  keeps = λ v _ _. refl;
}

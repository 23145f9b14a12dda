-- The counts that go down the order. Assumes nothing.
use Rattle.std.specs.Prelude.{None, Option, Some}
use Prim.Native.Nat.{ℕ, suc, ◌+◌, ◌-◌, ◌<◌, ◌≤◌, min}
use mathlib.Core.Path.{◌≡◌, refl, sym, ap, ◌∙◌}
use mathlib.Core.Bool.{Bool, true, false}
use mathlib.Core.List.{List, [], ◌∷◌}
use native.Mathlib.Omega.{arith}
use native.Mathlib.Numerals.{add-one}
use lib.Dec.{eqb, ltb}
use lib.ListN.{length, set, take, length-set}
use lib.Seq.{get_or-set_same, get_or-set_other, take-suc, take-length}
use borrow.Author.Tests.{eqb-true, eqb-false, ltb-true, ltb-false, lt-ltb, le-ltb}
use Rattle.layout.specs.Lists.{count}
use Rattle.layout.specs.Words.{used}
use Rattle.layout.specs.NotCircuit.{not_circuit, bad_id}
use Rattle.circuit.specs.Rank.{at, Sorted}
use Rattle.layout.proofs.Valid.{valid_room, limit_top}
use Rattle.walking.specs.Paths.{paths}
use Rattle.paths.specs.Counting.{over, PathCounts, Seeded, added, gave}
use Rattle.paths.proofs.Sums.{sum_none, sum_start, sum_more}
use Rattle.paths.proofs.Walks.{hit, step, count-append, step_below}
use Rattle.paths.proofs.Uses.{given, into, unused, paths_uses}

-- at most 4,096 nodes
pub valid_top : (m : List ℕ) → not_circuit m ≡ false → used m ≤ 4096
valid_top m v = let r = valid_room m v in let t = limit_top m in omega arith

-- adding

pub add_small : (counts : List ℕ) (i c : ℕ) → at counts i < over - c → set counts i (at counts i + c) ≡ added counts i c
add_small counts i c h = ap (set counts i) (omega arith)

pub add_big : (counts : List ℕ) (i c : ℕ) → c ≤ over → over - c ≤ at counts i → set counts i over ≡ added counts i c
add_big counts i c b h = ap (set counts i) (omega arith)

added_at : (counts : List ℕ) (i c x : ℕ) → i < length counts → at counts x ≤ over → at (added counts i c) x ≡ min over (at counts x + hit x i c)
added_at counts i c x h k = go (eqb x i) refl
  where
    go : (b : Bool) → eqb x i ≡ b → at (added counts i c) x ≡ min over (at counts x + hit x i c)
    go true e = rw (e, eqb-true x i e, get_or-set_same counts i (min over (at counts i + c)) 0 h)
    go false e = rw (e, get_or-set_other counts i x (min over (at counts i + c)) 0 (eqb-false x i e)) (omega arith)

-- the start

pub seeded_start : (n : ℕ) (roots counts : List ℕ) → ((i : ℕ) → i < n → at counts i ≡ 0) → Seeded n roots counts 0
unfolding count
seeded_start n roots counts c = record { told = λ i l. rw (c i l) }

pub seeded_next : (n : ℕ) (roots counts after : List ℕ) (k : ℕ) → Seeded n roots counts k → k < length roots → at roots k < length counts → after ≡ added counts (at roots k) 1 → Seeded n roots after (k + 1)
unfolding count
seeded_next n roots counts after k s l h e = record {
  told = λ i m.
      let t = s.told i m in
      let a = added_at counts (at roots k) 1 i h (omega arith) in
      rw (e, add-one k, take-suc roots k 0 l, count-append i (take k roots) (at roots k ∷ [])) (a ∙ omega arith);
}

-- giving

-- both operands have a place
abbrev pub Reach : ℕ → Option (ℕ × ℕ) → Type 0
Reach n None = Unit {0}
Reach n (Some (l, r)) = (l < n) × (r < n)

gave_at : (s : Option (ℕ × ℕ)) (counts : List ℕ) (c x : ℕ) → Reach (length counts) s → at counts x ≤ over → at (gave s counts c) x ≡ min over (at counts x + given s x c)
gave_at None counts c x r k = omega arith
gave_at (Some (a, b)) counts c x r k =
    let p = added_at counts a c x r.0 k in
    let q = added_at (added counts a c) b c x (rw length-set r.1) (rw p (omega arith)) in
    q ∙ rw p (omega arith)

cap_two : (a b x e w : ℕ) → min over (min over e + (hit x a (min over w) + hit x b (min over w))) ≡ min over (e + (hit x a w + hit x b w))
cap_two a b x e w = go (eqb x a) refl (eqb x b) refl
  where
    go : (p : Bool) → eqb x a ≡ p → (q : Bool) → eqb x b ≡ q → min over (min over e + (hit x a (min over w) + hit x b (min over w))) ≡ min over (e + (hit x a w + hit x b w))
    go true h true k = rw (h, k) (omega arith)
    go true h false k = rw (h, k) (omega arith)
    go false h true k = rw (h, k) (omega arith)
    go false h false k = rw (h, k) (omega arith)

cap_given : (s : Option (ℕ × ℕ)) (x e w : ℕ) → min over (min over e + given s x (min over w)) ≡ min over (e + given s x w)
cap_given None x e w = omega arith
cap_given (Some (a, b)) x e w = cap_two a b x e w

-- what giving a node's count does
module _ (m counts : List ℕ) (i : ℕ) (s : Option (ℕ × ℕ)) (e : s ≡ step m i) where
  pub give_stay : s ≡ None → counts ≡ gave (step m i) counts (at counts i)
  give_stay q = rw (← e, q)

  pub give_two_lem : (l r : ℕ) → s ≡ Some (l, r) → (first second : List ℕ) → first ≡ added counts l (at counts i) → second ≡ added first r (at counts i) → second ≡ gave (step m i) counts (at counts i)
  give_two_lem l r q first second f g = g ∙ ap (λ (k : List ℕ). added k r (at counts i)) f ∙ rw (← e, q)

-- the loop down the order: what a count lacks is what the nodes at the first q places are still to give
pub record Share (m order roots counts : List ℕ) (q x : ℕ) : Type 0 where
  pub whole : ℕ
  pub kept : at counts x ≡ min over whole
  pub rest : whole + into m order x (paths m roots) q ≡ paths m roots x

pub record Shares (m order roots counts : List ℕ) (q : ℕ) : Type 0 where
  pub all : (x : ℕ) → x < used m → Share m order roots counts q x

pub shares_small : (m order roots counts : List ℕ) (q x : ℕ) → Shares m order roots counts q → x < used m → at counts x ≤ over
shares_small m order roots counts q x h l = let k = (h.all x l).kept in omega arith

module _ (m : List ℕ) (valid : not_circuit m ≡ false) (order rank : List ℕ) (sorted : Sorted m order rank) (roots : List ℕ) (ids : bad_id m roots ≡ false) where
  pub shares_start : (counts : List ℕ) → Seeded (used m) roots counts (length roots) → Shares m order roots counts (used m)
  shares_start counts s = record {
    all = λ x l. record {
      whole = count x roots;
      kept = s.told x l ∙ rw (take-length roots);
      rest = sym (paths_uses m valid order rank sorted roots x ids);
    };
  }

  reach : (p n : ℕ) → p < used m → used m ≤ n → (s : Option (ℕ × ℕ)) → step m p ≡ s → Reach n s
  reach p n h k None e = tt
  reach p n h k (Some (a, b)) e = let (la, lb) = step_below m valid p h a b e in (omega arith, omega arith)

  shares_next : (counts : List ℕ) (q : ℕ) → q < used m → used m ≤ length counts → Shares m order roots counts (suc q) → Shares m order roots (gave (step m (at order q)) counts (at counts (at order q))) q
  shares_next counts q l room h = record {
    all = λ x k.
        let z = at order q in
        let here = sorted.order_below q l in
        let own = h.all z here in
        let none : into m order z (paths m roots) (suc q) ≡ 0 =
        sum_none (λ i. given (step m (at order i)) z (paths m roots (at order i))) (suc q)
        (λ i t. unused m valid order rank sorted i z (paths m roots (at order i)) (omega arith) here (let r = sorted.rank_order q l in omega arith)) in
        let rest = own.rest in
        let full : own.whole ≡ paths m roots z = omega arith in
        let has : at counts z ≡ min over (paths m roots z) = own.kept ∙ ap (min over) full in
        let mine = h.all x k in
        let more : mine.whole + (into m order x (paths m roots) q + given (step m z) x (paths m roots z)) ≡ paths m roots x =
        rw (← sum_more (λ i. given (step m (at order i)) x (paths m roots (at order i))) q) mine.rest in
        record {
          whole = mine.whole + given (step m z) x (paths m roots z);
          kept =
              gave_at (step m z) counts (at counts z) x (reach z (length counts) here room (step m z) refl) (shares_small m order roots counts (suc q) x h k)
              ∙ rw (mine.kept, has) (cap_given (step m z) x mine.whole (paths m roots z));
          rest = omega arith;
        };
  }

  pub shares_step : (counts after : List ℕ) (q : ℕ) → 0 < q → q ≤ used m → used m ≤ length counts → after ≡ gave (step m (at order (q - 1))) counts (at counts (at order (q - 1))) → Shares m order roots counts q → Shares m order roots after (q - 1)
  shares_step counts after q p l room e h =
      let s : q ≡ suc (q - 1) = omega arith in
      rw e (shares_next counts (q - 1) (omega arith) room (rw s at h))

  pub shares_done : (counts : List ℕ) → Shares m order roots counts 0 → PathCounts m roots counts
  shares_done counts h = record {
    told = λ x l.
        let s = h.all x l in
        let r = s.rest in
        let z = sum_start (λ i. given (step m (at order i)) x (paths m roots (at order i))) in
        let e : s.whole ≡ paths m roots x = omega arith in
        s.kept ∙ ap (min over) e;
  }

-- what a caller reads off the counts: a test against a bound that is told apart, and the paths themselves

pub counts-test : (m roots counts : List ℕ) → PathCounts m roots counts → (i : ℕ) → i < used m → (k : ℕ) → k < over → ltb k (at counts i) ≡ ltb k (paths m roots i)
counts-test m roots counts c i l k s = rw (c.told i l) (go (ltb k (paths m roots i)) refl)
  where
    go : (b : Bool) → ltb k (paths m roots i) ≡ b → ltb k (min over (paths m roots i)) ≡ ltb k (paths m roots i)
    go true e = let h = ltb-true k (paths m roots i) e in rw e (lt-ltb k (min over (paths m roots i)) (omega arith))
    go false e = let h = ltb-false k (paths m roots i) e in rw e (le-ltb k (min over (paths m roots i)) (omega arith))

pub counts_exact : (m roots counts : List ℕ) → PathCounts m roots counts → (i : ℕ) → i < used m → paths m roots i < over → at counts i ≡ paths m roots i
counts_exact m roots counts c i l s = let t = c.told i l in omega arith

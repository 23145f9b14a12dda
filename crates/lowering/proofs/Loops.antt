-- The loop of the definitions is a lowering of the theory. Assumes nothing.
use Rattle.std.specs.Prelude.{if◌then◌else◌}
use Prim.Native.Nat.{ℕ, zero, suc, ◌+◌, ◌*◌, ◌≤◌, ◌<◌}
use mathlib.Core.Path.{◌≡◌, refl, sym, ◌∙◌, ap, subst}
use mathlib.Core.Logic.{◌⊎◌, inl, inr, ⊎_elim}
use mathlib.Core.Bool.{Bool, true, false}
use mathlib.Core.List.{List, [], ◌∷◌, ◌++◌}
use native.Mathlib.Decide.{ℕ_discrete}
use native.Mathlib.Omega.{arith}
use lib.ListN.{length, get_or, get_or-append}
use lib.Seq.{get_or-append_seam}
use Rattle.layout.specs.Lists.{In}
use Rattle.layout.specs.declared.node.Position.{Position}
use Rattle.layout.specs.declared.node.Position.TheVariants.{Main, Aux, NextMain, NextAux}
use Rattle.layout.specs.Words.{used, registered, column}
use Rattle.lowering.specs.Lowering.{Lowering, too_high, candidates, best, substituted, loop}
use Rattle.lowering.proofs.Steps.{Standing, TooHigh, Lowered, stop, step}
use Rattle.lowering.proofs.ListLaws.{in_left, in_right, in_cases}
use Rattle.lowering.proofs.Bound.{constraint_standing}
use Rattle.lowering.proofs.Words.{look}
use Rattle.lowering.proofs.Constraints.{HasMinus}
use Rattle.lowering.proofs.Proper.{Proper}
use Rattle.lowering.proofs.Chooses.{too_high_lem}
use Rattle.lowering.proofs.OneMore.{Added, OneMore, State, length_more, one_more, state_after, to_aux, to_main}

-- a column between the counts before and after
abbrev pub New : ℕ → ℕ → Lowering → Lowering → Position → Type 0
New mc ac x x' (Main c) = (mc + length x.main ≤ c) × (c < mc + length x'.main)
New mc ac x x' (Aux c) = (ac + length x.aux ≤ c) × (c < ac + length x'.aux)
New mc ac x x' (NextMain c) = ⊥
New mc ac x x' (NextAux c) = ⊥

-- some substitutions, from x to x'
pub record Ran (T mc ac : ℕ) (x x' : Lowering) : Type 0 where
  pub ys : List Position
  pub qs : List ℕ
  pub ss : List ℕ
  pub low : Lowered T (look x.circuit) (λ i. registered x.circuit i) x.roots (look x'.circuit) (λ i. registered x'.circuit i) x'.roots ys qs ss
  pub steps : length x'.main + length x'.aux ≡ length x.main + length x.aux + length ss
  pub more_main : length x.main ≤ length x'.main
  pub more_aux : length x.aux ≤ length x'.aux
  pub new : (p : Position) → In p ys → New mc ac x x' p
  pub all_new : (p : Position) → New mc ac x x' p → In p ys
  pub kept_main : (q : ℕ) → In q x.main → In q x'.main
  pub kept_aux : (q : ℕ) → In q x.aux → In q x'.aux
  pub listed : (q : ℕ) → In q qs → In q x'.main ⊎ In q x'.aux
  pub main_from : (q : ℕ) → In q x'.main → In q x.main ⊎ In q qs
  pub aux_from_lem : (q : ℕ) → In q x'.aux → In q x.aux ⊎ In q qs
  pub first_main : (k : ℕ) → k < length x.main → get_or x'.main k 0 ≡ get_or x.main k 0
  pub first_aux : (k : ℕ) → k < length x.aux → get_or x'.aux k 0 ≡ get_or x.aux k 0
  pub main_at_lem : (k : ℕ) → length x.main ≤ k → k < length x'.main → Standing (look x'.circuit) (Main (mc + k)) (get_or x'.main k 0)
  pub aux_at_lem : (k : ℕ) → length x.aux ≤ k → k < length x'.aux → Standing (look x'.circuit) (Aux (ac + k)) (get_or x'.aux k 0)
  pub state : State mc ac x'
  pub nodes : used x'.circuit ≤ 1 + used x.circuit + 3 * length ss
  pub then_nodes : HasMinus x.circuit → used x'.circuit ≤ used x.circuit + 3 * length ss
  pub grows : used x.circuit ≤ used x'.circuit
  pub lies_in : 2 + 6 * used x'.circuit ≤ length x.circuit → length x'.circuit ≡ length x.circuit
  pub proper : mc + length x'.main ≤ 65536 → ac + length x'.aux ≤ 65536 → Proper x.circuit → Proper x'.circuit
  pub row : get_or x'.circuit 0 0 ≡ get_or x.circuit 0 0

ran_none : (T mc ac : ℕ) (x : Lowering) → State mc ac x → Ran T mc ac x x
ran_none T mc ac x state =
    record {
      ys = [];
      qs = [];
      ss = [];
      low = stop;
      steps = omega arith;
      more_main = omega arith;
      more_aux = omega arith;
      new = λ p h. absurd h;
      all_new = nothing;
      kept_main = λ q h. h;
      kept_aux = λ q h. h;
      listed = λ q h. absurd h;
      main_from = λ q h. inl h;
      aux_from_lem = λ q h. inl h;
      first_main = λ k h. refl;
      first_aux = λ k h. refl;
      main_at_lem = λ k h l. absurd (omega arith);
      aux_at_lem = λ k h l. absurd (omega arith);
      state = state;
      nodes = omega arith;
      then_nodes = λ h. omega arith;
      grows = omega arith;
      lies_in = λ h. refl;
      proper = λ a b h. h;
      row = refl;
    }
  where
    nothing : (p : Position) → New mc ac x x p → ⊥
    nothing (Main c) (h, k) = omega arith
    nothing (Aux c) (h, k) = omega arith
    nothing (NextMain c) h = h
    nothing (NextAux c) h = h

new_wider : (mc ac : ℕ) (x x₁ x' : Lowering) → length x.main ≤ length x₁.main → length x.aux ≤ length x₁.aux → (p : Position) → New mc ac x₁ x' p → New mc ac x x' p
new_wider mc ac x x₁ x' a b (Main c) (h, k) = (omega arith, k)
new_wider mc ac x x₁ x' a b (Aux c) (h, k) = (omega arith, k)
new_wider mc ac x x₁ x' a b (NextMain c) h = h
new_wider mc ac x x₁ x' a b (NextAux c) h = h

last-in : (q : ℕ) (xs ys : List ℕ) → ys ≡ xs ++ (q ∷ []) → In q ys
last-in q xs ys e = rw e (in_right q xs (q ∷ []) (inl refl))

old_in : (z q : ℕ) (xs ys : List ℕ) → ys ≡ xs ++ (q ∷ []) → In z xs → In z ys
old_in z q xs ys e h = rw e (in_left z xs (q ∷ []) h)

from_in : (z q : ℕ) (xs ys : List ℕ) → ys ≡ xs ++ (q ∷ []) → In z ys → In z xs ⊎ (z ≡ q)
from_in z q xs ys e h = ⊎_elim (λ k. inl k) (λ k. inr (⊎_elim (λ w. w) (λ w. absurd w) k)) (in_cases z xs (q ∷ []) (rw e at h))

-- the places of a list with one more at its end, of which a longer one keeps the first
module _ (xs ys zs : List ℕ) (q : ℕ) (e : ys ≡ xs ++ (q ∷ [])) (keeps : (k : ℕ) → k < length ys → get_or zs k 0 ≡ get_or ys k 0) where
  old_at : (k : ℕ) → k < length xs → get_or zs k 0 ≡ get_or xs k 0
  old_at k h = keeps k (omega (arith, length_more xs ys q e)) ∙ ap (λ (l : List ℕ). get_or l k 0) e ∙ get_or-append xs (q ∷ []) 0 k h

  last_at : get_or zs (length xs) 0 ≡ q
  last_at = keeps (length xs) (omega (arith, length_more xs ys q e)) ∙ ap (λ (l : List ℕ). get_or l (length xs) 0) e ∙ get_or-append_seam xs q [] 0

  -- what holds of the new one and of those after it
  from_last : (P : ℕ → ℕ → Type 0) → P (length xs) q → ((k : ℕ) → length ys ≤ k → k < length zs → P k (get_or zs k 0)) → (k : ℕ) → length xs ≤ k → k < length zs → P k (get_or zs k 0)
  from_last P new rest k h l = go (ℕ_discrete k (length xs))
    where
      go : Dec (k ≡ length xs) → P k (get_or zs k 0)
      go (yes z) = rw (z, last_at) new
      go (no z) = rest k (omega (arith, length_more xs ys q e)) l

ran_more : (T mc ac : ℕ) (x x₁ x' : Lowering) → State mc ac x → TooHigh T (look x.circuit) x.roots → OneMore T mc ac x x₁ → Ran T mc ac x₁ x' → Ran T mc ac x x'
ran_more T mc ac x x₁ x' state high one r = go one.added
  where
    low' : Lowered T (look x.circuit) (λ i. registered x.circuit i) x.roots (look x'.circuit) (λ i. registered x'.circuit i) x'.roots (one.y ∷ r.ys) (one.q ∷ r.qs) (one.s ∷ r.ss)
    low' =
        step high one.choice one.st
        (subst (λ (rs : List ℕ). Lowered T (look x₁.circuit) (λ i. registered x₁.circuit i) rs (look x'.circuit) (λ i. registered x'.circuit i) x'.roots r.ys r.qs r.ss) one.to r.low)

    lie : 2 + 6 * used x'.circuit ≤ length x.circuit → length x'.circuit ≡ length x.circuit
    lie h =
        let e : length x₁.circuit ≡ length x.circuit = one.lies_in (omega (arith, r.grows)) in
        r.lies_in (omega arith) ∙ e

    stands : Standing (look x'.circuit) one.y one.q
    stands = constraint_standing one.st.step r.low

    in_bounds : mc + length x'.main ≤ 65536 → ac + length x'.aux ≤ 65536 → Added mc ac x x₁ one.y one.q → column one.y ≤ 65535
    in_bounds h k (to_main e a b) = rw e (omega (arith, r.more_main, length_more x.main x₁.main one.q a))
    in_bounds h k (to_aux e a b) = rw e (omega (arith, r.more_aux, length_more x.aux x₁.aux one.q b))

    go : Added mc ac x x₁ one.y one.q → Ran T mc ac x x'
    go (to_main e a b) =
        let la : length x₁.main ≡ suc (length x.main) = length_more x.main x₁.main one.q a in
        let lb : length x₁.aux ≡ length x.aux = ap length b in
        record {
          ys = one.y ∷ r.ys;
          qs = one.q ∷ r.qs;
          ss = one.s ∷ r.ss;
          low = low';
          steps = omega (arith, r.steps);
          more_main = omega (arith, r.more_main);
          more_aux = omega (arith, r.more_aux);
          new = λ p h. ⊎_elim (λ (k : p ≡ one.y). rw (k ∙ e) (omega arith, omega (arith, r.more_main))) (λ k. new_wider mc ac x x₁ x' (omega arith) (omega arith) p (r.new p k)) h;
          all_new = every;
          kept_main = λ q h. r.kept_main q (old_in q one.q x.main x₁.main a h);
          kept_aux = λ q h. r.kept_aux q (rw b h);
          listed = λ q h. ⊎_elim (λ (k : q ≡ one.q). rw k (inl (r.kept_main one.q (last-in one.q x.main x₁.main a)))) (λ k. r.listed q k) h;
          main_from = λ q h. ⊎_elim (λ k. ⊎_elim (λ w. inl w) (λ w. inr (inl w)) (from_in q one.q x.main x₁.main a k)) (λ k. inr (inr k)) (r.main_from q h);
          aux_from_lem = λ q h. ⊎_elim (λ k. inl (rw b at k)) (λ k. inr (inr k)) (r.aux_from_lem q h);
          first_main = old_at x.main x₁.main x'.main one.q a r.first_main;
          first_aux = λ k h. r.first_aux k (omega arith) ∙ ap (λ (l : List ℕ). get_or l k 0) b;
          main_at_lem = from_last x.main x₁.main x'.main one.q a r.first_main (λ k q. Standing (look x'.circuit) (Main (mc + k)) q) (rw e at stands) r.main_at_lem;
          aux_at_lem = λ k h l. r.aux_at_lem k (omega arith) l;
          state = r.state;
          nodes = omega (arith, one.four_more, r.then_nodes one.has_minus);
          then_nodes = λ h. omega (arith, one.three_more h, r.then_nodes one.has_minus);
          grows = omega (arith, one.grows, r.grows);
          lies_in = lie;
          proper = λ h k z. r.proper h k (one.proper (in_bounds h k one.added) z);
          row = r.row ∙ one.row;
        }
      where
        every : (p : Position) → New mc ac x x' p → In p (one.y ∷ r.ys)
        every (Main c) (h, k) = here (ℕ_discrete c (mc + length x.main))
          where
            here : Dec (c ≡ mc + length x.main) → In (Main c) (one.y ∷ r.ys)
            here (yes z) = inl (ap Main z ∙ sym e)
            here (no z) = inr (r.all_new (Main c) (omega (arith, length_more x.main x₁.main one.q a), k))
        every (Aux c) (h, k) = inr (r.all_new (Aux c) (omega (arith, ap length b), k))
        every (NextMain c) h = absurd h
        every (NextAux c) h = absurd h
    go (to_aux e a b) =
        let la : length x₁.main ≡ length x.main = ap length a in
        let lb : length x₁.aux ≡ suc (length x.aux) = length_more x.aux x₁.aux one.q b in
        record {
          ys = one.y ∷ r.ys;
          qs = one.q ∷ r.qs;
          ss = one.s ∷ r.ss;
          low = low';
          steps = omega (arith, r.steps);
          more_main = omega (arith, r.more_main);
          more_aux = omega (arith, r.more_aux);
          new = λ p h. ⊎_elim (λ (k : p ≡ one.y). rw (k ∙ e) (omega arith, omega (arith, r.more_aux))) (λ k. new_wider mc ac x x₁ x' (omega arith) (omega arith) p (r.new p k)) h;
          all_new = every;
          kept_main = λ q h. r.kept_main q (rw a h);
          kept_aux = λ q h. r.kept_aux q (old_in q one.q x.aux x₁.aux b h);
          listed = λ q h. ⊎_elim (λ (k : q ≡ one.q). rw k (inr (r.kept_aux one.q (last-in one.q x.aux x₁.aux b)))) (λ k. r.listed q k) h;
          main_from = λ q h. ⊎_elim (λ k. inl (rw a at k)) (λ k. inr (inr k)) (r.main_from q h);
          aux_from_lem = λ q h. ⊎_elim (λ k. ⊎_elim (λ w. inl w) (λ w. inr (inl w)) (from_in q one.q x.aux x₁.aux b k)) (λ k. inr (inr k)) (r.aux_from_lem q h);
          first_main = λ k h. r.first_main k (omega arith) ∙ ap (λ (l : List ℕ). get_or l k 0) a;
          first_aux = old_at x.aux x₁.aux x'.aux one.q b r.first_aux;
          main_at_lem = λ k h l. r.main_at_lem k (omega arith) l;
          aux_at_lem = from_last x.aux x₁.aux x'.aux one.q b r.first_aux (λ k q. Standing (look x'.circuit) (Aux (ac + k)) q) (rw e at stands) r.aux_at_lem;
          state = r.state;
          nodes = omega (arith, one.four_more, r.then_nodes one.has_minus);
          then_nodes = λ h. omega (arith, one.three_more h, r.then_nodes one.has_minus);
          grows = omega (arith, one.grows, r.grows);
          lies_in = lie;
          proper = λ h k z. r.proper h k (one.proper (in_bounds h k one.added) z);
          row = r.row ∙ one.row;
        }
      where
        every : (p : Position) → New mc ac x x' p → In p (one.y ∷ r.ys)
        every (Main c) (h, k) = inr (r.all_new (Main c) (omega (arith, ap length a), k))
        every (Aux c) (h, k) = here (ℕ_discrete c (ac + length x.aux))
          where
            here : Dec (c ≡ ac + length x.aux) → In (Aux c) (one.y ∷ r.ys)
            here (yes z) = inl (ap Aux z ∙ sym e)
            here (no z) = inr (r.all_new (Aux c) (omega (arith, length_more x.aux x₁.aux one.q b), k))
        every (NextMain c) h = absurd h
        every (NextAux c) h = absurd h

-- no root is too high, or so many constraints were added
abbrev pub Ended : ℕ → ℕ → Lowering → Lowering → Type 0
Ended T k x x' = (too_high T x'.circuit x'.roots ≡ false) ⊎ (length x'.main + length x'.aux ≡ length x.main + length x.aux + k)

ended_more : (T mc ac k : ℕ) (x x₁ x' : Lowering) → OneMore T mc ac x x₁ → Ended T k x₁ x' → Ended T (suc k) x x'
ended_more T mc ac k x x₁ x' one (inl h) = inl h
ended_more T mc ac k x x₁ x' one (inr h) = inr (go one.added)
  where
    go : Added mc ac x x₁ one.y one.q → length x'.main + length x'.aux ≡ length x.main + length x.aux + suc k
    go (to_main e a b) = omega (arith, length_more x.main x₁.main one.q a, ap length b)
    go (to_aux e a b) = omega (arith, ap length a, length_more x.aux x₁.aux one.q b)

-- the loop is such a run; at its end no root is too high, or it has spent its levels
pub loop_ran : (T mc ac : ℕ) → 2 ≤ T → (k : ℕ) (x : Lowering) → State mc ac x → Ran T mc ac x (loop k T mc ac x) × Ended T k x (loop k T mc ac x)
unfolding loop
loop_ran T mc ac two zero x state = (ran_none T mc ac x state, inr (omega arith))
loop_ran T mc ac two (suc k) x state = go (too_high T x.circuit x.roots) refl (λ x₁ s₁. loop_ran T mc ac two k x₁ s₁)
  where
    next : Lowering
    next = substituted mc ac x (best (candidates T x.circuit x.roots))

    go : (b : Bool) → too_high T x.circuit x.roots ≡ b → ((x₁ : Lowering) → State mc ac x₁ → Ran T mc ac x₁ (loop k T mc ac x₁) × Ended T k x₁ (loop k T mc ac x₁))
        → Ran T mc ac x (if b then loop k T mc ac next else x) × Ended T (suc k) x (if b then loop k T mc ac next else x)
    go false h f = (ran_none T mc ac x state, inl h)
    go true h f =
        let one : OneMore T mc ac x next = one_more T mc ac two x state h in
        let (r, e) = f next (state_after T mc ac x next state one) in
        (ran_more T mc ac x next (loop k T mc ac next) state (too_high_lem x.circuit x.roots state.rooted T h) one r, ended_more T mc ac k x next (loop k T mc ac next) one e)

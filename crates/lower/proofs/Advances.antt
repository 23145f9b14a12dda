-- One substitution more, where some root's degree exceeds the target: its constraint stands at the first free place of its list. Assumes nothing.
use Rattle.std.specs.Prelude.{if◌then◌else◌, None, Some, Option}
use Prim.Native.Nat.{ℕ, ◌+◌, ◌<◌}
use mathlib.Core.Path.{◌≡◌, refl, sym, ◌∙◌}
use mathlib.Core.Bool.{Bool, true, false}
use mathlib.Core.List.{List, [], ◌∷◌, ◌++◌, append-nil}
use native.Mathlib.Omega.{arith}
use lib.ListN.{length, set, drop, length-append, length-drop}
use Rattle.layout.specs.Lists.{written}
use Rattle.layout.specs.Tree.{tree}
use Rattle.paths.proofs.Written.{written_more}
use Rattle.reading.specs.Readings.{is_base}
use Rattle.lowering.specs.Lowering.{Lowering, too_high, candidates, best, substituted}
use Rattle.lower.specs.declared.substitute.Constraint.{Constraint}
use Rattle.lower.specs.declared.calls.Progress.{Progress}
use Rattle.lower.specs.Survey.{chosen_next, Picked}
use Rattle.lower.specs.Substituting.{new_input, turned, difference, Substitutable, Replaced}
use Rattle.lower.specs.Advancing.{Holds, Added, chosen, advanced, Ready, Advanced}

-- what the next choice tells

told_node_lem : (T : ℕ) (m roots : List ℕ) (s : ℕ) → Some s ≡ chosen_next T m roots → (too_high T m roots ≡ true) × (s ≡ best (candidates T m roots))
unfolding chosen_next
told_node_lem T m roots s e = go (too_high T m roots) e
  where
    go : (b : Bool) → Some s ≡ (if b then Some (best (candidates T m roots)) else None) → (b ≡ true) × (s ≡ best (candidates T m roots))
    go true h = (refl, cc)
    go false h = absurd (let z : ◌≡◌ {A = ℕ} 0 1 = cc in omega arith)

told_done : (T : ℕ) (m roots : List ℕ) → None ≡ chosen_next T m roots → too_high T m roots ≡ false
unfolding chosen_next
told_done T m roots e = go (too_high T m roots) e
  where
    go : (b : Bool) → None ≡ (if b then Some (best (candidates T m roots)) else None) → b ≡ false
    go true h = absurd (let z : ◌≡◌ {A = ℕ} 0 1 = cc in omega arith)
    go false h = refl

-- a free place after the answer
free_place : (xs l : List ℕ) → length xs < length (written xs l) → length xs < length l
unfolding written
free_place xs l h = omega (arith, length-append xs (drop (length xs) l), length-drop (length xs) l)

-- one constraint more in its list, or none
if-more : (b : Bool) (xs l list : List ℕ) (n q : ℕ) → list ≡ written xs l → n ≡ length xs → n < length list
    → ((if b then set list n q else list) ≡ written (xs ++ (if b then q ∷ [] else [])) l) × ((if b then n + 1 else n) ≡ length (xs ++ (if b then q ∷ [] else [])))
if-more true xs l list n q e c h = (rw (e, c) (written_more xs l q (free_place xs l (rw (← e, ← c) h))), omega (arith, length-append xs (q ∷ [])))
if-more false xs l list n q e c h = rw (append-nil xs) (e, c)

if-not-more : (b : Bool) (xs l list : List ℕ) (n q : ℕ) → list ≡ written xs l → n ≡ length xs → n < length list
    → ((if b then list else set list n q) ≡ written (xs ++ (if b then [] else q ∷ [])) l) × ((if b then n else n + 1) ≡ length (xs ++ (if b then [] else q ∷ [])))
if-not-more true = if-more false
if-not-more false = if-more true

-- the definition's lists, from what the code's step gives
module _ (mc ac s : ℕ) (x : Lowering) where
  abbrev constraint : ℕ
  constraint = (difference x.circuit s (mc + length x.main) (ac + length x.aux)).id

  main_list : (substituted mc ac x s).main ≡ x.main ++ (if is_base (tree x.circuit s) then constraint ∷ [] else [])
  unfolding substituted difference turned new_input
  main_list = refl

  aux_list : (substituted mc ac x s).aux ≡ x.aux ++ (if is_base (tree x.circuit s) then [] else constraint ∷ [])
  unfolding substituted difference turned new_input
  aux_list = refl

  module _ (m' roots' : List ℕ) (k : Constraint) (rep : Replaced x.circuit s (mc + length x.main) (ac + length x.aux) x.roots m' roots' k) where
    circuit_is : m' ≡ (substituted mc ac x s).circuit
    unfolding substituted difference turned new_input
    circuit_is = rep.circuit

    roots_are : roots' ≡ (substituted mc ac x s).roots
    unfolding substituted new_input
    roots_are = rep.all_roots

    lists_of : (b : Bool) → k.main ≡ b → ((substituted mc ac x s).main ≡ x.main ++ (if b then k.id ∷ [] else [])) × ((substituted mc ac x s).aux ≡ x.aux ++ (if b then [] else k.id ∷ []))
    lists_of b e =
        let q : is_base (tree x.circuit s) ≡ b = sym rep.to_main ∙ e in
        (main_list ∙ rw (q, ← rep.id), aux_list ∙ rw (q, ← rep.id))

module _ (T mc ac : ℕ) (words : Lowering) (p : Progress) (ready : Ready T mc ac words p.main p.aux) (n : Option (ℕ × Bool)) (picked : Picked T words.circuit words.roots n) where
  -- nothing is left to do
  stays_is : too_high T words.circuit words.roots ≡ false → (x : Lowering) → words.circuit ≡ x.circuit → words.roots ≡ x.roots → advanced T mc ac x ≡ x
  unfolding advanced
  stays_is low x e f = let low' : too_high T x.circuit x.roots ≡ false = rw (← e, ← f) low in rw low'

  pub stays : n ≡ None → Advanced T mc ac words words p None
  stays e =
      let low = told_done T words.circuit words.roots (rw e at picked.told) in
      record { more = sym low; on = λ lent x h. rw (stays_is low x h.circuit h.roots) h }

  module _ (s : ℕ) (base : Bool) (is : n ≡ Some (s, base)) where
    told_both : (too_high T words.circuit words.roots ≡ true) × (s ≡ chosen T mc ac words)
    told_both = told_node_lem T words.circuit words.roots s (rw is at picked.told)

    pub can_substitute : Substitutable words.circuit s (mc + p.main) (ac + p.aux) × (base ≡ is_base (tree words.circuit s))
    can_substitute = let q : Substitutable words.circuit s (mc + p.main) (ac + p.aux) = rw told_both.1 (ready.can told_both.0) in (q, picked.base s base is q.here)

    advanced_is : (x : Lowering) → words.circuit ≡ x.circuit → words.roots ≡ x.roots → advanced T mc ac x ≡ substituted mc ac x s
    unfolding advanced
    advanced_is x e f =
        let high : too_high T x.circuit x.roots ≡ true = rw (← e, ← f) told_both.0 in
        let same : s ≡ chosen T mc ac x = told_both.1 ∙ rw (e, f) in
        rw (high, same)

    module _ (m' roots' : List ℕ) (k : Constraint) (rep : Replaced words.circuit s (mc + p.main) (ac + p.aux) words.roots m' roots' k) where
      rep_of : (lent x : Lowering) → Holds lent x words p.main p.aux → Replaced x.circuit s (mc + length x.main) (ac + length x.aux) x.roots m' roots' k
      rep_of lent x h = rw (← h.circuit, ← h.roots, ← h.main_count, ← h.aux_count) rep

      module _ (main' aux' : List ℕ) (r : Progress) (added : Added k p words.main words.aux main' aux' r) where
        abbrev after : Lowering
        after = record { circuit = m'; roots = roots'; main = main'; aux = aux' }

        on_either : (b : Bool) → k.main ≡ b → (lent x : Lowering) → Holds lent x words p.main p.aux → Holds lent (substituted mc ac x s) after r.main r.aux
        on_either b e lent x h =
            let q = rep_of lent x h in
            let (mains, auxs) = lists_of mc ac s x m' roots' k q b e in
            let (ml, mn) = if-more b x.main lent.main words.main p.main k.id h.main h.main_count ready.main_place in
            let (al, an) = if-not-more b x.aux lent.aux words.aux p.aux k.id h.aux h.aux_count ready.aux_place in
            record {
              circuit = circuit_is mc ac s x m' roots' k q;
              roots = roots_are mc ac s x m' roots' k q;
              main = rw (added.main_list, e, mains) ml;
              aux = rw (added.aux_list, e, auxs) al;
              main_count = rw (added.main_count, e, mains) mn;
              aux_count = rw (added.aux_count, e, auxs) an;
            }

        pub goes_on : Advanced T mc ac words after p (Some r)
        goes_on = record { more = sym told_both.0; on = λ lent x h. rw (advanced_is x h.circuit h.roots) (on_either k.main refl lent x h) }

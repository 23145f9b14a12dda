-- The filled row, where the lists are right and the row has room: each new cell holds its expression's value, whatever the given words are. Assumes nothing.
use Rattle.std.specs.Prelude.{Option, Some}
use Prim.Native.Nat.{ℕ, zero, suc, ◌+◌, ◌*◌, ◌/◌, ◌<◌, ◌≤◌}
use mathlib.Core.Path.{◌≡◌, refl, sym, ◌∙◌, ap}
use mathlib.Core.Bool.{false}
use mathlib.Core.List.{List, [], ◌∷◌}
use native.Mathlib.Omega.{arith}
use lib.ListN.{length, get_or}
use Rattle.arithmetic.specs.Extension.{lift}
use Rattle.layout.specs.declared.node.Position.TheVariants.{Main, Aux}
use Rattle.layout.specs.Words.{row_kind}
use Rattle.layout.specs.Tree.{tree}
use Rattle.layout.specs.NotCircuit.{not_circuit}
use Rattle.reading.specs.Readings.{Assignment, value}
use Rattle.reading.specs.Calls.{assigned}
use Rattle.filling.specs.Constraints.{expression_of}
use Rattle.filling.specs.Refusals.{mains_wrong, auxs_wrong}
use Rattle.filling.specs.Calls.{worth, main_filled, aux_filled, row_filled}
use Rattle.filling.specs.Promise.{Holds}
use Rattle.filling.proofs.Values.{Agree, base_lifted}
use Rattle.filling.proofs.Settled.{SettledMain, SettledAux, Listed, mains_head, auxs_head}
use Rattle.filling.proofs.Fills.{written_aux, aux_agrees, settled_main_lem, settled_aux_lem}

-- a column's cell, by its place in the list
main_at_lem : (b : ℕ) (m : List ℕ) (s : Assignment) (qs : List ℕ) (c : ℕ) → mains_wrong b m c qs ≡ false → SettledMain s m c qs → (k : ℕ) → k < length qs
    → (e : ℕ) × (expression_of m (Main (c + k)) (get_or qs k 0) ≡ Some e) × (lift (s.main (c + k)) ≡ value s (tree m e))
main_at_lem b m s [] c h x k l = absurd (omega arith)
main_at_lem b m s (q ∷ qs) c h (x, xs) zero l =
    let (right, rest) = mains_head b m c q qs h in
    let here : c + 0 ≡ c = omega arith in
    rw here (right.e, right.is, ap lift (x ∙ ap (λ (o : Option ℕ). (worth s m o).c0) right.is) ∙ sym (base_lifted s (tree m right.e) right.base))
main_at_lem b m s (q ∷ qs) c h (x, xs) (suc k) l =
    let next : c + suc k ≡ suc c + k = omega arith in
    rw next (main_at_lem b m s qs (suc c) (mains_head b m c q qs h).1 xs k (omega arith))

aux_at_lem : (a : ℕ) (m : List ℕ) (s : Assignment) (qs : List ℕ) (c : ℕ) → auxs_wrong a m c qs ≡ false → SettledAux s m c qs → (k : ℕ) → k < length qs
    → (e : ℕ) × (expression_of m (Aux (c + k)) (get_or qs k 0) ≡ Some e) × (s.aux (c + k) ≡ value s (tree m e))
aux_at_lem a m s [] c h x k l = absurd (omega arith)
aux_at_lem a m s (q ∷ qs) c h (x, xs) zero l =
    let (right, rest) = auxs_head a m c q qs h in
    let here : c + 0 ≡ c = omega arith in
    rw here (right.e, right.is, x ∙ ap (worth s m) right.is)
aux_at_lem a m s (q ∷ qs) c h (x, xs) (suc k) l =
    let next : c + suc k ≡ suc c + k = omega arith in
    rw next (aux_at_lem a m s qs (suc c) (auxs_head a m c q qs h).1 xs k (omega arith))

pub agree_self : (m : List ℕ) (a b : ℕ) (s : Assignment) → Agree m a b s s
agree_self m a b s = record { main = λ c l. refl; aux = λ c l. refl; next_main = λ d c. refl; next_aux = λ d c. refl; challenges = λ k. refl }

module _ (main_count aux_count : ℕ) (m mains auxs challenges main aux : List ℕ) where
  -- the lists are right, and the row has room
  pub record Fitting : Type 0 where
    pub valid : not_circuit m ≡ false
    pub main_ids : Listed m mains
    pub aux_ids : Listed m auxs
    pub mains_right : mains_wrong aux_count m main_count mains ≡ false
    pub auxs_right : auxs_wrong (main_count + length mains) m aux_count auxs ≡ false
    pub main_room : main_count + length mains ≤ length main
    pub main_next : row_kind m ≡ 2 → main_count + length mains ≤ length main / 2
    pub aux_room : 3 * aux_count + 3 * length auxs ≤ length aux
    pub aux_next : row_kind m ≡ 2 → 3 * aux_count + 3 * length auxs ≤ length aux / 2

  -- the row afterwards
  abbrev pub final : Assignment
  final = assigned (row_filled main_count aux_count m mains auxs challenges (main, aux)).0 (row_filled main_count aux_count m mains auxs challenges (main, aux)).1 challenges

  module _ (fit : Fitting) where
    pub settled_mains : SettledMain final m main_count mains
    unfolding row_filled
    settled_mains =
        let after = main_filled m aux challenges main_count main mains in
        settled_main_lem m challenges fit.valid aux_count aux mains main_count main fit.main_ids fit.mains_right fit.main_room fit.main_next final
        (aux_agrees m challenges (main_count + length mains) after aux aux_count (3 * length auxs) (aux_filled m after challenges aux_count aux auxs) (written_aux m challenges after auxs aux_count aux) fit.aux_next)

    pub settled_auxs : SettledAux final m aux_count auxs
    unfolding row_filled
    settled_auxs = settled_aux_lem m challenges fit.valid (main_count + length mains) (main_filled m aux challenges main_count main mains) auxs aux_count aux fit.aux_ids fit.auxs_right fit.aux_room fit.aux_next final (agree_self m _ _ final)

    pub row-holds : Holds main_count aux_count m mains auxs challenges (row_filled main_count aux_count m mains auxs challenges (main, aux)).0 (row_filled main_count aux_count m mains auxs challenges (main, aux)).1
    unfolding assigned
    row-holds = record { main_cells = main_at_lem aux_count m final mains main_count fit.mains_right settled_mains; aux_cells = aux_at_lem (main_count + length mains) m final auxs aux_count fit.auxs_right settled_auxs }

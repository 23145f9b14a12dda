-- Demand 3 over the public evaluation. Assumes nothing.
use Prim.Native.Nat.{ℕ, ◌<◌}
use mathlib.Core.Path.{◌≡◌, refl, sym, ap, ap₂, ◌∙◌}
use mathlib.Core.Logic.{inl, inr}
use mathlib.Core.Bool.{false}
use mathlib.Core.List.{List, [], ◌∷◌, ◌++◌, map}
use native.Mathlib.Omega.{arith}
use lib.ListN.{length}
use Rattle.arithmetic.specs.declared.Triple.{Triple}
use Rattle.arithmetic.specs.Base.{p}
use Rattle.arithmetic.specs.Extension.{lift}
use Rattle.layout.specs.Lists.{In}
use Rattle.layout.specs.Words.{used}
use Rattle.layout.specs.Tree.{tree}
use Rattle.layout.specs.NotCircuit.{not_circuit}
use Rattle.layout.specs.Outcomes.{Outcome}
use Rattle.layout.specs.Answers.{accepted}
use Rattle.reading.specs.Readings.{Assignment, value}
use Rattle.reading.specs.Calls.{assigned, evaluate_call}
use Rattle.lowering.specs.Lowering.{Lowering}
use Rattle.lowering.specs.Calls.{lower_call, returned}
use Rattle.lowering.proofs.Words.{has_used, valid_sound}
use Rattle.lowering.proofs.Accepts as accepts
use Rattle.lowering.proofs.Accepts.{first_tests, rooted_start}
use Rattle.lowering.proofs.Tables.{assigned_cells}
use Rattle.lowering.proofs.Fits.{in_place}
use Rattle.grown.specs.Promise.{NewValues, with_new, ExactlyOne}
use Rattle.grown.specs.Evaluated.{Wide, NewWords, evaluates, OneFill}
use Rattle.grown.proofs.Promised.{accepted_one}
use Rattle.grown.proofs.Remains.{Remains, remains}
use Rattle.grown.proofs.Evaluates.{evaluates_to}
use Rattle.grown.proofs.Stores.{words, triples, words_length, triples_words, words_triples, triples_length, words_in, triples_in}
use Rattle.grown.proofs.Meant.{evaluates_meant, wide_before}

pub map_in : {A : Type 0} (f g : ℕ → A) (is : List ℕ) → ((i : ℕ) → In i is → f i ≡ g i) → map f is ≡ map g is
map_in f g [] h = refl
map_in f g (i ∷ is) h = ap₂ ◌∷◌ (h i (inl refl)) (map_in f g is (λ j k. h j (inr k)))

map-map : {A B : Type 0} (f : A → B) (g : ℕ → A) (is : List ℕ) → map f (map g is) ≡ map (λ i. f (g i)) is
map-map f g [] = refl
map-map f g (i ∷ is) = ap (λ (r : List _). f (g i) ∷ r) (map-map f g is)

-- a choice of words as a choice of values, and back
abbrev values_of : {k l : ℕ} → NewWords k l → NewValues k l
values_of {k} {l} v =
    record {
      main = v.main;
      aux = triples v.aux;
      main_count = v.main_count;
      aux_count = triples_length l v.aux v.aux_count;
      base = v.main_below;
      extension = λ t h. let (a, b, c) = triples_in (λ w. w < p) v.aux v.aux_below t h in record { below0 = a; below1 = b; below2 = c };
    }

abbrev words_of : {k l : ℕ} → NewValues k l → NewWords k l
words_of {k} {l} v =
    record {
      main = v.main;
      aux = words v.aux;
      main_count = v.main_count;
      aux_count = omega (arith, words_length v.aux, v.aux_count);
      main_below = v.base;
      aux_below = words_in (λ w. w < p) v.aux (λ t h. let c = v.extension t h in (c.below0, c.below1, c.below2));
    }

module _ (mc ac : ℕ) (m roots : List ℕ) (x : Lowering) (left : Remains mc ac m x) (valid : not_circuit m ≡ false) (valid' : not_circuit x.circuit ≡ false) (ids : (r : ℕ) → In r roots → r < used m)
    (main aux challenges : List ℕ) (wide : Wide x.circuit main aux challenges) (one : ExactlyOne mc ac m roots x (assigned main aux challenges)) where
  -- what a constraint or a root answers, with the one choice in the tables
  evaluates_chosen : (i : ℕ) → i < used x.circuit → evaluates mc ac m roots x main aux challenges one.values.main (words one.values.aux) i ≡ accepted (value (with_new mc ac (assigned main aux challenges) one.values.main one.values.aux) (tree x.circuit i)) tt
  evaluates_chosen i h =
      evaluates_meant mc ac m x left valid' main aux challenges wide (words_of one.values) m roots i h
      ∙ ap (λ (t : List Triple). accepted {L = Unit {0}} (value (with_new mc ac (assigned main aux challenges) one.values.main t) (tree x.circuit i)) tt) (triples_words one.values.aux)

  original : (r : ℕ) → In r roots → evaluate_call m r main aux challenges ≡ accepted (value (assigned main aux challenges) (tree m r)) tt
  original r h = evaluates_to m main aux challenges valid (wide_before mc ac m x left valid' main aux challenges wide) r (ids r h)

  pub one_fill : OneFill mc ac m roots x main aux challenges
  one_fill = record {
    values = words_of one.values;
    zeros = λ q h. evaluates_chosen q (left.constraints q h) ∙ ap answer (one.zeros q h);
    answered = λ r h. ap (λ (o : Outcome Triple (Unit {0})). o.number) (original r h);
    keeps =
        map_in _ (λ i. answer (value after (tree x.circuit i))) x.roots (λ i h. evaluates_chosen i (left.roots i h))
        ∙ sym (map-map answer (λ i. value after (tree x.circuit i)) x.roots)
        ∙ ap (map answer) one.keeps
        ∙ map-map answer (λ i. value before (tree m i)) roots
        ∙ sym (map_in _ (λ r. answer (value before (tree m r))) roots original);
    only = λ v h.
        let zero_at : (q : ℕ) → In q (x.main ++ x.aux) → value (with_new mc ac (assigned main aux challenges) v.main (triples v.aux)) (tree x.circuit q) ≡ lift 0 =
        λ q k. ap (λ (o : Outcome Triple (Unit {0})). o.values) (sym (evaluates_meant mc ac m x left valid' main aux challenges wide v m roots q (left.constraints q k)) ∙ h q k) in
        let (a, b) = one.only (values_of v) zero_at in
        (a, sym (words_triples (length x.aux) v.aux v.aux_count) ∙ ap words b);
  }
    where
      answer : Triple → Outcome Triple (Unit {0})
      answer t = accepted t tt

      before : Assignment
      before = assigned main aux challenges

      after : Assignment
      after = with_new mc ac (assigned main aux challenges) one.values.main one.values.aux

-- DEMAND 3, over what `evaluate` answers: for every lowering that is accepted, of any lent words
pub filled : (target main_count aux_count : ℕ) (lent : Lowering) → (lower_call target main_count aux_count lent).number ≡ 0
    → (main aux challenges : List ℕ) → Wide (returned (lower_call target main_count aux_count lent)).circuit main aux challenges
    → OneFill main_count aux_count lent.circuit lent.roots (returned (lower_call target main_count aux_count lent)) main aux challenges
filled T mc ac lent h main aux challenges wide =
    let m : List ℕ = lent.circuit in
    let (f, rest) = first_tests T mc ac lent (accepts.accepted T mc ac lent h) in
    one_fill mc ac lent.circuit lent.roots (returned (lower_call T mc ac lent)) (remains T mc ac lent h) f.circuit (in_place T mc ac lent h).valid
    (λ r k. let (t, w) = rooted_start m lent.roots (valid_sound m f.circuit) f.ids r k in has_used m t r w)
    main aux challenges wide (accepted_one T mc ac lent h (assigned main aux challenges) (assigned_cells main aux challenges wide.words))

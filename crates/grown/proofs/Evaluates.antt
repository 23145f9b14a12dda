-- On tables that are wide enough every node evaluates, to its value under what the tables say; and they stay so when words are stored. Assumes nothing.
use Prim.Native.Nat.{ℕ, ◌<◌}
use mathlib.Core.Path.{◌≡◌, refl, ◌∙◌}
use mathlib.Core.Logic.{⊎_elim}
use mathlib.Core.Bool.{false}
use mathlib.Core.List.{List, [], ◌∷◌, ◌++◌}
use lib.ListN.{length}
use lib.Seq.{sets, length-sets}
use borrow.Author.Tests.{leb-false, lt-leb}
use Rattle.arithmetic.specs.Base.{p}
use Rattle.arithmetic.specs.Extension.{triple}
use Rattle.layout.specs.declared.node.Expression.{Expression}
use Rattle.layout.specs.declared.node.Expression.TheVariants.{Base, Extension, Challenge, Operation, Input}
use Rattle.layout.specs.Lists.{In}
use Rattle.layout.specs.Words.{used, expression_at}
use Rattle.layout.specs.NotCircuit.{bad_word, not_circuit, bad_id}
use Rattle.layout.specs.Tree.{tree}
use Rattle.layout.specs.Answers.{accepted}
use Rattle.layout.proofs.Refusals.{refusal_none, refusal_next, reading_accepted, no_bad_id, bad_id_next}
use Rattle.walking.specs.Paths.{walk}
use Rattle.paths.proofs.Below.{walks_one, walks_below}
use Rattle.reading.specs.Readings.{value}
use Rattle.reading.specs.Refusals.{columns_lent, reads_beyond, bad_table}
use Rattle.reading.specs.Calls.{assigned, evaluate_call}
use Rattle.lowering.proofs.ListLaws.{any_false, in_left, in_right, in_cases}
use Rattle.lowering.proofs.Proper.{none_false}
use Rattle.grown.specs.Evaluated.{Wide, NewWords}
use Rattle.grown.proofs.Stores.{sets_in}

module _ (m main aux challenges : List ℕ) (valid : not_circuit m ≡ false) (wide : Wide m main aux challenges) (i : ℕ) (here : i < used m) where
  one_id : bad_id m (i ∷ []) ≡ false
  one_id = bad_id_next m i [] here ∙ no_bad_id m

  good_table : bad_table m i main aux challenges ≡ false
  unfolding bad_table
  good_table =
      rw wide.lengths
      (none_false (λ j. reads_beyond m main aux challenges (expression_at m j)) (walk (tree m i))
      (λ j h. wide.reads j (walks_below m valid (i ∷ []) one_id j (rw (walks_one m i) h))))

  pub evaluates_to : evaluate_call m i main aux challenges ≡ accepted (value (assigned main aux challenges) (tree m i)) tt
  unfolding evaluate_call
  evaluates_to = reading_accepted m (i ∷ []) _ (value (assigned main aux challenges) (tree m i)) (triple 0 0 0) valid one_id (refusal_next 15 _ _ good_table ∙ refusal_next 5 _ _ wide.words ∙ refusal_none)

same_beyond : (m main main' aux aux' challenges : List ℕ) → length main' ≡ length main → length aux' ≡ length aux → (e : Expression) → reads_beyond m main' aux' challenges e ≡ reads_beyond m main aux challenges e
unfolding columns_lent
same_beyond m main main' aux aux' challenges h k (Base w) = refl
same_beyond m main main' aux aux' challenges h k (Extension x) = refl
same_beyond m main main' aux aux' challenges h k (Challenge x) = refl
same_beyond m main main' aux aux' challenges h k (Operation o l r) = refl
same_beyond m main main' aux aux' challenges h k (Input q) = rw (h, k)

pub wide_stored : (m main aux challenges : List ℕ) (first second k l : ℕ) → Wide m main aux challenges → (v : NewWords k l) → Wide m (sets main first v.main) (sets aux second v.aux) challenges
wide_stored m main aux challenges first second k l w v =
    let a = length-sets main first v.main in
    let b = length-sets aux second v.aux in
    record {
      lengths = rw (a, b) w.lengths;
      reads = λ i h. same_beyond m main (sets main first v.main) aux (sets aux second v.aux) challenges a b (expression_at m i) ∙ w.reads i h;
      words = none_false bad_word (sets main first v.main ++ sets aux second v.aux ++ challenges) (λ x h. lt-leb p x (below x h));
    }
  where
    old : (x : ℕ) → In x (main ++ aux ++ challenges) → x < p
    old x h = leb-false p x (any_false bad_word (main ++ aux ++ challenges) w.words x h)

    below : (x : ℕ) → In x (sets main first v.main ++ sets aux second v.aux ++ challenges) → x < p
    below x h =
        ⊎_elim
        (λ z. ⊎_elim
        (λ y. ⊎_elim (λ t. old x (in_left x (main ++ aux) challenges (in_left x main aux t))) (v.main_below x) (sets_in v.main main first x y))
        (λ y. ⊎_elim (λ t. old x (in_left x (main ++ aux) challenges (in_right x main aux t))) (v.aux_below x) (sets_in v.aux aux second x y))
        (in_cases x (sets main first v.main) (sets aux second v.aux) z))
        (λ z. old x (in_right x (main ++ aux) challenges z))
        (in_cases x (sets main first v.main ++ sets aux second v.aux) challenges h)

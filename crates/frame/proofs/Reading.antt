-- Laws of what a line asks for. Assumes nothing.
use Prim.Native.Nat.{ℕ, ◌*◌}
use mathlib.Core.Path.{◌≡◌, sym, ap, ◌∙◌}
use mathlib.Core.Bool.{true, false}
use mathlib.Core.List.{List}
use lib.ListN.{length}
use borrow.Author.Tests.{eq-eqb, ne_eqb}
use Rattle.layout.specs.Lists.{all}
use Rattle.framing.specs.declared.Request.TheVariants.{Nothing}
use Rattle.framing.specs.declared.Form.{Form}
use Rattle.framing.specs.Digits.{is_digit, bytes_of, number_at}
use Rattle.framing.specs.Requests.{form, form_by, form_of, request_of}

-- the form of an opcode that was read
pub form_picked : (k o : ℕ) (bs : List ℕ) → o ≡ k → o ≡ number_at 1 0 bs → form_by k bs ≡ form_of bs
unfolding form_of
form_picked k o bs e f = ap (λ (n : ℕ). form_by n bs) (sym e ∙ f)

-- none of 00 to 0a
abbrev pub Not : ℕ → ℕ → Type 0
Not o k = o ≡ k → ⊥

pub form_other : (o : ℕ) (bs : List ℕ) → Not o 0 → Not o 1 → Not o 2 → Not o 3 → Not o 4 → Not o 5 → Not o 6 → Not o 7 → Not o 8 → Not o 9 → Not o 10
    → o ≡ number_at 1 0 bs → form 0 Nothing ≡ form_of bs
unfolding form_by form_of
form_other o bs a b c d e f g h i j k is =
    sym (rw (← is, ne_eqb o 0 a, ne_eqb o 1 b, ne_eqb o 2 c, ne_eqb o 3 d, ne_eqb o 4 e, ne_eqb o 5 f, ne_eqb o 6 g, ne_eqb o 7 h, ne_eqb o 8 i, ne_eqb o 9 j, ne_eqb o 10 k))

-- digits, and as many as the form asks
module _ (line : List ℕ) where
  pub no_digits : all is_digit line ≡ false → request_of line ≡ Nothing
  unfolding request_of
  no_digits h = rw h

  module _ (f : Form) (is : f ≡ form_of (bytes_of line)) (digits : all is_digit line ≡ true) where
    pub other_length : (length line ≡ 2 * f.0 → ⊥) → request_of line ≡ Nothing
    unfolding request_of
    other_length h = rw (digits, ← is, ne_eqb _ _ h)

    pub its_length : length line ≡ 2 * f.0 → request_of line ≡ f.1
    unfolding request_of
    its_length h = rw (digits, ← is, eq-eqb _ _ h)

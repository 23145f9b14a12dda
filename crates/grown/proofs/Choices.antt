-- A choice of values for the new columns, and the assignment that holds them. Assumes nothing.
use Prim.Native.Nat.{ℕ, zero, suc, ◌+◌, ◌-◌, ◌≤◌, ◌<◌}
use mathlib.Core.Path.{◌≡◌, refl, sym, ap, ◌∙◌}
use mathlib.Core.Logic.{◌⊎◌, inl, inr, ⊎_elim}
use mathlib.Core.List.{List, [], ◌∷◌}
use native.Mathlib.Omega.{arith}
use native.Mathlib.Decide.{dec_lt}
use lib.ListN.{length, get_or, get_or-eq_default}
use lib.Seq.{ext_get_or}
use borrow.Author.Tests.{lt-ltb, le-ltb}
use Rattle.arithmetic.specs.Base.{p}
use Rattle.arithmetic.specs.Extension.{Canonical}
use Rattle.layout.specs.Lists.{In}
use Rattle.reading.specs.Readings.{Assignment}
use Rattle.lowering.specs.Demand.{Cells, ButNew}
use Rattle.lowering.proofs.Assignments.{same_cells}
use Rattle.grown.specs.Promise.{NewValues, row, with_new}

module _ {A : Type 0} where
  -- n cells of a row, from one on
  abbrev pub cells : (ℕ → A) → ℕ → ℕ → List A
  cells f first zero = []
  cells f first (suc n) = f first ∷ cells f (suc first) n

  pub cells_length : (f : ℕ → A) (first n : ℕ) → length (cells f first n) ≡ n
  cells_length f first zero = refl
  cells_length f first (suc n) = ap suc (cells_length f (suc first) n)

  pub cells_at : (f : ℕ → A) (first n i : ℕ) (d : A) → i < n → get_or (cells f first n) i d ≡ f (first + i)
  cells_at f first zero i d h = absurd (omega arith)
  cells_at f first (suc n) zero d h = ap f (let e : first ≡ first + 0 = omega arith in e)
  cells_at f first (suc n) (suc i) d h = cells_at f (suc first) n i d (omega arith) ∙ ap f (let e : suc first + i ≡ first + suc i = omega arith in e)

  pub cells_in : (P : A → Type 0) (f : ℕ → A) → ((c : ℕ) → P (f c)) → (first n : ℕ) (x : A) → In x (cells f first n) → P x
  cells_in P f h first zero x k = absurd k
  cells_in P f h first (suc n) x (inl e) = rw e (h first)
  cells_in P f h first (suc n) x (inr k) = cells_in P f h (suc first) n x k

  get_d_in : (new : List A) (i : ℕ) (d : A) → i < length new → In (get_or new i d) new
  get_d_in [] i d h = absurd (omega arith)
  get_d_in (x ∷ new) zero d h = inl refl
  get_d_in (x ∷ new) (suc i) d h = inr (get_d_in new i d (omega arith))

  module _ (first : ℕ) (new : List A) (old : ℕ → A) (c : ℕ) where
    -- before the new cells and after them
    pub row_old : (c < first) ⊎ (first + length new ≤ c) → row first new old c ≡ old c
    row_old (inl h) = rw (lt-ltb c first h)
    row_old (inr h) = rw (le-ltb c first (omega arith)) (get_or-eq_default new (old c) (omega arith))

    -- in them
    row_new : first ≤ c → row first new old c ≡ get_or new (c - first) (old c)
    row_new h = rw (le-ltb c first h)

    row_is : (P : A → Type 0) → ((x : A) → In x new → P x) → P (old c) → P (row first new old c)
    row_is P h k = go (dec_lt c first) (dec_lt (c - first) (length new))
      where
        go : Dec (c < first) → Dec (c - first < length new) → P (row first new old c)
        go (yes l) e = rw (row_old (inl l)) k
        go (no l) (yes e) = rw (row_new (omega arith)) (h _ (get_d_in new (c - first) (old c) e))
        go (no l) (no e) = rw (row_old (inr (omega arith))) k

  pub row_at : (first : ℕ) (new : List A) (old : ℕ → A) (i : ℕ) (d : A) → i < length new → row first new old (first + i) ≡ get_or new i d
  row_at first new old i d h =
      row_new first new old (first + i) (omega arith) ∙ ap (λ (j : ℕ). get_or new j (old (first + i))) (let e : first + i - first ≡ i = omega arith in e) ∙ any-default new i (old (first + i)) d h
    where
      any-default : (new : List A) (i : ℕ) (d e : A) → i < length new → get_or new i d ≡ get_or new i e
      any-default [] i d e h = absurd (omega arith)
      any-default (x ∷ new) zero d e h = refl
      any-default (x ∷ new) (suc i) d e h = any-default new i d e (omega arith)

  -- a row that differs from another in n cells alone is that other with those cells put in
  pub row_of : (first n : ℕ) (old f : ℕ → A) → ((c : ℕ) → (c < first) ⊎ (first + n ≤ c) → f c ≡ old c) → (c : ℕ) → row first (cells f first n) old c ≡ f c
  row_of first n old f h c = go (dec_lt c first) (dec_lt c (first + n))
    where
      l : length (cells f first n) ≡ n
      l = cells_length f first n

      go : Dec (c < first) → Dec (c < first + n) → row first (cells f first n) old c ≡ f c
      go (yes k) e = row_old first (cells f first n) old c (inl k) ∙ sym (h c (inl k))
      go (no k) (yes e) = row_new first (cells f first n) old c (omega arith) ∙ cells_at f first n (c - first) (old c) (omega arith) ∙ ap f (let z : first + (c - first) ≡ c = omega arith in z)
      go (no k) (no e) = row_old first (cells f first n) old c (inr (omega (arith, l))) ∙ sym (h c (inr (omega arith)))

  -- the new cells of a row are what was put in
  pub row_cells : (first : ℕ) (new : List A) (old f : ℕ → A) → ((c : ℕ) → row first new old c ≡ f c) → new ≡ cells f first (length new)
  row_cells first new old f h =
      ext_get_or (old 0) new (cells f first (length new)) (sym (cells_length f first (length new)))
      (λ i k. sym (row_at first new old i (old 0) k) ∙ h (first + i) ∙ sym (cells_at f first (length new) i (old 0) k))

module _ (main_count k aux_count l : ℕ) (a : Assignment) where
  -- the choice that an assignment holds
  abbrev pub held : (b : Assignment) → Cells b → NewValues k l
  held b h =
      record {
        main = cells b.main main_count k;
        aux = cells b.aux aux_count l;
        main_count = cells_length b.main main_count k;
        aux_count = cells_length b.aux aux_count l;
        base = cells_in (λ w. w < p) b.main h.main main_count k;
        extension = cells_in Canonical b.aux h.aux aux_count l;
      }

  pub held_is : (b : Assignment) → ButNew main_count k aux_count l a b → with_new main_count aux_count a (cells b.main main_count k) (cells b.aux aux_count l) ≡ b
  held_is b h =
      same_cells _ b (row_of main_count k a.main b.main h.main) (row_of aux_count l a.aux b.aux h.aux) (λ c. sym (h.next_main c)) (λ c. sym (h.next_aux c)) (λ c. sym (h.challenges c))

  module _ (v : NewValues k l) where
    pub new-cells : Cells a → Cells (with_new main_count aux_count a v.main v.aux)
    new-cells h =
        record {
          main = λ c. row_is main_count v.main a.main c (λ w. w < p) v.base (h.main c);
          aux = λ c. row_is aux_count v.aux a.aux c Canonical v.extension (h.aux c);
          next_main = h.next_main;
          next_aux = h.next_aux;
          challenges = h.challenges;
        }

    pub but_new : ButNew main_count k aux_count l a (with_new main_count aux_count a v.main v.aux)
    but_new =
        let m = v.main_count in
        let n = v.aux_count in
        record {
          main = λ c h. row_old main_count v.main a.main c (⊎_elim inl (λ z. inr (omega arith)) h);
          aux = λ c h. row_old aux_count v.aux a.aux c (⊎_elim inl (λ z. inr (omega arith)) h);
          next_main = λ c. refl;
          next_aux = λ c. refl;
          challenges = λ c. refl;
        }

    -- a choice is read off the assignment that holds it
    pub choice_is : (b : Assignment) → with_new main_count aux_count a v.main v.aux ≡ b → (v.main ≡ cells b.main main_count k) × (v.aux ≡ cells b.aux aux_count l)
    choice_is b e = (
      row_cells main_count v.main a.main b.main (λ c. ap (λ (x : Assignment). x.main c) e) ∙ ap (cells b.main main_count) v.main_count,
      row_cells aux_count v.aux a.aux b.aux (λ c. ap (λ (x : Assignment). x.aux c) e) ∙ ap (cells b.aux aux_count) v.aux_count,
    )

-- Words stored into a lent table, and the row that the table then says. Assumes nothing.
use Prim.Native.Nat.{ℕ, zero, suc, ◌+◌, ◌*◌, ◌-◌, ◌/◌, ◌≤◌, ◌<◌}
use mathlib.Core.Path.{◌≡◌, refl, sym, ap, ◌∙◌}
use mathlib.Core.Logic.{◌⊎◌, inl, inr, ⊎_elim}
use mathlib.Core.List.{List, [], ◌∷◌}
use native.Mathlib.Omega.{arith}
use native.Mathlib.Decide.{dec_lt}
use lib.ListN.{length, get_or, set, drop, length-set}
use lib.Seq.{sets, length-sets, get_or-set_same, get_or-set_other, drop-set-lt}
use Rattle.arithmetic.specs.declared.Triple.{Triple}
use Rattle.arithmetic.specs.Extension.{triple}
use Rattle.layout.specs.Lists.{In}
use Rattle.reading.specs.Calls.{triple_at, next_row}
use Rattle.grown.specs.Promise.{row}
use Rattle.grown.proofs.Choices.{row_old, row_at}

module _ {A : Type 0} where
  pub sets_other : (vs l : List A) (i j : ℕ) (d : A) → (j < i) ⊎ (i + length vs ≤ j) → get_or (sets l i vs) j d ≡ get_or l j d
  sets_other [] l i j d h = refl
  sets_other (a ∷ vs) l i j d h =
      sets_other vs (set l i a) (suc i) j d (⊎_elim (λ z. inl (omega arith)) (λ z. inr (omega arith)) h) ∙ get_or-set_other l i j a d (λ e. ⊎_elim (λ z. omega arith) (λ z. omega arith) h)

  pub sets_at : (vs l : List A) (i k : ℕ) (d : A) → k < length vs → i + length vs ≤ length l → get_or (sets l i vs) (i + k) d ≡ get_or vs k d
  sets_at [] l i k d h r = absurd (omega arith)
  sets_at (a ∷ vs) l i zero d h r = sets_other vs (set l i a) (suc i) (i + 0) d (inl (omega arith)) ∙ ap (λ (j : ℕ). get_or (set l i a) j d) (let e : i + 0 ≡ i = omega arith in e) ∙ get_or-set_same l i a d (omega arith)
  sets_at (a ∷ vs) l i (suc k) d h r =
      ap (λ (j : ℕ). get_or (sets (set l i a) (suc i) vs) j d) (let e : i + suc k ≡ suc i + k = omega arith in e)
      ∙ sets_at vs (set l i a) (suc i) k d (omega arith) (omega (arith, length-set l i a))

  -- what stands there afterwards stood there, or was stored
  pub sets_in : (vs l : List A) (i : ℕ) (w : A) → In w (sets l i vs) → In w l ⊎ In w vs
  sets_in [] l i w h = inl h
  sets_in (a ∷ vs) l i w h = ⊎_elim (λ z. ⊎_elim (λ y. inl y) (λ y. inr (inl y)) (set_in l i a w z)) (λ z. inr (inr z)) (sets_in vs (set l i a) (suc i) w h)
    where
      set_in : (l : List A) (i : ℕ) (a w : A) → In w (set l i a) → In w l ⊎ (w ≡ a)
      set_in [] i a w h = absurd h
      set_in (x ∷ l) zero a w (inl h) = inr h
      set_in (x ∷ l) zero a w (inr h) = inl (inr h)
      set_in (x ∷ l) (suc i) a w (inl h) = inl (inl h)
      set_in (x ∷ l) (suc i) a w (inr h) = ⊎_elim (λ y. inl (inr y)) (λ y. inr y) (set_in l i a w h)

drop_sets : (vs l : List ℕ) (i n : ℕ) → i + length vs ≤ n → drop n (sets l i vs) ≡ drop n l
drop_sets [] l i n h = refl
drop_sets (a ∷ vs) l i n h = drop_sets vs (set l i a) (suc i) n (omega arith) ∙ drop-set-lt n l i a (omega arith)

-- before, in and after the new places
three_ways : (first n c : ℕ) (P : Type 0) → ((c < first) ⊎ (first + n ≤ c) → P) → ((i : ℕ) → i < n → c ≡ first + i → P) → P
three_ways first n c P old new = go (dec_lt c first) (dec_lt c (first + n))
  where
    go : Dec (c < first) → Dec (c < first + n) → P
    go (yes h) e = old (inl h)
    go (no h) (yes e) = new (c - first) (omega arith) (omega arith)
    go (no h) (no e) = old (inr (omega arith))

-- a main table: one word a column
pub stored_main : (table new : List ℕ) (first : ℕ) → (new ≡ []) ⊎ (first + length new ≤ length table) → (c : ℕ) → get_or (sets table first new) c 0 ≡ row first new (λ k. get_or table k 0) c
stored_main table new first (inl e) c = rw e (sym (row_old first [] (λ k. get_or table k 0) c (three_ways first 0 c _ (λ h. h) (λ i h z. absurd (omega arith)))))
stored_main table new first (inr r) c =
    three_ways first (length new) c (get_or (sets table first new) c 0 ≡ row first new (λ k. get_or table k 0) c)
    (λ h. sets_other new table first c 0 h ∙ sym (row_old first new (λ k. get_or table k 0) c h))
    (λ i h e. rw e (sets_at new table first i 0 h r ∙ sym (row_at first new (λ k. get_or table k 0) i 0 h)))

-- triples and their words

pub words : List Triple → List ℕ
words [] = []
words (x ∷ xs) = x.c0 ∷ x.c1 ∷ x.c2 ∷ words xs

abbrev pub triples : List ℕ → List Triple
triples [] = []
triples (a ∷ []) = []
triples (a ∷ b ∷ []) = []
triples (a ∷ b ∷ c ∷ ws) = triple a b c ∷ triples ws

pub words_length : (xs : List Triple) → length (words xs) ≡ 3 * length xs
unfolding words
words_length [] = refl
words_length (x ∷ xs) = omega (arith, words_length xs)

pub triples_words : (xs : List Triple) → triples (words xs) ≡ xs
unfolding words
triples_words [] = refl
triples_words (x ∷ xs) = ap (λ (l : List Triple). x ∷ l) (triples_words xs)

pub words_triples : (l : ℕ) (ws : List ℕ) → length ws ≡ 3 * l → words (triples ws) ≡ ws
unfolding words
words_triples zero [] e = refl
words_triples zero (a ∷ ws) e = absurd (omega arith)
words_triples (suc l) [] e = refl
words_triples (suc l) (a ∷ []) e = absurd (omega arith)
words_triples (suc l) (a ∷ b ∷ []) e = absurd (omega arith)
words_triples (suc l) (a ∷ b ∷ c ∷ ws) e = ap (λ (x : List ℕ). a ∷ b ∷ c ∷ x) (words_triples l ws (omega arith))

pub triples_length : (l : ℕ) (ws : List ℕ) → length ws ≡ 3 * l → length (triples ws) ≡ l
triples_length zero [] e = refl
triples_length zero (a ∷ ws) e = absurd (omega arith)
triples_length (suc l) [] e = absurd (omega arith)
triples_length (suc l) (a ∷ []) e = absurd (omega arith)
triples_length (suc l) (a ∷ b ∷ []) e = absurd (omega arith)
triples_length (suc l) (a ∷ b ∷ c ∷ ws) e = ap suc (triples_length l ws (omega arith))

pub words_in : (P : ℕ → Type 0) (xs : List Triple) → ((x : Triple) → In x xs → P x.c0 × P x.c1 × P x.c2) → (w : ℕ) → In w (words xs) → P w
unfolding words
words_in P [] h w k = absurd k
words_in P (x ∷ xs) h w (inl e) = rw e (h x (inl refl)).0
words_in P (x ∷ xs) h w (inr (inl e)) = rw e (h x (inl refl)).1
words_in P (x ∷ xs) h w (inr (inr (inl e))) = rw e (h x (inl refl)).2
words_in P (x ∷ xs) h w (inr (inr (inr k))) = words_in P xs (λ y z. h y (inr z)) w k

pub triples_in : (P : ℕ → Type 0) (ws : List ℕ) → ((w : ℕ) → In w ws → P w) → (x : Triple) → In x (triples ws) → P x.c0 × P x.c1 × P x.c2
triples_in P [] h x k = absurd k
triples_in P (a ∷ []) h x k = absurd k
triples_in P (a ∷ b ∷ []) h x k = absurd k
triples_in P (a ∷ b ∷ c ∷ ws) h x (inl e) = rw e (h a (inl refl), h b (inr (inl refl)), h c (inr (inr (inl refl))))
triples_in P (a ∷ b ∷ c ∷ ws) h x (inr k) = triples_in P ws (λ w z. h w (inr (inr (inr z)))) x k

same_triple_lem : {a b c a' b' c' : ℕ} → a ≡ a' → b ≡ b' → c ≡ c' → triple a b c ≡ triple a' b' c'
same_triple_lem p q r = λ t. record { c0 = p t; c1 = q t; c2 = r t }

pub triples_at : (l : ℕ) (ws : List ℕ) → length ws ≡ 3 * l → (i : ℕ) (d : Triple) → i < l → get_or (triples ws) i d ≡ triple_at ws i
unfolding triple_at
triples_at zero ws e i d h = absurd (omega arith)
triples_at (suc l) [] e i d h = absurd (omega arith)
triples_at (suc l) (a ∷ []) e i d h = absurd (omega arith)
triples_at (suc l) (a ∷ b ∷ []) e i d h = absurd (omega arith)
triples_at (suc l) (a ∷ b ∷ c ∷ ws) e zero d h = refl
triples_at (suc l) (a ∷ b ∷ c ∷ ws) e (suc i) d h =
    triples_at l ws (omega arith) i d (omega arith) ∙ same_triple_lem (later (3 * i) (3 * suc i) (omega arith)) (later (3 * i + 1) (3 * suc i + 1) (omega arith)) (later (3 * i + 2) (3 * suc i + 2) (omega arith))
  where
    later : (n k : ℕ) → k ≡ suc (suc (suc n)) → get_or ws n 0 ≡ get_or (a ∷ b ∷ c ∷ ws) k 0
    later n k z = ap (λ (j : ℕ). get_or (a ∷ b ∷ c ∷ ws) j 0) (sym z)

-- an auxiliary table: three words a column
pub stored_aux : (table new : List ℕ) (first l : ℕ) → length new ≡ 3 * l → (new ≡ []) ⊎ (3 * (first + l) ≤ length table) → (c : ℕ) → triple_at (sets table (3 * first) new) c ≡ row first (triples new) (triple_at table) c
unfolding triple_at
stored_aux table new first l e (inl z) c = rw z (sym (row_old first [] (triple_at table) c (three_ways first 0 c _ (λ h. h) (λ i h y. absurd (omega arith)))))
stored_aux table new first l e (inr r) c =
    three_ways first l c (triple_at (sets table (3 * first) new) c ≡ row first (triples new) (triple_at table) c)
    (λ h. same_triple_lem (other 0 (3 * c) h (omega arith) (omega arith)) (other 1 (3 * c + 1) h (omega arith) (omega arith)) (other 2 (3 * c + 2) h (omega arith) (omega arith))
    ∙ sym (row_old first (triples new) (triple_at table) c (⊎_elim inl (λ y. inr (omega (arith, n))) h)))
    (λ i h z. same_triple_lem (new_word (3 * i) (3 * c) (omega arith) (omega arith)) (new_word (3 * i + 1) (3 * c + 1) (omega arith) (omega arith)) (new_word (3 * i + 2) (3 * c + 2) (omega arith) (omega arith))
    ∙ sym (triples_at l new e i (triple_at table 0) h) ∙ sym (row_at first (triples new) (triple_at table) i (triple_at table 0) (omega (arith, n))) ∙ ap (row first (triples new) (triple_at table)) (sym z))
  where
    n : length (triples new) ≡ l
    n = triples_length l new e

    other : (t j : ℕ) → (c < first) ⊎ (first + l ≤ c) → t ≤ 2 → j ≡ 3 * c + t → get_or (sets table (3 * first) new) j 0 ≡ get_or table j 0
    other t j h u z = sets_other new table (3 * first) j 0 (⊎_elim (λ y. inl (omega arith)) (λ y. inr (omega arith)) h)

    new_word : (w j : ℕ) → w < 3 * l → j ≡ 3 * first + w → get_or (sets table (3 * first) new) j 0 ≡ get_or new w 0
    new_word w j h z = rw z (sets_at new table (3 * first) w 0 (omega arith) (omega arith))

-- the next row, the second half, lies after what is stored in the first
pub stored_next : (table new : List ℕ) (first : ℕ) → (new ≡ []) ⊎ (first + length new ≤ length table / 2) → next_row (sets table first new) ≡ next_row table
unfolding next_row
stored_next table new first (inl e) = rw e
stored_next table new first (inr r) = ap (λ (n : ℕ). drop (n / 2) (sets table first new)) (length-sets table first new) ∙ drop_sets new table first (length table / 2) r

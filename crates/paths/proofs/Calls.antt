-- Which test decides each public call, and what the call then answers and leaves. Assumes nothing.
use Rattle.std.specs.Prelude.{if◌then◌else◌}
use Prim.Native.Nat.{ℕ, suc, ◌+◌, ◌<◌, ◌≤◌, min}
use mathlib.Core.Path.{◌≡◌, refl, sym, ap, ◌∙◌}
use mathlib.Core.Bool.{Bool, true, false, ◌||◌}
use mathlib.Core.List.{List, [], ◌∷◌}
use native.Mathlib.Omega.{arith}
use native.Mathlib.Numerals.{add-one}
use lib.Dec.{ltb}
use lib.ListN.{length, set, take, replicate, length-replicate}
use borrow.Author.Tests.{lt-ltb, le-ltb, ltb-false}
use Rattle.layout.specs.Lists.{up_to, any, each, written}
use Rattle.layout.specs.Words.{used, offset}
use Rattle.layout.specs.NotCircuit.{not_circuit, bad_id}
use Rattle.layout.specs.Outcomes.{refusal, outcome}
use Rattle.layout.specs.Answers.{accepted, refused}
use Rattle.circuit.specs.Rank.{at}
use Rattle.layout.proofs.Tests.{or-false, or_right, any_at}
use Rattle.layout.proofs.Lists.{or_left}
use Rattle.layout.proofs.Refusals.{refusal_none, refusal_here, refusal_next, outcome_accepted, outcome_refused, no_bad_id, bad_id_next}
use Rattle.walking.specs.Paths.{walks, paths, counts_under}
use Rattle.walking.specs.Refusals.{over_paths, no_room, repeated}
use Rattle.walking.specs.Calls.{walk_call, counted, count_call, counts_call}
use Rattle.paths.specs.Counting.{PathCounts}
use Rattle.paths.specs.Walking.{Walked}
use Rattle.paths.specs.Rising.{put, put_all, Words, gathered}
use Rattle.paths.proofs.Walks.{roots_first}
use Rattle.paths.proofs.Counts.{counts-test, counts_exact}
use Rattle.paths.proofs.Below.{any_same}
use Rattle.paths.proofs.Written.{written_same, sets_written}
use Rattle.paths.proofs.Gathers.{each_more, each_same, gathered_all}

-- 1 and 2 come first, then the call's own tests

module _ {A L : Type 0} (no_circuit bad : Bool) (own : List (ℕ × Bool)) (values : A) (after : L) (zeros : A) (lent : L) where
  abbrev tests : List (ℕ × Bool)
  tests = (1, no_circuit) ∷ (2, bad) ∷ own

  refused_1 : no_circuit ≡ true → refused 1 zeros lent ≡ outcome tests values after zeros lent
  refused_1 h = sym (outcome_refused tests values after zeros lent 0 (refusal_here 1 _ _ h))

  refused_2 : no_circuit ≡ false → bad ≡ true → refused 2 zeros lent ≡ outcome tests values after zeros lent
  refused_2 h i = sym (outcome_refused tests values after zeros lent 1 (refusal_next 1 _ _ h ∙ refusal_here 2 _ _ i))

  refused_own : no_circuit ≡ false → bad ≡ false → (k : ℕ) → refusal own ≡ suc k → refused (suc k) zeros lent ≡ outcome tests values after zeros lent
  refused_own h i k r = sym (outcome_refused tests values after zeros lent k (refusal_next 1 _ _ h ∙ refusal_next 2 _ _ i ∙ r))

  accepted_own : no_circuit ≡ false → bad ≡ false → refusal own ≡ 0 → accepted values after ≡ outcome tests values after zeros lent
  accepted_own h i r = sym (outcome_accepted tests values after zeros lent (refusal_next 1 _ _ h ∙ refusal_next 2 _ _ i ∙ r))

-- the walk

-- a length told apart up to one above the room
pub walk_fits : (room total needed : ℕ) → needed ≡ min (room + 1) total → needed ≤ room → total ≤ room
walk_fits room total needed e l = omega arith

module _ (m roots list stack : List ℕ) where
  abbrev walk_own : List (ℕ × Bool)
  walk_own = (13, no_room list (length (walks m roots)) || no_room stack (used m)) ∷ []

  pub walk_no_circuit : not_circuit m ≡ true → refused 1 0 (list, stack) ≡ walk_call m roots list stack
  unfolding walk_call
  walk_no_circuit h = refused_1 (not_circuit m) (bad_id m roots) walk_own _ _ 0 (list, stack) h

  pub walk_bad_id : not_circuit m ≡ false → bad_id m roots ≡ true → refused 2 0 (list, stack) ≡ walk_call m roots list stack
  unfolding walk_call
  walk_bad_id h i = refused_2 (not_circuit m) (bad_id m roots) walk_own _ _ 0 (list, stack) h i

  module _ (valid : not_circuit m ≡ false) (ids : bad_id m roots ≡ false) where
    pub walk_no_list : (needed : ℕ) → needed ≡ min (length list + 1) (length (walks m roots)) → length list < needed → refused 13 0 (list, stack) ≡ walk_call m roots list stack
    unfolding walk_call
    walk_no_list needed e l =
        refused_own (not_circuit m) (bad_id m roots) walk_own _ _ 0 (list, stack) valid ids 12
        (refusal_here 13 _ _ (or_left (no_room list (length (walks m roots))) (no_room stack (used m)) (lt-ltb (length list) (length (walks m roots)) (omega arith))))

    pub walk_no_stack : length stack < used m → refused 13 0 (list, stack) ≡ walk_call m roots list stack
    unfolding walk_call
    walk_no_stack l =
        refused_own (not_circuit m) (bad_id m roots) walk_own _ _ 0 (list, stack) valid ids 12
        (refusal_here 13 _ _ (or_right (no_room list (length (walks m roots))) (no_room stack (used m)) (lt-ltb (length stack) (used m) l)))

    pub walk_done : (answer : ℕ) (list' used-stack stack' : List ℕ) → length (walks m roots) ≤ length list → used m ≤ length stack → Walked m list stack list' used-stack (walks m roots) 0 answer → stack' ≡ written (replicate (used m) 0) used-stack → accepted answer (list', stack') ≡ walk_call m roots list stack
    unfolding walk_call
    walk_done answer list' used-stack stack' l s w e =
        let a : answer ≡ length (walks m roots) = let n = w.next in omega arith in
        let b : list' ≡ written (walks m roots) list = w.listed ∙ sets_written (walks m roots) list l in
        let d : stack' ≡ written (replicate (used m) 0) stack = e ∙ written_same (replicate (used m) 0) used-stack stack (rw (length-replicate {A = ℕ} (used m) 0) w.beyond) in
        rw (a, b, d)
        (accepted_own (not_circuit m) (bad_id m roots) walk_own (length (walks m roots)) (written (walks m roots) list, written (replicate (used m) 0) stack) 0 (list, stack) valid ids
        (refusal_next 13 _ _ (or-false (no_room list (length (walks m roots))) (no_room stack (used m)) (le-ltb (length list) (length (walks m roots)) l) (le-ltb (length stack) (used m) s)) ∙ refusal_none))

-- reference counts

-- the counts of the first i nodes are written
pub puts_next : (m counts x after : List ℕ) (i : ℕ) → x ≡ each (λ y j. put y j (at counts j)) m (up_to i) → after ≡ put x i (at counts i) → after ≡ each (λ y j. put y j (at counts j)) m (up_to (i + 1))
puts_next m counts x after i e h = h ∙ rw (e, add-one i) (sym (each_more (λ y j. put y j (at counts j)) m i))

-- tests that agree below the used count, over the roots
any_roots : (f g : ℕ → Bool) (m roots : List ℕ) → bad_id m roots ≡ false → ((i : ℕ) → i < used m → f i ≡ g i) → any f roots ≡ any g roots
unfolding any
any_roots f g m [] k h = refl
any_roots f g m (r ∷ roots) k h = let (l, more) = roots_first m r roots k in rw (h r l, any_roots f g m roots more h)

module _ (m roots : List ℕ) where
  abbrev count_own : List (ℕ × Bool)
  count_own = (14, repeated m roots) ∷ (12, over_paths m roots) ∷ []

  pub count_no_circuit : not_circuit m ≡ true → refused 1 tt m ≡ count_call m roots
  unfolding count_call
  count_no_circuit h = refused_1 (not_circuit m) (bad_id m roots) count_own tt _ tt m h

  pub count_bad_id : not_circuit m ≡ false → bad_id m roots ≡ true → refused 2 tt m ≡ count_call m roots
  unfolding count_call
  count_bad_id h i = refused_2 (not_circuit m) (bad_id m roots) count_own tt _ tt m h i

  module _ (valid : not_circuit m ≡ false) (ids : bad_id m roots ≡ false) (counts : List ℕ) (c : PathCounts m roots counts) where
    repeated_is : any (λ i. ltb 1 (at counts i)) roots ≡ repeated m roots
    unfolding repeated
    repeated_is = any_roots (λ i. ltb 1 (at counts i)) (λ r. ltb 1 (paths m roots r)) m roots ids (λ i l. counts-test m roots counts c i l 1 (omega arith))

    over-is : any (λ i. ltb 4294967295 (at counts i)) (up_to (used m)) ≡ over_paths m roots
    unfolding over_paths
    over-is = any_same (λ i. ltb 4294967295 (at counts i)) (λ i. ltb 4294967295 (paths m roots i)) (used m) (λ i l. counts-test m roots counts c i l 4294967295 (omega arith))

    put_is : over_paths m roots ≡ false → put_all m counts ≡ counted m roots
    unfolding put_all counted over_paths
    put_is h =
        each_same (λ x i. put x i (at counts i)) (λ x i. if ltb 0 (paths m roots i) then set x (offset i + 5) (paths m roots i) else x) m (used m)
        (λ x i l.
        let p = ltb-false 4294967295 (paths m roots i) (any_at (λ j. ltb 4294967295 (paths m roots j)) (used m) i l h) in
        let e = counts_exact m roots counts c i l (omega arith) in
        rw e)

    pub count_repeat : any (λ i. ltb 1 (at counts i)) roots ≡ true → refused 14 tt m ≡ count_call m roots
    unfolding count_call
    count_repeat h = refused_own (not_circuit m) (bad_id m roots) count_own tt _ tt m valid ids 13 (refusal_here 14 _ _ (sym repeated_is ∙ h))

    module _ (once : any (λ i. ltb 1 (at counts i)) roots ≡ false) where
      pub count_over : any (λ i. ltb 4294967295 (at counts i)) (up_to (used m)) ≡ true → refused 12 tt m ≡ count_call m roots
      unfolding count_call
      count_over h =
          refused_own (not_circuit m) (bad_id m roots) count_own tt _ tt m valid ids 11
          (refusal_next 14 _ _ (sym repeated_is ∙ once) ∙ refusal_here 12 _ _ (sym over-is ∙ h))

      pub count_done : any (λ i. ltb 4294967295 (at counts i)) (up_to (used m)) ≡ false → (after : List ℕ) → after ≡ put_all m counts → accepted tt after ≡ count_call m roots
      unfolding count_call
      count_done h after e =
          let o = sym over-is ∙ h in
          rw (e ∙ put_is o)
          (accepted_own (not_circuit m) (bad_id m roots) count_own tt (counted m roots) tt m valid ids
          (refusal_next 14 _ _ (sym repeated_is ∙ once) ∙ refusal_next 12 _ _ o ∙ refusal_none))

-- the distinct counts

-- one id
pub one_good : (m : List ℕ) (i : ℕ) → i < used m → bad_id m (i ∷ []) ≡ false
one_good m i l = bad_id_next m i [] l ∙ no_bad_id m

module _ (m : List ℕ) (i : ℕ) (list : List ℕ) where
  abbrev counts_own : List (ℕ × Bool)
  counts_own = (13, no_room list (length (counts_under m i))) ∷ []

  pub counts_no_circuit : not_circuit m ≡ true → refused 1 0 list ≡ counts_call m i list
  unfolding counts_call
  counts_no_circuit h = refused_1 (not_circuit m) (bad_id m (i ∷ [])) counts_own _ _ 0 list h

  pub counts_bad_id : not_circuit m ≡ false → bad_id m (i ∷ []) ≡ true → refused 2 0 list ≡ counts_call m i list
  unfolding counts_call
  counts_bad_id h b = refused_2 (not_circuit m) (bad_id m (i ∷ [])) counts_own _ _ 0 list h b

  module _ (valid : not_circuit m ≡ false) (here : i < used m) (counts : List ℕ) (c : PathCounts m (i ∷ []) counts) (words : List ℕ) (found : ℕ) (w : Words words (gathered m counts (used m)) found) where
    all-is : gathered m counts (used m) ≡ counts_under m i
    all-is = gathered_all m counts i valid (one_good m i here) c

    found-is : found ≡ length (counts_under m i)
    found-is = sym w.long ∙ ap length all-is

    pub counts_no_room : length list < found → refused 13 0 list ≡ counts_call m i list
    unfolding counts_call
    counts_no_room l =
        refused_own (not_circuit m) (bad_id m (i ∷ [])) counts_own _ _ 0 list valid (one_good m i here) 12
        (refusal_here 13 _ _ (lt-ltb (length list) (length (counts_under m i)) (rw found-is at l)))

    pub counts_done : found ≤ length list → (after : List ℕ) → after ≡ written (take found words) list → accepted found after ≡ counts_call m i list
    unfolding counts_call
    counts_done l after e =
        let f : length (counts_under m i) ≤ length list = rw found-is at l in
        let a : after ≡ written (counts_under m i) list = e ∙ ap (λ (x : List ℕ). written x list) (w.first ∙ all-is) in
        rw (a, found-is)
        (accepted_own (not_circuit m) (bad_id m (i ∷ [])) counts_own (length (counts_under m i)) (written (counts_under m i) list) 0 list valid (one_good m i here)
        (refusal_next 13 _ _ (le-ltb (length list) (length (counts_under m i)) f) ∙ refusal_none))

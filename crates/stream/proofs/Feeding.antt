-- Laws of feeding: what one line, and one part of the input, does to what is kept and written. Assumes nothing.
use Prim.Native.Nat.{ℕ, zero, suc, ◌+◌, ◌-◌, ◌≤◌, ◌<◌}
use mathlib.Core.Path.{◌≡◌, refl, sym, ap, ◌∙◌}
use mathlib.Core.Bool.{Bool, true, false}
use mathlib.Core.List.{List, [], ◌∷◌, ◌++◌, append-nil}
use native.Mathlib.Omega.{arith}
use lib.ListN.{length, set, take, drop, length-drop, drop_of_length-le}
use lib.Seq.{sets, take_all, take-add, length-take-le}
use borrow.Rule.Slice.PartMut.{mid_of, put_mid}
use Rattle.frame.proofs.Writing.{put_then, put_none}
use Rattle.stream.specs.Stream.{Program, Stream, stream, fed_one, fed, Line, line_of, gathered, Gathers, AnsweredLine, Advanced, Taken, Poured}
use Rattle.stream.proofs.Streaming.{fed_append}
use Rattle.stream.proofs.Gathering.{gathered_within, line_fed, fed_gathered}

-- a text that was written to the part from a place on
sets_cons : (x : ℕ) (vs xs : List ℕ) (i : ℕ) → sets (x ∷ xs) (suc i) vs ≡ x ∷ sets xs i vs
sets_cons x [] xs i = refl
sets_cons x (v ∷ vs) xs i = sets_cons x vs (set xs i v) (suc i)

sets_behind : (at : ℕ) (out vs : List ℕ) → at ≤ length out → take at out ++ sets (drop at out) 0 vs ≡ sets out at vs
sets_behind zero out vs h = refl
sets_behind (suc at) [] vs h = absurd (omega arith)
sets_behind (suc at) (x ∷ out) vs h = ap (λ (t : List ℕ). x ∷ t) (sets_behind at out vs (omega arith)) ∙ sym (sets_cons x vs out at)

sets_part : (at : ℕ) (out vs : List ℕ) → at ≤ length out → put_mid at (length out - at) out (sets (mid_of at (length out - at) out) 0 vs) ≡ sets out at vs
sets_part at out vs h =
    let e : take (length out - at) (drop at out) ≡ drop at out = take_all (length out - at) (drop at out) (omega (arith, length-drop at out)) in
    let f : drop (length out - at) (drop at out) ≡ [] = drop_of_length-le (drop at out) {i = length out - at} (omega (arith, length-drop at out)) in
    rw (e, f, append-nil (sets (drop at out) 0 vs)) (sets_behind at out vs h)

-- what is lent keeps its length
pub record Lengths (m₀ roots₀ main₀ aux₀ numbers₀ table₀ least₀ line₀ out₀ m roots main aux numbers table least line out : List ℕ) : Type 0 where
  pub m_kept : length m ≡ length m₀
  pub roots_kept : length roots ≡ length roots₀
  pub main_kept : length main ≡ length main₀
  pub aux_kept : length aux ≡ length aux₀
  pub numbers_kept : length numbers ≡ length numbers₀
  pub table_kept : length table ≡ length table₀
  pub least_kept : length least ≡ length least₀
  pub line_kept : length line ≡ length line₀
  pub out_kept : length out ≡ length out₀

-- some of a part was taken
pub some_taken : (taken at room len : ℕ) → (taken ≡ 0 → at ≡ 0) → len - at < room → room ≤ len → 0 < taken
some_taken zero at room len f l h = let z : at ≡ 0 = f refl in absurd (omega arith)
some_taken (suc taken) at room len f l h = omega arith

pub rest_length : (part : List ℕ) (from : ℕ) → from ≤ length part → length (mid_of from (length part - from) part) ≡ length part - from
rest_length part from h = length-take-le (length part - from) (drop from part) (omega (arith, length-drop from part))

module _ {S : Type 0} (p : Program S) where
  -- an answer, written to the part of the places from one on
  pub line_answered : (s s' : S) (line part ys : List ℕ) (n room : ℕ) → s' ≡ p.next s line → n ≡ length (p.says s line) → ys ≡ sets part 0 (p.says s line) → n ≤ room
      → (out : List ℕ) (at : ℕ) → part ≡ mid_of at (length out - at) out → at + room ≤ length out → AnsweredLine p s s' line out at (put_mid at (length out - at) out ys) (at + n)
  line_answered s s' line part ys n room state written places few out at is h =
      let y : ys ≡ sets (mid_of at (length out - at) out) 0 (p.says s line) = places ∙ ap (λ (q : List ℕ). sets q 0 (p.says s line)) is in
      record {
        state = state;
        put = record { places = ap (put_mid at (length out - at) out) y ∙ sets_part at out (p.says s line) (omega arith); behind = ap (λ (q : ℕ). at + q) written };
        fits = omega arith;
      }

  -- a line that was gathered
  module _ {line part line' : List ℕ} {kept taken kept' : ℕ} {ended : Bool} (gathers : Gathers line kept part line' taken kept' ended) (places : length line ≡ p.most) where
    gather_is : line_of taken (take kept' line') ended ≡ gathered p.most (take kept line) part
    gather_is = gathers.is ∙ ap (λ (q : ℕ). gathered q (take kept line) part) places

    fed_is : (s : S) → fed p (stream s (take kept line)) (take taken part) ≡ line_fed p s (line_of taken (take kept' line') ended)
    fed_is s =
        ap (λ (x : Line). fed p (stream s (take kept line)) (take x.taken part)) gather_is ∙ fed_gathered p s (take kept line) part ∙ ap (line_fed p s) (sym gather_is)

    pub line_open : (s : S) (out : List ℕ) (at : ℕ) → ended ≡ false → at ≤ length out → Advanced (fed p (stream s (take kept line)) (take taken part)) s (take kept' line') out at out at
    line_open s out at e h = rw (fed_is s, e) (record { state = refl; kept = refl; put = put_none out at; fits = h })

    pub line_ended : (s : S) (out : List ℕ) (at : ℕ) → ended ≡ true → (s' : S) (out' : List ℕ) (next : ℕ) → AnsweredLine p s s' (take kept' line') out at out' next → Advanced (fed p (stream s (take kept line)) (take taken part)) s' [] out at out' next
    unfolding fed_one
    line_ended s out at e s' out' next a = rw (fed_is s, e) (record { state = a.state; kept = refl; put = a.put; fits = a.fits })

    pub line_taken : (k : ℕ) → k ≤ kept' → Taken p.most part taken k
    line_taken k h =
        let w = gathered_within p.most (take kept line) part in
        let e : taken ≡ (gathered p.most (take kept line) part).taken = ap (λ (x : Line). x.taken) gather_is in
        record { within = omega (arith, e, w.0); some = λ l. omega (arith, e, w.1 l); few = omega (arith, places, h, gathers.few) }

  -- what remains of a part
  rest_fed : (x : Stream S) (part : List ℕ) (i t : ℕ) (y : Stream S) → i ≤ length part → y ≡ (fed p x (take i part)).after
      → ((fed p y (take t (mid_of i (length part - i) part))).after ≡ (fed p x (take (i + t) part)).after) × ((fed p x (take i part)).said ++ (fed p y (take t (mid_of i (length part - i) part))).said ≡ (fed p x (take (i + t) part)).said)
  rest_fed x part i t y h e =
      let rest : mid_of i (length part - i) part ≡ drop i part = take_all (length part - i) (drop i part) (omega (arith, length-drop i part)) in
      let both = fed_append p x (take i part) (take t (drop i part)) in
      rw (e, rest, take-add i t part) (sym both.0, sym both.1)

  -- line after line
  module _ (x : Stream S) (part out : List ℕ) where
    pub none_fed : (kept : List ℕ) → kept ≡ x.kept → Advanced (fed p x (take 0 part)) x.state kept out 0 out 0
    unfolding fed
    none_fed kept k = record { state = refl; kept = k; put = put_none out 0; fits = omega arith }

    module _ (s : S) (kept out₁ : List ℕ) (i at : ℕ) (so_far : Advanced (fed p x (take i part)) s kept out 0 out₁ at) where
      pub none_written : i ≡ 0 → at ≡ 0
      unfolding fed
      none_written z = so_far.put.behind ∙ ap (λ (q : ℕ). 0 + length (fed p x (take q part)).said) z

      pub more_fed : (s' : S) (kept' out₂ : List ℕ) (next t : ℕ) → i ≤ length part → length out₁ ≡ length out
          → Advanced (fed p (stream s kept) (take t (mid_of i (length part - i) part))) s' kept' out₁ at out₂ next → Advanced (fed p x (take (i + t) part)) s' kept' out 0 out₂ next
      more_fed s' kept' out₂ next t h l more =
          let e : stream s kept ≡ (fed p x (take i part)).after = rw (so_far.state, so_far.kept) in
          let r = rest_fed x part i t (stream s kept) h e in
          record {
            state = more.state ∙ ap (λ (q : Stream S). q.state) r.0;
            kept = more.kept ∙ ap (λ (q : Stream S). q.kept) r.0;
            put = rw r.1 at (put_then so_far.put more.put);
            fits = omega (arith, more.fits, l);
          }

  -- part after part
  pub poured_none : (x : Stream S) (part line : List ℕ) (kept : ℕ) → take kept line ≡ x.kept → kept ≤ p.most → Poured p x (take 0 part) x.state line kept
  unfolding fed
  poured_none x part line kept k h = record { state = refl; characters = k; few = h }

  pub poured_more : (x : Stream S) (part : List ℕ) (from : ℕ) (s : S) (line : List ℕ) (kept : ℕ) → Poured p x (take from part) s line kept → from ≤ length part
      → (s' : S) (line' out out' : List ℕ) (kept' at next taken : ℕ) → Advanced (fed p (stream s (take kept line)) (take taken (mid_of from (length part - from) part))) s' (take kept' line') out at out' next
      → kept' ≤ p.most → Poured p x (take (from + taken) part) s' line' kept'
  poured_more x part from s line kept so_far h s' line' out out' kept' at next taken more few =
      let e : stream s (take kept line) ≡ (fed p x (take from part)).after = rw (so_far.state, so_far.characters) in
      let r = rest_fed x part from taken (stream s (take kept line)) h e in
      record { state = more.state ∙ ap (λ (q : Stream S). q.state) r.0; characters = more.kept ∙ ap (λ (q : Stream S). q.kept) r.0; few = few }

  pub poured_all : (x : Stream S) (part : List ℕ) (from : ℕ) (s : S) (line : List ℕ) (kept : ℕ) → Poured p x (take from part) s line kept → length part ≤ from → Poured p x part s line kept
  poured_all x part from s line kept poured h =
      let e : take from part ≡ part = take_all from part h in
      rw e at poured

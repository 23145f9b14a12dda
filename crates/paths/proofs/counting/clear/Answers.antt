use Prim.Native.Nat.{ℕ}
use mathlib.Core.Path.{ap, ◌∙◌}
use lib.ListN.{replicate, length-replicate}
use lib.Seq.{length-take-le}
use borrow.Author.Rules.{rules}
use Rattle.paths.proofs.Written.{written_first}
use Rattle.paths.proofs.counting.clear.Goals as goal

pub returns : goal.returns
returns c =
    rw (c.fill.ensures.after (λ y h. search rules) ∙ ap (λ (k : ℕ). replicate k 0) (length-take-le c.args.n c.args.counts.now c.requires))
    (written_first (replicate c.args.n 0) c.args.counts.now c.args.n (length-replicate {A = ℕ} c.args.n 0))

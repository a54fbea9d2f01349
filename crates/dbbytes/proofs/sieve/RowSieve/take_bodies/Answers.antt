use Rattle.std.proofs.Common.{arith}
use Rattle.dbbytes.specs.Sieve.{row_after}
use Rattle.dbbytes.proofs.SieveLemmas.{row_over, row_more}
use Rattle.dbbytes.proofs.sieve.RowSieve.take_bodies.Goals as goal

pub returns-then-piece-left : goal.returns-then-piece-left
unfolding row_after
returns-then-piece-left c = λ more. rw c.requires (row_over c.args.left c.args.piece.now more _ (omega arith))

pub returns : goal.returns
unfolding row_after
returns c = λ more. rw c.requires (row_more c.args.self.now.encoding c.args.left c.args.types c.args.piece.now more _ _ _ _ _ _ (omega arith)
    (c.take.ensures more) (c.take-2.ensures more) (c.take-3.ensures more))

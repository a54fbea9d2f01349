use Rattle.std.proofs.Common.{sym, ◌∙◌, ◌++◌, drop, arith}
use Rattle.dbbytes.proofs.ListLemmas.{tail}
use Rattle.dbbytes.proofs.SieveLemmas.{row_after-size, row_after-types, row_after-malformed, fed_more, fed_all, taken_more}
use Rattle.dbbytes.proofs.sieve.RowSieve.feed.Goals as goal
use Rattle.dbbytes.proofs.sieve.RowSieve.feed.Goals.{in-HeaderSize, in-SerialTypes}

pub returns-in-Malformed : goal.returns-in-Malformed
returns-in-Malformed c = λ size e bytes h.
    let s = c.loop-i.self in
    taken_more c.args.piece.now h (λ more. row_after-malformed s more c.in-Malformed.is
    ∙ sym (row_after-malformed s (drop c.loop-i.i c.args.piece.now ++ more) c.in-Malformed.is) ∙ c.loop-i.invariant more)

pub loop-i-preserved : goal.loop-i-preserved
loop-i-preserved c =
    let s = c.loop-i.self in
    elim c.match-self.branch [
      | in-HeaderSize w ↦ fed_more s c.match-self.self c.args.self.now c.args.piece.now c.loop-i.i (omega arith) c.loop-i.invariant
          (λ more. rw w.self-is (w.enter.ensures more ∙ w.after_size_byte.ensures s.encoding more
          ∙ sym (row_after-size s w.in-HeaderSize.size w.in-HeaderSize.number _ w.in-HeaderSize.is)))
      | in-SerialTypes w ↦ fed_more s c.match-self.self c.args.self.now c.args.piece.now c.loop-i.i (omega arith) c.loop-i.invariant
          (λ more. rw w.self-is (w.enter-in-SerialTypes.ensures more ∙ w.push.ensures s.encoding more
          ∙ sym (row_after-types s w.in-SerialTypes.header _ w.in-SerialTypes.is)))
    ]

pub returns : goal.returns
returns c = λ size e bytes h. taken_more c.args.piece.now h (fed_all c.loop-i.self c.args.self.now c.args.piece.now c.loop-i.i (omega arith) c.loop-i.invariant)

pub returns-in-Bodies : goal.returns-in-Bodies
returns-in-Bodies c = λ size e bytes h. taken_more c.args.piece.now h (λ more.
    let fed = rw (tail c.loop-i.i c.args.piece.now) at (c.take_bodies.ensures more) in
    fed ∙ c.loop-i.invariant more)

use Rattle.std.proofs.Common.{arith}
use Rattle.dbpicture.specs.Groups.{claims}
use Rattle.dbpicture.proofs.FirstMost.{first_before, first_here, none_first}
use Rattle.dbpicture.proofs.bands.Bands.next.Goals as goal
use Rattle.dbpicture.proofs.bands.Bands.next.Goals.{else-claim-most, then-claim-most}

pub loop-number-init : goal.loop-number-init
loop-number-init c = (none_first (claims c.args.shares.now c.args.all c.args.self.now.heights) _ c.claim-most.ensures, omega arith)

pub loop-number-preserved : goal.loop-number-preserved
loop-number-preserved c =
    let much = claims c.args.shares.now c.args.all c.args.self.now.heights in
    let at = c.loop-number.invariant in
    let claim = c.claim-claim.ensures in
    elim c.if-claim-most.branch [
      | then-claim-most w ↦ rw (w.next-is, w.most-is) (first_here much _ _ _ at.0 _ claim w.if-claim-most.true, omega (arith, c.loop-number-test.true))
      | else-claim-most w ↦ rw (w.next-is, w.most-is) (first_before much _ _ _ at.0 _ claim w.if-claim-most.false, at.1)
    ]

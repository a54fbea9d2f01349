use Rattle.dbreport.proofs.Common.{arith}
use Rattle.dbreport.proofs.Hexes.{digits_start, digits_more, digits_written, digits_before}
use Rattle.dbreport.proofs.statistics.hex.write_hex.Goals as goal

pub loop-rest-init : goal.loop-rest-init
loop-rest-init c = digits_start c.args.number c.args.text.now c.ranges.number.fits (omega arith)

pub loop-rest-preserved : goal.loop-rest-preserved
loop-rest-preserved c =
    rw c.hex_digit.ensures (digits_more c.args.number c.loop-rest.rest c.loop-rest.at c.args.text.now c.loop-rest.text c.loop-rest.invariant (omega arith))

pub returns-clause-written : goal.returns-clause-written
returns-clause-written c =
    rw c.hex_digit-2.ensures (digits_written c.args.number c.loop-rest.rest c.loop-rest.at c.args.text.now c.loop-rest.text c.loop-rest.invariant (omega arith))

pub returns-clause-before : goal.returns-clause-before
returns-clause-before c =
    digits_before c.args.number c.loop-rest.rest c.loop-rest.at c.hex_digit-2.result c.args.text.now c.loop-rest.text c.loop-rest.invariant

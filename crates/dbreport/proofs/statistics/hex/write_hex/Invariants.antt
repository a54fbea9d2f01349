use Rattle.dbreport.proofs.Hexes.{HasDigits}
use Rattle.dbreport.proofs.statistics.hex.write_hex.Given as goal

abbrev pub invariant-loop-rest : goal.invariant-loop-rest
invariant-loop-rest l = HasDigits l.number l.rest l.at l.fn.text l.text

abbrev pub decreases-loop-rest : goal.decreases-loop-rest
decreases-loop-rest l = l.rest

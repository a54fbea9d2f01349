use Rattle.dbbytes.proofs.VarintLemmas.{varint-from-number}
use Rattle.dbbytes.proofs.varints.long_varint.Goals as goal

pub loop-byte-init : goal.loop-byte-init
loop-byte-init c = rw (c.new-number.ensures.value, c.new-number.ensures.length) (varint-from-number _)

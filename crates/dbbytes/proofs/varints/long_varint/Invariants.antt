use Rattle.std.proofs.Common.{drop}
use Rattle.dbbytes.specs.Varint.{GoesOn}
use Rattle.dbbytes.proofs.varints.long_varint.Given as goal

abbrev pub invariant-loop-byte : goal.invariant-loop-byte
invariant-loop-byte l = GoesOn l.number.length l.number.value (drop l.byte-index l.bytes) l.bytes

use Rattle.std.proofs.Common.{◌≡◌, Some, arith}
use Rattle.std.proofs.lemmas.Grind.{common_steps}
use Rattle.dbformat.specs.Varint.{varint}
use Rattle.dbbytes.proofs.VarintLemmas.{varint-within}
use Rattle.dbbytes.proofs.varints.varint_by_bytes.Goals as goal

pub returns-else-len-eq0-clause-within : goal.returns-else-len-eq0-clause-within
returns-else-len-eq0-clause-within c =
    let found : varint c.args.bytes.now ≡ Some c.long_varint-value.result = grind (arith, common_steps) in
    rw found at (varint-within c.args.bytes.now)

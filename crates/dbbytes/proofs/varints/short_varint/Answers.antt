use Rattle.std.proofs.Common.{arith}
use Rattle.std.proofs.lemmas.Grind.{common_steps}
use Rattle.dbbytes.proofs.VarintLemmas.{varint_after_first}
use Rattle.dbbytes.proofs.varints.short_varint.Goals as goal

pub returns-then-one-lt128-clause-value : goal.returns-then-one-lt128-clause-value
returns-then-one-lt128-clause-value c =
    let after_first = varint_after_first c.args.bytes.now (omega arith) in
    grind (arith, common_steps)

pub returns-then-bytes-lt128-clause-value : goal.returns-then-bytes-lt128-clause-value
returns-then-bytes-lt128-clause-value c =
    let after_first = varint_after_first c.args.bytes.now (omega arith) in
    grind (arith, common_steps)

pub returns-then-bytes-lt128-2-clause-value : goal.returns-then-bytes-lt128-2-clause-value
returns-then-bytes-lt128-2-clause-value c =
    let after_first = varint_after_first c.args.bytes.now (omega arith) in
    grind (arith, common_steps)

pub returns-then-bytes-lt128-3-clause-value : goal.returns-then-bytes-lt128-3-clause-value
returns-then-bytes-lt128-3-clause-value c =
    let after_first = varint_after_first c.args.bytes.now (omega arith) in
    grind (arith, common_steps)

pub returns-clause-more : goal.returns-clause-more
returns-clause-more c =
    let after_first = varint_after_first c.args.bytes.now (omega arith) in
    grind (arith, common_steps)

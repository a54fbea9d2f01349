use Rattle.dbbytes.specs.Sieve.{row_after}
use Rattle.dbbytes.proofs.SieveLemmas.{taken_none}
use Rattle.dbbytes.proofs.WholeLemmas.{whole_row}
use Rattle.dbbytes.proofs.sieve.RowSieve.new.Goals as goal

pub returns : goal.returns
unfolding row_after
returns c = taken_none _ c.args.p c.args.encoding
    (λ more. whole_row c.args.encoding c.args.p c.new.result.length c.new.result.value more c.new.ensures.length c.new.ensures.value)

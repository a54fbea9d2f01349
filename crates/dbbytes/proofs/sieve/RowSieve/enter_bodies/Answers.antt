use Rattle.std.proofs.Common.{sym, arith}
use Rattle.dbbytes.specs.Sieve.{row_after}
use Rattle.dbbytes.proofs.SieveLemmas.{row_entered}
use Rattle.dbbytes.proofs.sieve.RowSieve.enter_bodies.Goals as goal

pub returns-in-Some : goal.returns-in-Some
unfolding row_after
returns-in-Some c = λ more.
    let kind = c.aim.ensures in
    let name = c.aim-in-Some.ensures in
    let root = c.aim-in-Some-2.ensures in
    row_entered c.args.self.now.encoding c.args.types c.in-Some.lens more c.args.bodies _ _ _ _ _ _ _ _ _ (omega arith) (omega arith) (sym c.in-Some.ensures)
    kind.gap kind.want kind.bytes name.gap name.want name.bytes root.gap root.want root.bytes

use Rattle.std.proofs.Common.{◌≡◌, ◌+◌, ◌-◌, arith}
use Rattle.dbbytes.proofs.ListLemmas.{kept_more}
use Rattle.dbbytes.proofs.window.Window.take.Goals as goal

pub returns : goal.returns
returns g c = λ more.
    let self = c.args.self.now in
    let skip = c.min-skip.result in
    let count = c.min-count.result in
    let cut : skip + count - skip ≡ count = omega arith in
    let added = rw (c.unwrap.ensures, cut) at c.try_extend_from_slice.ensures.ok in
    rw added (kept_more self.gap self.want skip count self.bytes.items c.args.piece.now more c.min-skip.ensures c.min-count.ensures)

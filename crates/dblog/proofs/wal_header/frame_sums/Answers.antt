use Rattle.std.proofs.Common.{◌∙◌, ap}
use Rattle.std.proofs.lemmas.List.{take_rest}
use Rattle.std.specs.Prelude.{drop}
use Rattle.dblog.specs.Sums.{sums}
use Rattle.dblog.specs.Wal.{order}
use Rattle.dblog.proofs.wal_header.frame_sums.Goals as goal

pub returns : goal.returns
returns c =
    c.sums_by.ensures ∙ ap (sums (order c.args.header.now) c.sums_by-head.result) (take_rest c.args.frame.now 24)
    ∙ ap (λ s. sums (order c.args.header.now) s (drop 24 c.args.frame.now)) c.sums_by-head.ensures

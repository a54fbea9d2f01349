use Rattle.std.proofs.Common.{rules, ◌≡◌}
use Rattle.dbmend.proofs.Patching.{tried_over}
use Rattle.dbmend.proofs.counting.count_changed.Goals as goal

pub returns-clause-tried : goal.returns-clause-tried
returns-clause-tried g c =
    let below = tried_over g.S.Source (λ f. f.count) c.count_faults.result c.new-lent.result c.count_faults.new.source c.args.changes.now c.args.source.now
    c.new-lent.ensures.changes c.new-lent.ensures.source c.count_faults.ensures.counted in
    let same = below.0 in
    let k : c.source-1.given.0 ≡ c.count_faults.new.source.source.now = search (rules, same) in
    rw k below.1

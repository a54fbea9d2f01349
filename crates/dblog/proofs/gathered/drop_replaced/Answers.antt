use Rattle.std.proofs.Common.{◌∙◌, ◌<◌, sym, subst}
use Rattle.std.specs.List.{All, AllPairs}
use Rattle.dblog.specs.Entries.{Gathers}
use Rattle.dblog.proofs.Latest.{front_written}
use Rattle.dblog.proofs.gathered.drop_replaced.Goals as goal

pub returns-clause-kept : goal.returns-clause-kept
returns-clause-kept g c = λ pages h.
    let e = front_written _ c.sort_latest-count.new.entries _ _ _ (c.sort_latest-count.auto.entries ∙ c.as_mut_slice.ensures.len) c.truncate.ensures.items in
    subst (λ es. Gathers es pages c.args.committed) (sym e)
    (c.sort_latest-count.ensures.kept pages (subst (λ es. Gathers es pages c.args.committed) (sym c.as_mut_slice.ensures.value) h))

pub returns-clause-rising : goal.returns-clause-rising
returns-clause-rising g c = λ h.
    let e = front_written _ c.sort_latest-count.new.entries _ _ _ (c.sort_latest-count.auto.entries ∙ c.as_mut_slice.ensures.len) c.truncate.ensures.items in
    subst (AllPairs (λ d f. d.page < f.page)) (sym e)
    (c.sort_latest-count.ensures.rising (subst (All (λ f. f.frame < c.args.committed)) (sym c.as_mut_slice.ensures.value) h))

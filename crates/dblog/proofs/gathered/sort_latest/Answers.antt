use Rattle.std.proofs.Common.{◌<◌, sym, subst}
use Rattle.std.specs.List.{AllPairs}
use Rattle.std.proofs.lemmas.List.Sorted.{All-permutation}
use Rattle.dblog.specs.Entries.{Gathers}
use Rattle.dblog.proofs.Latest.{gathers_latest, latest_rising}
use Rattle.dblog.proofs.gathered.sort_latest.Goals as goal

pub returns-clause-kept : goal.returns-clause-kept
returns-clause-kept c = λ pages h. subst (λ es. Gathers es pages c.args.committed) (sym c.keep_latest.ensures.kept)
    (gathers_latest c.args.entries.now c.sort_unstable.new.self pages c.args.committed c.sort_unstable.ensures.permutation h)

pub returns-clause-rising : goal.returns-clause-rising
returns-clause-rising c = λ h. subst (AllPairs (λ d e. d.page < e.page)) (sym c.keep_latest.ensures.kept)
    (latest_rising c.args.committed c.sort_unstable.new.self c.sort_unstable.ensures.sorted
    (All-permutation (λ e. e.frame < c.args.committed) c.args.entries.now c.sort_unstable.new.self c.sort_unstable.ensures.permutation h))

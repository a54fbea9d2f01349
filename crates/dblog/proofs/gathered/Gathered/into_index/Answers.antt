use Rattle.std.proofs.Common.{◌≤◌, ◌<◌, List, ℕ, length, take, sym, subst}
use Rattle.std.specs.List.{All}
use Rattle.dblog.specs.Entries.{Gathers, IsIndexOf}
use Rattle.dblog.proofs.Latest.{all_committed, index_of_committed}
use Rattle.dblog.proofs.gathered.Gathered.into_index.Goals as goal

pub returns-clause-rising : goal.returns-clause-rising
returns-clause-rising g c = c.drop_replaced.ensures.rising (subst (All (λ e. e.frame < c.self.inside.committed)) (sym c.drop_uncommitted.ensures)
    (all_committed c.self.inside.entries.items c.self.inside.committed))

pub returns-clause-index : goal.returns-clause-index
returns-clause-index g c =
    let count = c.self.inside.committed in
    let old = c.self.inside.entries.items in
    subst (λ s. (pages : List ℕ) → s.committed ≤ length pages → Gathers s.entries pages s.committed
    → IsIndexOf c.drop_replaced.new.entries.items (take s.committed pages)) c.self.view_is
    (λ pages le h. index_of_committed old c.drop_replaced.new.entries.items pages count le
    (λ ps k. c.drop_replaced.ensures.kept ps (subst (λ es. Gathers es ps count) (sym c.drop_uncommitted.ensures) k))
    (c.drop_replaced.ensures.rising (subst (All (λ e. e.frame < count)) (sym c.drop_uncommitted.ensures) (all_committed old count))) h)

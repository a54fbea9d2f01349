use Rattle.std.proofs.Common.{subst}
use Rattle.std.specs.Prelude.{MatchOption}
use Rattle.dbformat.specs.Head.{View}
use Rattle.dbpage.specs.Beginning.{AreRead}
use Rattle.dbpage.specs.Packed.{IsUnpacked}
use Rattle.dbpage.proofs.view.PageView.mark_short_index_cells.Goals as goal

pub returns : goal.returns
returns g c =
    let done = c.mark_short_index_cells_in_place in
    subst (λ (v : View). MatchOption done.result (IsUnpacked v) (AreRead v done.new.table)) c.copied.ensures done.ensures

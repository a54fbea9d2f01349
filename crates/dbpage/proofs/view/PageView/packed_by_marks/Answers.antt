use Rattle.std.proofs.Common.{subst}
use Rattle.std.specs.Prelude.{MatchOption}
use Rattle.dbformat.specs.Head.{View}
use Rattle.dbpage.specs.Packed.{IsPacked, IsUnpacked}
use Rattle.dbpage.proofs.view.PageView.packed_by_marks.Goals as goal

pub returns : goal.returns
returns c =
    subst (λ (v : View). MatchOption c.packed_by_clear_marks.result (IsUnpacked v) (IsPacked v)) c.copied.ensures
    c.packed_by_clear_marks.ensures

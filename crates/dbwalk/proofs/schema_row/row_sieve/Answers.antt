use Rattle.std.proofs.Common.{[], Some, sym, ◌∙◌, subst}
use Rattle.dbwalk.proofs.Common.{result_ok, Cell, HoldsCell}
use Rattle.dbbytes.specs.Sieve.{HasTaken}
use Rattle.dbwalk.proofs.schema_row.row_sieve.Goals as goal

pub returns-in-Ok : goal.returns-in-Ok
returns-in-Ok c = subst (λ r. HoldsCell (Some c.feed.new.self) c.args.encoding (result_ok r)) (sym (sym c.cell.ensures ∙ c.in-Ok.is))
    (subst (λ (y : Cell). HasTaken c.feed.new.self y.size c.args.encoding y.local) c.cell-in-Ok.view_is
    (c.feed.ensures c.cell-in-Ok.inside.size c.args.encoding [] c.new-sieve.ensures))

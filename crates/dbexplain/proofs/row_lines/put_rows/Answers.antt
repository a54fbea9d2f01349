use Rattle.dblines.proofs.Writing.{wrote_then}
use Rattle.dbexplain.proofs.row_lines.put_rows.Goals as goal

pub returns : goal.returns
returns g c = wrote_then (wrote_then c.put_kind.ensures c.put_kind-2.ensures) c.put_kind-3.ensures

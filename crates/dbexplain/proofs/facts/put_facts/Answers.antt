use Rattle.std.proofs.Common.{◌∙◌}
use Rattle.dblines.proofs.Writing.{wrote_as, wrote_then}
use Rattle.dbexplain.proofs.facts.put_facts.Goals as goal

pub returns : goal.returns
returns g c = wrote_then c.put_run.ensures (wrote_as (c.as_slice.ensures.value ∙ c.rowids_line.ensures) c.put.ensures)

use Rattle.std.proofs.Common.{ap, ◌∙◌}
use Rattle.std.specs.Prelude.{slice_set}
use Rattle.dbscan.specs.StartTable.{most_starts}
use Rattle.dbexplain.proofs.StartCounts.{set_replicate}
use Rattle.dbexplain.proofs.start_counts.StartCounts.new_in.Goals as goal

pub returns : goal.returns
returns g c = ap (λ w. slice_set w 0 c.args.counts) c.in_ok-others.ensures ∙ set_replicate most_starts 0 c.args.counts

use Rattle.std.proofs.Common.{◌*◌, ◌+◌}
use Rattle.std.specs.Prelude.{slice_index_or}
use Rattle.std.specs.List.{flat_map, range_with_len}
use Rattle.dblines.specs.Writing.{Wrote}
use Rattle.dbpicture.specs.Legends.{line_text, no_line}
use Rattle.dbpicture.proofs.legend_text.draw_lines.Given as goal

abbrev pub invariant-loop-index : goal.invariant-loop-index
invariant-loop-index g l = Wrote g.O.Out.held l.initial.writer
    (flat_map (λ i. line_text l.labels.names.items l.geometry (slice_index_or l.lines i no_line) ((i + 2) * 20)) (range_with_len 0 l.index)) l.writer

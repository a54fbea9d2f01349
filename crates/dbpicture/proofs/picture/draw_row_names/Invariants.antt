use Rattle.std.specs.List.{flat_map, range_with_len}
use Rattle.dblines.specs.Writing.{Wrote}
use Rattle.dbpicture.specs.Pictures.{row_label_text}
use Rattle.dbpicture.proofs.picture.draw_row_names.Given as goal

abbrev pub invariant-loop-row : goal.invariant-loop-row
invariant-loop-row g l = Wrote g.O.Out.held l.initial.writer (flat_map (row_label_text l.grid) (range_with_len 0 l.row)) l.writer

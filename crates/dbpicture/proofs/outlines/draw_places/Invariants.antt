use Rattle.std.proofs.Common.{◌-◌}
use Rattle.std.specs.List.{flat_map, range_with_len}
use Rattle.dblines.specs.Writing.{Wrote}
use Rattle.dbpicture.specs.Squares.{outline_text}
use Rattle.dbpicture.proofs.outlines.draw_places.Given as goal

abbrev pub invariant-loop-place : goal.invariant-loop-place
invariant-loop-place g l = Wrote g.O.Out.held l.initial.writer (flat_map (outline_text l.grid) (range_with_len l.fn.first (l.place - l.fn.first))) l.writer

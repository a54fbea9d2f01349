use Rattle.std.specs.List.{flat_map, range_with_len}
use Rattle.dblines.specs.Writing.{WroteOf}
use Rattle.dbpicture.specs.Keeping.{AreOf, drawn_by}
use Rattle.dbpicture.specs.Squares.{row_text}
use Rattle.dbpicture.proofs.squares.Squares.draw.Given as goal

abbrev pub invariant-loop-row : goal.invariant-loop-row
invariant-loop-row g l =
    WroteOf g.O.Out.held l.initial.writer (AreOf l.self) (λ file V. flat_map (row_text (drawn_by l.self V)) (range_with_len 0 l.row)) l.writer

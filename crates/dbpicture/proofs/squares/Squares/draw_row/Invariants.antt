use Rattle.std.proofs.Common.{◌-◌}
use Rattle.std.specs.List.{flat_map, range_with_len}
use Rattle.dblines.specs.Writing.{WroteOf}
use Rattle.dbpicture.specs.Keeping.{AreOf, drawn_by, HoldsTreeName}
use Rattle.dbpicture.specs.Squares.{square_text}
use Rattle.dbpicture.proofs.squares.Squares.draw_row.Given as goal

abbrev pub invariant-loop-index : goal.invariant-loop-index
invariant-loop-index g l = record {
  drawn : WroteOf g.O.Out.held l.initial.writer (AreOf l.self)
      (λ file V. flat_map (square_text (drawn_by l.self V)) (range_with_len l.first (l.index - l.first)))
      l.writer;
  tree : HoldsTreeName l.self.names l.tree;
}

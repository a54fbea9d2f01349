use Rattle.std.proofs.Common.{◌≡◌}
use Rattle.std.specs.List.{flat_map, range_with_len}
use Rattle.dblines.specs.Writing.{Wrote}
use Rattle.dbpicture.specs.Groups.{is_first, owner_text}
use Rattle.dbpicture.proofs.group.GroupSquare.draw_owners.Given as goal

abbrev pub invariant-loop-number : goal.invariant-loop-number
invariant-loop-number g l = record {
  first : l.is_first ≡ is_first l.self.shares l.number;
  drawn : Wrote g.O.Out.held l.initial.writer
      (flat_map (λ number. owner_text l.self.shares l.labels.names.items (is_first l.self.shares number) number) (range_with_len 0 l.number)) l.writer;
}

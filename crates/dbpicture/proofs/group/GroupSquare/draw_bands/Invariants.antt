use Rattle.std.proofs.Common.{◌≡◌, get_or}
use Rattle.std.specs.List.{flat_map, range_with_len}
use Rattle.dblines.specs.Writing.{Wrote}
use Rattle.dbpicture.specs.Groups.{band_text, band_top}
use Rattle.dbpicture.proofs.group.GroupSquare.draw_bands.Given as goal

abbrev pub invariant-loop-number : goal.invariant-loop-number
invariant-loop-number g l = record {
  top : l.top ≡ band_top l.bands l.number;
  drawn : Wrote g.O.Out.held l.initial.writer
      (flat_map (λ number. band_text l.self number (band_top l.bands number) (get_or l.bands.heights number 0)) (range_with_len 0 l.number)) l.writer;
}

use Rattle.std.proofs.Common.{◌≡◌, ◌-◌, ap, arith}
use Rattle.std.specs.List.{flat_map, range_with_len}
use Rattle.dblines.proofs.Writing.{wrote_as}
use Rattle.dbpicture.specs.Squares.{outline_text}
use Rattle.dbpicture.proofs.Steps.{range_more, range_none}
use Rattle.dbpicture.proofs.outlines.draw_places.Goals as goal

pub loop-place-init : goal.loop-place-init
loop-place-init g c = range_none (outline_text c.args.grid.now) c.args.first c.args.writer.now (omega arith)

pub loop-place-preserved : goal.loop-place-preserved
loop-place-preserved g c =
    range_more (outline_text c.args.grid.now) c.args.first _ c.loop-place.place c.loop-place.invariant c.draw_outline.ensures
    (omega (arith, c.loop-place.auto.place)) (omega (arith, c.loop-place.auto.place))

pub returns : goal.returns
returns g c =
    let end : c.loop-place.place ≡ c.args.end = omega arith in
    wrote_as (ap (λ n. flat_map (outline_text c.args.grid.now) (range_with_len c.args.first (n - c.args.first))) end) c.loop-place.invariant

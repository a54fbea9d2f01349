use Rattle.std.proofs.Common.{◌≡◌, ap, ◌∙◌, arith, refl}
use Rattle.std.specs.List.{flat_map, range_with_len}
use Rattle.dblines.proofs.Writing.{of_as}
use Rattle.dbpicture.specs.Keeping.{drawn_by}
use Rattle.dbpicture.specs.Squares.{row_text, rows_text}
use Rattle.dbpicture.proofs.Steps.{of_range_more, of_range_none}
use Rattle.dbpicture.proofs.squares.Squares.draw.Goals as goal

pub loop-row-init : goal.loop-row-init
loop-row-init g c = of_range_none (λ file V. row_text (drawn_by c.args.self.now V)) 0 c.args.writer.now refl

pub loop-row-preserved : goal.loop-row-preserved
loop-row-preserved g c =
    of_range_more (λ file V. row_text (drawn_by c.args.self.now V)) 0 _ c.loop-row.row c.loop-row.invariant c.draw_row.ensures (omega arith) refl

pub returns : goal.returns
unfolding rows_text
returns g c =
    let end : c.loop-row.row ≡ c.rows-row-end.result = omega arith in
    of_as (λ file V k. ap (λ n. flat_map (row_text (drawn_by c.args.self.now V)) (range_with_len 0 n)) (end ∙ c.rows-row-end.ensures)) c.loop-row.invariant

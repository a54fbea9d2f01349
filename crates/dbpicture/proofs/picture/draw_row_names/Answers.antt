use Rattle.std.proofs.Common.{◌≡◌, ap, ◌∙◌, arith, refl}
use Rattle.std.specs.List.{flat_map, range_with_len}
use Rattle.dblines.proofs.Writing.{wrote_as, wrote_then}
use Rattle.dbpicture.specs.Pictures.{row_label_text, row_names}
use Rattle.dbpicture.proofs.Steps.{range_more, range_none}
use Rattle.dbpicture.proofs.picture.draw_row_names.Goals as goal

pub loop-row-init : goal.loop-row-init
loop-row-init g c = range_none (row_label_text c.args.grid.now) 0 c.write_all.new.self refl

pub loop-row-preserved : goal.loop-row-preserved
loop-row-preserved g c = range_more (row_label_text c.args.grid.now) 0 _ c.loop-row.row c.loop-row.invariant c.draw_row_name.ensures (omega arith) refl

pub returns : goal.returns
unfolding row_names
returns g c =
    let end : c.loop-row.row ≡ c.rows-row-end.result = omega arith in
    let names = wrote_as (ap (λ n. flat_map (row_label_text c.args.grid.now) (range_with_len 0 n)) (end ∙ c.rows-row-end.ensures)) c.loop-row.invariant in
    wrote_then c.write_all.ensures (wrote_then names c.write_all-2.ensures)

use Rattle.std.proofs.Common.{◌≡◌, ℕ, ◌*◌, ◌+◌, List, length, ap, arith, refl}
use Rattle.std.specs.Prelude.{slice_index_or}
use Rattle.std.specs.List.{flat_map, range_with_len}
use Rattle.std.proofs.lemmas.List.{get_or_default}
use Rattle.dbformat.specs.declared.Geometry.{Geometry}
use Rattle.dblines.proofs.Writing.{wrote_as}
use Rattle.dbpicture.specs.Legends.{line_text, no_line}
use Rattle.dbpicture.specs.declared.legend.LegendLine.{LegendLine}
use Rattle.dbpicture.proofs.Steps.{range_more, range_none}
use Rattle.dbpicture.proofs.legend_text.draw_lines.Goals as goal

abbrev line_at : List (List ℕ) → Geometry → List LegendLine → ℕ → List ℕ
line_at names g lines i = line_text names g (slice_index_or lines i no_line) ((i + 2) * 20)

pub loop-index-init : goal.loop-index-init
loop-index-init g c = range_none (line_at c.args.labels.now.names.items c.args.geometry c.args.lines.now) 0 c.args.writer.now refl

pub loop-index-preserved : goal.loop-index-preserved
loop-index-preserved g c = range_more (line_at c.args.labels.now.names.items c.args.geometry c.args.lines.now) 0 _ c.loop-index.index
    c.loop-index.invariant (wrote_as (ap (λ line. line_text c.args.labels.now.names.items c.args.geometry line ((c.loop-index.index + 2) * 20))
    (get_or_default c.args.lines.now c.loop-index.index _ no_line c.loop-index-test.true)) c.draw_line.ensures) (omega arith) refl

pub returns : goal.returns
returns g c =
    let end : c.loop-index.index ≡ length c.args.lines.now = omega arith in
    wrote_as (ap (λ n. flat_map (line_at c.args.labels.now.names.items c.args.geometry c.args.lines.now) (range_with_len 0 n)) end) c.loop-index.invariant

use Rattle.std.proofs.Common.{◌≡◌, ◌<◌, true, rules, sym, ◌∙◌, arith}
use Rattle.dblines.proofs.Writing.{wrote_as, wrote_then}
use Rattle.dbexplain.proofs.RowLines.{wanted_piece}
use Rattle.dbexplain.proofs.row_lines.put_if.Goals as goal

pub returns-clause-put : goal.returns-clause-put
returns-clause-put g c =
    let few : c.args.shown < 10 = omega arith in
    let yes : c.is_of.result ≡ true = search rules in
    wrote_as (wanted_piece c.args.start c.args.kind c.args.shown c.args.range.now few (sym c.is_of.ensures ∙ yes))
    (wrote_then (wrote_as (c.as_bytes.ensures.value ∙ c.lead_of.ensures) c.put.ensures)
    (wrote_as (c.as_slice.ensures.value ∙ c.range_text.ensures) c.put-2.ensures))

use Rattle.std.proofs.Common.{◌≡◌, ℕ, ◌+◌, ◌++◌, length, refl, ap, ap₂, ◌∙◌, arith}
use Rattle.std.specs.List.{flat_map, range_with_len}
use Rattle.dbpicture.specs.Legends.{legend_lines, line_if, no_overflow, outside_label, tree_line}
use Rattle.dbpicture.specs.Tallies.{others}
use Rattle.dbpicture.specs.declared.legend.Label.TheVariants.{Blank, Fixed, Freelist, Nobody, Others, Strong, Tree, Weak}
use Rattle.dbpicture.specs.declared.owner_shares.Share.{Share}
use Rattle.dbpicture.proofs.Steps.{flat_more}
use Rattle.dbpicture.proofs.legend.Legend.new.Goals as goal

pub loop-rank-init : goal.loop-rank-init
loop-rank-init g c = record {
  lines = c.new.ensures;
  room = omega (arith, ap length c.new.ensures);
}

pub loop-rank-preserved : goal.loop-rank-preserved
loop-rank-preserved g c =
    let rows = c.args.roots.now.rows in
    let starts = c.args.tally.now.starts in
    let largest = c.args.largest.now in
    let i = c.loop-rank.rank in
    let lines = c.loop-rank.legend.lines.items in
    record {
      lines = c.add.ensures.line ∙ ap₂ (λ r s. lines ++ line_if (Tree i r) s) c.root_page.ensures c.share.ensures
          ∙ ap (λ l. l ++ tree_line rows starts largest i) c.loop-rank.invariant.lines ∙ flat_more (tree_line rows starts largest) 0 i i (omega arith) refl;
      room = omega (arith, c.loop-rank.invariant.room, c.add.ensures.room);
    }

pub returns : goal.returns
unfolding legend_lines
returns g c =
    let starts = c.args.tally.now.starts in
    let largest = c.args.largest.now in
    let end : c.loop-rank.rank ≡ length largest = omega arith in
    c.add-9.ensures.line ∙ ap (λ label. c.add-8.new.self.lines.items ++ line_if label c.no_overflow-6.result) c.outside_label.ensures
    ∙ ap₂ (λ l s. l ++ line_if (outside_label c.args.noted.are_after) s) (
    c.add-8.ensures.line ∙ ap₂ (λ l s. l ++ line_if Weak s) (
    c.add-7.ensures.line ∙ ap₂ (λ l s. l ++ line_if Strong s) (
    c.add-6.ensures.line ∙ ap₂ (λ l s. l ++ line_if Blank s) (
    c.add-5.ensures.line ∙ ap₂ (λ l s. l ++ line_if Nobody s) (
    c.add-4.ensures.line ∙ ap₂ (λ l s. l ++ line_if Fixed s) (
    c.add-3.ensures.line ∙ ap₂ (λ l s. l ++ line_if Freelist s) (
    c.add-2.ensures.line ∙ ap₂ (λ l (o : ℕ × Share). l ++ line_if (Others o.0) o.1)
    (c.loop-rank.invariant.lines ∙ ap (λ n. flat_map (tree_line c.args.roots.now.rows starts largest) (range_with_len 0 n)) end)
    (c.others-count.ensures ∙ ap (λ n. others starts largest (n + 1)) c.len.ensures.count))
    c.share-2.ensures) (c.no_overflow.ensures ∙ ap no_overflow c.fixed.ensures))
    (c.no_overflow-2.ensures ∙ ap no_overflow c.nobody.ensures)) c.no_overflow-3.ensures) c.no_overflow-4.ensures) c.no_overflow-5.ensures)
    c.no_overflow-6.ensures

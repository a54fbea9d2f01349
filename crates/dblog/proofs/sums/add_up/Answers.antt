use Rattle.std.proofs.Common.{rules, refl, ◌∙◌, ap, ◌+◌, ◌*◌}
use Rattle.std.proofs.lemmas.List.{take_rest}
use Rattle.dblog.proofs.Adding.{one_more}
use Rattle.dblog.specs.Sums.{sums, with_pair}
use Rattle.dblog.proofs.sums.add_up.Goals as goal

pub loop-pair-preserved : goal.loop-pair-preserved
loop-pair-preserved g c =
    let x = c.read_u32.ensures ∙ ap (g.O.ByteOrder.number_of 4) (take_rest c.args.bytes.now (8 * c.loop-pair.pair)) in
    let y = c.read_u32-in-loop-pair.ensures ∙ ap (g.O.ByteOrder.number_of 4) (take_rest c.args.bytes.now (8 * c.loop-pair.pair + 4)) in
    one_more (with_pair g.O.ByteOrder.number_of c.args.bytes.now) c.args.start c.loop-pair.sums _ c.loop-pair.pair c.loop-pair.invariant (rw (x, y) refl)

pub returns : goal.returns
unfolding sums
returns g c = search rules

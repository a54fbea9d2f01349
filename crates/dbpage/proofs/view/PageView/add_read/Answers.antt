use Rattle.std.proofs.Common.{sym, ap, ◌∙◌}
use Rattle.dbformat.specs.Cell.{Cell}
use Rattle.dbpage.proofs.PackedLemmas.{unpacked_at_key}
use Rattle.dbpage.proofs.view.PageView.add_read.Goals as goal

pub returns-then-not-is_rising : goal.returns-then-not-is_rising
returns-then-not-is_rising c =
    unpacked_at_key c.args.self.now c.args.i c.args.sums.now c.args.found.now c.requires.before c.requires.within c.requires.read
    (λ rises. c.if-not-is_rising.ensures (λ a b p q. rises a b p (sym (ap (λ (e : Cell). e.key) c.found.view_is) ∙ q)))

pub add_above-requires-clause-rising : goal.add_above-requires-clause-rising
add_above-requires-clause-rising c = λ a b p q. c.if-not-is_rising.ensures a b p (ap (λ (e : Cell). e.key) c.found.view_is ∙ q)

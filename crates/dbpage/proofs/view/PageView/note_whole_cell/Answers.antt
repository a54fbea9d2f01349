use Rattle.std.proofs.Common.{ℕ, sym, subst, ap, ◌∙◌}
use Rattle.dbformat.specs.Cell.{Cell}
use Rattle.dbpage.specs.Packed.{AddUpTo}
use Rattle.dbpage.proofs.PackedLemmas.{unpacked_at_key}
use Rattle.dbpage.proofs.view.PageView.note_whole_cell.Goals as goal

pub returns-then-not-is_rising : goal.returns-then-not-is_rising
returns-then-not-is_rising c =
    let v = c.args.self.now in
    let sums = c.args.noted.now.sums in
    let read = subst (λ (n : ℕ). AddUpTo v n sums) c.requires.next c.requires.before.read in
    unpacked_at_key v c.args.i sums c.in-Some.cell read c.requires.within c.in-Some.ensures
    (λ rises. c.if-not-is_rising.ensures (λ a b p q. rises a b p (sym (ap (λ (e : Cell). e.key) c.cell.view_is) ∙ q)))

pub note_read-requires-clause-rising : goal.note_read-requires-clause-rising
note_read-requires-clause-rising c = λ a b p q. c.if-not-is_rising.ensures a b p (ap (λ (e : Cell). e.key) c.cell.view_is ∙ q)

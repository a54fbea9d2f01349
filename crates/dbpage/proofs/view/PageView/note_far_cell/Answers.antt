use Rattle.std.proofs.Common.{ℕ, subst, ◌∙◌, arith}
use Rattle.dbpage.specs.Packed.{AddUpTo}
use Rattle.dbpage.proofs.Fives.{five_above, five_not_above}
use Rattle.dbpage.proofs.PackedLemmas.{unpacked_at_key}
use Rattle.dbpage.proofs.view.PageView.note_far_cell.Goals as goal

pub returns-then-five-last : goal.returns-then-five-last
returns-then-five-last c =
    let v = c.args.self.now in
    let sums = c.args.noted.now.sums in
    let far = c.in-Some.ensures in
    let read = subst (λ (n : ℕ). AddUpTo v n sums) c.requires.next c.requires.before.read in
    unpacked_at_key v c.args.i sums c.in-Some.cell read c.requires.within far.0
    (five_not_above c.args.i c.args.last.now c.in-Some.five sums.last c.in-Some.cell.key c.requires.last far.2 far.1 (omega (arith, c.if-five-last.true)))

pub note_read-requires-clause-rising : goal.note_read-requires-clause-rising
note_read-requires-clause-rising c =
    let far = c.in-Some.ensures in
    five_above c.args.i c.args.last.now c.in-Some.five c.args.noted.now.sums.last c.in-Some.cell.key c.requires.last far.2 far.1
    (omega (arith, c.if-five-last.false))

pub returns : goal.returns
returns c =
    let far = c.in-Some.ensures in
    let noted = c.if-not-note_read.ensures in
    (noted.0, record { none = λ h. absurd (omega (arith, noted.1, h)); some = λ h. (far.2, noted.2 ∙ far.1) }, noted.1)

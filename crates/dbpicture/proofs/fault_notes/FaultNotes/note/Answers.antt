use Rattle.std.proofs.Common.{ap, ◌∙◌, arith, refl, set}
use Rattle.dbpicture.specs.Faults.{sign_added}
use Rattle.dbpicture.specs.Keeping.{bits_if, square_at}
use Rattle.dbpicture.proofs.FaultBits.{not_noted, noted}
use Rattle.dbpicture.proofs.fault_notes.FaultNotes.note.Goals as goal
use Rattle.dbpicture.proofs.fault_notes.FaultNotes.note.Goals.{then-page-eq0-via-else-page-eq0+then-page-self, then-page-eq0-via-then-page-eq0}

pub returns-then-page-eq0 : goal.returns-then-page-eq0
returns-then-page-eq0 g c = λ count signs h. not_noted count signs c.args.page c.args.sign c.args.self.now h (λ l k. elim c.then-page-eq0.branch [
  | then-page-eq0-via-then-page-eq0 w ↦ omega (arith, l, w.if-page-eq0.true)
  | then-page-eq0-via-else-page-eq0+then-page-self w ↦ (let e = h.pages in omega (arith, k, e, w.if-page-self.true))
])

pub returns : goal.returns
returns g c = λ count signs h.
    let n = c.args.self.now in
    let words = n.squares.items in
    let pages = h.pages in
    noted count signs c.args.page c.args.sign n h (omega (arith, c.if-page-eq0.false)) (omega (arith, pages, c.if-page-self.false)) _
    (c.add_at.ensures ∙ ap (λ i. set words i (sign_added c.args.sign (square_at words i))) c.square_of-square.ensures) refl refl
    (c.set_if.ensures ∙ ap (λ b. bits_if b c.args.page n.faulty) c.is.ensures) (c.set_if-2.ensures ∙ ap (λ b. bits_if b c.args.page n.framed) c.is-2.ensures)

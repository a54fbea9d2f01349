use Rattle.std.proofs.Common.{◌≡◌, ◌∙◌, List, ℕ, Some, inr, subst, sym}
use Rattle.dbsource.specs.Outs.{Puts}
use Rattle.dbcli.specs.NoteLines.{note_line}
use Rattle.dbcli.proofs.note.NoteOut.put.Goals as goal

pub returns-in-Ok : goal.returns-in-Ok
returns-in-Ok g c =
    let both : Some c.bytes.result.now ≡ Some (note_line c.args.name.now c.args.pieces.now) = sym c.bytes.ensures ∙ c.in-Ok.ensures in
    let same : c.bytes.result.now ≡ note_line c.args.name.now c.args.pieces.now = cc in
    let P : List ℕ → Type 0 = λ text. Puts c.put.result (g.N.Out.held c.args.self.now.out.now) (g.N.Out.held c.put.new.self) text in
    inr (c.put.result, subst P same c.put.ensures)

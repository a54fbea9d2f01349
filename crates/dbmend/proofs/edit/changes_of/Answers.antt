use Rattle.std.proofs.Common.{rules, ◌≡◌, ◌∙◌, ◌∷◌, ◌++◌, [], List, ap, ap₂, get_or, sym, ℕ}
use Rattle.std.proofs.lemmas.List.{take_more}
use Rattle.dbsource.specs.Changes.{Change}
use Rattle.dbmend.proofs.Edits.{added_ok, change_taken}
use Rattle.dbmend.proofs.edit.changes_of.Goals as goal

pub loop-edit-preserved : goal.loop-edit-preserved
loop-edit-preserved c =
    let edits = c.args.edits.now in
    let i = c.loop-edit.edit-index in
    let x = c.edit-item.result in
    let item : get_or edits i x ≡ x = search (rules, c.edit-item.is) in
    let whole : c.in-Ok.change ≡ x =
    change_taken c.offset.result c.bytes.result.now c.in-Ok.change (sym c.in-Ok.ensures)
    ∙ ap₂ (λ (o : ℕ) (b : List ℕ). let r : Change = record { offset = o; bytes = b } in r) c.offset.ensures c.bytes.ensures.bytes in
    added_ok c.add.result c.loop-edit.changes c.add.new.self c.in-Ok.change (sym c.if-is_err.ensures.value) c.add.ensures.added
    ∙ ap (λ (y : Change). c.loop-edit.changes ++ y ∷ []) (whole ∙ sym item)
    ∙ ap (λ (l : List Change). l ++ get_or edits i x ∷ []) c.loop-edit.invariant ∙ sym (take_more edits i x c.loop-edit-test.true)

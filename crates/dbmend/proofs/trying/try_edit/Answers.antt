use Rattle.std.proofs.Common.{◌∙◌, ◌++◌, ◌∷◌, [], List, None, Ok, Err, Some, ap, inl, refl}
use Rattle.dbsource.specs.Changes.{Change}
use Rattle.dbmend.specs.Deeds.{tried}
use Rattle.dbmend.proofs.Done.{done_failed, done_none, done_run, read_or_memory}
use Rattle.dbmend.proofs.trying.try_edit.Goals as goal

pub returns-in_default : goal.returns-in_default
returns-in_default g c = done_none g.S.Source None 1 c.args.source.now c.args.source.now refl tt

pub returns-in-Ok : goal.returns-in-Ok
returns-in-Ok g c = done_run g.S.Source (Some c.in-Ok.found) c.in-Some.changes (Ok c.in-Ok.found.count) c.args.source.now c.count_changed.new.source
    c.in-Ok.ensures.tried refl
    (record {
      run = inl (ap (λ (x : List Change). tried x (Ok c.in-Ok.found.count))
          (c.in-Some.ensures ∙ ap (λ (x : List Change). x ++ c.args.edit.now ∷ []) c.as_slice.ensures.value));
      size = c.in-Ok.ensures.size;
    })

pub returns-in-Refused : goal.returns-in-Refused
returns-in-Refused g c = done_run g.S.Source None c.in-Some.changes (Err c.in-Err.error) c.args.source.now c.count_changed.new.source
    c.in-Err.ensures.tried (rw c.in-Refused.is refl) tt

pub returns-in_default-error : goal.returns-in_default-error
returns-in_default-error g c = done_failed g.S.Source c.in-Some.changes c.in-Err.error c.args.source.now c.count_changed.new.source
    c.in-Err.ensures.tried (read_or_memory c.in-Err.error c.in-Err.ensures.never c.in_default-error.not-Refused)

use Rattle.std.proofs.Common.{subst, ap, sym, ◌∙◌}
use Rattle.dbsource.specs.Answers.{IsRangeOf}
use Rattle.dbsource.specs.Changes.{changed_from, patched}
use Rattle.dbsource.proofs.Changed.{changed_range, told_changed}
use Rattle.dbsource.proofs.patched.PatchedSource.read_at.Goals as goal

pub returns-clause-bytes : goal.returns-clause-bytes
returns-clause-bytes g c = rw (← c.self.view_is) (told_changed _ _ _ (g.S.Source.held c.self.inside.source).bytes
    (λ file is. subst (IsRangeOf (patched c.self.inside.changes.now file) c.args.offset)
    (sym (c.put_changes.ensures ∙ ap (λ l. changed_from l c.args.offset c.read_at.new.buf) c.as_slice-changes.ensures.items))
    (changed_range c.self.inside.changes.now file c.args.offset c.read_at.new.buf is)) c.in_ok-read_at.ensures.bytes)

use Rattle.std.proofs.Common.{Err, ap, refl, subst, sym}
use Rattle.std.proofs.lemmas.Result.{err_from_is_err_and}
use Rattle.dbsource.specs.Answers.{IsRangeOf, answer, given}
use Rattle.dbsource.specs.Changes.{patched}
use Rattle.dbsource.specs.Patched.{changed_trail}
use Rattle.dbsource.proofs.Changed.{changed_range, told_changed}
use Rattle.dbsource.proofs.Told.{told_all}
use Rattle.dbmend.specs.LentSources.{lent_trail}
use Rattle.dbmend.proofs.lent.LentSource.read_at.Goals as goal

pub returns-in_err-read_at-clause-trail : goal.returns-in_err-read_at-clause-trail
returns-in_err-read_at-clause-trail g c =
    let q = err_from_is_err_and c.from_residual.result c.from_residual.ensures.1 in
    let held = g.S.Source.held in
    let s = c.args.self.now in
    rw q.1 (record {
      changes = s.changes.now;
      told = (held s.source.now).bytes;
      before = lent_trail s.source.ghost_name (held s.source.now).trail;
      after = lent_trail s.source.ghost_name (held c.read_at.new.self).trail;
      raw = answer {A = Unit {0}} (Err c.in_err-read_at.field-0.0) c.args.offset c.read_at.new.buf;
      was = refl;
      is = ap (λ o. changed_trail s.changes.now o (lent_trail s.source.ghost_name (held c.read_at.new.self).trail)) c.in_err-read_at.ensures.told;
      given_as = refl;
      moved = record {
        name = s.source.ghost_name;
        before = (held s.source.now).trail;
        after = (held c.read_at.new.self).trail;
        was = refl;
        is = refl;
        moved = c.in_err-read_at.ensures.trail;
      };
      fits = told_all (held s.source.now).bytes (λ file. tt);
    })

pub returns-clause-trail : goal.returns-clause-trail
returns-clause-trail g c =
    let held = g.S.Source.held in
    let s = c.args.self.now in
    record {
      changes = s.changes.now;
      told = (held s.source.now).bytes;
      before = lent_trail s.source.ghost_name (held s.source.now).trail;
      after = lent_trail s.source.ghost_name (held c.read_at.new.self).trail;
      raw = given c.args.offset c.read_at.new.buf;
      was = refl;
      is = ap (λ o. changed_trail s.changes.now o (lent_trail s.source.ghost_name (held c.read_at.new.self).trail)) c.in_ok-read_at.ensures.told;
      given_as = ap (given c.args.offset) c.put_over.ensures;
      moved = record {
        name = s.source.ghost_name;
        before = (held s.source.now).trail;
        after = (held c.read_at.new.self).trail;
        was = refl;
        is = refl;
        moved = c.in_ok-read_at.ensures.trail;
      };
      fits = c.in_ok-read_at.ensures.bytes;
    }

pub returns-clause-bytes : goal.returns-clause-bytes
returns-clause-bytes g c = told_changed _ _ _ (g.S.Source.held c.args.self.now.source.now).bytes
    (λ file is. subst (IsRangeOf (patched c.args.self.now.changes.now file) c.args.offset) (sym c.put_over.ensures)
    (changed_range c.args.self.now.changes.now file c.args.offset c.read_at.new.buf is)) c.in_ok-read_at.ensures.bytes

use Rattle.std.proofs.Common.{refl, ap, ◌∙◌, Err}
use Rattle.std.proofs.lemmas.Result.{err_from_is_err_and}
use Rattle.dbsource.specs.Answers.{given, answer}
use Rattle.dbsource.specs.Headed.{headed_trail, over}
use Rattle.dbsource.proofs.Overs.{over_told}
use Rattle.dbsource.proofs.headed_source.HeadedSourceSource.read_at.Goals as goal

pub returns-in_err-read_at-clause-trail : goal.returns-in_err-read_at-clause-trail
returns-in_err-read_at-clause-trail g c =
    let q = err_from_is_err_and c.from_residual.result c.from_residual.ensures.1 in
    rw q.1 (record {
      name = c.args.self.now.source.ghost_name;
      head = c.args.self.now.header.now.bytes;
      told = (g.S.Source.held c.args.self.now.source.now).bytes;
      before = (g.S.Source.held c.args.self.now.source.now).trail;
      after = (g.S.Source.held c.read_at.new.self).trail;
      raw = answer {A = Unit {0}} (Err c.in_err-read_at.field-0.0) c.args.offset c.read_at.new.buf;
      was = refl;
      is = ap (λ o. headed_trail c.args.self.now.source.ghost_name c.args.self.now.header.now.bytes o (g.S.Source.held c.read_at.new.self).trail)
          c.in_err-read_at.ensures.told;
      given_as = refl;
      moved = c.in_err-read_at.ensures.trail;
    })

pub returns-clause-trail : goal.returns-clause-trail
returns-clause-trail g c = record {
  name = c.args.self.now.source.ghost_name;
  head = c.args.self.now.header.now.bytes;
  told = (g.S.Source.held c.args.self.now.source.now).bytes;
  before = (g.S.Source.held c.args.self.now.source.now).trail;
  after = (g.S.Source.held c.read_at.new.self).trail;
  raw = given c.args.offset c.read_at.new.buf;
  was = refl;
  is = ap (λ o. headed_trail c.args.self.now.source.ghost_name c.args.self.now.header.now.bytes o (g.S.Source.held c.read_at.new.self).trail)
      c.in_ok-read_at.ensures.told;
  given_as = ap (given c.args.offset) (c.put_over.ensures ∙ ap (λ h. over h c.args.offset c.read_at.new.buf) c.bytes-header.ensures.bytes);
  moved = c.in_ok-read_at.ensures.trail;
}

pub returns-clause-bytes : goal.returns-clause-bytes
returns-clause-bytes g c = over_told c.args.self.now.header.now.bytes (g.S.Source.held c.args.self.now.source.now).bytes c.args.offset c.read_at.new.buf
    c.put_over.new.buf
    (c.put_over.ensures ∙ ap (λ h. over h c.args.offset c.read_at.new.buf) c.bytes-header.ensures.bytes) c.in_ok-read_at.ensures.bytes

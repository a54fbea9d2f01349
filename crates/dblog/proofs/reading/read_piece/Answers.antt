use Rattle.std.proofs.Common.{◌≡◌, ◌∙◌, length, subst, arith, []}
use Rattle.std.specs.List.{concat}
use Rattle.std.proofs.lemmas.List.Elements.{All-nil}
use Rattle.std.proofs.lemmas.Result.{err_from_is_err_and}
use Rattle.dblog.proofs.FrameRows.{cut}
use Rattle.dblog.proofs.ReadSteps.{reads_failed, reads_given}
use Rattle.dblog.specs.Reading.{AreFrames}
use Rattle.dblog.specs.Wal.{frame_size}
use Rattle.dblog.proofs.reading.read_piece.Goals as goal

pub returns-in_err-read_at : goal.returns-in_err-read_at
returns-in_err-read_at g c =
    let p = err_from_is_err_and c.from_residual.result c.from_residual.ensures.1 in
    let size = frame_size c.args.header.now in
    rw p.1 (rw p.2 (record {
      frames = [];
      sized = All-nil (λ f. length f ≡ size);
      most = omega arith;
      reads = reads_failed c.args.at c.read_at.new.buf _ _ (omega (arith, c.read_at.auto.buf, c.requires.short))
          c.in_err-read_at.ensures.told c.in_err-read_at.ensures.trail c.in_err-read_at.ensures.count;
      within = omega (arith, c.read_at.auto.buf, c.requires.whole);
      all = tt;
      unversioned = λ z. absurd cc;
      holds = tt;
    }))

pub returns-in_err-look_at_all : goal.returns-in_err-look_at_all
returns-in_err-look_at_all g c =
    let p = err_from_is_err_and c.from_residual-in_err-look_at_all.result c.from_residual-in_err-look_at_all.ensures.1 in
    let size = frame_size c.args.header.now in
    let (fs, are, long) = cut size c.args.count c.read_at.new.buf (c.read_at.auto.buf ∙ c.requires.whole) in
    rw p.1 (rw p.2 (record {
      frames = fs;
      sized = are.sized;
      most = omega (arith, long);
      reads = reads_given c.args.at c.read_at.new.buf (concat fs) _ _ are.whole (omega (arith, c.read_at.auto.buf, c.requires.short))
          c.in_ok-read_at.ensures.told c.in_ok-read_at.ensures.trail c.in_ok-read_at.ensures.count c.in_ok-read_at.ensures.bytes;
      within = omega (arith, c.read_at.auto.buf, c.requires.whole);
      all = tt;
      unversioned = λ z. absurd cc;
      holds = tt;
    }))

pub returns : goal.returns
returns g c =
    let size = frame_size c.args.header.now in
    let (fs, are, long, looks) = c.in_ok-look_at_all.ensures in
    let is : AreFrames size c.read_at.new.buf fs = subst (λ n. AreFrames n c.read_at.new.buf fs) c.frame_size.ensures are in
    record {
      frames = fs;
      sized = is.sized;
      most = omega (arith, long);
      reads = reads_given c.args.at c.read_at.new.buf (concat fs) _ _ is.whole (omega (arith, c.read_at.auto.buf, c.requires.short))
          c.in_ok-read_at.ensures.told c.in_ok-read_at.ensures.trail c.in_ok-read_at.ensures.count c.in_ok-read_at.ensures.bytes;
      within = omega (arith, c.read_at.auto.buf, c.requires.whole);
      all = long;
      unversioned = tt;
      holds = looks;
    }

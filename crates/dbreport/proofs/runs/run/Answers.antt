use Rattle.dbreport.proofs.Common.{Err, IsSomeRunLog, read_weaker, of_told}
use Rattle.dbreport.proofs.NotBegun.{no_failure, no_failures}
use Rattle.dbreport.proofs.Openings.{opened, unopened}
use Rattle.dbreport.proofs.RunAnswers.{IsSoundAnswer, none_of, read_unwritten, refused_unwritten}
use Rattle.dbreport.proofs.runs.run.Goals as goal

-- ---- the file was not opened

pub returns-in-Err-clause-read : goal.returns-in-Err-clause-read
returns-in-Err-clause-read g c =
    let e = c.in-Err.error in
    (unopened g.S.Source c.args.source.now e c.open_in.new.source c.in-Err.ensures
    (λ file a. none_of c.args.command file e (g.O.Out.held c.args.out.now).bytes (g.E.Out.held c.args.err.now).bytes a)).read

pub returns-in-Err-clause-sound : goal.returns-in-Err-clause-sound
returns-in-Err-clause-sound g c = read_weaker IsSomeRunLog _ (returns-in-Err-clause-read g c) (λ ranges p. p) (λ file ranges p t. t.1.run.sound)

pub returns-in-Err-clause-told : goal.returns-in-Err-clause-told
returns-in-Err-clause-told g c = of_told (IsSoundAnswer (Err c.in-Err.error)) (returns-in-Err-clause-sound g c)

pub returns-in-Err-clause-ok : goal.returns-in-Err-clause-ok
returns-in-Err-clause-ok g c = read_weaker IsSomeRunLog _ (returns-in-Err-clause-read g c) (λ ranges p. p) (λ file ranges p t. t.1.ok)

pub returns-in-Err-clause-failed : goal.returns-in-Err-clause-failed
returns-in-Err-clause-failed g c =
    let k = c.in-Err.ensures in record {
      reads = k.reads;
      writes = no_failures c.in-Err.error _ k.no_failed_write;
      first = λ i. no_failure c.in-Err.error (g.O.Out.held c.args.out.now).failures k.no_failed_write;
    }

pub returns-in-Err-clause-refused : goal.returns-in-Err-clause-refused
returns-in-Err-clause-refused g c = record {
  asked = c.in-Err.ensures.asked;
  first = refused_unwritten (Err c.in-Err.error) c.args.out.now;
  second = refused_unwritten (Err c.in-Err.error) c.args.err.now;
}

-- ---- it was opened, and this was the run over its desk

pub returns-in-Ok-clause-read : goal.returns-in-Ok-clause-read
returns-in-Ok-clause-read g c =
    (opened g.S.Source _ _ _ _ c.in-Ok.ensures _ c.run_on.ensures.read c.run_on.ensures.failed.reads c.run_on.ensures.desk.only).read

pub returns-in-Ok-clause-sound : goal.returns-in-Ok-clause-sound
returns-in-Ok-clause-sound g c = read_weaker IsSomeRunLog _ (returns-in-Ok-clause-read g c) (λ ranges p. p) (λ file ranges p t. t.1.run.sound)

pub returns-in-Ok-clause-told : goal.returns-in-Ok-clause-told
returns-in-Ok-clause-told g c = of_told (IsSoundAnswer c.run_on.result) (returns-in-Ok-clause-sound g c)

pub returns-in-Ok-clause-ok : goal.returns-in-Ok-clause-ok
returns-in-Ok-clause-ok g c = read_weaker IsSomeRunLog _ (returns-in-Ok-clause-read g c) (λ ranges p. p) (λ file ranges p t. t.1.ok)

pub returns-in-Ok-clause-failed : goal.returns-in-Ok-clause-failed
returns-in-Ok-clause-failed g c = record {
  reads = (opened g.S.Source _ _ _ _ c.in-Ok.ensures _ c.run_on.ensures.read c.run_on.ensures.failed.reads c.run_on.ensures.desk.only).reads;
  writes = c.run_on.ensures.failed.writes;
  first = c.run_on.ensures.failed.first;
}

pub returns-in-Ok-clause-refused : goal.returns-in-Ok-clause-refused
returns-in-Ok-clause-refused g c = record {
  asked = (opened g.S.Source _ _ _ _ c.in-Ok.ensures _ c.run_on.ensures.read c.run_on.ensures.failed.reads c.run_on.ensures.desk.only).asked;
  first = read_unwritten c.run_on.result c.args.out.now c.run_on.new.out c.run_on.ensures.desk.only;
  second = read_unwritten c.run_on.result c.args.err.now c.run_on.new.err c.run_on.ensures.desk.only;
}

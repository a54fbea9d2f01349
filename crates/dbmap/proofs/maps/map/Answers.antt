use Rattle.std.proofs.Common.{rules, ◌≡◌, Err, ap, subst, ◌∙◌}
use Rattle.std.proofs.lemmas.Result.{err_from_is_err_and}
use Rattle.dbformat.specs.declared.Geometry.{Geometry}
use Rattle.dbsource.specs.declared.error.RunError.TheVariants.{OutOfMemory}
use Rattle.dbscan.proofs.AfterHeader.{after_weaker}
use Rattle.dbscan.proofs.Notifiers.{first}
use Rattle.dbreport.proofs.NotBegun.{no_failure}
use Rattle.dbreport.proofs.Openings.{memory_refused, opened, unopened}
use Rattle.dbreport.proofs.ReporterStates.{lent_same, one_failed}
use Rattle.dbreport.proofs.RunAnswers.{read_unwritten, refused_unwritten}
use Rattle.dbpicture.specs.Keeping.{ReceivesNone}
use Rattle.dbmap.specs.Maps.{IsMapOf}
use Rattle.dbmap.proofs.Counting.{map_left}
use Rattle.dbmap.proofs.MapAnswers.{map_of, no_map}
use Rattle.dbmap.proofs.maps.map.Goals as goal

-- ---- the file was not opened

pub returns-in_err-desk-clause-read : goal.returns-in_err-desk-clause-read
returns-in_err-desk-clause-read g c =
    let q = err_from_is_err_and c.from_residual.result c.from_residual.ensures.1 in
    let e = c.in_err-desk.field-0.0 in
    rw q.1 (rw q.2 (unopened g.S.Source c.args.source.now e c.open_in.new.source c.in_err-desk.ensures
    (λ file a. no_map c.args.name.now file e (g.O.Out.held c.args.out.now).bytes a)).read)

pub returns-in_err-desk-clause-failed : goal.returns-in_err-desk-clause-failed
returns-in_err-desk-clause-failed g c =
    let q = err_from_is_err_and c.from_residual.result c.from_residual.ensures.1 in
    let k = c.in_err-desk.ensures in
    rw q.1 (rw q.2 (record { reads = k.reads; writes = no_failure c.in_err-desk.field-0.0 (g.O.Out.held c.args.out.now).failures k.no_failed_write }))

pub returns-in_err-desk-clause-refused : goal.returns-in_err-desk-clause-refused
returns-in_err-desk-clause-refused g c =
    let q = err_from_is_err_and c.from_residual.result c.from_residual.ensures.1 in
    rw q.1 (rw q.2 (record { asked = c.in_err-desk.ensures.asked; unwritten = refused_unwritten (Err c.in_err-desk.field-0.0) c.args.out.now }))

-- ---- memory was refused

pub returns-in_err-kept-clause-read : goal.returns-in_err-kept-clause-read
returns-in_err-kept-clause-read g c =
    let q = err_from_is_err_and c.from_residual-in_err-kept.result c.from_residual-in_err-kept.ensures.1 in
    let k = memory_refused g.S.Source c.args.source.now c.in_ok-desk.desk.header c.open_in.new.source c.in_ok-desk.ensures in
    rw q.1 (rw q.2 (unopened g.S.Source c.args.source.now OutOfMemory c.open_in.new.source k
    (λ file a. no_map c.args.name.now file OutOfMemory (g.O.Out.held c.args.out.now).bytes a)).read)

pub returns-in_err-kept-clause-failed : goal.returns-in_err-kept-clause-failed
returns-in_err-kept-clause-failed g c =
    let q = err_from_is_err_and c.from_residual-in_err-kept.result c.from_residual-in_err-kept.ensures.1 in
    let k = memory_refused g.S.Source c.args.source.now c.in_ok-desk.desk.header c.open_in.new.source c.in_ok-desk.ensures in
    rw q.1 (rw q.2 (record { reads = k.reads; writes = no_failure OutOfMemory (g.O.Out.held c.args.out.now).failures k.no_failed_write }))

pub returns-in_err-kept-clause-refused : goal.returns-in_err-kept-clause-refused
returns-in_err-kept-clause-refused g c =
    let q = err_from_is_err_and c.from_residual-in_err-kept.result c.from_residual-in_err-kept.ensures.1 in
    let k = memory_refused g.S.Source c.args.source.now c.in_ok-desk.desk.header c.open_in.new.source c.in_ok-desk.ensures in
    rw q.1 (rw q.2 (record { asked = k.asked; unwritten = refused_unwritten (Err OutOfMemory) c.args.out.now }))

-- ---- the file was opened, and this was the run over its desk

pub returns-clause-read : goal.returns-clause-read
returns-clause-read g c =
    let held = g.O.Out.held in
    let name = c.args.name.now in
    let r = c.run_over.result in
    let ran = c.run_over.ensures in
    let old = c.args.out.now in
    let new = c.run_over.new.reporter in
    let same = ap first (lent_same r _ _ ran.keeps.writes) in
    let k : c.out-1.given.0 ≡ new.out.now = search (rules, same) in
    rw k (opened g.S.Source c.args.source.now {Says = λ file. IsMapOf name file r (held old).bytes (held new.out.now).bytes} c.in_ok-desk.desk.header
    c.open_in.new.source c.run_over.new.source c.in_ok-desk.ensures r
    (after_weaker _ _ ran.read (λ file is left. map_of name file r ran.keeps.desk.only is.is_read (held old).bytes (held new.out.now).bytes (λ V s.
    map_left file V s _ new (subst (λ (g : Geometry). ReceivesNone g c.in_ok-kept.kept) (c.geometry.ensures.shape ∙ is.shape) c.in_ok-kept.ensures)
    held r (left V s)))) ran.reads ran.keeps.desk.only).read

pub returns-clause-failed : goal.returns-clause-failed
returns-clause-failed g c =
    let r = c.run_over.result in
    let ran = c.run_over.ensures in
    let same = ap first (lent_same r _ _ ran.keeps.writes) in
    let k : c.out-1.given.0 ≡ c.run_over.new.reporter.out.now = search (rules, same) in
    rw k (record {
      reads = (opened g.S.Source c.args.source.now c.in_ok-desk.desk.header c.open_in.new.source c.run_over.new.source c.in_ok-desk.ensures r
          ran.read ran.reads ran.keeps.desk.only).reads;
      writes = one_failed r _ _ _ _ _ _ ran.keeps.writes;
    })

pub returns-clause-refused : goal.returns-clause-refused
returns-clause-refused g c =
    let r = c.run_over.result in
    let ran = c.run_over.ensures in record {
      asked = (opened g.S.Source c.args.source.now c.in_ok-desk.desk.header c.open_in.new.source c.run_over.new.source c.in_ok-desk.ensures r
          ran.read ran.reads ran.keeps.desk.only).asked;
      unwritten = read_unwritten r c.args.out.now c.out-1.given.0 ran.keeps.desk.only;
    }

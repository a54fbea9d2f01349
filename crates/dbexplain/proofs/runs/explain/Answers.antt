use Rattle.std.proofs.Common.{rules, ◌≡◌, Result, Err, ap, ap₂, sym, subst, ◌∙◌}
use Rattle.std.proofs.lemmas.Result.{err_from_is_err_and}
use Rattle.dbexplain.proofs.Common.{geometry, counted, Geometry, Verdict, HeaderBytes, RunError, OutOfMemory, references_after_end, IsEmpty, IsFresh}
use Rattle.dbformat.specs.FixedPages.{geometry_of}
use Rattle.dbformat.specs.Log.{IsSomeRunLog}
use Rattle.dbsource.specs.Errors.{is_write_failed}
use Rattle.dbsource.specs.Failures.{failures_after}
use Rattle.dbsource.proofs.Runs.{read_weaker}
use Rattle.dbscan.proofs.AfterHeader.{after_weaker}
use Rattle.dbscan.proofs.Notifiers.{first}
use Rattle.dbreport.proofs.Openings.{memory_refused, opened, unopened}
use Rattle.dbreport.proofs.ReporterStates.{lent_same, one_failed}
use Rattle.dbreport.proofs.RunAnswers.{read_unwritten, refused_unwritten}
use Rattle.dbexplain.specs.AfterEnd.{none_after_end}
use Rattle.dbexplain.specs.Runs.{ExplainsFile, IsExplained, answer_with}
use Rattle.dbexplain.specs.declared.kept.Kept.{Kept}
use Rattle.dbexplain.proofs.Explained.{at_verdict, counts_with, explained, is_explained, not_explained, out_failures, references_counted}
use Rattle.dbexplain.proofs.Explained.{unfailed, verdict_with}
use Rattle.dbexplain.proofs.runs.explain.Goals as goal

-- ---- the file was not opened

pub returns-in_err-desk-clause-read : goal.returns-in_err-desk-clause-read
returns-in_err-desk-clause-read g c =
    let q = err_from_is_err_and c.from_residual.result c.from_residual.ensures.1 in
    let e = c.in_err-desk.field-0.0 in
    let out = g.O.Out.held c.args.out.now in
    rw q.1 (rw q.2 (unopened g.S.Source c.args.source.now {Says = λ file. ExplainsFile c.args.limit file (Err e) out out} e c.open_in.new.source
    c.in_err-desk.ensures (λ file a. (not_explained c.args.limit file e out a, λ V s. tt))).read)

pub returns-in_err-desk-clause-ok : goal.returns-in_err-desk-clause-ok
returns-in_err-desk-clause-ok g c =
    read_weaker IsSomeRunLog _ (returns-in_err-desk-clause-read g c) (λ ranges p. p)
    (λ file ranges p t. at_verdict _ c.from_residual.result t.1.0.ok)

pub returns-in_err-desk-clause-failed : goal.returns-in_err-desk-clause-failed
returns-in_err-desk-clause-failed g c =
    let q = err_from_is_err_and c.from_residual.result c.from_residual.ensures.1 in
    let k = c.in_err-desk.ensures in
    rw q.1 (rw q.2 (record { reads = k.reads; writes = unfailed c.in_err-desk.field-0.0 (g.O.Out.held c.args.out.now).failures k.no_failed_write }))

pub returns-in_err-desk-clause-refused : goal.returns-in_err-desk-clause-refused
returns-in_err-desk-clause-refused g c =
    let q = err_from_is_err_and c.from_residual.result c.from_residual.ensures.1 in
    rw q.1 (rw q.2 (record { asked = c.in_err-desk.ensures.asked; unwritten = refused_unwritten (Err c.in_err-desk.field-0.0) c.args.out.now }))

-- ---- memory was refused

pub returns-in_err-kept-clause-read : goal.returns-in_err-kept-clause-read
returns-in_err-kept-clause-read g c =
    let q = err_from_is_err_and c.from_residual-in_err-kept.result c.from_residual-in_err-kept.ensures.1 in
    let refused = memory_refused g.S.Source c.args.source.now c.in_ok-desk.desk.header c.open_in.new.source c.in_ok-desk.ensures in
    let out = g.O.Out.held c.args.out.now in
    rw q.1 (rw q.2 (unopened g.S.Source c.args.source.now {Says = λ file. ExplainsFile c.args.limit file (Err OutOfMemory) out out} OutOfMemory
    c.open_in.new.source refused (λ file a. (not_explained c.args.limit file OutOfMemory out a, λ V s. tt))).read)

pub returns-in_err-kept-clause-ok : goal.returns-in_err-kept-clause-ok
returns-in_err-kept-clause-ok g c =
    read_weaker IsSomeRunLog _ (returns-in_err-kept-clause-read g c) (λ ranges p. p)
    (λ file ranges p t. at_verdict _ c.from_residual-in_err-kept.result t.1.0.ok)

pub returns-in_err-kept-clause-failed : goal.returns-in_err-kept-clause-failed
returns-in_err-kept-clause-failed g c =
    let q = err_from_is_err_and c.from_residual-in_err-kept.result c.from_residual-in_err-kept.ensures.1 in
    let k = memory_refused g.S.Source c.args.source.now c.in_ok-desk.desk.header c.open_in.new.source c.in_ok-desk.ensures in
    rw q.1 (rw q.2 (record { reads = k.reads; writes = unfailed OutOfMemory (g.O.Out.held c.args.out.now).failures k.no_failed_write }))

pub returns-in_err-kept-clause-refused : goal.returns-in_err-kept-clause-refused
returns-in_err-kept-clause-refused g c =
    let q = err_from_is_err_and c.from_residual-in_err-kept.result c.from_residual-in_err-kept.ensures.1 in
    let k = memory_refused g.S.Source c.args.source.now c.in_ok-desk.desk.header c.open_in.new.source c.in_ok-desk.ensures in
    rw q.1 (rw q.2 (record { asked = k.asked; unwritten = refused_unwritten (Err OutOfMemory) c.args.out.now }))

-- ---- the file was opened, and this was the run over its desk

pub returns-clause-read : goal.returns-clause-read
returns-clause-read g c =
    let held = g.O.Out.held in
    let limit = c.args.limit in
    let r = c.run_over-answer.result in
    let ran = c.run_over-answer.ensures in
    let new = c.new-reporter.ensures in
    let old = c.args.out.now in
    let same = c.end.ensures.same_out ∙ ap first (lent_same r _ _ ran.keeps.writes) in
    let k : c.out-1.given.0 ≡ c.end.new.self.out.now = search (rules, same) in
    let n = c.end.new.self.after_end.references in
    let last = held c.end.new.self.out.now in
    rw c.answer_with.ensures (rw k (opened g.S.Source c.args.source.now {Says = λ file. ExplainsFile limit file (answer_with r n) (held old) last}
    c.in_ok-desk.desk.header c.open_in.new.source c.run_over-answer.new.source c.in_ok-desk.ensures r
    (after_weaker _ _ ran.read (λ file is reported.
    let empty = subst (λ (g : Geometry). IsEmpty limit g c.in_ok-kept.kept) (c.geometry.ensures.shape ∙ is.shape) c.in_ok-kept.ensures in
    let here : IsFresh limit file c.new-reporter.result = record {
      kept = subst (λ (k : Kept _). IsEmpty limit (geometry file) k) (sym new.kept) empty;
      after_end = new.after_end ∙ c.new-after_end.ensures
          ∙ ap (λ (h : HeaderBytes). none_after_end (geometry_of h.bytes h.file_len) h.file_len) c.header.ensures.value
          ∙ ap₂ none_after_end is.shape is.whole;
    } in (
      subst (λ (x : Result Verdict RunError). IsExplained limit file x (held old) last) (sym (verdict_with r n))
          (is_explained limit file r (held old) last ran.keeps.desk.only is.is_read (λ V s.
          explained held limit file V is.is_read c.new-reporter.result c.run_over-answer.new.reporter c.end.new.self r old s here new.out (reported V s)
          c.end.ensures.lines)),
      λ V s. counts_with r n (counted (references_after_end file V)) (references_counted held limit file V is.is_read c.new-reporter.result
          c.run_over-answer.new.reporter c.end.new.self r s here (reported V s) c.end.ensures.after_end),
    ))) ran.reads ran.keeps.desk.only).read)

pub returns-clause-ok : goal.returns-clause-ok
returns-clause-ok g c =
    read_weaker IsSomeRunLog _ (returns-clause-read g c) (λ ranges p. p) (λ file ranges p t. at_verdict _ c.answer_with.result t.1.0.ok)

pub returns-clause-failed : goal.returns-clause-failed
returns-clause-failed g c =
    let held = g.O.Out.held in
    let r = c.run_over-answer.result in
    let ran = c.run_over-answer.ensures in
    let same = c.end.ensures.same_out ∙ ap first (lent_same r _ _ ran.keeps.writes) in
    let k : c.out-1.given.0 ≡ c.end.new.self.out.now = search (rules, same) in
    let failed = one_failed r _ _ _ _ _ _ ran.keeps.writes ∙ ap (λ o. failures_after is_write_failed r (held o).failures) c.new-reporter.ensures.out in
    let n = c.end.new.self.after_end.references in
    rw c.answer_with.ensures (rw (verdict_with r n) (rw k (record {
      reads = (opened g.S.Source c.args.source.now c.in_ok-desk.desk.header c.open_in.new.source c.run_over-answer.new.source c.in_ok-desk.ensures r
          ran.read ran.reads ran.keeps.desk.only).reads;
      writes = out_failures held c.run_over-answer.new.reporter c.end.new.self r (held c.args.out.now).failures failed c.end.ensures.lines;
    })))

pub returns-clause-refused : goal.returns-clause-refused
returns-clause-refused g c =
    let r = c.run_over-answer.result in
    let ran = c.run_over-answer.ensures in
    let n = c.end.new.self.after_end.references in
    rw c.answer_with.ensures (rw (verdict_with r n) (record {
      asked = (opened g.S.Source c.args.source.now c.in_ok-desk.desk.header c.open_in.new.source c.run_over-answer.new.source c.in_ok-desk.ensures r
          ran.read ran.reads ran.keeps.desk.only).asked;
      unwritten = read_unwritten r c.args.out.now c.out-1.given.0 ran.keeps.desk.only;
    }))

use Rattle.dbreport.proofs.Common.{rules, ◌≡◌, ap, ◌∙◌, Check, Stat, is_write_failed, failures_after, HeaderBytes, of_told_after}
use Rattle.dbformat.specs.Header.{encoding as encoding_of}
use Rattle.dbscan.proofs.AfterHeader.{after_weaker}
use Rattle.dbscan.proofs.Notifiers.{first}
use Rattle.dbreport.proofs.Checked.{check_reported}
use Rattle.dbreport.proofs.ReporterStates.{lent_same, one_failed, second}
use Rattle.dbreport.proofs.RunAnswers.{IsSoundAnswer, first_failures, run_of}
use Rattle.dbreport.proofs.RunReports.{check_is, writes_nothing}
use Rattle.dbreport.proofs.StatReports.{for_file, stat_reported}
use Rattle.dbreport.proofs.runs.run_on.Goals as goal

-- ---- a check

pub returns-in-Check-clause-read : goal.returns-in-Check-clause-read
returns-in-Check-clause-read g c =
    let limit = c.in-Check.limit in
    let r = c.run_over.result in
    let ran = c.run_over.ensures in
    let new = c.new-reporter.ensures in
    let same = ap first (lent_same r _ _ ran.keeps.writes) in
    let k : c.out-1.given.0 ≡ c.run_over.new.reporter.out.now = search (rules, same) in
    rw c.in-Check.is (after_weaker _ _ ran.read (λ file is reported.
    run_of (Check limit) file r (g.O.Out.held c.args.out.now).bytes (g.O.Out.held c.out-1.given.0).bytes
    (g.E.Out.held c.args.err.now).bytes (g.E.Out.held c.args.err.now).bytes ran.keeps.desk.only is.is_read (λ V s.
    let by = check_reported g.O.Out.held file V s r c.new-reporter.result c.run_over.new.reporter c.args.out.now c.out-1.given.0 limit new.out
    new.«open» new.limit new.shown new.more k is.is_read (reported V s) in record {
      out = by.0;
      err = rw (check_is limit file V is.is_read) (writes_nothing r (g.E.Out.held c.args.err.now).bytes);
      verdict = by.1;
    })))

pub returns-in-Check-clause-sound : goal.returns-in-Check-clause-sound
returns-in-Check-clause-sound g c = after_weaker _ _ (returns-in-Check-clause-read g c) (λ file is t. t.run.sound)

pub returns-in-Check-clause-told : goal.returns-in-Check-clause-told
returns-in-Check-clause-told g c = of_told_after _ (IsSoundAnswer c.run_over.result) (returns-in-Check-clause-sound g c)

pub returns-in-Check-clause-ok : goal.returns-in-Check-clause-ok
returns-in-Check-clause-ok g c = after_weaker _ _ (returns-in-Check-clause-read g c) (λ file is t. t.ok)

pub returns-in-Check-clause-failed : goal.returns-in-Check-clause-failed
returns-in-Check-clause-failed g c =
    let r = c.run_over.result in
    let same = ap first (lent_same r _ _ c.run_over.ensures.keeps.writes) in
    let k : c.out-1.given.0 ≡ c.run_over.new.reporter.out.now = search (rules, same) in
    let out : (g.O.Out.held c.out-1.given.0).failures ≡ failures_after is_write_failed r (g.O.Out.held c.args.out.now).failures =
    ap (λ o. (g.O.Out.held o).failures) k ∙ one_failed r _ _ _ _ _ _ c.run_over.ensures.keeps.writes
    ∙ ap (λ o. failures_after is_write_failed r (g.O.Out.held o).failures) c.new-reporter.ensures.out in record {
      reads = c.run_over.ensures.reads;
      writes = first_failures r (g.O.Out.held c.args.out.now).failures (g.O.Out.held c.out-1.given.0).failures (g.E.Out.held c.args.err.now).failures out;
      first = λ i. out;
    }

-- ---- the statistics

pub returns-in-Stat-clause-read : goal.returns-in-Stat-clause-read
returns-in-Stat-clause-read g c =
    let r = c.run_over-in-Stat.result in
    let ran = c.run_over-in-Stat.ensures in
    let new = c.new-reporter-in-Stat.ensures in
    let s = c.new-reporter-in-Stat.result in
    let same = ap first (lent_same r _ _ ran.keeps.writes) in
    let same' = ap second (lent_same r _ _ ran.keeps.writes) in
    let k : c.out-in-Stat-1.given.0 ≡ c.run_over-in-Stat.new.reporter.out.now = search (rules, same) in
    let k' : c.err-1.given.0 ≡ c.run_over-in-Stat.new.reporter.err.now = search (rules, same') in
    rw c.in-Stat.is (after_weaker _ _ ran.read (λ file is reported.
    run_of (Stat c.in-Stat.aggregate c.in-Stat.all) file r (g.O.Out.held c.args.out.now).bytes (g.O.Out.held c.out-in-Stat-1.given.0).bytes
    (g.E.Out.held c.args.err.now).bytes (g.E.Out.held c.err-1.given.0).bytes ran.keeps.desk.only is.is_read (λ V v.
    let for = for_file file c.args.desk.now.header c.geometry-page_size.result s is (c.geometry-page_size.ensures.shape ∙ is.shape)
    (new.encoding ∙ c.encoding-encoding.ensures ∙ ap (λ (h : HeaderBytes). encoding_of h.bytes) c.header.ensures.value) new.page_size new.sums in
    stat_reported g.O.Out.held g.E.Out.held file V v r s c.run_over-in-Stat.new.reporter c.args.out.now c.out-in-Stat-1.given.0 c.args.err.now c.err-1.given.0
    (record { aggregate = c.in-Stat.aggregate; all = c.in-Stat.all }) new.out new.err new.form new.found new.«open» for k k' is.is_read (reported V v))))

pub returns-in-Stat-clause-sound : goal.returns-in-Stat-clause-sound
returns-in-Stat-clause-sound g c = after_weaker _ _ (returns-in-Stat-clause-read g c) (λ file is t. t.run.sound)

pub returns-in-Stat-clause-told : goal.returns-in-Stat-clause-told
returns-in-Stat-clause-told g c = of_told_after _ (IsSoundAnswer c.run_over-in-Stat.result) (returns-in-Stat-clause-sound g c)

pub returns-in-Stat-clause-ok : goal.returns-in-Stat-clause-ok
returns-in-Stat-clause-ok g c = after_weaker _ _ (returns-in-Stat-clause-read g c) (λ file is t. t.ok)

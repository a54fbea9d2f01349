use Rattle.std.proofs.Common.{refl, ap, ◌∙◌}
use Rattle.std.proofs.lemmas.Result.{err_from_is_err_and}
use Rattle.dbformat.specs.FixedPages.{geometry_of}
use Rattle.dbformat.specs.declared.Geometry.{Geometry}
use Rattle.dbsource.specs.HeaderBytes.{HeaderBytes}
use Rattle.dbmend.proofs.RunCounts.{not_counted, run_counted, stopped_count}
use Rattle.dbmend.proofs.counting.count_faults.Goals as goal

pub returns-in_err-desk-clause-counted : goal.returns-in_err-desk-clause-counted
returns-in_err-desk-clause-counted g c =
    let q = err_from_is_err_and c.from_residual.result c.from_residual.ensures.1 in
    let e = c.in_err-desk.field-0.0 in
    rw q.1 (rw q.2 (not_counted g.S.Source c.args.source.now e c.open_in.new.source c.in_err-desk.ensures))

pub returns-in_err-run_over-clause-counted : goal.returns-in_err-run_over-clause-counted
returns-in_err-run_over-clause-counted g c =
    let q = err_from_is_err_and c.from_residual-in_err-run_over.result c.from_residual-in_err-run_over.ensures.1 in
    let e = c.in_err-run_over.field-0.0 in
    let ran = c.in_err-run_over.ensures in
    rw q.1 (rw q.2 (stopped_count g.S.Source c.args.source.now c.in_ok-desk.desk.header c.open_in.new.source c.run_over.new.source c.in_ok-desk.ensures
    c.new-counter.result c.run_over.new.reporter c.new-counter.ensures e ran.read ran.reads ran.keeps.desk.only))

pub returns-clause-counted : goal.returns-clause-counted
returns-clause-counted g c =
    let ran = c.in_ok-run_over.ensures in
    run_counted g.S.Source c.args.source.now c.in_ok-desk.desk.header c.open_in.new.source c.run_over.new.source c.in_ok-desk.ensures
    c.new-counter.result c.run_over.new.reporter c.new-counter.ensures c.in_ok-run_over.field-0 _ refl
    (ap (λ (g : Geometry). g.page_size) (c.geometry.ensures.shape
    ∙ ap (λ (h : HeaderBytes). geometry_of h.bytes h.file_len) ran.keeps.desk.header)) ran.read ran.reads

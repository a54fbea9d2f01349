use Rattle.std.proofs.Common.{◌≡◌, [], rules, subst, ap, sym, ◌∙◌, refl}
use Rattle.dbwalk.proofs.Common.{reported_by, inner_cause, view_cause, IsReportedTo, is_none}
use Rattle.dbwalk.proofs.Pages.PageReportings.{inner_found, inner_reported, no_cell_faults, reported_nothing}
use Rattle.dbwalk.proofs.page.report_readable.Goals as goal

pub returns-else-not-are_none : goal.returns-else-not-are_none
returns-else-not-are_none g c =
    let v = c.args.view.now in
    let none : c.is_none.result ≡ is_none c.freeblock_fault-freeblock.result = search rules in
    let found = inner_found v c.args.is_child c.is_none.result c.fragment_fault-fragments.result c.freeblock_fault-freeblock.result
    c.unheld_fault-coverage.result c.empty_fault-empty.result [] (no_cell_faults v c.requires.cells)
    c.fragment_fault-fragments.ensures c.freeblock_fault-freeblock.ensures c.unheld_fault-coverage.ensures c.empty_fault-empty.ensures none in
    subst (λ fs. IsReportedTo g.K.Sink.takes g.K.Sink.held c.args.sink.now (reported_by (view_cause c.args.place.now.rowids v) fs) c.args.sink.now)
    (sym (c.if-not-are_none.ensures refl) ∙ found) reported_nothing

pub returns-then-not-are_none : goal.returns-then-not-are_none
returns-then-not-are_none g c =
    let v = c.args.view.now in
    let place = c.args.place.now in
    let why = c.cause_within.result in
    let none : c.is_none.result ≡ is_none c.freeblock_fault-freeblock.result = search rules in
    subst (λ L. IsReportedTo g.K.Sink.takes g.K.Sink.held c.args.sink.now L c.report_each.new.sink)
    (ap (reported_by (inner_cause why)) (inner_found v c.args.is_child c.is_none.result c.fragment_fault-fragments.result c.freeblock_fault-freeblock.result
    c.unheld_fault-coverage.result c.empty_fault-empty.result [] (no_cell_faults v c.requires.cells)
    c.fragment_fault-fragments.ensures c.freeblock_fault-freeblock.ensures c.unheld_fault-coverage.ensures c.empty_fault-empty.ensures none)
    ∙ inner_reported place.rowids v place.page c.args.is_child c.requires.number why c.cause_within.ensures)
    c.report_each.ensures

use Rattle.std.proofs.Common.{rules, sym, subst, ℕ, ◌<◌, MatchOption, MatchBool}
use Rattle.dbwalk.proofs.Common.{count, IsAllLocal, reported_row, view_row}
use Rattle.dbpage.specs.Packed.{IsPacked, IsUnpacked, HasOverflow}
use Rattle.dbwalk.proofs.Reporting.Sinks.{moves_then}
use Rattle.dbwalk.proofs.page_row.report_undamaged.Given.{Over}
use Rattle.dbwalk.proofs.page_row.report_undamaged.Goals.{After-row, in-Some, in-None}
use Rattle.dbwalk.proofs.page_row.report_undamaged.Goals as goal

-- what packing the page answered
is_packed : (g : Over) (c : After-row g) → MatchOption c.match-packed.packed (IsUnpacked c.args.view.now) (IsPacked c.args.view.now)
is_packed g c = elim c.match-packed.branch [
  | in-Some w ↦ subst (λ o. MatchOption o (IsUnpacked c.args.view.now) (IsPacked c.args.view.now)) (sym w.packed-is) w.in-Some.ensures
  | in-None w ↦ subst (λ o. MatchOption o (IsUnpacked c.args.view.now) (IsPacked c.args.view.now)) (sym w.packed-is) c.packed-packed.ensures
]

-- the row is that of the page
row_reported : (g : Over) (c : After-row g) → g.K.Sink.takes c.args.sink.now
    (reported_row (view_row c.args.place.now.start c.args.place.now.path.now c.args.view.now))
    c.row.new.self
row_reported g c = search rules

pub report_readable-requires-clause-cells : goal.report_readable-requires-clause-cells
report_readable-requires-clause-cells g c = (subst (λ o. MatchOption o (IsUnpacked c.args.view.now) (IsPacked c.args.view.now)) c.in-Some-packed.is
    (is_packed g (goal.at.report_readable-requires-clause-cells g c).After-row)).read.readable

pub returns-in_default-clause-reported : goal.returns-in_default-clause-reported
returns-in_default-clause-reported g c = record {
  items = (c.row.new.self, row_reported g (goal.at.returns-in_default-clause-reported g c).After-row, c.report_inner.ensures.items);
  count = moves_then c.row.ensures.count c.report_inner.ensures.count;
}

pub returns-then-page-clause-reported : goal.returns-then-page-clause-reported
returns-then-page-clause-reported g c = record {
  items = (c.row.new.self, row_reported g (goal.at.returns-then-page-clause-reported g c).After-row, c.report_readable.ensures.items);
  count = moves_then c.row.ensures.count c.report_readable.ensures.count;
}

pub returns-clause-reported : goal.returns-clause-reported
returns-clause-reported g c = record {
  items = (c.row.new.self, row_reported g (goal.at.returns-clause-reported g c).After-row, c.report_readable.ensures.items);
  count = moves_then c.row.ensures.count c.report_readable.ensures.count;
}

pub returns-clause-keys : goal.returns-clause-keys
returns-clause-keys g c =
    let v = c.args.view.now in
    let packed = (subst (λ o. MatchOption o (IsUnpacked v) (IsPacked v)) c.in-Some-packed.is (is_packed g (goal.at.returns-clause-keys g c).After-row)).read in
    record {
      whole = subst (λ b. MatchBool b (HasOverflow v (count v)) ((i : ℕ) → i < count v → IsAllLocal v i)) c.if-page.false packed.overflow_is;
      rising = packed.rising;
      first_is = packed.first_is;
      last_is = packed.last_is;
      none = packed.unread;
      cells_are = c.cells-2.ensures.number;
    }

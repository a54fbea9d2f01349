use Rattle.std.proofs.Common.{rules, ℤ, Option, ◌+◌, arith, sym, ap, ◌∙◌, slice_get}
use Rattle.dbwalk.proofs.Common.{undamaged, key_value, RowidBounds}
use Rattle.dbwalk.specs.Found.{damage_fault}
use Rattle.dbwalk.proofs.Pages.Levels.{usable_page, whole_page}
use Rattle.dbwalk.proofs.Pages.PageVisits.{exit_damaged, exit_interior, exit_leaf}
use Rattle.dbwalk.proofs.page_report.report_page.Goals as goal

-- the rowids of the page
abbrev rowids_of : Option ℤ → Option ℤ → RowidBounds
rowids_of above up_to = record { above = above; up_to = up_to }

pub returns-in-Err-clause-reported : goal.returns-in-Err-clause-reported
returns-in-Err-clause-reported g c = λ file d from item shape candidate there.
    let t = c.args.tree.now in
    let level = c.len-level.ensures.value in
    let u = ap (λ s. s.usable) (c.geometry-usable.ensures.value ∙ shape) in
    let b = there c.uses-uses.result.0.now (ap (slice_get c.args.bench.now.levels) (sym level) ∙ c.uses-uses.ensures.page) in
    exit_damaged g.K.Sink.takes g.K.Sink.held file t.kind t.start t.path.items c.args.page from item d candidate
    c.geometry-usable.result.usable u c.uses-uses.result.0.now b (rowids_of (key_value t.greatest) c.args.up_to) t.leaf c.as_slice.result.now
    c.as_slice.ensures.value
    (rowids_of c.key_value.result c.args.up_to) (ap (λ above. rowids_of above c.args.up_to) c.key_value.ensures) (c.len-level.result + 1)
    (ap (λ n. n + 1) level) c.args.sink.now
    (damage_fault c.args.page c.uses-uses.result.0.now c.in-Err.damage) c.in-Err.ensures.view c.in-Err.ensures.faults c.report_damaged.new.sink
    c.report_damaged.ensures

pub returns-then-is_interior-clause-reported : goal.returns-then-is_interior-clause-reported
returns-then-is_interior-clause-reported g c = λ file d from item shape candidate there.
    let t = c.args.tree.now in
    let level = c.len-level.ensures.value in
    let u = ap (λ s. s.usable) (c.geometry-usable.ensures.value ∙ shape) in
    let b = there c.uses-uses.result.0.now (ap (slice_get c.args.bench.now.levels) (sym level) ∙ c.uses-uses.ensures.page) in
    exit_interior g.K.Sink.takes g.K.Sink.held file t.kind t.start t.path.items c.args.page from item d candidate
    c.geometry-usable.result.usable u c.uses-uses.result.0.now b (rowids_of (key_value t.greatest) c.args.up_to) t.leaf c.as_slice.result.now
    c.as_slice.ensures.value
    (rowids_of c.key_value.result c.args.up_to) (ap (λ above. rowids_of above c.args.up_to) c.key_value.ensures) (c.len-level.result + 1)
    (ap (λ n. n + 1) level) c.args.sink.now
    c.in-Ok.view c.in-Ok.ensures.view c.in-Ok.ensures.of.0 c.in-Ok.ensures.faults c.report_undamaged-keys.new.sink
    c.report_undamaged-keys.ensures.reported (search rules)

pub returns-clause-reported : goal.returns-clause-reported
returns-clause-reported g c = λ file d from item shape candidate there.
    let t = c.args.tree.now in
    let level = c.len-level.ensures.value in
    let u = ap (λ s. s.usable) (c.geometry-usable.ensures.value ∙ shape) in
    let b = there c.uses-uses.result.0.now (ap (slice_get c.args.bench.now.levels) (sym level) ∙ c.uses-uses.ensures.page) in
    exit_leaf g.K.Sink.takes g.K.Sink.held file t.kind t.start t.path.items c.args.page from item d candidate
    c.geometry-usable.result.usable u c.uses-uses.result.0.now b (rowids_of (key_value t.greatest) c.args.up_to) t.leaf c.as_slice.result.now
    c.as_slice.ensures.value
    (rowids_of c.key_value.result c.args.up_to) (ap (λ above. rowids_of above c.args.up_to) c.key_value.ensures) (c.len-level.result + 1)
    (ap (λ n. n + 1) level) c.args.sink.now
    c.in-Ok.view c.in-Ok.ensures.view c.in-Ok.ensures.of.0 c.in-Ok.ensures.faults c.report_undamaged-keys.new.sink
    c.report_undamaged-keys.ensures.reported (search rules) c.report_depth.new.sink c.report_depth.ensures.reported c.report_depth.new.self.leaf
    c.report_depth.ensures.leaf

pub returns-clause-open : goal.returns-clause-open
returns-clause-open g c =
    let b = c.args.bench.now in
    let bytes = c.uses-uses.result.0.now in
    record {
      leaf = record {
        bytes = bytes;
        there = ap (slice_get b.levels) (sym c.len-level.ensures.value) ∙ c.uses-uses.ensures.page;
        view = c.in-Ok.view;
        viewed = ap (λ k. undamaged k c.args.page b.geometry.usable bytes) c.report_depth.ensures.others.1
            ∙ ap (λ s. undamaged c.args.tree.now.kind c.args.page s.usable bytes) (sym c.geometry-usable.ensures.value) ∙ c.in-Ok.ensures.view;
        leaf = search rules;
      };
      span = c.report_undamaged-keys.ensures.keys;
    }

pub returns-then-is_interior-clause-open : goal.returns-then-is_interior-clause-open
returns-then-is_interior-clause-open g c = record {
  low = c.requires.page;
  bytes = c.uses-uses.result.0.now;
  there = ap (slice_get c.args.bench.now.levels) (sym c.len-level.ensures.value) ∙ c.uses-uses.ensures.page;
  view = c.in-Ok.view;
  viewed = ap (λ s. undamaged c.args.tree.now.kind c.args.page s.usable c.uses-uses.result.0.now) (sym c.geometry-usable.ensures.value) ∙ c.in-Ok.ensures.view;
  interior = search rules;
  within = omega arith;
}

pub returns-in-Err-clause-open : goal.returns-in-Err-clause-open
returns-in-Err-clause-open g c = record {
  bytes = c.uses-uses.result.0.now;
  there = ap (slice_get c.args.bench.now.levels) (sym c.len-level.ensures.value) ∙ c.uses-uses.ensures.page;
  viewed = ap (λ s. undamaged c.args.tree.now.kind c.args.page s.usable c.uses-uses.result.0.now) (sym c.geometry-usable.ensures.value) ∙ c.in-Err.ensures.view;
}

pub undamaged-requires : goal.undamaged-requires
undamaged-requires g c = usable_page c.geometry-usable.ensures.value c.geometry-usable.ensures.range c.uses-uses.ensures.len.0

pub report_damaged-requires : goal.report_damaged-requires
report_damaged-requires g c = usable_page c.geometry-usable.ensures.value c.geometry-usable.ensures.range c.uses-uses.ensures.len.0

pub report_undamaged-keys-requires : goal.report_undamaged-keys-requires
report_undamaged-keys-requires g c =
    let range = c.geometry-usable.ensures.range in
    record {
      number = sym c.in-Ok.ensures.of.0;
      most = rw c.in-Ok.ensures.of.1 (omega (arith, range.usable, range.page_size));
      room = rw c.in-Ok.ensures.of.1 (whole_page c.geometry-usable.ensures.value range c.uses-uses.ensures.len.1);
    }

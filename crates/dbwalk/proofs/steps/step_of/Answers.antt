use Rattle.std.proofs.Common.{◌≤◌, None, Some, refl, ap, arith, ℕ, List}
use Rattle.dbwalk.proofs.Common.{TreeKind, AreEmpty, End, Nothing}
use Rattle.dbwalk.proofs.Leaves.LeafCells.{none_seen, has_next, at_step}
use Rattle.dbwalk.proofs.Pages.Levels.{usable_page}
use Rattle.dbwalk.proofs.steps.step_of.Goals as goal

none_between : {usable : ℕ} {kind : TreeKind} {levels : List (List ℕ)} {level page : ℕ} (n : ℕ) → AreEmpty usable kind levels level page n n
none_between n = record { rise = omega arith; empty = λ s l h. absurd (omega arith) }

pub returns-in_default-clause-next : goal.returns-in_default-clause-next
returns-in_default-clause-next g c = has_next c.args.bench.now c.args.kind c.args.level c.args.frame.page c.requires c.geometry-usable.result.usable
    (ap (λ s. s.usable) c.geometry-usable.ensures.value) c.page.result.now c.page.ensures.bytes None c.in_default.ensures.view
    c.args.frame.next End (λ v e. none_seen v e)

pub returns-clause-empty : goal.returns-clause-empty
returns-clause-empty g c =
    let most : c.geometry-usable.result.usable ≤ 65536 = omega (arith, c.geometry-usable.ensures.range.usable, c.geometry-usable.ensures.range.page_size) in
    record {
      rise = c.next_from-next.ensures.rise;
      empty = λ s l h. has_next c.args.bench.now c.args.kind c.args.level c.args.frame.page c.requires c.geometry-usable.result.usable
          (ap (λ s. s.usable) c.geometry-usable.ensures.value) c.page.result.now c.page.ensures.bytes (Some c.in-Ok.view) c.in-Ok.ensures.view
          s Nothing
          (λ v e. at_step c.in-Ok.view v e c.geometry-usable.result.usable most c.in-Ok.ensures.of.1 c.cells.result c.cells.ensures.number c.cells.ensures.few s
          s refl Nothing (c.next_from-next.ensures.empty s l h));
    }

pub returns-clause-next : goal.returns-clause-next
returns-clause-next g c =
    let most : c.geometry-usable.result.usable ≤ 65536 = omega (arith, c.geometry-usable.ensures.range.usable, c.geometry-usable.ensures.range.page_size) in
    let s = c.next_from-next.result.0 in
    has_next c.args.bench.now c.args.kind c.args.level c.args.frame.page c.requires c.geometry-usable.result.usable
    (ap (λ s. s.usable) c.geometry-usable.ensures.value) c.page.result.now c.page.ensures.bytes (Some c.in-Ok.view) c.in-Ok.ensures.view
    s c.next_from-next.result.1
    (λ v e. at_step c.in-Ok.view v e c.geometry-usable.result.usable most c.in-Ok.ensures.of.1 c.cells.result c.cells.ensures.number c.cells.ensures.few s s
    refl c.next_from-next.result.1 c.next_from-next.ensures.next)

pub undamaged-requires : goal.undamaged-requires
undamaged-requires g c = usable_page c.geometry-usable.ensures.value c.geometry-usable.ensures.range c.page.ensures.len

pub returns-in_default-clause-empty : goal.returns-in_default-clause-empty
returns-in_default-clause-empty g c = none_between c.args.frame.next

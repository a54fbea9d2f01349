use Rattle.std.proofs.Common.{◌≡◌, ℕ, suc, ◌-◌, Some, None, sym, ap, arith, ◌∙◌}
use Rattle.dbwalk.proofs.Common.{count, View, key_before}
use Rattle.dbwalk.proofs.Leaves.LeafCells.{none_seen, same_view, seen}
use Rattle.dbwalk.proofs.Pages.Levels.{usable_page}
use Rattle.dbwalk.proofs.steps.key_before.Goals as goal

-- no cell is before the first
first : (v : View) (n : ℕ) → n ≡ 0 → None ≡ key_before v n
first v n e = ap (key_before v) (sym e)

pub returns-then-item-eq0 : goal.returns-then-item-eq0
returns-then-item-eq0 g c = record { is = λ bytes v there viewed low. first v c.args.item c.if-item-eq0.true }

pub returns-in_default : goal.returns-in_default
returns-in_default g c = record {
  is = λ bytes v there viewed low. none_seen v (seen c.args.bench.now c.args.kind c.args.level c.args.page c.requires c.geometry-usable.result.usable
      (ap (λ s. s.usable) c.geometry-usable.ensures.value) c.page.result.now c.page.ensures.bytes None c.in_default.ensures.view bytes v there viewed);
}

pub returns-then-item-cells : goal.returns-then-item-cells
returns-then-item-cells g c = record {
  is = λ bytes v there viewed low.
      let same = same_view c.in-Ok.view v (seen c.args.bench.now c.args.kind c.args.level c.args.page c.requires c.geometry-usable.result.usable
      (ap (λ s. s.usable) c.geometry-usable.ensures.value) c.page.result.now c.page.ensures.bytes (Some c.in-Ok.view) c.in-Ok.ensures.view bytes v there
      viewed) in
      let n = c.cells.ensures.number ∙ ap count same in
      let many = c.if-item-cells.true in
      absurd (omega arith);
}

pub returns : goal.returns
returns g c = record {
  is = λ bytes v there viewed low.
      let i = c.args.item - 1 in
      let e : suc i ≡ c.args.item = omega arith in
      let same = same_view c.in-Ok.view v (seen c.args.bench.now c.args.kind c.args.level c.args.page c.requires c.geometry-usable.result.usable
      (ap (λ s. s.usable) c.geometry-usable.ensures.value) c.page.result.now c.page.ensures.bytes (Some c.in-Ok.view) c.in-Ok.ensures.view bytes v there
      viewed) in
      c.leaf_cell.ensures.key_is ∙ ap (λ v. key_before v (suc i)) same ∙ ap (key_before v) e;
}

pub undamaged-requires : goal.undamaged-requires
undamaged-requires g c = usable_page c.geometry-usable.ensures.value c.geometry-usable.ensures.range c.page.ensures.len

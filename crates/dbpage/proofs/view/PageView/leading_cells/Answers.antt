use Rattle.std.proofs.Common.{◌≤◌, ap, sym, subst, arith}
use Rattle.dbformat.specs.Head.{View, content_start}
use Rattle.dbpage.specs.Beginning.{IsRunning}
use Rattle.dbpage.proofs.PackedLemmas.{none_running}
use Rattle.dbpage.proofs.view.PageView.leading_cells.Goals as goal

pub returns-in_default : goal.returns-in_default
returns-in_default c =
    let v = c.args.self.now in
    let usable = ap (λ (w : View). w.usable) c.self.view_is in
    let start : content_start v.number v.bytes ≤ v.usable =
    omega (arith, usable, ap (λ (w : View). content_start w.number w.bytes) c.self.view_is, c.self.invariant.start_is, c.self.invariant.inside) in
    subst (IsRunning v) (sym c.new.ensures) (none_running v c.args.first c.self.inside.usable start usable c.requires.some c.requires.none)

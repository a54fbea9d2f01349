use Rattle.std.proofs.Common.{◌≡◌, ◌-◌, sym, ap, ◌∙◌, arith}
use Rattle.dbformat.specs.Cell.{cells}
use Rattle.dbformat.specs.Head.{View, content_start}
use Rattle.dbformat.specs.declared.Coverage.TheVariants.{Unheld}
use Rattle.dbpage.proofs.Overlaps.{coverage-from_apart}
use Rattle.dbpage.proofs.view.PageView.packed_from.Goals as goal

pub returns : goal.returns
unfolding cells
returns c =
    let v = c.args.self.now in
    let start = ap (λ (w : View). content_start w.number w.bytes) c.self.view_is in
    let usable = ap (λ (w : View). w.usable) c.self.view_is in
    let left : c.self.inside.usable - c.self.inside.start - c.args.held ≡ v.usable - content_start v.number v.bytes - c.args.held =
    omega (arith, start, usable, c.self.invariant.start_is) in
    record {
      read = c.requires.read;
      payload_is = c.requires.read.payload_is;
      greatest_is = c.requires.read.greatest_is;
      coverage_is = coverage-from_apart v c.args.held c.requires.apart ∙ ap Unheld (sym left);
    }

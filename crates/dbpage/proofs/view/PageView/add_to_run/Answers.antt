use Rattle.std.proofs.Common.{◌≡◌, inl, max, refl, ap, sym, arith}
use Rattle.dbformat.specs.Cell.{Cell}
use Rattle.dbpage.proofs.Items.{Holds-from_read}
use Rattle.dbpage.proofs.Runs.{cell_joins}
use Rattle.dbpage.proofs.view.PageView.add_to_run.Goals as goal

pub returns : goal.returns
returns c =
    let v = c.args.self.now in
    let d = c.in-Some.cell in
    let run = c.args.begun.now.run in
    let found = c.in-Some.ensures in
    let offset = ap (λ (e : Cell). e.offset) c.cell.view_is in
    let longest : max d.len 4 ≡ d.len = omega (arith, found.1.four) in
    let has = Holds-from_read v c.args.i d c.cell.inside.offset d.len found.0 (sym offset) longest in
    record {
      read = c.if-not-add_read.ensures;
      run = cell_joins v c.args.i run.from run.to c.requires.before.run c.cell.inside.offset d.len c.cell.inside.offset run.to has
          (inl (omega (arith, offset, found.1.ends), refl, refl));
    }

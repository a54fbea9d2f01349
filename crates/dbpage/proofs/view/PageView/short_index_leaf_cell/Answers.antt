use Rattle.std.proofs.Common.{◌≡◌, ℕ, ◌≤◌, Option, None, Some, get_or, length, sym, ap, ◌∙◌, arith}
use Rattle.std.specs.Prelude.{option_and_then, slice_index}
use Rattle.dbformat.specs.Head.{View}
use Rattle.dbformat.specs.Cell.{payload_cell}
use Rattle.dbformat.specs.declared.PayloadKind.TheVariants.{Index}
use Rattle.dbpage.proofs.CellLemmas.{small_size}
use Rattle.dbpage.proofs.view.PageView.short_index_leaf_cell.Goals as goal

pub returns : goal.returns
returns c =
    let v = c.args.self.now in
    let offset = c.args.offset in
    let whole : v.usable ≤ length v.bytes =
    omega (arith, c.self.invariant.whole, ap (λ (w : View). w.usable) c.self.view_is, ap (λ (w : View). length w.bytes) c.self.view_is) in
    let first : slice_index v.bytes offset ≡ c.from-size.result = sym (c.from-size.ensures ∙ ap (λ (w : View). get_or w.bytes offset 0) c.self.view_is) in
    let size = small_size v offset (omega (arith, c.requires.room)) whole (omega (arith, first, c.if-size-gt52.false)) in
    let made = c.whole_cell.ensures in
    let sized = size ∙ ap (λ (n : ℕ). Some (n, 1)) first in (
      ap (λ (o : Option (ℕ × ℕ)). option_and_then (λ r. payload_cell v Index offset r.1 r.0 None None) o) sized ∙ made.cell,
      record {
        four = omega (arith, made.span.1, c.if-size-lt3.false);
        most = omega (arith, made.span.1, c.if-size-gt52.false);
        one = omega (arith, made.span.1, made.local.0);
        keyless = made.local.1;
        whole = made.local.2;
      },
    )

use Rattle.std.proofs.Common.{◌≡◌, ℕ, List, ◌-◌, ◌<◌, ◌≤◌, get_or, sym, ap, ◌∙◌, arith}
use Rattle.dbformat.specs.Head.{View, cell_count}
use Rattle.dbformat.specs.Cell.{count}
use Rattle.dbformat.specs.Coverage.{Span, freeblocks}
use Rattle.dbpage.proofs.Items.{offset_of_cell, offset_of_freeblock}
use Rattle.dbpage.proofs.Overlaps.{no_span}
use Rattle.dbpage.proofs.view.PageView.item_offset.Goals as goal

pub returns-then-item-self : goal.returns-then-item-self
returns-then-item-self c =
    let v = c.args.self.now in
    let cells = ap (λ (w : View). cell_count w.number w.bytes) c.self.view_is in
    let within : c.args.item < count v = omega (arith, cells, c.self.invariant.cells_is, c.if-item-self.true) in
    c.pointer.ensures ∙ sym (offset_of_cell v c.args.item within)

pub returns-then-left-eq0 : goal.returns-then-left-eq0
returns-then-left-eq0 c =
    let v = c.args.self.now in
    let cells = ap (λ (w : View). cell_count w.number w.bytes) c.self.view_is in
    let behind : count v ≤ c.args.item = omega (arith, cells, c.self.invariant.cells_is, c.if-item-self.false) in
    let number : c.args.item - c.self.inside.cells ≡ c.args.item - count v = omega (arith, cells, c.self.invariant.cells_is) in
    let at = ap (λ (n : ℕ). get_or c.loop-freeblock.freeblock-iterator.left n no_span) c.if-left-eq0.true in
    let first = ap (λ (fs : List Span). get_or fs 0 no_span) c.in-Some.ensures.steps.0 in
    let found = offset_of_freeblock v c.args.item behind ∙ ap (λ (n : ℕ). get_or (freeblocks v) n no_span) (sym number) ∙ c.loop-freeblock.invariant ∙ at
    ∙ first in
    ap (λ (s : Span). s.offset) (c.freeblock.view_is ∙ sym found)

pub returns : goal.returns
returns c =
    let v = c.args.self.now in
    let cells = ap (λ (w : View). cell_count w.number w.bytes) c.self.view_is in
    let behind : count v ≤ c.args.item = omega (arith, cells, c.self.invariant.cells_is, c.if-item-self.false) in
    let number : c.args.item - c.self.inside.cells ≡ c.args.item - count v = omega (arith, cells, c.self.invariant.cells_is) in
    let none = ap (λ (fs : List Span). get_or fs c.loop-freeblock.left no_span) c.in-None.ensures.steps.0.0 in
    ap (λ (s : Span). s.offset) (sym (offset_of_freeblock v c.args.item behind ∙ ap (λ (n : ℕ). get_or (freeblocks v) n no_span) (sym number)
    ∙ c.loop-freeblock.invariant ∙ none))

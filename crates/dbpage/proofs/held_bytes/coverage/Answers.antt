use Rattle.std.proofs.Common.{◌≡◌, ℕ, ◌-◌, sym, ap, ◌∙◌, arith}
use Rattle.dbformat.specs.Head.{View, content_start}
use Rattle.dbformat.specs.Coverage.{coverage, coverage_of, items, unheld}
use Rattle.dbformat.specs.declared.Coverage.TheVariants.{Unheld}
use Rattle.dbpage.proofs.Overlaps.{first_overlap_none}
use Rattle.dbpage.proofs.held_bytes.coverage.Goals as goal

pub returns-in-Err-clause-items : goal.returns-in-Err-clause-items
unfolding coverage
returns-in-Err-clause-items g c = sym (ap (coverage_of c.args.view.now) c.in-Err.ensures.marked.1)

pub returns-in-Ok-mark_freeblocks-clause-items : goal.returns-in-Ok-mark_freeblocks-clause-items
unfolding coverage
returns-in-Ok-mark_freeblocks-clause-items g c =
    let v = c.args.view.now in
    let are = c.in-Ok-mark_freeblocks.ensures.marked.1 in
    let none = first_overlap_none (items v) (content_start v.number v.bytes) v.usable c.mark_freeblocks.new.table c.in-Ok-mark_freeblocks.held are in
    let start = ap (λ (w : View). content_start w.number w.bytes) c.view.view_is in
    let usable = ap (λ (w : View). w.usable) c.view.view_is in
    let left : c.view.inside.usable - c.view.inside.start - c.in-Ok-mark_freeblocks.held ≡ unheld v =
    omega (arith, are.counted, start, usable, c.view.invariant.start_is) in
    ap (λ (n : ℕ). Unheld n) left ∙ sym (ap (coverage_of v) none)

pub returns-in-Err-mark_freeblocks-clause-items : goal.returns-in-Err-mark_freeblocks-clause-items
unfolding coverage
returns-in-Err-mark_freeblocks-clause-items g c = sym (ap (coverage_of c.args.view.now) c.in-Err-mark_freeblocks.ensures.marked.1)

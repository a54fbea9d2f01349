use Rattle.std.proofs.Common.{ℕ, ◌+◌, subst, arith}
use Rattle.dbformat.specs.Head.{content_start}
use Rattle.dbpage.specs.Marking.{AreMarked, cells_upto}
use Rattle.dbpage.proofs.Items.{cell_marked, cell_overlaps}
use Rattle.dbpage.proofs.PackedLemmas.{unpacked_at_overlap}
use Rattle.dbpage.proofs.Runs.{ends_run, run_marked}
use Rattle.dbpage.proofs.view.PageView.mark_beginning.Goals as goal

pub returns-then-not-claim-2 : goal.returns-then-not-claim-2
returns-then-not-claim-2 g c =
    let v = c.args.self.now in
    let b = c.args.begun.now in
    let ends = ends_run v b c.in-Some.offset c.in-Some.len c.in-Some.is c.requires.begun in
    let marked = run_marked v ends.n b.run.from b.run.to ends.run c.args.table.now c.requires.free c.len-in_run.result c.len-in_run.ensures c.claim.new.table
    c.if-not-claim.ensures.marked in
    unpacked_at_overlap v ends.n (cell_overlaps v ends.n c.claim.new.table c.len-in_run.result marked c.in-Some.offset c.in-Some.len
    (omega (arith, ends.next, c.requires.begun.few)) ends.held c.if-not-claim-2.ensures.marked)

pub returns : goal.returns
returns g c =
    let v = c.args.self.now in
    let b = c.args.begun.now in
    let ends = ends_run v b c.in-Some.offset c.in-Some.len c.in-Some.is c.requires.begun in
    let marked = run_marked v ends.n b.run.from b.run.to ends.run c.args.table.now c.requires.free c.len-in_run.result c.len-in_run.ensures c.claim.new.table
    c.if-not-claim.ensures.marked in
    subst (λ (n : ℕ). AreMarked (cells_upto v n) (content_start v.number v.bytes) v.usable c.claim-2.new.table (c.len-in_run.result + c.in-Some.len)) ends.next
    (cell_marked v ends.n c.claim.new.table c.len-in_run.result marked c.in-Some.offset c.in-Some.len c.claim-2.new.table ends.held
    c.if-not-claim-2.ensures.marked)

use Rattle.dbpicture.specs.Tallies.{left_pages, pages_at}
use Rattle.dbpicture.proofs.FirstMost.{first_before, first_here, none_first}
use Rattle.dbpicture.proofs.tally.PageTally.next.Goals as goal
use Rattle.dbpicture.proofs.tally.PageTally.next.Goals.{else-pages-most, then-pages-most}

pub loop-start-init : goal.loop-start-init
loop-start-init g c = none_first (left_pages (pages_at c.args.self.now.starts) c.args.taken.now) _ c.left-most.ensures

pub loop-start-preserved : goal.loop-start-preserved
loop-start-preserved g c =
    let much = left_pages (pages_at c.args.self.now.starts) c.args.taken.now in
    let at = c.loop-start.invariant in
    let pages = c.left-pages.ensures in
    elim c.if-pages-most.branch [
      | then-pages-most w ↦ rw (w.next-is, w.most-is) (first_here much _ _ _ at _ pages w.if-pages-most.true)
      | else-pages-most w ↦ rw (w.next-is, w.most-is) (first_before much _ _ _ at _ pages w.if-pages-most.false)
    ]

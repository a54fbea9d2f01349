use Rattle.std.proofs.Common.{rules, arith, ◌≡◌, ℕ, Some, None, Ok, Err, refl, sym, ap, ap₂, ◌∙◌, inl, IfSome, ◌==◌}
use Rattle.dbwalk.proofs.Common.{page_bytes, Trunk, next_step, trunk_step, u32_at}
use Rattle.std.proofs.lemmas.Bool.{cond_both}
use Rattle.dbwalk.proofs.Chaining.ChainTurns.{if_some_all}
use Rattle.dbwalk.proofs.FreeTrunks.{trunk_read, trunk_opened, next_turned}
use Rattle.dbwalk.proofs.Reporting.Sinks.{err_is, walks_as}
use Rattle.dbwalk.proofs.Reporting.Besides.{beside_shut, beside_reported, turn_failed, turn_refused, turn_stopped, walk_as, walk_reported, walk_then}
use Rattle.dbwalk.proofs.Reporting.Besides.{walk_unread}
use Rattle.dbwalk.proofs.Pages.Levels.{keeps_fewer}
use Rattle.dbwalk.proofs.freelist.enter_trunk.Goals as goal

pub returns-clause-less : goal.returns-clause-less
returns-clause-less g c = if_some_all _ c.next_trunk.result (λ next.
    let less = c.in_ok-enter_beside.ensures.less (search rules) in
    let fewer = keeps_fewer c.enter_beside.new.marks c.open_trunk.new.marks c.open_trunk.ensures.keeps in
    omega arith)

pub returns-in_err-enter_beside-clause-walks : goal.returns-in_err-enter_beside-clause-walks
returns-in_err-enter_beside-clause-walks g c =
    let q = err_is c.from_residual.ensures.1 in
    walk_as q c.in_err-enter_beside.ensures.walks (λ file opens usable whole before tree on. turn_stopped on.at q
    c.in_err-enter_beside.ensures.walks.beside.only opens)

pub returns-then-not-branch-clause-walks : goal.returns-then-not-branch-clause-walks
returns-then-not-branch-clause-walks g c = walk_reported c.in_ok-enter_beside.ensures.walks (inl refl)
    (λ file opens usable whole before tree on. turn_refused on.at opens c.if-not-branch.true (λ f. tt))

pub returns-in_err-item-clause-walks : goal.returns-in_err-item-clause-walks
returns-in_err-item-clause-walks g c =
    let walks = c.in_ok-enter_beside.ensures.walks in
    let r = err_is c.from_residual-in_err-item.ensures.1 in
    walk_then refl walks (walk_unread {T = λ file. Unit {0}}
    (beside_shut (r ∙ ap Err c.in_err-item.ensures.only) (walks_as r c.in_err-item.ensures.writes)) c.open_trunk.ensures.keeps (λ file. tt))
    (λ file opens none u whole before tree on.
    let b = trunk_read on opens c.if-not-branch.false in
    turn_failed r
    (trunk_opened on opens c.if-not-branch.false (Err c.in_err-item.field-0.0) (c.open_trunk.new.marks, tree) c.open_trunk.new.sink
    (λ now d p k f m h. c.in_err-item.ensures.opened file whole before now d _ tree p k b u f m h)))

pub returns-clause-walks : goal.returns-clause-walks
returns-clause-walks g c =
    let walks = c.in_ok-enter_beside.ensures.walks in
    walk_then refl walks (walk_unread {T = λ file. Unit {0}} (beside_reported c.in_ok-item.ensures.writes.moves) c.open_trunk.ensures.keeps (λ file. tt))
    (λ file opens none u whole before tree on.
    let b = trunk_read on opens c.if-not-branch.false in
    let o = trunk_opened on opens c.if-not-branch.false (Ok c.in_ok-item.item) (c.open_trunk.new.marks, tree) c.open_trunk.new.sink
    (λ now d p k f m h. c.in_ok-item.ensures.opened file whole before now d _ tree p k b u f m h) in
    let p = sym on.at.is.page in
    rw (c.next_trunk.ensures ∙ ap₂ (λ b p. next_step (u32_at 0 b) p c.in_ok-item.item) (b ∙ ap (page_bytes file) p) p)
    (next_turned on.at.d c.in_ok-item.item o.1))

pub open_trunk-requires : goal.open_trunk-requires
open_trunk-requires g c =
    let b = c.requires.buffer in
    let same = c.enter_beside.auto.buffer in
    record { usable = (b.least, omega (arith, b.within, b.most), omega (arith, same, b.within)) }

pub next_trunk-requires : goal.next_trunk-requires
next_trunk-requires g c = omega (arith, c.requires.buffer.least, c.requires.buffer.within, c.enter_beside.auto.buffer)

-- the next step is to a trunk
next_marked : (page from item : ℕ) → IfSome (next_step page from item) (λ next. next.mark ≡ Trunk)
next_marked page from item = cond_both (page == 0) None (Some (trunk_step page from item)) (λ o. IfSome o (λ next. next.mark ≡ Trunk)) (λ _. tt) (λ _. refl)

pub returns-clause-trunk : goal.returns-clause-trunk
returns-clause-trunk g c = rw c.next_trunk.ensures (next_marked _ _ _)

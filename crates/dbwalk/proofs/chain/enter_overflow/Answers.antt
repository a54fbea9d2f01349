use Rattle.std.proofs.Common.{rules, arith, refl, ℕ, ◌+◌, ◌-◌, ap, ◌≤◌, ◌<◌, inl}
use Rattle.dbwalk.proofs.Chaining.ChainTurns.{fed_so_far, turn_last, turn_more}
use Rattle.dbwalk.proofs.Reporting.Besides.{turn_on, turn_refused, turn_stopped, walk_as, walk_reported}
use Rattle.dbwalk.proofs.Reporting.Sinks.{err_is}
use Rattle.dbwalk.proofs.chain.enter_overflow.Goals as goal

-- the next place in a chain that goes on
place_on : (number left usable most : ℕ) → number + left ≤ most → 480 ≤ usable → usable - 4 < left → ((number + 1) + (left - (usable - 4)) ≤ most)
    × (left - (usable - 4) < left)
place_on number left usable most counted least more = (omega arith, omega arith)

pub returns-in_err-enter_beside-clause-walks : goal.returns-in_err-enter_beside-clause-walks
returns-in_err-enter_beside-clause-walks g c =
    let q = err_is c.from_residual.ensures.1 in
    walk_as q c.in_err-enter_beside.ensures.walks (λ file opens W whole before first tree on. turn_stopped on.at q
    c.in_err-enter_beside.ensures.walks.beside.only opens)

pub returns-then-not-branch-clause-walks : goal.returns-then-not-branch-clause-walks
returns-then-not-branch-clause-walks g c = walk_reported c.in_ok-enter_beside.ensures.walks (inl refl)
    (λ file opens W whole before first tree on. turn_refused on.at opens c.if-not-branch.true (fed_so_far on))

pub returns-then-place-room-clause-walks : goal.returns-then-place-room-clause-walks
returns-then-place-room-clause-walks g c =
    let walks = c.in_ok-enter_beside.ensures.walks in
    walk_reported walks c.visit_overflow-next.ensures.moves (λ file opens W whole before first tree on.
    turn_last on c.if-not-branch.false opens (λ k. c.visit_overflow-next.ensures.visited file k on.usable) (ap (λ s. s - 4) on.usable)
    c.if-place-room.true)

pub returns-clause-walks : goal.returns-clause-walks
returns-clause-walks g c =
    let walks = c.in_ok-enter_beside.ensures.walks in
    walk_reported walks c.visit_overflow-next.ensures.moves (λ file opens W whole before first tree on.
    turn_on (turn_more on c.if-not-branch.false opens (λ k. c.visit_overflow-next.ensures.visited file k on.usable) (ap (λ s. s - 4) on.usable)
    c.if-place-room.false c.visit_overflow-next.ensures.next))

pub returns-clause-next : goal.returns-clause-next
returns-clause-next g c =
    let on = place_on _ _ _ _ c.requires.place.counted c.requires.buffer.least c.if-place-room.false in
    (record { named = c.in_ok-enter_beside.ensures.page (search rules); used = record { some = refl; cleared = refl }; counted = on.0 }, on.1)

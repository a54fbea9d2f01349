use Rattle.std.proofs.Common.{rules, ◌-◌, ◌/◌, ◌<◌, ◌≤◌, map, refl, sym, ap, subst, ◌∙◌, pos}
use Rattle.dbwalk.proofs.Common.{go, fault, page_bytes, usable_size, next_trunk, leaf_count, most_leaves, L01, reported_alone, IsUnderway, fed}
use Rattle.dbwalk.proofs.Common.{advance, at_page, u32_at}
use Rattle.dbwalk.proofs.FreeTrunks.{opened_fitting, opened_crowded}
use Rattle.dbwalk.proofs.Reporting.Sinks.{err_is, walks_as, walks_ok}
use Rattle.dbwalk.proofs.freelist.open_trunk.Goals as goal

pub returns-in_err-walk_leaves-clause-opened : goal.returns-in_err-walk_leaves-clause-opened
returns-in_err-walk_leaves-clause-opened g c = λ file whole before now d old tree p r b u f m h.
    let k = b ∙ ap (page_bytes file) (sym p) in
    let n = c.u32_at-count.ensures ∙ ap (u32_at 4) k in
    let l = subst (λ x. x ≤ most_leaves (usable_size file)) n (subst (λ u. c.u32_at-count.result ≤ u / 4 - 2) u c.if-count-usable.true) in
    let tail = map (go d) (next_trunk d.page (page_bytes file d.page) (leaf_count (page_bytes file d.page))) in
    let o = opened_fitting file d r f m h l in
    rw (err_is c.from_residual.ensures.1) (c.in_err-walk_leaves.ensures.done file whole before (advance file now (at_page d)) d tail tree p (rw (k, n) o))

pub returns-in_ok-walk_leaves-clause-opened : goal.returns-in_ok-walk_leaves-clause-opened
returns-in_ok-walk_leaves-clause-opened g c = λ file whole before now d old tree p r b u f m h.
    let k = b ∙ ap (page_bytes file) (sym p) in
    let n = c.u32_at-count.ensures ∙ ap (u32_at 4) k in
    let l = subst (λ x. x ≤ most_leaves (usable_size file)) n (subst (λ u. c.u32_at-count.result ≤ u / 4 - 2) u c.if-count-usable.true) in
    let tail = map (go d) (next_trunk d.page (page_bytes file d.page) (leaf_count (page_bytes file d.page))) in
    let o = opened_fitting file d r f m h l in
    let t = c.in_ok-walk_leaves.ensures.done file whole before (advance file now (at_page d)) d tail tree p (rw (k, n) o) in (
      t.0,
      subst (λ n. IsUnderway (fed g.K.Sink.takes) file whole before t.0 (map (go d) (next_trunk d.page (page_bytes file d.page) n))
          (c.walk_leaves.new.marks, tree) c.walk_leaves.new.sink) (sym n) t.1,
    )

pub returns-else-count-usable-clause-opened : goal.returns-else-count-usable-clause-opened
returns-else-count-usable-clause-opened g c = λ file whole before now d old tree p r b u f m h.
    let k = b ∙ ap (page_bytes file) (sym p) in
    let n = c.u32_at-count.ensures ∙ ap (u32_at 4) k in
    let l = subst (λ x. most_leaves (usable_size file) < x) n (subst (λ u. u / 4 - 2 < c.u32_at-count.result) u c.if-count-usable.false) in
    let w = c.new-fault.ensures ∙ ap (λ p. fault L01 p 0 (pos c.u32_at-count.result)) (sym p) ∙ ap (λ n. fault L01 d.page 0 (pos n)) n in (
      advance file now (at_page d),
      opened_crowded file d r f m h l (
        c.fault.new.self,
        subst (λ x. g.K.Sink.takes c.args.sink.now (reported_alone x) c.fault.new.self) w c.fault.ensures.item,
        refl,
      ),
    )

pub returns-in_ok-walk_leaves-clause-only : goal.returns-in_ok-walk_leaves-clause-only
returns-in_ok-walk_leaves-clause-only g c = search rules

pub returns-in_err-walk_leaves-clause-writes : goal.returns-in_err-walk_leaves-clause-writes
returns-in_err-walk_leaves-clause-writes g c =
    walks_as (err_is c.from_residual.ensures.1) c.in_err-walk_leaves.ensures.writes

pub returns-in_ok-walk_leaves-clause-writes : goal.returns-in_ok-walk_leaves-clause-writes
returns-in_ok-walk_leaves-clause-writes g c = walks_ok c.in_ok-walk_leaves.ensures.writes.moves

pub returns-else-count-usable-clause-writes : goal.returns-else-count-usable-clause-writes
returns-else-count-usable-clause-writes g c = walks_ok c.fault.ensures.count

use Rattle.std.proofs.Common.{◌≡◌, ℕ, sym, subst, ap, arith}
use Rattle.dbformat.specs.Head.{View, content_start}
use Rattle.dbpage.specs.Notes.{AreInside, Walked, end_at}
use Rattle.dbpage.proofs.NotedLeaf.{all_met, not_all_met}
use Rattle.dbpage.proofs.view.PageView.packed_by_notes_in_place.Goals as goal

pub held_in_order-requires-clause-inside : goal.held_in_order-requires-clause-inside
held_in_order-requires-clause-inside c =
    let v = c.args.self.now in
    let table = c.note_freeblocks.new.table in
    let content = content_start v.number v.bytes in
    let start : c.self.inside.start ≡ content_start v.number v.bytes =
    omega (arith, c.self.invariant.start_is, ap (λ (w : View). content_start w.number w.bytes) c.self.view_is) in
    let usable : c.self.inside.usable ≡ v.usable = omega (arith, ap (λ (w : View). w.usable) c.self.view_is) in
    subst (λ (n : ℕ). AreInside (end_at table n c.self.inside.usable) n c.self.inside.usable) (sym start)
    (subst (λ (m : ℕ). AreInside (end_at table content m) content m) (sym usable) c.in_ok-held.ensures.inside)

pub returns-then-held_in_order-held : goal.returns-then-held_in_order-held
returns-then-held_in_order-held c =
    let v = c.args.self.now in
    let table = c.note_freeblocks.new.table in
    let content = content_start v.number v.bytes in
    let start : c.self.inside.start ≡ content_start v.number v.bytes =
    omega (arith, c.self.invariant.start_is, ap (λ (w : View). content_start w.number w.bytes) c.self.view_is) in
    let usable : c.self.inside.usable ≡ v.usable = omega (arith, ap (λ (w : View). w.usable) c.self.view_is) in
    let walked = subst (λ (m : ℕ). Walked (end_at table content m) m m c.held_in_order.result) usable
    (subst (λ (n : ℕ). Walked (end_at table n c.self.inside.usable) c.self.inside.usable c.self.inside.usable c.held_in_order.result) start
    c.held_in_order.ensures) in
    not_all_met v table c.in_ok-held.held c.held_in_order.result c.in_ok-held.ensures walked c.if-held_in_order-held.true

pub packed_from-requires-clause-apart : goal.packed_from-requires-clause-apart
packed_from-requires-clause-apart c =
    let v = c.args.self.now in
    let table = c.note_freeblocks.new.table in
    let content = content_start v.number v.bytes in
    let start : c.self.inside.start ≡ content_start v.number v.bytes =
    omega (arith, c.self.invariant.start_is, ap (λ (w : View). content_start w.number w.bytes) c.self.view_is) in
    let usable : c.self.inside.usable ≡ v.usable = omega (arith, ap (λ (w : View). w.usable) c.self.view_is) in
    let walked = subst (λ (m : ℕ). Walked (end_at table content m) m m c.held_in_order.result) usable
    (subst (λ (n : ℕ). Walked (end_at table n c.self.inside.usable) c.self.inside.usable c.self.inside.usable c.held_in_order.result) start
    c.held_in_order.ensures) in
    all_met v table c.in_ok-held.held c.held_in_order.result c.in_ok-held.ensures walked c.if-held_in_order-held.false

use Rattle.std.proofs.Common.{◌≡◌, ◌+◌, sym, ap, ◌∙◌, arith, length}
use Rattle.dbformat.specs.Head.{View}
use Rattle.dbformat.specs.Numbers.{u16_at}
use Rattle.dbformat.specs.Coverage.{Span, freeblock_at, next_freeblock}
use Rattle.dbpage.specs.Freeblocks.{Left}
use Rattle.dbpage.proofs.FreeblockLemmas.{one_more, place_more, place_at, left_more, length-freeblocks}
use Rattle.dbpage.proofs.freeblocks.FreeblocksIterator.next.Goals as goal

pub overflow_add-self-2 : goal.overflow_add-self-2
overflow_add-self-2 c =
    let page = c.self.inside.page.now in
    let more = one_more page c.self.inside.number c.self.inside.end c.self.inside.offset c.self.invariant c.in_ok-freeblock.ensures.good.0 in
    omega (arith, more, length-freeblocks page, c.page.invariant.most, ap (λ (v : View). v.usable) c.page.view_is)

pub invariant_of-self : goal.invariant_of-self
invariant_of-self c =
    let page = c.self.inside.page.now in
    let offset = c.self.inside.offset in
    let same : freeblock_at page offset ≡ record { offset = c.freeblock.inside.offset; len = c.freeblock.inside.size } = sym c.in_ok-freeblock.ensures.good.1
    ∙ sym c.freeblock.view_is in
    let next : next_freeblock page offset ≡ c.from-self-inside.result =
    ap (λ (s : Span). next_freeblock page s.offset) same ∙ ap (λ (v : View). u16_at c.freeblock.inside.offset v.bytes) (sym c.page.view_is)
    ∙ sym c.u16_at.ensures ∙ sym c.from-self-inside.ensures in
    place_at page (c.self.inside.number + 1) _ _ _ _ (place_more page c.self.inside.number c.self.inside.end offset c.self.invariant
    c.in_ok-freeblock.ensures.good.0) (ap (λ (s : Span). s.offset + s.len) same) next

pub returns-clause-steps : goal.returns-clause-steps
returns-clause-steps c =
    let page = c.self.inside.page.now in
    let offset = c.self.inside.offset in
    let same : freeblock_at page offset ≡ record { offset = c.freeblock.inside.offset; len = c.freeblock.inside.size } = sym c.in_ok-freeblock.ensures.good.1
    ∙ sym c.freeblock.view_is in
    let next : next_freeblock page offset ≡ c.from-self-inside.result =
    ap (λ (s : Span). next_freeblock page s.offset) same ∙ ap (λ (v : View). u16_at c.freeblock.inside.offset v.bytes) (sym c.page.view_is)
    ∙ sym c.u16_at.ensures ∙ sym c.from-self-inside.ensures in (
      ap (λ (l : Left). l.left) (sym c.self.view_is)
          ∙ left_more page c.self.inside.end offset c.in_ok-freeblock.freeblock _ _ c.in_ok-freeblock.ensures.good.0 (sym c.in_ok-freeblock.ensures.good.1)
          (ap (λ (s : Span). s.offset + s.len) same) next,
      ap (λ (l : Left). l.page) c.self.view_is,
    )

pub returns-clause-goes : goal.returns-clause-goes
returns-clause-goes c =
    record { on = λ finite. (tt, tt, omega (arith, ap length (returns-clause-steps c).0)); keeps = tt; rests = λ finite. tt }

use Rattle.std.proofs.Common.{ℕ, List, [], ◌∷◌, ◌++◌, Some, sym, ap, ◌∙◌, arith, append_assoc}
use Rattle.std.proofs.lemmas.List.{append-nil, length_push}
use Rattle.dbformat.specs.Head.{View, cell_count}
use Rattle.dbformat.specs.Coverage.{Span}
use Rattle.dbpage.proofs.Items.{freeblock_inside, freeblock_marked, freeblock_overlaps, all_marked, next_whole, count_done}
use Rattle.dbpage.proofs.held_bytes.mark_freeblocks.Goals as goal

pub claim-requires-clause-room : goal.claim-requires-clause-room
claim-requires-clause-room g c =
    let v = c.args.view.now in
    let now = c.loop-freeblock.invariant in
    let f : Span = record { offset = c.freeblock.inside.offset; len = c.freeblock.inside.size } in
    let whole = next_whole v now.done c.loop-freeblock.freeblock-iterator.left c.next.new.self.left c.in-Some.freeblock f now.whole c.in-Some.ensures.steps.0
    c.freeblock.view_is in
    let inside = freeblock_inside v now.done c.next.new.self.left f whole in
    omega (arith, inside.1, c.requires.room, c.loop-freeblock.auto.table)

pub claim-requires-clause-fits : goal.claim-requires-clause-fits
claim-requires-clause-fits g c =
    let v = c.args.view.now in
    let now = c.loop-freeblock.invariant in
    let f : Span = record { offset = c.freeblock.inside.offset; len = c.freeblock.inside.size } in
    let whole = next_whole v now.done c.loop-freeblock.freeblock-iterator.left c.next.new.self.left c.in-Some.freeblock f now.whole c.in-Some.ensures.steps.0
    c.freeblock.view_is in
    let inside = freeblock_inside v now.done c.next.new.self.left f whole in
    omega (arith, inside.1, ap (λ (w : View). w.usable) c.view.view_is, c.view.invariant.most)

pub returns-then-not-claim : goal.returns-then-not-claim
returns-then-not-claim g c =
    let v = c.args.view.now in
    let now = c.loop-freeblock.invariant in
    let f : Span = record { offset = c.freeblock.inside.offset; len = c.freeblock.inside.size } in
    let whole = next_whole v now.done c.loop-freeblock.freeblock-iterator.left c.next.new.self.left c.in-Some.freeblock f now.whole c.in-Some.ensures.steps.0
    c.freeblock.view_is in
    let first = freeblock_overlaps v now.done c.next.new.self.left f c.loop-freeblock.table c.loop-freeblock.all now.marked whole c.if-not-claim.ensures.marked
    in
    record {
      marked = (omega (arith, c.if-not-claim.ensures.counted, now.counted, now.marked.counted), first ∙ ap (λ (n : ℕ). Some n) (sym now.number));
    }

pub overflow_add-all : goal.overflow_add-all
overflow_add-all g c =
    let v = c.args.view.now in
    let now = c.loop-freeblock.invariant in
    let f : Span = record { offset = c.freeblock.inside.offset; len = c.freeblock.inside.size } in
    let whole = next_whole v now.done c.loop-freeblock.freeblock-iterator.left c.next.new.self.left c.in-Some.freeblock f now.whole c.in-Some.ensures.steps.0
    c.freeblock.view_is in
    let inside = freeblock_inside v now.done c.next.new.self.left f whole in
    omega (arith, inside.1, now.marked.counted, ap (λ (w : View). w.usable) c.view.view_is, c.view.invariant.most)

pub overflow_add-item : goal.overflow_add-item
overflow_add-item g c =
    let v = c.args.view.now in
    let now = c.loop-freeblock.invariant in
    let f : Span = record { offset = c.freeblock.inside.offset; len = c.freeblock.inside.size } in
    let whole = next_whole v now.done c.loop-freeblock.freeblock-iterator.left c.next.new.self.left c.in-Some.freeblock f now.whole c.in-Some.ensures.steps.0
    c.freeblock.view_is in
    let cells = ap (λ (w : View). cell_count w.number w.bytes) c.view.view_is in
    let usable = ap (λ (w : View). w.usable) c.view.view_is in
    omega (
      arith,
      count_done v now.done c.next.new.self.left f whole,
      now.number,
      c.view.invariant.cells_is,
      c.view.invariant.room,
      c.view.invariant.inside,
      cells,
      usable,
      c.view.invariant.most,
    )

pub loop-freeblock-preserved : goal.loop-freeblock-preserved
loop-freeblock-preserved g c =
    let v = c.args.view.now in
    let now = c.loop-freeblock.invariant in
    let f : Span = record { offset = c.freeblock.inside.offset; len = c.freeblock.inside.size } in
    let whole = next_whole v now.done c.loop-freeblock.freeblock-iterator.left c.next.new.self.left c.in-Some.freeblock f now.whole c.in-Some.ensures.steps.0
    c.freeblock.view_is in
    record {
      done = now.done ++ f ∷ [];
      whole = append_assoc now.done (f ∷ []) c.next.new.self.left ∙ whole;
      marked = freeblock_marked v now.done c.next.new.self.left f c.loop-freeblock.table c.loop-freeblock.all now.marked whole c.claim.new.table
          c.if-not-claim.ensures.marked;
      number = omega (arith, now.number, length_push now.done f);
      counted = omega (arith, now.counted, c.if-not-claim.ensures.counted);
    }

pub returns : goal.returns
returns g c =
    let now = c.loop-freeblock.invariant in
    let none = c.in-None.ensures.steps.0.0 in
    let whole = sym (append-nil now.done) ∙ ap (λ (fs : List Span). now.done ++ fs) (sym none) ∙ now.whole in
    record { marked = (now.counted, all_marked c.args.view.now now.done c.loop-freeblock.table c.loop-freeblock.all now.marked whole) }

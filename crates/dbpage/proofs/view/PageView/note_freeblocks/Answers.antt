use Rattle.std.proofs.Common.{◌≡◌, ℕ, List, [], ◌∷◌, ◌++◌, ◌+◌, ◌≤◌, sym, subst, ap, ◌∙◌, arith, append_assoc}
use Rattle.std.proofs.lemmas.List.{append-nil, length_push}
use Rattle.dbformat.specs.Head.{View, content_start}
use Rattle.dbformat.specs.Coverage.{Span}
use Rattle.dbpage.specs.Notes.{HasNear, Notes, end_at}
use Rattle.dbpage.proofs.Items.{freeblock_inside, next_whole, count_done}
use Rattle.dbpage.proofs.NotedLeaf.{all_noted, freeblock_near, freeblock_noted}
use Rattle.dbpage.proofs.view.PageView.note_freeblocks.Goals as goal

pub note-requires-clause-from : goal.note-requires-clause-from
note-requires-clause-from c =
    let v = c.args.self.now in
    let now = c.loop-freeblock.invariant in
    let f : Span = record { offset = c.freeblock.inside.offset; len = c.freeblock.inside.size } in
    let whole = next_whole v now.done c.loop-freeblock.freeblock-iterator.left c.next.new.self.left c.in-Some.freeblock f now.whole c.in-Some.ensures.steps.0
    c.freeblock.view_is in
    let inside = freeblock_inside v now.done c.next.new.self.left f whole in
    let start : c.self.inside.start ≡ content_start v.number v.bytes =
    omega (arith, c.self.invariant.start_is, ap (λ (w : View). content_start w.number w.bytes) c.self.view_is) in
    omega (arith, start, inside.0)

pub note-requires-clause-room : goal.note-requires-clause-room
note-requires-clause-room c =
    let v = c.args.self.now in
    let now = c.loop-freeblock.invariant in
    let f : Span = record { offset = c.freeblock.inside.offset; len = c.freeblock.inside.size } in
    let whole = next_whole v now.done c.loop-freeblock.freeblock-iterator.left c.next.new.self.left c.in-Some.freeblock f now.whole c.in-Some.ensures.steps.0
    c.freeblock.view_is in
    let inside = freeblock_inside v now.done c.next.new.self.left f whole in
    let start : c.self.inside.start ≡ content_start v.number v.bytes =
    omega (arith, c.self.invariant.start_is, ap (λ (w : View). content_start w.number w.bytes) c.self.view_is) in
    omega (arith, start, inside.0, inside.1, inside.2, c.requires.room, c.loop-freeblock.auto.table)

pub note-requires-clause-some : goal.note-requires-clause-some
note-requires-clause-some c =
    let v = c.args.self.now in
    let now = c.loop-freeblock.invariant in
    let f : Span = record { offset = c.freeblock.inside.offset; len = c.freeblock.inside.size } in
    let whole = next_whole v now.done c.loop-freeblock.freeblock-iterator.left c.next.new.self.left c.in-Some.freeblock f now.whole c.in-Some.ensures.steps.0
    c.freeblock.view_is in
    let inside = freeblock_inside v now.done c.next.new.self.left f whole in
    omega (arith, inside.2)

pub note-requires-clause-short : goal.note-requires-clause-short
note-requires-clause-short c =
    let v = c.args.self.now in
    let now = c.loop-freeblock.invariant in
    let f : Span = record { offset = c.freeblock.inside.offset; len = c.freeblock.inside.size } in
    let whole = next_whole v now.done c.loop-freeblock.freeblock-iterator.left c.next.new.self.left c.in-Some.freeblock f now.whole c.in-Some.ensures.steps.0
    c.freeblock.view_is in
    let inside = freeblock_inside v now.done c.next.new.self.left f whole in
    omega (arith, inside.1, c.requires.short)

pub returns-then-not-note : goal.returns-then-not-note
returns-then-not-note c =
    let v = c.args.self.now in
    let now = c.loop-freeblock.invariant in
    let f : Span = record { offset = c.freeblock.inside.offset; len = c.freeblock.inside.size } in
    let whole = next_whole v now.done c.loop-freeblock.freeblock-iterator.left c.next.new.self.left c.in-Some.freeblock f now.whole c.in-Some.ensures.steps.0
    c.freeblock.view_is in
    let inside = freeblock_inside v now.done c.next.new.self.left f whole in
    let start : c.self.inside.start ≡ content_start v.number v.bytes =
    omega (arith, c.self.invariant.start_is, ap (λ (w : View). content_start w.number w.bytes) c.self.view_is) in
    let before : f.offset ≤ v.usable = omega (arith, inside.1) in
    freeblock_near v now.done c.next.new.self.left f c.loop-freeblock.table c.loop-freeblock.all now.noted whole
    (subst (λ (n : ℕ). HasNear (end_at c.loop-freeblock.table n v.usable) f.offset) start (c.if-not-note.ensures v.usable before))

pub overflow_add-all : goal.overflow_add-all
overflow_add-all c =
    let v = c.args.self.now in
    let now = c.loop-freeblock.invariant in
    let f : Span = record { offset = c.freeblock.inside.offset; len = c.freeblock.inside.size } in
    let whole = next_whole v now.done c.loop-freeblock.freeblock-iterator.left c.next.new.self.left c.in-Some.freeblock f now.whole c.in-Some.ensures.steps.0
    c.freeblock.view_is in
    let inside = freeblock_inside v now.done c.next.new.self.left f whole in
    omega (arith, now.few, c.requires.few, count_done v now.done c.next.new.self.left f whole, inside.1, c.requires.short)

pub loop-freeblock-preserved : goal.loop-freeblock-preserved
loop-freeblock-preserved c =
    let v = c.args.self.now in
    let now = c.loop-freeblock.invariant in
    let f : Span = record { offset = c.freeblock.inside.offset; len = c.freeblock.inside.size } in
    let whole = next_whole v now.done c.loop-freeblock.freeblock-iterator.left c.next.new.self.left c.in-Some.freeblock f now.whole c.in-Some.ensures.steps.0
    c.freeblock.view_is in
    let inside = freeblock_inside v now.done c.next.new.self.left f whole in
    let start : c.self.inside.start ≡ content_start v.number v.bytes =
    omega (arith, c.self.invariant.start_is, ap (λ (w : View). content_start w.number w.bytes) c.self.view_is) in
    let before : f.offset ≤ v.usable = omega (arith, inside.1) in
    record {
      done = now.done ++ f ∷ [];
      whole = append_assoc now.done (f ∷ []) c.next.new.self.left ∙ whole;
      noted = freeblock_noted v now.done c.next.new.self.left f c.loop-freeblock.table c.loop-freeblock.all now.noted whole c.note.new.table
          (subst (λ (n : ℕ). Notes (end_at c.loop-freeblock.table n v.usable) (end_at c.note.new.table n v.usable) f.offset (f.offset + f.len)) start
          (c.if-not-note.ensures v.usable before));
      few = omega (arith, now.few, length_push now.done f, inside.1, c.requires.short);
    }

pub returns : goal.returns
returns c =
    let now = c.loop-freeblock.invariant in
    let none = c.in-None.ensures.steps.0.0 in
    let whole = sym (append-nil now.done) ∙ ap (λ (fs : List Span). now.done ++ fs) (sym none) ∙ now.whole in
    all_noted c.args.self.now now.done c.loop-freeblock.table c.loop-freeblock.all now.noted whole

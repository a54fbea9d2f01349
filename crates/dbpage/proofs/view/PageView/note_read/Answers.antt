use Rattle.std.proofs.Common.{◌≡◌, ◌+◌, ◌≤◌, ℕ, Ok, max, refl, ap, sym, subst, ◌∙◌, arith}
use Rattle.dbformat.specs.Head.{View, cell_count, content_start}
use Rattle.dbformat.specs.Cell.{Cell, cell}
use Rattle.dbpage.specs.Marking.{Holds, cells_upto}
use Rattle.dbpage.specs.Notes.{AreNotedIn, HasNear, Notes, end_at}
use Rattle.dbpage.specs.Packed.{AddUpTo}
use Rattle.dbpage.specs.declared.packed.CellSums.{CellSums}
use Rattle.dbpage.proofs.Items.{Holds-from_read}
use Rattle.dbpage.proofs.NotedLeaf.{Holds-four, cell_near, cell_noted}
use Rattle.dbpage.proofs.view.PageView.note_read.Goals as goal

-- what a cell that was read holds, four bytes at least
held_four : (v : View) (i : ℕ) (d : Cell) (offset len : ℕ) (sums : CellSums) → cell v i ≡ Ok d → offset ≡ d.offset → len ≡ max d.len 4 → AddUpTo v (i + 1) sums
    → Holds v i offset len × (4 ≤ len)
held_four v i d offset len sums found at size read =
    let has = Holds-from_read v i d offset len found (sym at) (sym size) in
    (has, Holds-four v i offset len has (read.readable i (omega arith)))

pub note-requires-clause-from : goal.note-requires-clause-from
note-requires-clause-from c =
    let v = c.args.self.now in
    let has = held_four v c.args.i c.args.found.now c.found.inside.offset c.max-len.result c.add_above.new.sums c.requires.read
    (ap (λ (e : Cell). e.offset) c.found.view_is) (c.max-len.ensures ∙ ap (λ (e : Cell). max e.len 4) c.found.view_is) c.add_above.ensures.added in
    omega (arith, has.0.from_start, c.self.invariant.start_is, ap (λ (w : View). content_start w.number w.bytes) c.self.view_is)

pub note-requires-clause-room : goal.note-requires-clause-room
note-requires-clause-room c =
    let v = c.args.self.now in
    let has = held_four v c.args.i c.args.found.now c.found.inside.offset c.max-len.result c.add_above.new.sums c.requires.read
    (ap (λ (e : Cell). e.offset) c.found.view_is) (c.max-len.ensures ∙ ap (λ (e : Cell). max e.len 4) c.found.view_is) c.add_above.ensures.added in
    omega (arith, has.0.ends, has.1, c.requires.room)

pub note-requires-clause-short : goal.note-requires-clause-short
note-requires-clause-short c =
    let v = c.args.self.now in
    let has = held_four v c.args.i c.args.found.now c.found.inside.offset c.max-len.result c.add_above.new.sums c.requires.read
    (ap (λ (e : Cell). e.offset) c.found.view_is) (c.max-len.ensures ∙ ap (λ (e : Cell). max e.len 4) c.found.view_is) c.add_above.ensures.added in
    omega (arith, has.0.ends, c.requires.short)

pub returns-then-not-note : goal.returns-then-not-note
returns-then-not-note c =
    let v = c.args.self.now in
    let i = c.args.i in
    let table = c.args.table.now in
    let held = c.args.noted.now.held in
    let has = held_four v i c.args.found.now c.found.inside.offset c.max-len.result c.add_above.new.sums c.requires.read
    (ap (λ (e : Cell). e.offset) c.found.view_is) (c.max-len.ensures ∙ ap (λ (e : Cell). max e.len 4) c.found.view_is) c.add_above.ensures.added in
    let start : c.self.inside.start ≡ content_start v.number v.bytes =
    omega (arith, c.self.invariant.start_is, ap (λ (w : View). content_start w.number w.bytes) c.self.view_is) in
    let before : c.found.inside.offset ≤ v.usable = omega (arith, has.0.ends) in
    let was = subst (λ (n : ℕ). AreNotedIn v (cells_upto v n) table held) c.requires.next c.requires.before.noted in
    cell_near v i table held was c.found.inside.offset c.max-len.result has.0 has.1 c.requires.within
    (subst (λ (n : ℕ). HasNear (end_at table n v.usable) c.found.inside.offset) start (c.if-not-note.ensures v.usable before))

pub overflow_add-noted : goal.overflow_add-noted
overflow_add-noted c =
    let v = c.args.self.now in
    let has = held_four v c.args.i c.args.found.now c.found.inside.offset c.max-len.result c.add_above.new.sums c.requires.read
    (ap (λ (e : Cell). e.offset) c.found.view_is) (c.max-len.ensures ∙ ap (λ (e : Cell). max e.len 4) c.found.view_is) c.add_above.ensures.added in
    omega (
      arith,
      c.requires.before.small,
      c.requires.next,
      c.requires.within,
      c.self.invariant.cells_is,
      ap (λ (w : View). cell_count w.number w.bytes) c.self.view_is,
      c.self.invariant.room,
      c.self.invariant.inside,
      ap (λ (w : View). w.usable) c.self.view_is,
      has.0.ends,
      c.requires.short,
    )

pub returns : goal.returns
returns c =
    let v = c.args.self.now in
    let i = c.args.i in
    let table = c.args.table.now in
    let held = c.args.noted.now.held in
    let offset = c.found.inside.offset in
    let len = c.max-len.result in
    let has = held_four v i c.args.found.now offset len c.add_above.new.sums c.requires.read
    (ap (λ (e : Cell). e.offset) c.found.view_is) (c.max-len.ensures ∙ ap (λ (e : Cell). max e.len 4) c.found.view_is) c.add_above.ensures.added in
    let start : c.self.inside.start ≡ content_start v.number v.bytes =
    omega (arith, c.self.invariant.start_is, ap (λ (w : View). content_start w.number w.bytes) c.self.view_is) in
    let before : offset ≤ v.usable = omega (arith, has.0.ends) in
    let was = subst (λ (n : ℕ). AreNotedIn v (cells_upto v n) table held) c.requires.next c.requires.before.noted in
    let new = c.note.new.table in
    let written = c.if-not-note.ensures v.usable before in
    let notes = subst (λ (n : ℕ). Notes (end_at table n v.usable) (end_at new n v.usable) offset (offset + len)) start written in (
      record {
        few = omega (arith, c.requires.within);
        read = c.add_above.ensures.added;
        noted = cell_noted v i table held was offset len has.0 has.1 new notes;
        small = omega (arith, c.requires.before.small, c.requires.next, has.0.ends, c.requires.short);
      },
      refl,
      c.add_above.ensures.last,
    )

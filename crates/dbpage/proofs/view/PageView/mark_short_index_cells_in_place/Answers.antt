use Rattle.std.proofs.Common.{◌≡◌, ◌+◌, ◌-◌, ◌<◌, ℕ, Ok, max, length, refl, ap, sym, subst, ◌∙◌, arith}
use Rattle.dbformat.specs.Head.{View, cell_count, content_start}
use Rattle.dbformat.specs.Cell.{Cell, cell, count}
use Rattle.dbpage.specs.Beginning.{IsShort}
use Rattle.dbpage.specs.Marking.{AreMarked, Holds, cells_upto}
use Rattle.dbpage.proofs.Items.{Holds-from_read, cell_marked, cell_overlaps}
use Rattle.dbpage.proofs.CellLemmas.{cell_local}
use Rattle.dbpage.proofs.PackedLemmas.{keyless_more, keyless_read, unpacked_at_overlap}
use Rattle.dbpage.proofs.view.PageView.mark_short_index_cells_in_place.Goals as goal

-- what a short cell holds
short_holds : (v : View) (i : ℕ) (d : Cell) (offset len : ℕ) → (cell v i ≡ Ok d) × IsShort d → offset ≡ d.offset → len ≡ d.len
    → Holds v i offset len
short_holds v i d offset len found at size =
    let longest : max d.len 4 ≡ len = omega (arith, found.1.four, size) in
    Holds-from_read v i d offset len found.0 (sym at) longest

pub claim-requires-clause-room : goal.claim-requires-clause-room
claim-requires-clause-room g c =
    let has = short_holds c.args.self.now c.loop-i.i c.in-Some.cell c.cell.inside.offset c.cell.inside.len c.in-Some.ensures
    (ap (λ (e : Cell). e.offset) c.cell.view_is) (ap (λ (e : Cell). e.len) c.cell.view_is) in
    omega (arith, has.ends, c.requires.room, c.loop-i.auto.table)

pub claim-requires-clause-fits : goal.claim-requires-clause-fits
claim-requires-clause-fits g c =
    let has = short_holds c.args.self.now c.loop-i.i c.in-Some.cell c.cell.inside.offset c.cell.inside.len c.in-Some.ensures
    (ap (λ (e : Cell). e.offset) c.cell.view_is) (ap (λ (e : Cell). e.len) c.cell.view_is) in
    omega (arith, has.ends, ap (λ (w : View). w.usable) c.self.view_is, c.self.invariant.most)

pub loop-i-init : goal.loop-i-init
loop-i-init g c =
    let v = c.args.self.now in
    let b = c.args.begun.now in
    record {
      cells = refl;
      from = omega arith;
      more = omega arith;
      read = keyless_read v b.cells b.sums c.requires.begun.read c.requires.kind;
      marked = subst (λ (n : ℕ). AreMarked (cells_upto v b.cells) (content_start v.number v.bytes) v.usable c.args.table.now n) (omega arith) c.requires.marked;
    }

pub returns-then-not-claim : goal.returns-then-not-claim
returns-then-not-claim g c =
    let v = c.args.self.now in
    let i = c.loop-i.i in
    let b = c.args.begun.now in
    let has = short_holds v i c.in-Some.cell c.cell.inside.offset c.cell.inside.len c.in-Some.ensures
    (ap (λ (e : Cell). e.offset) c.cell.view_is) (ap (λ (e : Cell). e.len) c.cell.view_is) in
    let within : i < count v = omega (arith, c.loop-i-test.true, c.self.invariant.cells_is, ap (λ (w : View). cell_count w.number w.bytes) c.self.view_is) in
    let held : ℕ = c.args.in_cells + (c.loop-i.payload - b.sums.payload) + (i - b.cells) in
    unpacked_at_overlap v i (cell_overlaps v i c.loop-i.table held c.loop-i.invariant.marked c.cell.inside.offset c.cell.inside.len within has
    c.if-not-claim.ensures.marked)

pub loop-i-preserved : goal.loop-i-preserved
loop-i-preserved g c =
    let v = c.args.self.now in
    let i = c.loop-i.i in
    let b = c.args.begun.now in
    let d = c.in-Some.cell in
    let now = c.loop-i.invariant in
    let short = c.in-Some.ensures.1 in
    let len = c.cell.inside.len in
    let size = ap (λ (e : Cell). e.len) c.cell.view_is in
    let has = short_holds v i d c.cell.inside.offset len c.in-Some.ensures (ap (λ (e : Cell). e.offset) c.cell.view_is) size in
    let local = ap (λ (e : Cell). length e.local) c.cell.view_is in
    let payload : ℕ = c.loop-i.payload + length c.cell.inside.local.now in
    let held : ℕ = c.args.in_cells + (c.loop-i.payload - b.sums.payload) + (i - b.cells) in
    let all : held + len ≡ c.args.in_cells + (payload - b.sums.payload) + (i + 1 - b.cells) = omega (arith, size, local, short.one, now.from, now.more) in
    let fits = cell_local v i d c.in-Some.ensures.0 in
    record {
      cells = refl;
      from = omega (arith, now.from);
      more = omega (arith, now.more);
      read = keyless_more v i b.sums c.loop-i.payload c.loop-i.greatest d now.read c.in-Some.ensures.0
          (omega (arith, fits, ap (λ (w : View). w.usable) c.self.view_is, c.self.invariant.most)) short.keyless short.whole _ _
          (ap (λ (n : ℕ). c.loop-i.payload + n) local) (c.max-greatest.ensures ∙ ap (λ (e : Cell). max c.loop-i.greatest e.size) c.cell.view_is);
      marked = subst (λ (n : ℕ). AreMarked (cells_upto v (i + 1)) (content_start v.number v.bytes) v.usable c.claim.new.table n) all
          (cell_marked v i c.loop-i.table held now.marked c.cell.inside.offset len c.claim.new.table has c.if-not-claim.ensures.marked);
    }

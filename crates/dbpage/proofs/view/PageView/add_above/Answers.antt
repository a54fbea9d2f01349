use Rattle.std.proofs.Common.{◌≡◌, ◌+◌, ◌||◌, Bool, true, false, max, length, refl, sym, ap, ◌∙◌, arith}
use Rattle.std.proofs.Math.Bool.{or-true}
use Rattle.std.specs.Prelude.{is_some}
use Rattle.dbformat.specs.Head.{View, cell_count}
use Rattle.dbformat.specs.Cell.{Cell}
use Rattle.dbpage.proofs.CellLemmas.{cell_local}
use Rattle.dbpage.proofs.PackedLemmas.{one_more_read}
use Rattle.dbpage.proofs.view.PageView.add_above.Goals as goal

pub overflow_cast-sums : goal.overflow_cast-sums
overflow_cast-sums c =
    let fits = cell_local c.args.self.now c.args.i c.args.found.now c.requires.read in
    omega (arith, fits, ap (λ (d : Cell). length d.local) c.found.view_is, ap (λ (w : View). w.usable) c.self.view_is, c.self.invariant.most)

pub overflow_add-sums : goal.overflow_add-sums
overflow_add-sums c =
    let fits = cell_local c.args.self.now c.args.i c.args.found.now c.requires.read in
    omega (
      arith,
      fits,
      ap (λ (d : Cell). length d.local) c.found.view_is,
      ap (λ (w : View). w.usable) c.self.view_is,
      ap (λ (w : View). cell_count w.number w.bytes) c.self.view_is,
      c.self.invariant,
      c.requires.before.few,
      c.requires.within,
    )

pub returns-then-is_some-clause-added : goal.returns-then-is_some-clause-added
returns-then-is_some-clause-added c =
    let v = c.args.self.now in
    let sums = c.args.sums.now in
    let same = c.found.view_is in
    let fits = cell_local v c.args.i c.args.found.now c.requires.read in
    let key = ap (λ (e : Cell). e.key) same in
    let some = sym c.if-is_some.true ∙ c.is_some.ensures ∙ ap (λ (e : Cell). is_some e.overflow) same in
    one_more_read v c.args.i sums c.requires.before c.args.found.now c.requires.read
    (omega (arith, fits, ap (λ (w : View). w.usable) c.self.view_is, c.self.invariant.most)) c.requires.rising _
    (ap (λ (e : Cell). sums.payload + length e.local) same) (c.max-sums.ensures ∙ ap (λ (e : Cell). max sums.greatest e.size) same) refl key
    (sym (or-true sums.has_overflow) ∙ ap (λ (o : Bool). sums.has_overflow || o) some)

or_false : (b : Bool) → b ≡ (b || false)
or_false true = refl
or_false false = refl

pub returns-else-is_some-clause-added : goal.returns-else-is_some-clause-added
returns-else-is_some-clause-added c =
    let v = c.args.self.now in
    let sums = c.args.sums.now in
    let same = c.found.view_is in
    let fits = cell_local v c.args.i c.args.found.now c.requires.read in
    let key = ap (λ (e : Cell). e.key) same in
    let none = sym c.if-is_some.false ∙ c.is_some.ensures ∙ ap (λ (e : Cell). is_some e.overflow) same in
    one_more_read v c.args.i sums c.requires.before c.args.found.now c.requires.read
    (omega (arith, fits, ap (λ (w : View). w.usable) c.self.view_is, c.self.invariant.most)) c.requires.rising _
    (ap (λ (e : Cell). sums.payload + length e.local) same) (c.max-sums.ensures ∙ ap (λ (e : Cell). max sums.greatest e.size) same) refl key
    (or_false sums.has_overflow ∙ ap (λ (o : Bool). sums.has_overflow || o) none)

use Rattle.std.proofs.Common.{rules, ◌≡◌, ◌<◌, [], ◌∷◌, false, ◌||◌, length, get_or, sym, ap, ◌∙◌, arith}
use Rattle.std.specs.List.{list_any, range_with_len}
use Rattle.std.proofs.lemmas.List.Folds.{list_any_at, list_any-append}
use Rattle.std.proofs.lemmas.List.FromFn.{get_or-range_with_len, length-range_with_len}
use Rattle.dbformat.proofs.Looping.{range-one-more}
use Rattle.dbformat.specs.Cell.{count}
use Rattle.dbformat.specs.Runs.{begins_in}
use Rattle.dbpage.proofs.view.PageView.has_cell_in.Goals as goal

pub returns-then-begins_in : goal.returns-then-begins_in
returns-then-begins_in c =
    let v = c.args.self.now in
    let i = c.loop-i.i in
    let n = count v in
    let low : c.loop-i.i < count c.args.self.now = search rules in
    let room : i < length (range_with_len 0 n) = omega (arith, length-range_with_len 0 n) in
    let place : get_or (range_with_len 0 n) i 0 ≡ i = get_or-range_with_len 0 n i 0 low ∙ (omega arith) in
    sym (list_any_at (begins_in v c.args.run) (range_with_len 0 n) i 0 room (ap (begins_in v c.args.run) place ∙ sym c.begins_in.ensures ∙ c.if-begins_in.true))

pub loop-i-preserved : goal.loop-i-preserved
loop-i-preserved c =
    let begins = begins_in c.args.self.now c.args.run in
    let i = c.loop-i.i in
    let here = sym c.begins_in.ensures ∙ c.if-begins_in.false in
    ap (list_any begins) (range-one-more i) ∙ list_any-append begins (range_with_len 0 i) (i ∷ []) ∙ ap (λ b. b || (begins i || false)) c.loop-i.invariant
    ∙ ap (λ b. b || false) here

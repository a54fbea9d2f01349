use Rattle.std.proofs.Common.{sym, ◌∙◌, arith}
use Rattle.dbbytes.proofs.SieveLemmas.{row_checked, row_done, row_bodies_short, row_size_short, row_types_short, row_after-malformed, taken_row}
use Rattle.dbbytes.proofs.sieve.RowSieve.finish.Goals as goal

pub returns-then-left-gt0 : goal.returns-then-left-gt0
returns-then-left-gt0 c = λ size e bytes h. sym (row_bodies_short c.args.self.now c.in-Bodies.types c.in-Bodies.left c.in-Bodies.is (λ none. omega arith))
    ∙ taken_row h

pub returns-else-left-gt0 : goal.returns-else-left-gt0
returns-else-left-gt0 c = λ size e bytes h.
    let s = c.args.self.now in
    c.checked.ensures ∙ row_checked s.encoding c.in-Bodies.types s.kind.bytes.items s.name.bytes.items s.root.bytes.items _ _ _ _ _ _
    c.row_kind.ensures c.bytes.ensures.value c.row_name.ensures c.bytes-in-Bodies-2.ensures.value
    c.root_number.ensures c.bytes-in-Bodies.ensures.value
    ∙ sym (row_done s c.in-Bodies.types c.in-Bodies.left c.in-Bodies.is (omega arith)) ∙ taken_row h

pub returns-in-HeaderSize : goal.returns-in-HeaderSize
returns-in-HeaderSize c = λ size e bytes h. sym (row_size_short c.args.self.now _ _ c.in-HeaderSize.is) ∙ taken_row h

pub returns-in-SerialTypes : goal.returns-in-SerialTypes
returns-in-SerialTypes c = λ size e bytes h. sym (row_types_short c.args.self.now _ c.in-SerialTypes.is) ∙ taken_row h

pub returns-in-Malformed : goal.returns-in-Malformed
returns-in-Malformed c = λ size e bytes h. sym (row_after-malformed c.args.self.now _ c.in-Malformed.is) ∙ taken_row h

use Rattle.std.proofs.Common.{◌≡◌, length, arith}
use Rattle.dbbytes.proofs.RecordLemmas.{type_next, type_last, type_long}
use Rattle.dbbytes.proofs.record_header.RecordHeader.with_type.Goals as goal

pub returns-then-self-lt-COLUMNS : goal.returns-then-self-lt-COLUMNS
returns-then-self-lt-COLUMNS c = λ e more.
    let s = c.args.self in
    let five : length s.types ≡ 5 = omega arith in
    type_next e s.left s.bodies s.count c.args.value c.new.result.length c.new.result.value s.types more
    (omega arith) (omega arith) five c.new.ensures.length c.new.ensures.value

pub returns-then-left-eq0 : goal.returns-then-left-eq0
returns-then-left-eq0 c = λ e more.
    let s = c.args.self in
    let five : length s.types ≡ 5 = omega arith in
    type_last e s.left s.bodies s.count c.args.value s.types more (omega arith) (omega arith) (omega arith) (omega arith) five

pub returns-else-left-eq0 : goal.returns-else-left-eq0
returns-else-left-eq0 c = λ e more.
    let s = c.args.self in
    type_long e _ s.left s.bodies s.count c.args.value s.types more c.if-left-eq0.false (omega arith)

use Rattle.std.proofs.Common.{◌-◌, take, ◌∙◌, arith}
use Rattle.dbbytes.proofs.RecordLemmas.{push_none, push_more, push_whole}
use Rattle.dbbytes.proofs.record_header.RecordHeader.push.Goals as goal

pub returns-then-self-eq0 : goal.returns-then-self-eq0
returns-then-self-eq0 c = λ e more.
    let s = c.args.self in
    push_none e _ s.left s.bodies (take s.count s.types) (4 - s.count) s.number.length s.number.value _ c.if-self-eq0.true

pub returns-in-More : goal.returns-in-More
returns-in-More c = λ e more.
    let s = c.args.self in
    push_more e s.left s.bodies (take s.count s.types) (4 - s.count) s.number.length s.number.value c.in-More.number.length c.in-More.number.value
    c.args.byte more (omega arith) c.in-More.ensures.number

pub returns-in-Whole : goal.returns-in-Whole
returns-in-Whole c = λ e more.
    let s = c.args.self in
    c.with_type.ensures e more ∙ push_whole e s.left s.bodies (take s.count s.types) (4 - s.count) s.number.length s.number.value c.in-Whole.value
    c.in-Whole.length
    c.args.byte more (omega arith) c.in-Whole.ensures.number

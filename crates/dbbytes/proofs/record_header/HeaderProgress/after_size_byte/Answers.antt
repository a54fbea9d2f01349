use Rattle.std.proofs.Common.{◌<◌, ◌⊎◌, inl, inr, arith}
use Rattle.dbbytes.proofs.RecordLemmas.{size_more, size_bad, size_good}
use Rattle.dbbytes.proofs.record_header.HeaderProgress.after_size_byte.Goals as goal
use Rattle.dbbytes.proofs.record_header.HeaderProgress.after_size_byte.Goals.{then-value-from-via-then-value-from}
use Rattle.dbbytes.proofs.record_header.HeaderProgress.after_size_byte.Goals.{then-value-from-via-else-value-from+then-value-from-2}

pub returns-then-value-from : goal.returns-then-value-from
returns-then-value-from c = λ e more.
    let n = c.args.number in
    let bad : (c.in-Whole.value < c.in-Whole.length) ⊎ (c.args.size < c.in-Whole.value)
    = elim c.then-value-from.branch [
      | then-value-from-via-then-value-from w ↦ inl (omega arith)
      | then-value-from-via-else-value-from+then-value-from-2 w ↦ inr
          (omega arith)
    ] in
    size_bad e _ c.args.size n.length n.value c.in-Whole.value c.in-Whole.length c.args.byte more c.in-Whole.ensures.number bad

pub returns-in-More : goal.returns-in-More
returns-in-More c = λ e more.
    let n = c.args.number in
    size_more e c.args.size n.length n.value c.in-More.number.length c.in-More.number.value c.args.byte more c.in-More.ensures.length c.in-More.ensures.number

pub returns-else-value-from-2 : goal.returns-else-value-from-2
returns-else-value-from-2 c = λ e more.
    let n = c.args.number in
    let h = c.new.result in
    let same = c.from-in-Whole.ensures in
    size_good e c.args.size n.length n.value c.in-Whole.value c.in-Whole.length c.args.byte h.left h.bodies h.number.length h.number.value h.types more h.count
    c.in-Whole.ensures.number (omega arith) (omega arith) c.in-Whole.ensures.length (omega (arith, c.new.ensures.left)) (omega (arith, c.new.ensures.bodies))
    c.new.ensures.count c.new.ensures.length c.new.ensures.value

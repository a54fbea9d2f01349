use Rattle.std.proofs.Common.{ℕ, ◌/◌, ap, arith}
use Rattle.dbpage.proofs.Fives.{five_by_bits, five_spelled}
use Rattle.dbpage.proofs.whole_cells.five_bytes.Goals as goal

pub returns-clause-five : goal.returns-clause-five
returns-clause-five c = five_by_bits _ (omega arith) c.if-five-ne-FIVE_BYTES.false

pub returns-clause-value : goal.returns-clause-value
returns-clause-value c =
    five_spelled c.args.bytes.now _ c.requires (λ j. (c.type_inv.bytes j).fits) (ap (λ (n : ℕ). n / 16777216) c.read_u64-five.ensures)
    (five_by_bits _ (omega arith) c.if-five-ne-FIVE_BYTES.false)

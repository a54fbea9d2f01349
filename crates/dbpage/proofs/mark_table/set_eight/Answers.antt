use Rattle.std.proofs.Common.{◌≡◌, ℕ, ◌+◌, ◌-◌, ◌*◌, subst, arith}
use borrow.Rule.Slice.PartMut.{put_mid}
use Rattle.std.specs.Int.{bit_at}
use Rattle.dbpage.specs.Marking.{mark_bit}
use Rattle.dbpage.proofs.Tables.{new_bit, same_bit}
use Rattle.dbpage.proofs.mark_table.set_eight.Goals as goal

pub returns : goal.returns
returns c =
    let table = c.args.table.now in
    let start = c.args.start in
    let part = c.write_u64.new.buf in
    let eight : 8 ≡ start + 8 - start = omega arith in
    record {
      inside = λ byte low high. subst (λ (n : ℕ). mark_bit (put_mid start n table part) byte ≡ bit_at c.args.marks (byte - 8 * start)) eight
          (new_bit table start c.requires c.args.marks c.ranges.marks.fits part c.write_u64.ensures byte low high);
      outside = λ byte h. subst (λ (n : ℕ). mark_bit (put_mid start n table part) byte ≡ mark_bit table byte) eight
          (same_bit table start c.requires c.args.marks c.ranges.marks.fits part c.write_u64.ensures byte h);
    }

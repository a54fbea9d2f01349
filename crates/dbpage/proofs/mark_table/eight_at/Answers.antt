use Rattle.std.proofs.Common.{ℕ, ◌-◌, ◌*◌, ap, ◌∙◌}
use Rattle.std.specs.Int.{bit_at}
use Rattle.dbpage.proofs.Tables.{bit_is_mark}
use Rattle.dbpage.proofs.mark_table.eight_at.Goals as goal

pub returns : goal.returns
returns c =
    λ byte low high.
    ap (λ (n : ℕ). bit_at n (byte - 8 * c.args.start)) c.read_u64.ensures
    ∙ bit_is_mark c.args.table.now c.args.start c.requires (λ j. (c.type_inv.table j).fits) byte low high

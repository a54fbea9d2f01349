use Rattle.std.proofs.Common.{not, w8, arith}
use Rattle.std.specs.Prelude.{nat_eq}
use Rattle.std.proofs.lemmas.Simd.{bitmask_splat, length-chunk}
use lib.Lanes.{chunk}
use Rattle.dbpage.proofs.Lanes.{other_or_none}
use Rattle.dbpage.proofs.mark_table.has_other.Goals as goal

pub returns : goal.returns
returns c =
    let table = c.args.table.now in
    let start = c.args.start in
    other_or_none table c.args.one start _ c.requires (λ j. (c.type_inv.table j).fits)
    (bitmask_splat w8 (λ a b. not (nat_eq a b)) (chunk start 32 table) 32 c.args.one (length-chunk start 32 table c.requires) (omega arith))

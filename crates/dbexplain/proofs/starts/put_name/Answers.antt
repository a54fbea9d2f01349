use Rattle.std.proofs.Common.{◌≡◌, true, false, ◌++◌, ap, ◌∙◌, arith}
use Rattle.std.specs.Prelude.{codes, decimal, ◌==◌}
use Rattle.std.proofs.lemmas.Bool.Decides.{nat_tests}
use Rattle.dbformat.specs.Address.{freelist_start}
use Rattle.dblines.proofs.Writing.{wrote_as, wrote_then}
use Rattle.dbexplain.proofs.SumPieces.{freelist_name, tree_name}
use Rattle.dbexplain.proofs.starts.put_name.Goals as goal

pub returns-then-start-eq-FREELIST_START : goal.returns-then-start-eq-FREELIST_START
returns-then-start-eq-FREELIST_START g c =
    let on : (c.args.start == freelist_start) ≡ true = grind (arith, nat_tests, c.if-start-eq-FREELIST_START.true) in
    wrote_as (freelist_name c.args.names.now.encoding c.args.names.now.roots.now.rows c.args.start on) c.put.ensures

pub returns : goal.returns
returns g c =
    let off : (c.args.start == freelist_start) ≡ false = grind (arith, nat_tests, c.if-start-eq-FREELIST_START.false) in
    let root = c.as_slice.ensures.value ∙ c.root_text.ensures ∙ ap (λ n. codes " (root page " ++ decimal n ++ codes ")") c.root_page.ensures in
    wrote_as (tree_name c.args.names.now.encoding c.args.names.now.roots.now.rows c.args.start off)
    (wrote_then c.put_tree.ensures (wrote_as root c.put-2.ensures))

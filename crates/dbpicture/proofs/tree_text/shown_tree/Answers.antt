use Rattle.dbscan.specs.Texts.{tree_of_row}
use Rattle.dbpicture.proofs.KeptTexts.{kept_is}
use Rattle.dbpicture.proofs.tree_text.shown_tree.Goals as goal

pub returns : goal.returns
returns g c =
    kept_is c.put_tree.result c.put_tree.new.out (tree_of_row c.args.names.now.encoding c.args.names.now.roots.now.rows c.args.start) c.of.result
    (rw c.new-kept.ensures at c.put_tree.ensures) c.of.ensures.bytes c.of.ensures.full c.of.ensures.most

use Rattle.std.proofs.Common.{refl, sym, ◌∙◌}
use Rattle.dbpage.proofs.PackedLemmas.{key_at-keyless}
use Rattle.dbpage.proofs.view.PageView.key_of_first.Goals as goal

pub returns-in-LeafIndex : goal.returns-in-LeafIndex
returns-in-LeafIndex c = record { some = λ h. key_at-keyless c.args.self.now 0 (sym c.requires ∙ c.in-LeafIndex.is); none = λ h. refl }

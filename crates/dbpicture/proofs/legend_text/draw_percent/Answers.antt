use Rattle.std.proofs.Common.{◌≡◌, ℕ, ◌+◌, ◌*◌, ◌/◌, [], max, refl}
use Rattle.dbpicture.specs.Pieces.{tenths_text}
use Rattle.dbpicture.specs.Legends.{percent_text, right_text}
use Rattle.dbpicture.specs.declared.legend.Label.{Label}
use Rattle.dbpicture.specs.declared.legend.Label.TheVariants.{After, Missing}
use Rattle.dbpicture.proofs.legend_text.draw_percent.Goals as goal

of_others : (label : Label) (pages all y : ℕ) → (label ≡ Missing → ⊥) → (label ≡ After → ⊥)
    → percent_text label pages all y ≡ right_text 860 y (tenths_text ((pages * 2000 + max all 1) / (2 * max all 1))) []
of_others Missing pages all y d e = absurd (d refl)
of_others After pages all y d e = absurd (e refl)
of_others _ pages all y d e = refl

pub returns-in_default : goal.returns-in_default
returns-in_default g c =
    rw (of_others c.args.line.now.label c.args.line.now.share.pages c.args.all c.args.y c.in_default.not-Missing c.in_default.not-After)
    (rw (c.max-all.ensures, c.from.ensures, c.from-in_default.ensures) at c.draw_right.ensures)

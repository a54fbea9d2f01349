use Rattle.dblines.proofs.Writing.{wrote_then}
use Rattle.dbpicture.specs.Legends.{label_text}
use Rattle.dbpicture.proofs.legend_text.draw_label.Goals as goal

pub returns : goal.returns
unfolding label_text
returns g c =
    let end = rw c.words.ensures at c.write_all-2.ensures in
    wrote_then c.write_all.ensures (wrote_then c.draw_subject.ensures end)

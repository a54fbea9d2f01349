use Rattle.dbpicture.proofs.legend_text.draw_box.Goals as goal

pub returns : goal.returns
returns g c = rw (c.shade_letter.ensures) at c.write_all.ensures

use Rattle.dbpicture.proofs.legend_text.draw_frame.Goals as goal

pub returns : goal.returns
returns g c = rw (c.saturating_sub.ensures, c.frame_end.ensures) at c.write_all.ensures

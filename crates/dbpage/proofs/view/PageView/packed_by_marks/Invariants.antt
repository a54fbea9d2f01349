use Rattle.dbpage.proofs.view.PageView.packed_by_marks.Given as goal

abbrev pub ghosts-packed_by_clear_marks : goal.ghosts-packed_by_clear_marks
ghosts-packed_by_clear_marks a = record { name = a.blank.name; parts = a.blank.parts }

use Rattle.dbpage.proofs.held_bytes.uncounted_coverage.Given as goal

abbrev pub ghosts-coverage_from : goal.ghosts-coverage_from
ghosts-coverage_from a = record { name = a.blank.name; parts = a.blank.parts }

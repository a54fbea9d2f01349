use Rattle.std.proofs.Common.{flat_map, take}
use Rattle.dblines.specs.Writing.{WroteOf}
use Rattle.dbexplain.proofs.Common.{kept_injury_text, AreOwnersOf}
use Rattle.dbexplain.proofs.injury_lines.put_injuries.Given as goal

abbrev pub invariant-loop-injury : goal.invariant-loop-injury
invariant-loop-injury g l =
    WroteOf g.O.Out.held l.initial.writer (AreOwnersOf l.owners) (λ file V. flat_map (kept_injury_text file V) (take l.injury-index l.injuries)) l.writer

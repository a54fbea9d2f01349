use Rattle.std.proofs.Common.{arith}
use Rattle.std.proofs.lemmas.Grind.{common_steps}
use Rattle.dbsource.proofs.Gathered.{begins_taken}
use Rattle.dbsource.proofs.buffered_out.make_room.Goals as goal

pub returns-clause-begins : goal.returns-clause-begins
returns-clause-begins g c = begins_taken c.hand_on.result _ _ c.if-count-begun.handed c.args.gathered.now.items c.hand_on.ensures.writes

pub returns-clause-rest : goal.returns-clause-rest
returns-clause-rest g c = grind (arith, common_steps)

use Rattle.std.proofs.Common.{rules}
use Rattle.dbpicture.proofs.fault_notes.FaultNotes.square_of.Goals as goal

pub returns : goal.returns
returns g c = search rules

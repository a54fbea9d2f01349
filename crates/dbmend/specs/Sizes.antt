-- The room that a search takes.
use Rattle.std.specs.Borrow.{RattleType}
use Rattle.std.specs.Mem.{FitsInMemory}
use Rattle.std.specs.declared.alloc.Allocator.{Ghosts}
use Rattle.dbscan.specs.DeskSizes.{DeskFitsInMemory}
use Rattle.dbmend.specs.contracts.counting.Findings as of_findings
use Rattle.dbmend.specs.contracts.known.Known as of_known
use Rattle.dbmend.specs.contracts.stepping.Step as of_step
use Rattle.dbmend.specs.contracts.trying.Trial as of_trial

-- The types of a desk, of what a run leaves, and of what a search keeps of a run are no larger than memory. This holds wherever there is
-- a value of each type.
pub record SearchFitsInMemory (A : RattleType) (heap : Ghosts A.Denot) : Type 0 where
  pub desk : DeskFitsInMemory A heap
  pub findings : FitsInMemory (of_findings.the_row A heap)
  pub known : FitsInMemory (of_known.the_row A heap)
  pub trial : FitsInMemory (of_trial.the_row A heap)
  pub step : FitsInMemory (of_step.the_row A heap)

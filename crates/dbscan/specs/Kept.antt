-- What each call of a run keeps of its desk and its reporter, and which errors it answers.
use Rattle.std.specs.Prelude.{◌≡◌, Result, IfErr}
use Rattle.dbsource.specs.Errors.{is_out_of_memory, is_write_failed}
use Rattle.dbsource.specs.Failures.{failures_after}
use Rattle.dbsource.specs.declared.error.RunError.{RunError}
use Rattle.dbwalk.specs.Reporting.{IsReadOrWrite, IsReadWriteOrMemory}
use Rattle.dbwalk.specs.Reporting.{SinkAfter, SinkState}
use Rattle.dbscan.specs.Desks.{DeskView}

-- A run over a desk, or a part of one, which keeps its header. Its list of roots was refused memory, once, exactly where that is
-- answered, and the file is not refused.
pub record HasUsed {A : Type 0} (r : Result A RunError) (old new : DeskView) : Type 0 where
  pub header : new.header ≡ old.header
  pub memory : new.roots.refusals ≡ failures_after is_out_of_memory r old.roots.refusals
  pub only : IfErr r IsReadWriteOrMemory

-- The reporter also borrows the same as before, and one of its Outs failed, once, exactly where that is answered.
pub record KeepsHeader {A : Type 0} (r : Result A RunError) (before after : DeskView) (old new : SinkState) : Type 0 where
  pub desk : HasUsed r before after
  pub writes : SinkAfter is_write_failed r old new

-- The same of a call that adds no root to the list, and so takes no memory.
pub record KeepsRoots {A : Type 0} (r : Result A RunError) (before after : DeskView) (old new : SinkState) : Type 0 where
  pub header : after.header ≡ before.header
  pub roots : after.roots ≡ before.roots
  pub writes : SinkAfter is_write_failed r old new
  pub only : IfErr r IsReadOrWrite

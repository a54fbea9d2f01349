-- A call of a run that adds no root to the list, after one that may have added some.
use Rattle.dbscan.proofs.Common.{inl, Ok, Err, Result, ap, subst, ◌∙◌, IfErr, is_write_failed, RunError, IsReadOrWrite, SinkAfter, SinkState, DeskView, Listed}
use Rattle.dbscan.proofs.Common.{KeepsHeader, KeepsRoots}
use Rattle.dbwalk.specs.Reporting.{IsReadWriteOrMemory}
use Rattle.dbwalk.proofs.Underway.Walks.{none_refused}

-- an error of reading or writing is one of a run
read_or_write : {A : Type 0} (r : Result A RunError) → IfErr r IsReadOrWrite → IfErr r IsReadWriteOrMemory
read_or_write (Ok u) only = tt
read_or_write (Err e) only = inl only

pub keeps_then : {A B : Type 0} {a : A} {r : Result B RunError} {before mid after : DeskView} {old now new : SinkState}
    → KeepsHeader (Ok a) before mid old now
    → KeepsRoots r mid after now new → KeepsHeader r before after old new
keeps_then {r = r} {before = before} {new = new} h k = record {
  desk = record {
    header = k.header ∙ h.desk.header;
    memory = ap (λ (l : Listed). l.refusals) k.roots ∙ h.desk.memory ∙ none_refused r before.roots.refusals k.only;
    only = read_or_write r k.only;
  };
  writes = subst (λ s. SinkAfter is_write_failed r s new) h.writes k.writes;
}

-- an error is one of any call
pub keeps_error : {A B : Type 0} {e : RunError} {before after : DeskView} {old new : SinkState} → KeepsHeader {A = A} (Err e) before after old new
    → KeepsHeader {A = B} (Err e) before after old new
keeps_error h = record { desk = record { header = h.desk.header; memory = h.desk.memory; only = h.desk.only }; writes = h.writes }

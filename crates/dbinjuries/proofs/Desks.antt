-- A desk of which other pages are in the buffers.
use Rattle.std.proofs.Common.{◌≡◌, ℕ, List, Result, ap, sym, subst}
use Rattle.std.specs.Prelude.{IfErr}
use Rattle.dbformat.specs.Reference.{Reference}
use Rattle.dbsource.specs.Errors.{is_write_failed}
use Rattle.dbsource.specs.declared.error.RunError.{RunError}
use Rattle.dbwalk.specs.Reporting.{IsReadOrWrite, SinkAfter, SinkState}
use Rattle.dbscan.specs.Desks.{DeskView}
use Rattle.dbscan.specs.Finishes.{IsDeskOf}
use Rattle.dbscan.specs.Kept.{KeepsRoots}

-- it is of the same file
pub desk_kept : (old new : DeskView) (file : List ℕ) (V : List Reference) → new ≡ record old { pages = new.pages } → IsDeskOf old file V → IsDeskOf new file V
desk_kept old new file V e d =
    subst (λ (d : DeskView). IsDeskOf d file V) (sym e) (record { header = d.header; survey = d.survey; marks = d.marks; rows = d.rows })

-- its header and its roots are kept
pub looked_keeps : {A : Type 0} {r : Result A RunError} {before after : DeskView} {old new : SinkState} → after ≡ record before { pages = after.pages }
    → SinkAfter is_write_failed r old new → IfErr r IsReadOrWrite → KeepsRoots r before after old new
looked_keeps e writes only = record { header = ap (λ (d : DeskView). d.header) e; roots = ap (λ (d : DeskView). d.roots) e; writes = writes; only = only }

-- The names of the definitions that the proofs of this crate cite most, passed on from one place. Declares nothing.
pub use Rattle.dbformat.specs.Address.{key_step, schema_start, start_of, then_step}
pub use Rattle.dbformat.specs.Cell.{Cell}
unfoldable pub use Rattle.dbformat.specs.Cell.{cells}
pub use Rattle.dbformat.specs.Faults.{fault}
pub use Rattle.dbformat.specs.File.{geometry}
unfoldable pub use Rattle.dbformat.specs.File.{page_bytes}
pub use Rattle.dbformat.specs.Head.{View, is_interior}
unfoldable pub use Rattle.dbformat.specs.Header.{usable_size}
pub use Rattle.dbformat.specs.KeyFaults.{Key, key_of}
pub use Rattle.dbformat.specs.Laws.{event_row}
unfoldable pub use Rattle.dbformat.specs.PageFaults.{depth_fault, page_faults}
pub use Rattle.dbformat.specs.Reference.{Reference, Role, Way, child, first_overflow, free_leaf, later_overflow, role_of, root, tree_kind, trunk}
unfoldable pub use Rattle.dbformat.specs.Reference.{tree_view}
pub use Rattle.dbformat.specs.Report.{event_faults}
pub use Rattle.dbformat.specs.Schema.{SchemaCell, schema_cell}
unfoldable pub use Rattle.dbformat.specs.Schema.{schema}
pub use Rattle.dbformat.specs.Story.{Event, at_key, at_page, at_refused, own_visit}
unfoldable pub use Rattle.dbformat.specs.Story.{story_of}
unfoldable pub use Rattle.dbformat.specs.Survey.{rules_of}
pub use Rattle.dbformat.specs.Tests.{reported_if}
pub use Rattle.dbformat.specs.declared.Fault.{Fault}
pub use Rattle.dbformat.specs.declared.FaultCode.{FaultCode}
pub use Rattle.dbformat.specs.declared.FaultCode.TheVariants.{T06}
pub use Rattle.dbformat.specs.declared.TreeKind.{TreeKind}
pub use Rattle.dbsurvey.specs.Address.{Address, IsAscending, IsBefore, IsIn}
pub use Rattle.dbsurvey.specs.InOrder.{is_before, read_back, visits_in}
pub use Rattle.dbsurvey.specs.Run.{run}
pub use Rattle.dbsurvey.specs.Story.{Go, Reported, reporting_of}
pub use Rattle.dbtrace.specs.Causes.{cause_of, cell_key, first_leaf, leaf_at, leaf_cause, refusal_of, rowids_of, top_key}
pub use Rattle.dbtrace.specs.Finding.{Finding, reported_at, reported_by, reported_fault, reported_row}
pub use Rattle.dbtrace.specs.Item.{rows_at_event}
pub use Rattle.dbtrace.specs.Progress.{depth_faults, key_value, leaf_after}
pub use Rattle.dbtrace.specs.Starts.{AreOfEarlierStarts, IsOfEarlierStart}
pub use Rattle.dbtrace.specs.Walk.{Walk, advance, machine}
pub use Rattle.dbtrace.specs.declared.Cause.{Cause}
pub use Rattle.dbtrace.specs.declared.RowidBounds.{RowidBounds}

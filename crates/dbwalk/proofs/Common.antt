-- The names of the definitions that the proofs of this crate cite most, passed on from one place. Declares nothing.
pub use Rattle.dbbytes.specs.declared.sieve.RowSieve.{RowSieve}
pub use Rattle.dbformat.proofs.CellParts.{Fits, at_offset, cell_fits}
pub use Rattle.dbformat.proofs.Looping.{all_quiet}
pub use Rattle.dbformat.proofs.Theory.{are_rules, is_story}
pub use Rattle.dbformat.specs.Address.{cell_of_step, chain_on, chain_place, child_path, child_step, children_on, is_child_step, key_step, overflow_step}
pub use Rattle.dbformat.specs.Address.{schema_start, start_of, then_step}
pub use Rattle.dbformat.specs.Cell.{Cell, cell, child_number, count, overflow_size, right_child}
unfoldable pub use Rattle.dbformat.specs.Cell.{cells}
pub use Rattle.dbformat.specs.Errands.{cell_errands, errands_before, errands_in, go, leaf_errands, report_cell}
pub use Rattle.dbformat.specs.Faults.{fault}
pub use Rattle.dbformat.specs.File.{geometry}
unfoldable pub use Rattle.dbformat.specs.File.{page_bytes}
pub use Rattle.dbformat.specs.FixedPages.{IsPageNumber}
pub use Rattle.dbformat.specs.Head.{View, if_of_tree, is_interior, is_same_tree, tree_of, undamaged, view}
pub use Rattle.dbformat.specs.Header.{encoding, usable_size}
pub use Rattle.dbformat.specs.Numbers.{u32_at}
pub use Rattle.dbformat.specs.PageFaults.{cell_fault, cell_faults, inner_faults, role_faults, tree_page_faults}
unfoldable pub use Rattle.dbformat.specs.PageFaults.{page_faults}
pub use Rattle.dbformat.specs.Payload.{most_payload, overflow_bytes, overflow_next}
pub use Rattle.dbformat.specs.Reference.{Reference, Role, Way, bytes_left, child, first_overflow, free_leaf, from_of, item_of, later_overflow, leaf_count, link}
pub use Rattle.dbformat.specs.Reference.{most_leaves, next_trunk, right_links, role_of, root, tree_kind, trunk}
unfoldable pub use Rattle.dbformat.specs.Reference.{tree_view}
pub use Rattle.dbformat.specs.Rows.{row_in, tree_page_row}
pub use Rattle.dbformat.specs.Schema.{SchemaCell, schema, schema_cell}
unfoldable pub use Rattle.dbformat.specs.Schema.{payload}
pub use Rattle.dbformat.specs.SchemaRow.{SchemaRow}
pub use Rattle.dbformat.specs.Story.{Event, at_key, at_page, at_refused, own_visit}
unfoldable pub use Rattle.dbformat.specs.Story.{story_of}
pub use Rattle.dbformat.specs.Survey.{is_too_deep, rules_of}
pub use Rattle.dbformat.specs.Tests.{reported_if}
pub use Rattle.dbformat.specs.declared.CellFault.{CellFault}
pub use Rattle.dbformat.specs.declared.Fault.{Fault}
pub use Rattle.dbformat.specs.declared.FaultCode.{FaultCode}
pub use Rattle.dbformat.specs.declared.FaultCode.TheVariants.{L01, T06}
pub use Rattle.dbformat.specs.declared.Geometry.{Geometry}
pub use Rattle.dbformat.specs.declared.PageKind.{PageKind}
pub use Rattle.dbformat.specs.declared.PageKind.TheVariants.{InteriorIndex, InteriorTable, LeafIndex, LeafTable}
pub use Rattle.dbformat.specs.declared.TreeKind.{TreeKind}
pub use Rattle.dbmarks.proofs.Readings.{keeps_same, log_none, log_then}
pub use Rattle.dbmarks.specs.Marking.{AreMarksOf, IsUse, KeepsMarks, page_mark, role_mark, unmarked_pages}
pub use Rattle.dbmarks.specs.Reads.{Reads}
pub use Rattle.dbmarks.specs.declared.marks.Mark.{Mark}
pub use Rattle.dbmarks.specs.declared.marks.Mark.TheVariants.{FirstOverflow, LaterOverflow, Trunk, Unmarked}
pub use Rattle.dbpage.specs.Packed.{IsAboveLast, IsAllLocal, first_cells, greatest_of, key_at, payload_of}
pub use Rattle.dbsource.proofs.Logs.{has_weaker}
pub use Rattle.dbsource.specs.Bench.{Changes, Pages, bytes_at}
pub use Rattle.dbsource.specs.Errors.{is_read_failed, is_write_failed}
pub use Rattle.dbsource.specs.Failures.{failures_after}
pub use Rattle.dbsource.specs.Sources.{SourceState}
pub use Rattle.dbsource.specs.declared.error.RunError.{RunError}
pub use Rattle.dbsource.specs.declared.error.RunError.TheVariants.{OutOfMemory, ReadFailed, Refused, WriteFailed}
pub use Rattle.dbsurvey.proofs.Moving.{Moves-append, some_after, some_none}
pub use Rattle.dbsurvey.proofs.Order.{IsIn-cases, IsIn-right}
pub use Rattle.dbsurvey.specs.Address.{Address, IsBefore, IsIn, IsLeftOf}
pub use Rattle.dbsurvey.specs.InOrder.{AreQuiet, IsPast}
pub use Rattle.dbsurvey.specs.Moves.{Moves, MovesBySome, Stops}
pub use Rattle.dbsurvey.specs.Story.{Due, Errand, Go, Reported, errand_key, errands_of, step_of}
pub use Rattle.dbsurvey.specs.Traverse.{is_followed}
pub use Rattle.dbtrace.proofs.Stepping.{has_steps}
pub use Rattle.dbtrace.specs.Causes.{cause_of, cell_rowid, chain_cause, is_same, key_before, key_from, key_up_to, left_key, left_rows, no_rowids, page_cause}
pub use Rattle.dbtrace.specs.Causes.{refusal_cause, refusal_of, root_of, rowids_of, seen_bytes, seen_from, visit_cause}
pub use Rattle.dbtrace.specs.Finding.{Finding, reported_alone, reported_at, reported_below, reported_by, reported_fault, reported_row, visited_below}
pub use Rattle.dbtrace.specs.Item.{Item, counted_findings, found, given, given_cells, items_at}
pub use Rattle.dbtrace.specs.Progress.{Progress, cause_by, depth_faults, key_value, leaf_after, rowids_by, rows_of}
pub use Rattle.dbtrace.specs.Walk.{Walk, advance, bare, begin, run_below}
pub use Rattle.dbtrace.specs.declared.Cause.{Cause}
pub use Rattle.dbtrace.specs.declared.CellKey.{CellKey}
pub use Rattle.dbtrace.specs.declared.RowidBounds.{RowidBounds}
pub use Rattle.dbtrace.specs.declared.TreeLeaf.{TreeLeaf}
pub use Rattle.dbwalk.specs.Beside.{EntersBeside, Opens, Turns, WalksBeside}
pub use Rattle.dbwalk.specs.Chains.{Feeds, FeedsSince, IsChainOf, IsOnChain, IsPlace, next_of, walked_chain}
pub use Rattle.dbwalk.specs.Done.{IsDone, IsTreeDone}
pub use Rattle.dbwalk.specs.Entered.{Enters, IsNext, refused_reported}
pub use Rattle.dbwalk.specs.Found.{HasPageAt, damaged_row, inner_cause, page_findings, view_cause, view_row, with_leaf}
pub use Rattle.dbwalk.specs.LeafCells.{AreBefore, AreRisingFrom, HasCell, HasSpan, is_late, key_cause, late_reported, order_reported, overflow_errands, placed}
pub use Rattle.dbwalk.specs.LeafCells.{top_after}
pub use Rattle.dbwalk.specs.Points.{IsAtTurn}
pub use Rattle.dbwalk.specs.Reporting.{IsReadOrWrite, IsReportedTo, IsWriteOrMemory, Reports, SinkAfter, SinkMoves, SinkState, SinkWalks}
pub use Rattle.dbwalk.specs.Steps.{AreEmpty, HasLeft, HasNext, IsEmptyAt, IsNextStep, no_chain, no_child, unreadable, without_key}
pub use Rattle.dbwalk.specs.Taking.{FeedsPayload, HasFed, HoldsCell, ReportsRow}
pub use Rattle.dbwalk.specs.Trunks.{IsFirstTrunk, IsOnTrunks, leaves_from, next_step, trunk_step}
pub use Rattle.dbwalk.specs.Underway.{HasDone, IsAt, IsEntered, IsInterior, IsUnderway, IsWalkingOn, done_below, entered, tree_walk}
pub use Rattle.dbwalk.specs.Walked.{IsTreeError, SaysOfFiles, Walked}
pub use Rattle.dbwalk.specs.Walking.{AreCalls, AreOpen, AreOpenFrames, AreRead, IsCandidate, IsOpen, IsStepped, IsVisitAt, child_at, cost, errands_from}
pub use Rattle.dbwalk.specs.Walking.{left_over, path_of, role_at, top_visit}
pub use Rattle.dbwalk.specs.Watching.{Handed, StopsAt, fails, fed, never, row_at, watches}
pub use Rattle.dbwalk.specs.declared.chain.Chain.{Chain}
pub use Rattle.dbwalk.specs.declared.entering.Step.{Step}
pub use Rattle.dbwalk.specs.declared.state.Tree.{Tree}
pub use Rattle.dbwalk.specs.declared.steps.Next.{Next}
pub use Rattle.dbwalk.specs.declared.steps.Next.TheVariants.{End, Key, Nothing}
pub use Rattle.dbwalk.specs.declared.steps.StackFrame.{StackFrame}
pub use Rattle.dbwalk.specs.declared.taker.Taken.{Taken}
pub use Rattle.std.proofs.lemmas.Bool.{cases_Bool, cases_order, eqb-true}
pub use Rattle.std.proofs.lemmas.Bool.Decides.{nat_tests}
pub use Rattle.std.proofs.lemmas.Grind.{common_steps, flat_map-append}
pub use Rattle.std.proofs.lemmas.List.{append-nil, length-append, length-map}
pub use Rattle.std.proofs.lemmas.Result.{err_from_is_err_and}
pub use Rattle.std.specs.List.{range_with_len}
pub use Rattle.std.specs.Option.{is_none, option_map_or, option_or}
pub use Rattle.std.specs.Prelude.{unwrap_or}
pub use Rattle.std.specs.Result.{result_ok}

-- The names that the proofs of this crate cite, the library's too, passed on from one place. Declares nothing.
pub use Rattle.dbformat.proofs.BelowStarts.{start_here, first_is, on_freelist, one_below, start_is, start_of-step, start_visited}
pub use Rattle.dbformat.proofs.HeaderPrefix.{encoding_number_within, encoding_within, first_trunk_within, freelist_count_within, greatest_root_within}
pub use Rattle.dbformat.proofs.HeaderPrefix.{header_faults_within, schema_format_within}
pub use Rattle.dbformat.proofs.LookBack.{by_starts}
pub use Rattle.dbformat.proofs.Rising.{follows_pairs, rows_end, starts_rise}
pub use Rattle.dbformat.proofs.Theory.{are_rules, no_due}
pub use Rattle.dbformat.proofs.Visited.{allowed, has_address}
pub use Rattle.dbformat.specs.Address.{freelist_start, last_root_start, schema_start, start_of}
pub use Rattle.dbformat.specs.Cell.{Cell, cell, cells, count}
pub use Rattle.dbformat.specs.EndFaults.{end_faults, has_rows, visit_of}
pub use Rattle.dbformat.specs.File.{MapEntry, entry_in, geometry, page_bytes, refusal}
unfoldable pub use Rattle.dbformat.specs.File.{map_entry, refusal_of}
pub use Rattle.dbformat.specs.FixedPages.{entries_per_map, geometry_of, is_fixed, is_map_position, is_page, lock_page}
unfoldable pub use Rattle.dbformat.specs.FixedPages.{fixed_use, map_page_of}
pub use Rattle.dbformat.specs.Head.{View, is_interior}
pub use Rattle.dbformat.specs.Header.{encoding, first_trunk, usable_size}
unfoldable pub use Rattle.dbformat.specs.HeaderFaults.{header_faults}
pub use Rattle.dbformat.specs.Laws.{schema_part}
pub use Rattle.dbformat.specs.Log.{IsPageLog, page_range}
pub use Rattle.dbformat.specs.NamedPages.{named_page}
pub use Rattle.dbformat.specs.Reference.{Reference, Role, Way, child, first_overflow, free_leaf, from_of, later_overflow, role_of, root, trunk, is_on_freelist}
pub use Rattle.dbformat.specs.Reference.{role_links, tree_kind}
unfoldable pub use Rattle.dbformat.specs.Reference.{tree_view}
pub use Rattle.dbformat.specs.Report.{event_faults}
unfoldable pub use Rattle.dbformat.specs.Report.{faults}
pub use Rattle.dbformat.specs.Rows.{StatRow, row_in}
unfoldable pub use Rattle.dbformat.specs.Rows.{stat_rows}
pub use Rattle.dbformat.specs.Schema.{SchemaCell, freelist_starts, root_start, rooted, rooted_rows, schema_cell, start, starts, leaf_rows, payload, root_kind}
pub use Rattle.dbformat.specs.Schema.{root_starts, rows_at, schema_link}
unfoldable pub use Rattle.dbformat.specs.Schema.{later_starts, schema}
pub use Rattle.dbformat.specs.SchemaRow.{SchemaRow}
pub use Rattle.dbformat.specs.Starts.{start_at}
pub use Rattle.dbformat.specs.Story.{Event, at_key, at_page, at_refused, own_visit, start_errands, reporting}
unfoldable pub use Rattle.dbformat.specs.Story.{story_of}
pub use Rattle.dbformat.specs.Survey.{Survey}
unfoldable pub use Rattle.dbformat.specs.Survey.{rules_of}
pub use Rattle.dbformat.specs.declared.Encoding.{Encoding}
pub use Rattle.dbformat.specs.declared.Fault.{Fault}
pub use Rattle.dbformat.specs.declared.FaultCode.{FaultCode}
pub use Rattle.dbformat.specs.declared.Fixed.TheVariants.{Map}
pub use Rattle.dbformat.specs.declared.Geometry.{Geometry}
pub use Rattle.dbformat.specs.declared.RowFault.{RowFault}
pub use Rattle.dbformat.specs.declared.Verdict.{Verdict}
pub use Rattle.dbmarks.proofs.FirstMarks.{fresh_marks}
pub use Rattle.dbmarks.proofs.Markings.{marks_of-length, page_mark-in, page_mark-out}
pub use Rattle.dbmarks.proofs.Readings.{keeps_same, log_load, log_none}
pub use Rattle.dbmarks.specs.EndMarks.{is_free_mark, is_marked, is_other_mark, is_root_mark, late_fault, least_other_marked, mark_fault}
pub use Rattle.dbmarks.specs.Marking.{AreMarksFor, AreMarksOf, is_unmarked, marks_of, page_mark, role_mark, visit_mark, is_none}
unfoldable pub use Rattle.dbmarks.specs.Marking.{mark_of}
pub use Rattle.dbmarks.specs.Reads.{Reads}
pub use Rattle.dbmarks.specs.declared.marks.Mark.{Mark}
pub use Rattle.dbmarks.specs.declared.marks.Mark.TheVariants.{Fixed, Unmarked}
pub use Rattle.dbscan.specs.Desks.{AsksOver, DeskView, IsFresh, desk_view, shape_of, AreForHeader}
pub use Rattle.dbscan.specs.EndPass.{is_fixed_mark, page_notices, pages_items}
pub use Rattle.dbscan.specs.Findings.{found_rows, is_schema_row, found_row, is_schema_leaf}
pub use Rattle.dbscan.specs.Finishes.{HasFinished, HasReceived, HasReported, Leaves}
pub use Rattle.dbscan.specs.Kept.{KeepsHeader, KeepsRoots}
pub use Rattle.dbscan.specs.Looks.{IsUnmarked, ReadsMarked, ReadsRising}
pub use Rattle.dbscan.specs.MapReads.{HasMapFor, IsMapInUse, MapReads, MapReadsBefore, IsMapTurn, last_map}
pub use Rattle.dbscan.specs.Notices.{Notice, at_start, end_notices, ended, errands_left, faults_received, found, received_fault, received_row, later_notices}
pub use Rattle.dbscan.specs.Notices.{marked, of_file, pages_from, root_reference, run_notices, start_notices, tree_notices, whole}
pub use Rattle.dbscan.specs.Placed.{faults_of, reported_in, reported_of, reported_faults, walk_reported, AreStarts, IsOfStart, StartsRise, number_of}
pub use Rattle.dbscan.specs.Reporting.{items_of}
pub use Rattle.dbscan.specs.Roots.{AreListed, IsWithin, Listed, TakesRow, kept_row, listed_rows, Grows, entry_row, name_in, short_name}
pub use Rattle.dbscan.specs.Scans.{IsScanned}
unfoldable pub use Rattle.dbscan.specs.StartTable.{most_starts}
pub use Rattle.dbscan.specs.Starts.{AreBelowStarts, At, IsSchemaOf, at_freelist, at_row, at_schema, later_errands, root_of, schema_reference}
pub use Rattle.dbscan.specs.Trees.{AreTrees, place_by, start_by}
pub use Rattle.dbscan.specs.Walks.{AreReported, AreWalked, IsAtStarts, IsBetweenStarts, IsSchemaWalked, IsTreeWalked, IsWalkedOver, StopsReporting}
pub use Rattle.dbscan.specs.declared.desk.Desk.TheInside.{Inside}
pub use Rattle.dbscan.specs.declared.notifier.Notifier.{Notifier}
pub use Rattle.dbsource.proofs.Logs.{asks_then, asks_weaker, has_none, has_weaker}
pub use Rattle.dbsource.proofs.Runs.{read_after, same_front}
pub use Rattle.dbsource.specs.Answers.{Step}
pub use Rattle.dbsource.specs.Bench.{Pages}
pub use Rattle.dbsource.specs.Errors.{is_read_failed, is_write_failed}
pub use Rattle.dbsource.specs.Failures.{failures_after}
pub use Rattle.dbsource.specs.Headed.{HeadedStep}
pub use Rattle.dbsource.specs.HeaderBytes.{HeaderBytes}
pub use Rattle.dbsource.specs.Headers.{IsHeaderOf}
pub use Rattle.dbsource.specs.Sources.{Asks, SourceState}
pub use Rattle.dbsource.specs.declared.error.RunError.{RunError}
pub use Rattle.dbsource.specs.declared.error.RunError.TheVariants.{WriteFailed}
pub use Rattle.dbsurvey.proofs.Moving.{Moves-append, some_after, some_first, some_none}
pub use Rattle.dbsurvey.proofs.Order.{IsIn-cases, EachPair-append, IsIn-left}
pub use Rattle.dbsurvey.proofs.Ordering.{IsIn-from_flat_map, IsIn-from_map, IsIn-map}
pub use Rattle.dbsurvey.proofs.Reportings.{errands_at-apart, goes-errands}
pub use Rattle.dbsurvey.specs.Address.{Address, IsIn, EachPair, IsBefore}
pub use Rattle.dbsurvey.specs.From.{under}
pub use Rattle.dbsurvey.specs.InOrder.{AreQuiet, read_back, visits_in}
pub use Rattle.dbsurvey.specs.Moves.{Moves, MovesBySome}
pub use Rattle.dbsurvey.specs.Story.{Errand, Follow, Go, Reported, errands_at, goes, reporting_of, AreErrandsApart, Due, errand_key}
pub use Rattle.dbsurvey.specs.Survey.{Link, children, named_at}
pub use Rattle.dbtrace.specs.Causes.{cause_of, lost_cause_at}
pub use Rattle.dbtrace.specs.Finding.{Finding, reported_at, reported_below, reported_by, reported_fault, reported_row, visited_below}
pub use Rattle.dbtrace.specs.declared.Cause.{Cause}
pub use Rattle.dbtrace.specs.declared.Part.{Part}
pub use Rattle.dbtrace.specs.declared.TracedFault.{TracedFault}
pub use Rattle.dbwalk.proofs.Chaining.Overflows.{page_read}
pub use Rattle.dbwalk.proofs.Reporting.Belows.{quiet_go, reported_none, visited_join, visited_none}
pub use Rattle.dbwalk.proofs.Reporting.Sinks.{err_is, asked, asked_both, asked_open, asked_walks, moves_open, moves_some, moves_then, walks_end}
pub use Rattle.dbwalk.proofs.RootTakings.{first_more, list_has_room, tree_given, tree_reported}
pub use Rattle.dbwalk.specs.Reporting.{IsReadOrWrite, SinkAfter, SinkMoves, SinkState, Reports}
pub use Rattle.dbwalk.specs.Roots.{IsRootAfter}
pub use Rattle.dbwalk.specs.Rows.{schema_row_of}
pub use Rattle.dbwalk.specs.Taking.{StartsEmpty, HasRootRoom, first_roots, gives, readable_rows, roots_after}
pub use Rattle.dbwalk.specs.Trunks.{IsFirstTrunk, freelist_reference}
pub use Rattle.dbwalk.specs.declared.root.Root.{Root}
pub use Rattle.dbwalk.specs.declared.root.RootKind.TheVariants.{Schema}
pub use Rattle.std.proofs.Common.{Bool, Err, IfErr, IfOk, List, None, Ok, OnOk, Option, Result, Some, [], ap, append-nil, append_assoc, ap₂, arith, cond}
pub use Rattle.std.proofs.Common.{count_by, drop, eq-eqb, eqb-true, false, filter, filter_map, find, flat_map, fold, get_or, inl, inr, is_some, length}
pub use Rattle.std.proofs.Common.{length-append, length-set, map, max, nat_le, ne_eqb, not, option_map, option_to_list, pos, refl, replicate, rules, set}
pub use Rattle.std.proofs.Common.{slice_get, slice_index, slice_set, subst, sym, take, take_all, true, vec_capacity, vec_len, ℕ, ℤ, ◌%◌, ◌&&◌, ◌*◌, ◌++◌, ◌+◌}
pub use Rattle.std.proofs.Common.{◌-◌, ◌/◌, ◌<◌, ◌==◌, ◌||◌, ◌↔◌, ◌∙◌, ◌∷◌, ◌≡◌, ◌≢◌, ◌≤◌, ◌⊎◌}
pub use Rattle.std.proofs.Math.Bool.{and-false, or-false, or_assoc}
pub use Rattle.std.proofs.lemmas.Bool.{both_ways, cases_Bool, and_parts, not-true}
pub use Rattle.std.proofs.lemmas.Bool.Decides.{nat_tests}
pub use Rattle.std.proofs.lemmas.Grind.{common_steps, elements, flat_map-append}
pub use Rattle.std.proofs.lemmas.List.{map-append, drop-append-le, drop_all, drop_more, length-replicate, map-id, replicate-append-replicate, set-append_left}
pub use Rattle.std.proofs.lemmas.List.{take-append-le, take_more}
pub use Rattle.std.proofs.lemmas.List.Elements.{filter_map-append, All-head, All-tail, filter-append}
pub use Rattle.std.proofs.lemmas.Option.{get_or_from_slice_get, none-some, slice_get_cases, slice_get_within}
pub use Rattle.std.proofs.lemmas.Result.{err_from_is_err_and}
pub use Rattle.std.specs.List.{cons_option, enumerate_from, list_any, range_with_len, All, take-map}
pub use Rattle.std.specs.Option.{option_map_or, option_or}

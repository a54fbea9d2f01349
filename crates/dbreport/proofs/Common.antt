-- The names that the proofs of this crate cite, the library's too, passed on from one place. Declares nothing.
pub use Rattle.dbbytes.proofs.NameLemmas.{HasPut, put_more, put_stop}
pub use Rattle.dbformat.proofs.Theory.{are_rules, one_survey}
pub use Rattle.dbformat.proofs.Verdicts.{verdict_counted}
pub use Rattle.dbformat.specs.Address.{schema_start, freelist_start, last_root_start, start_of}
pub use Rattle.dbformat.specs.File.{geometry, refusal}
pub use Rattle.dbformat.specs.FixedPages.{IsInRange, fixed_use, geometry_of, is_fixed}
pub use Rattle.dbformat.specs.Header.{page_size, encoding, first_trunk}
pub use Rattle.dbformat.specs.Lines.{counted, fault_line, ok_line, other_line, page_line, tree_line}
unfoldable pub use Rattle.dbformat.specs.Lines.{form_line, tree_name}
pub use Rattle.dbformat.specs.Log.{IsSomeRunLog, IsPageLog, IsRunLog}
pub use Rattle.dbformat.specs.Reference.{Reference, Role, Way, child, first_overflow, free_leaf, later_overflow, role_of, root, trunk}
pub use Rattle.dbformat.specs.Report.{Report, check_text, faults, verdict, verdict_of, check_report, more_text, stat_report}
unfoldable pub use Rattle.dbformat.specs.Report.{report}
pub use Rattle.dbformat.specs.Rows.{FormRow, OtherPage, StatRow, other_rows, page_rows, tree_rows, StatForm, other_page, other_row, other_unvisited}
pub use Rattle.dbformat.specs.Rows.{other_visited, page_row, row_in, tree_row, trees_reached}
unfoldable pub use Rattle.dbformat.specs.Rows.{form_rows, stat_rows}
pub use Rattle.dbformat.specs.Schema.{rooted_rows, schema, start, starts}
pub use Rattle.dbformat.specs.Survey.{Survey, rules_of}
pub use Rattle.dbformat.specs.Text.{hex_text}
pub use Rattle.dbformat.specs.declared.Command.{Command}
pub use Rattle.dbformat.specs.declared.Command.TheVariants.{Check, Stat}
pub use Rattle.dbformat.specs.declared.Fault.{Fault}
pub use Rattle.dbformat.specs.declared.Geometry.{Geometry}
pub use Rattle.dbformat.specs.declared.Verdict.{Verdict}
pub use Rattle.dbreport.specs.CheckReporter.{ShowsFault, LeavesCheck, PutsAll, check_held, end_text, found_verdict, writer_of}
pub use Rattle.dbreport.specs.Columns.{child_text, page_end, tree_end, column, counts_text, offset_text, other_of}
pub use Rattle.dbreport.specs.Opening.{IsNotOpened, IsOpened}
pub use Rattle.dbreport.specs.Runs.{AsksHeaderAlone, IsAnswerOf, IsReported, CountsPages, IsReportedBy, IsRunBy, IsRunOf, IsUnwritten, SaysOk, SaysOkWhereSound}
pub use Rattle.dbreport.specs.StatReporter.{CutsStat, HasBegun, HasWritten, ReceivesOpen, ReceivesStat, IsFlushedIf, WritesBoth, pages_text, tree_end_text}
pub use Rattle.dbreport.specs.StatReporter.{other_text, CutsStatFault, IsSameReporter, ReceivesBy, TakesFault, stat_held}
pub use Rattle.dbreport.specs.StatStarts.{IsForFile, LeavesStat, rows_text}
pub use Rattle.dbreport.specs.Statistics.{form_of}
pub use Rattle.dbreport.specs.Sums.{sums_of}
pub use Rattle.dbreport.specs.TreeNames.{name_at, tree_label_text}
pub use Rattle.dbreport.specs.declared.checking.CheckReporter.{CheckReporter}
pub use Rattle.dbreport.specs.declared.statistics.Form.{Form}
pub use Rattle.dbreport.specs.declared.statistics.reporter.StatReporter.{StatReporter}
pub use Rattle.dbscan.proofs.Finished.{finished}
pub use Rattle.dbscan.proofs.RowsBelow.{rows_below, rows_join, rows_none}
pub use Rattle.dbscan.specs.Finishes.{Leaves}
pub use Rattle.dbscan.specs.Notices.{ReceivesFaults, Notice, ended, received_fault, received_row, marked, run_notices}
pub use Rattle.dbscan.specs.Starts.{At, at_freelist, at_row, at_schema, schema_reference}
pub use Rattle.dbsound.proofs.RowCounts.FormRows.{adds_up, counts_each_page, counts_no_page_twice, start_role}
pub use Rattle.dbsource.proofs.Beginnings.{begins_more, begins_nothing}
pub use Rattle.dbsource.proofs.Puts.{appends_nothing, puts_then, appends_append, appends_kept, keeps_same, kept_appends, puts_stop}
pub use Rattle.dbsource.proofs.Runs.{read_weaker, of_told, of_told_after, opened, ran, told_file, told_file_after}
pub use Rattle.dbsource.specs.Answers.{Lengths, Step, Trail, given}
pub use Rattle.dbsource.specs.Errors.{is_write_failed, run_error}
pub use Rattle.dbsource.specs.Failures.{CountsAfter, failures_after}
pub use Rattle.dbsource.specs.HeaderBytes.{HeaderBytes}
pub use Rattle.dbsource.specs.Headers.{IsHeaderOf, IsOpenLog, IsRefusalOf, Opens}
pub use Rattle.dbsource.specs.Outs.{Begins, OutState, Puts, Writes}
pub use Rattle.dbsource.specs.Snapshots.{HasRead, HasReadAfterHeader}
pub use Rattle.dbsource.specs.Sources.{HasRanges, SourceState}
pub use Rattle.dbsource.specs.declared.error.OpenError.{OpenError}
pub use Rattle.dbsource.specs.declared.error.RunError.{RunError}
pub use Rattle.dbsource.specs.declared.error.RunError.TheVariants.{OutOfMemory, WriteFailed}
pub use Rattle.dbsurvey.proofs.Lists.{filter-all, filter-from, filter-none, filter_map-from, flat_map-same}
pub use Rattle.dbsurvey.specs.Address.{Address, IsIn}
pub use Rattle.dbsurvey.specs.Moves.{Moves, MovesBySome, Stops}
pub use Rattle.dbsurvey.specs.Story.{Errand, Follow, Go, errands_at, goes}
pub use Rattle.dbsurvey.specs.Traverse.{is_followed, part_of}
pub use Rattle.dbwalk.proofs.Reporting.Sinks.{err_is, moves_some}
pub use Rattle.dbwalk.specs.Reporting.{IsReadWriteOrMemory, Reports, one_out}
pub use Rattle.std.proofs.Common.{Bool, Err, IfErr, IfOk, List, None, Ok, OnOk, Option, Result, Some, [], add-one, ap, append-nil, append_assoc, ap₂, arith}
pub use Rattle.std.proofs.Common.{codes, cond, decimal, drop, drop-cons, eq-eqb, eqb, false, filter, filter_map, flat_map, get_or, if◌then◌else◌, inl, inr}
pub use Rattle.std.proofs.Common.{length, length-append, length-drop, map, min, nat_lt, ne_eqb, not, option_map, refl, replicate, rules, slice_get, slice_set}
pub use Rattle.std.proofs.Common.{subst, suc, sym, take, true, zero, ℕ, ◌%◌, ◌*◌, ◌++◌, ◌+◌, ◌-◌, ◌/◌, ◌<◌, ◌==◌, ◌^◌, ◌↔◌, ◌∙◌, ◌∷◌, ◌≡◌, ◌≤◌, ◌⊎◌}
pub use Rattle.std.proofs.lemmas.Bool.{cases_Bool, cases_lt, false≢true}
pub use Rattle.std.proofs.lemmas.Bool.Decides.{nat_tests}
pub use Rattle.std.proofs.lemmas.Grind.{flat_map-append, common_steps, elements}
pub use Rattle.std.proofs.lemmas.List.{map-append}
pub use Rattle.std.proofs.lemmas.Result.{err_from_is_err_and}
pub use Rattle.std.specs.Io.KnownBytes.{Appends}
pub use Rattle.std.specs.List.{cons_option, enumerate_from, join_with_byte, range_with_len}
pub use Rattle.std.specs.Option.{option_map_or}

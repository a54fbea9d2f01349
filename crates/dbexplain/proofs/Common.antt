-- The names of the definitions that the proofs of this crate cite most, passed on from one place. Declares nothing.
pub use Rattle.dbexplain.specs.AfterEnd.{references_after_end}
pub use Rattle.dbexplain.specs.Below.{place_line}
pub use Rattle.dbexplain.specs.Explained.{explain_text, injury_text}
pub use Rattle.dbexplain.specs.Indexes.{AreIndexes}
pub use Rattle.dbexplain.specs.Keeping.{IsEmpty, kept_injury_text}
pub use Rattle.dbexplain.specs.KeptRanges.{AreAllKept, KeptRanges, no_more}
pub use Rattle.dbexplain.specs.Notes.{AreOwnersOf}
pub use Rattle.dbexplain.specs.RangeCounts.{with_kind}
pub use Rattle.dbexplain.specs.Ranges.{is_of}
pub use Rattle.dbexplain.specs.Reporting.{IsFresh, LeavesExplained, Receives}
pub use Rattle.dbexplain.specs.RowLines.{is_all, list_text}
pub use Rattle.dbexplain.specs.Summary.{count_text, is_of_kind, is_part_of_start, start_name, summary, zero_run_line}
pub use Rattle.dbexplain.specs.Sums.{code_sum, numbered_sum, rows_sum, start_sum}
pub use Rattle.dbexplain.specs.Tallies.{IsTallyOf, IsTallyTo, Tallied, count_at, counted_start, no_count}
pub use Rattle.dbexplain.specs.declared.ranges.RangeCount.{RangeCount}
pub use Rattle.dbexplain.specs.declared.ranges.RowRange.{RowRange}
pub use Rattle.dbexplain.specs.declared.ranges.RowsKind.{RowsKind}
pub use Rattle.dbexplain.specs.declared.ranges.RowsKind.TheVariants.{CutShort, NotReached, OnFaulty}
pub use Rattle.dbexplain.specs.declared.reporter.ExplainReporter.{ExplainReporter}
pub use Rattle.dbexplain.specs.declared.tally.StartCount.{StartCount}
pub use Rattle.dbformat.specs.Address.{freelist_start}
pub use Rattle.dbformat.specs.Codes.{all_codes}
pub use Rattle.dbformat.specs.File.{geometry}
pub use Rattle.dbformat.specs.FixedPages.{is_page}
unfoldable pub use Rattle.dbformat.specs.FixedPages.{fixed_use}
unfoldable pub use Rattle.dbformat.specs.Header.{encoding, first_trunk, freelist_count, greatest_root, stated_pages}
pub use Rattle.dbformat.specs.Lines.{counted, line_feed, ok_line}
unfoldable pub use Rattle.dbformat.specs.Lines.{fault_line}
pub use Rattle.dbformat.specs.Reference.{Reference}
pub use Rattle.dbformat.specs.Report.{more_text}
unfoldable pub use Rattle.dbformat.specs.Report.{faults}
unfoldable pub use Rattle.dbformat.specs.Rows.{stat_rows}
pub use Rattle.dbformat.specs.Schema.{starts}
unfoldable pub use Rattle.dbformat.specs.Schema.{later_starts, schema}
pub use Rattle.dbformat.specs.SchemaRow.{SchemaRow}
pub use Rattle.dbformat.specs.Survey.{Survey}
pub use Rattle.dbformat.specs.declared.Encoding.{Encoding}
pub use Rattle.dbformat.specs.declared.FaultCode.{FaultCode}
pub use Rattle.dbformat.specs.declared.Geometry.{Geometry}
pub use Rattle.dbformat.specs.declared.Verdict.{Verdict}
pub use Rattle.dbinjuries.specs.Bits.{has_bit}
pub use Rattle.dbinjuries.specs.Lines.{indented}
pub use Rattle.dbinjuries.specs.Listed.{listed_injuries}
pub use Rattle.dbinjuries.specs.Listing.{injuries}
pub use Rattle.dbinjuries.specs.Lists.{Held, ListsFirst}
pub use Rattle.dblines.specs.Writing.{Wrote}
pub use Rattle.dbscan.specs.Placed.{reported_faults}
unfoldable pub use Rattle.dbscan.specs.StartTable.{most_starts}
pub use Rattle.dbscan.specs.Texts.{tree_of_row}
pub use Rattle.dbsource.specs.HeaderBytes.{HeaderBytes}
pub use Rattle.dbsource.specs.Headers.{IsHeaderOf}
pub use Rattle.dbsource.specs.declared.error.RunError.{RunError}
pub use Rattle.dbsource.specs.declared.error.RunError.TheVariants.{OutOfMemory, ReadFailed}
pub use Rattle.dbtrace.specs.declared.Part.{Part}
pub use Rattle.dbtrace.specs.declared.TracedFault.{TracedFault}

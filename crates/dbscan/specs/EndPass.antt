-- What is reported at the end of a run, by the header and the marks: of the whole, and then page by page.
use Rattle.std.specs.Prelude.{◌≡◌, IfErr, Result, ℕ, Bool, true, false, not, ◌&&◌, ◌||◌, ◌==◌, List, ◌++◌, map, flat_map, Option, pos}
use Rattle.std.specs.List.{range_with_len}
use Rattle.dbformat.specs.Faults.{fault}
use Rattle.dbformat.specs.File.{geometry, map_entry}
use Rattle.dbformat.specs.Header.{schema_format, encoding_number, greatest_root, freelist_count, has_pointer_map}
use Rattle.dbformat.specs.Reference.{Reference}
use Rattle.dbformat.specs.Tests.{reported_if}
use Rattle.dbformat.specs.declared.Fault.{Fault}
use Rattle.dbformat.specs.declared.FaultCode.TheVariants.{H08, H09, H10}
use Rattle.dbmarks.specs.EndMarks.{mark_fault, late_fault}
use Rattle.dbmarks.specs.Marking.{mark_of}
use Rattle.dbmarks.specs.declared.marks.Mark.{Mark}
use Rattle.dbmarks.specs.declared.marks.Mark.TheVariants.{Fixed}
use Rattle.dbtrace.specs.declared.Part.TheVariants as part
use Rattle.dbsource.specs.Bench.{Pages}
use Rattle.dbsource.specs.Errors.{is_write_failed}
use Rattle.dbsource.specs.declared.error.RunError.{RunError}
use Rattle.dbwalk.specs.Reporting.{IsReadOrWrite, SinkAfter, SinkState}
use Rattle.dbscan.specs.Notices.{Notice, whole}

-- the faults of the whole, by the header, whether the schema has rows, the greatest root and the count of the freelist
abbrev pub counted_faults : List ℕ → Bool → ℕ → ℕ → List Fault
counted_faults header rows greatest free =
    reported_if (((schema_format header == 0) || (encoding_number header == 0)) && rows) (fault H08 1 (schema_format header) (pos (encoding_number header)))
    ++ reported_if (has_pointer_map header && not (greatest_root header == greatest)) (fault H09 1 0 (pos greatest))
    ++ reported_if (not (freelist_count header == free)) (fault H10 1 0 (pos free))

-- whether a mark is that of a page of fixed use
abbrev pub is_fixed_mark : Mark → Bool
is_fixed_mark Fixed = true
is_fixed_mark _ = false

-- what is reported of page p, by its mark and the least page that is no root
abbrev pub page_notices : List ℕ → Option ℕ → ℕ → Mark → List Notice
page_notices file least p mark = map (whole part.End) (mark_fault p (map_entry file p) mark ++ late_fault (geometry file).has_map p mark least)

-- what is reported of the first n pages, after the visits of V
abbrev pub pages_items : List ℕ → List Reference → Option ℕ → ℕ → List Notice
pages_items file V least n = flat_map (λ p. page_notices file least p (mark_of (geometry file) V p)) (range_with_len 1 n)

-- What the end of a page, or of all, leaves: the reporter failed exactly where WriteFailed is answered, there is no error but this and that
-- of a read, and of the page buffers only that of the map may have changed.
pub record EndsPage {A : Type 0} (r : Result A RunError) (before after : SinkState) (had has : Pages) : Type 0 where
  pub writes : SinkAfter is_write_failed r before after
  pub only : IfErr r IsReadOrWrite
  pub bench : has ≡ record had { chain = has.chain }

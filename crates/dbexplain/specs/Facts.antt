-- What is written of what is known of a page with faults (own).
use Rattle.std.specs.Prelude.{ℕ, ℤ, ◌+◌, ◌-◌, ◌*◌, List, [], ◌++◌, Option, Some, None, codes, decimal, ◌==◌, if◌then◌else◌}
use Rattle.std.specs.Fmt.{signed_decimal}
use Rattle.std.specs.Option.{option_map_or}
use Rattle.dbformat.specs.Text.{hex_text}
use Rattle.dbformat.specs.declared.ByteRun.{ByteRun}
use Rattle.dbtrace.specs.declared.PageFacts.{PageFacts}
use Rattle.dbinjuries.specs.Lines.{indented}

-- where a page begins in a file with pages of this size
abbrev pub page_begin : ℕ → ℕ → ℕ
page_begin page_size p = (p - 1) * page_size

-- from one byte of a file to another
abbrev pub bytes_text : ℕ → ℕ → List ℕ
bytes_text first last = codes "bytes " ++ decimal first ++ codes " to " ++ decimal last

-- a run of one byte in page p, by offsets in the file
abbrev pub run_line : ℕ → ℕ → ByteRun → List ℕ
run_line page_size p run = indented (bytes_text (page_begin page_size p + run.start) (page_begin page_size p + run.start + (run.len - 1))
    ++ (if run.byte == 0 then codes " are zeros" else codes " are all " ++ hex_text 2 run.byte))

-- of the longest one, if there is one
abbrev pub run_text : ℕ → ℕ → Option ByteRun → List ℕ
run_text page_size p run = option_map_or (run_line page_size p) run []

-- the line of rowids
abbrev pub rowids_line : List ℕ → List ℕ
rowids_line bounds = indented (codes "by the keys around it, its rowids are" ++ bounds)

-- a key that rowids are above, or up to
abbrev pub bound_text : List ℕ → ℤ → List ℕ
bound_text words key = words ++ signed_decimal key

-- between which rowids the rows of a page are, if there are keys around it
abbrev pub rowids_text : Option ℤ → Option ℤ → List ℕ
rowids_text None None = []
rowids_text (Some above) None = rowids_line (bound_text (codes " above ") above)
rowids_text None (Some up_to) = rowids_line (bound_text (codes " up to ") up_to)
rowids_text (Some above) (Some up_to) = rowids_line (bound_text (codes " above ") above ++ codes " and" ++ bound_text (codes " up to ") up_to)

-- what is known of page p: its longest run of one byte, and its rowids
abbrev pub facts_text : ℕ → ℕ → PageFacts → List ℕ
facts_text page_size p facts = run_text page_size p facts.run ++ rowids_text facts.rowids.above facts.rowids.up_to

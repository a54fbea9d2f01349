-- The references that lead to pages after the end that the header of a file states (own).
use Rattle.std.specs.Prelude.{ℕ, ◌+◌, ◌/◌, Bool, true, false, ◌&&◌, List, length, count_by, nat_le, nat_lt, if◌then◌else◌}
use Rattle.dbformat.specs.File.{geometry}
use Rattle.dbformat.specs.Lines.{counted}
use Rattle.dbformat.specs.Reference.{Reference}
use Rattle.dbformat.specs.Report.{faults}
use Rattle.dbformat.specs.declared.Fault.{Fault}
use Rattle.dbformat.specs.declared.FaultCode.{FaultCode}
use Rattle.dbformat.specs.declared.FaultCode.TheVariants.{R01}
use Rattle.dbformat.specs.declared.Geometry.{Geometry}
use Rattle.dbtrace.specs.declared.TracedFault.{TracedFault}
use Rattle.dbexplain.specs.Below.{is_after_end, value_page}
use Rattle.dbexplain.specs.declared.after_end.AfterEnd.{AfterEnd}

-- whether a fault with this code is of a reference to a page that the file does not have
abbrev pub is_outside : FaultCode → Bool
is_outside R01 = true
is_outside _ = false

-- whether a fault is of a reference to a page that is whole in a file of this length, but after the end that its header states
abbrev pub leads_after_end : Geometry → ℕ → Fault → Bool
leads_after_end g len f = is_outside f.code && is_after_end g len (value_page f.value)

-- How many of all faults of a file with survey V are, listed or not.
abbrev pub references_after_end : List ℕ → List Reference → ℕ
references_after_end file V = count_by (leads_after_end (geometry file) (length file)) (faults file V)

-- ---- as they are counted

-- none yet, in a file of this length
abbrev pub none_after_end : Geometry → ℕ → AfterEnd
none_after_end g len = record { last = g.pages; whole = len / g.page_size; references = 0 }

-- whether a fault is of a reference to a page after the last one, up to the last that is whole
abbrev pub is_between : AfterEnd → Fault → Bool
is_between c f = is_outside f.code && (nat_lt c.last (value_page f.value) && nat_le (value_page f.value) c.whole)

-- a fault more
abbrev pub after_end_reported : AfterEnd → TracedFault → AfterEnd
after_end_reported c t = if is_between c t.fault then record c { references = counted (c.references + 1) } else c

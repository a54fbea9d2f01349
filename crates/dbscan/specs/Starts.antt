-- The starts of a file: as a reporter receives them, and as a run finds those after the schema's, the roots of a list and the first
-- trunk.
use Rattle.std.specs.Prelude.{◌≡◌, ◌≢◌, ℕ, ◌≤◌, Bool, List, [], ◌∷◌, map, ◌++◌, Option, None}
use Rattle.std.specs.List.{enumerate_from}
use Rattle.std.specs.Option.{option_copied}
use Rattle.dbsurvey.specs.Address.{IsIn}
use Rattle.dbsurvey.specs.Story.{Errand, Follow, errands_at}
use Rattle.dbsurvey.specs.Survey.{Link}
use Rattle.dbformat.specs.Address.{freelist_start, schema_start}
use Rattle.dbformat.specs.EndFaults.{has_rows}
use Rattle.dbformat.specs.Reference.{Way, Reference}
use Rattle.dbformat.specs.Schema.{schema_link, root_start, freelist_starts, later_starts}
use Rattle.dbformat.specs.SchemaRow.{SchemaRow}
use Rattle.dbformat.specs.Story.{Event}
use Rattle.dbformat.specs.declared.Encoding.{Encoding}
use Rattle.dbformat.specs.declared.RowKind.{RowKind}
use Rattle.dbformat.specs.declared.RowKind.TheVariants as row
use Rattle.dbwalk.specs.declared.root.Root.{Root}
use Rattle.dbwalk.specs.declared.root.RootKind.{RootKind}
use Rattle.dbwalk.specs.declared.root.RootKind.TheVariants as root
use Rattle.dbscan.specs.Roots.{AreListed}
use Rattle.dbscan.specs.declared.start.Start.TheInside.{Inside}

-- a start as contracts see it: its number, and the name of its row of the schema
pub record At : Type 0 where
  pub number : ℕ
  pub name : Option (List ℕ)

-- what the fields hold
abbrev pub start_in : Inside → At
start_in s = record { number = s.number; name = option_copied s.name }

-- there are no more starts than those of a file
abbrev pub IsNumbered : Inside → Type 0
IsNumbered s = s.number ≤ freelist_start

-- the start of the schema, that of its k-th row with a root page, and that of the freelist
abbrev pub at_schema : At
at_schema = record { number = schema_start; name = None }

abbrev pub at_row : ℕ → SchemaRow → At
at_row k r = record { number = k; name = r.name }

abbrev pub at_freelist : At
at_freelist = record { number = freelist_start; name = None }

-- how a row names the kind of its tree
abbrev pub kind_by : RowKind → RootKind
kind_by row.Index = root.Index
kind_by _ = root.Own

-- the root of a row of the schema, as that of a start
abbrev pub root_of : Encoding → ℕ → SchemaRow → Root
root_of encoding k r = record { start = k; page = r.root; kind = kind_by r.kind; encoding = encoding }

-- the root of the schema
abbrev pub root_of_schema : Encoding → Root
root_of_schema encoding = record { start = schema_start; page = 1; kind = root.Schema; encoding = encoding }

-- the starts of these rows, numbered from k on, and then the freelist's
abbrev pub starts_from : List ℕ → ℕ → List SchemaRow → List (Link Way)
starts_from file k rows = map (root_start file) (enumerate_from k rows) ++ freelist_starts file

-- what there is to do at them
abbrev pub start_errands_from : List ℕ → ℕ → List SchemaRow → List (Errand Way Event)
start_errands_from file k rows = errands_at [] (map Follow (starts_from file k rows))

-- the reference to page 1
abbrev pub schema_reference : Reference
schema_reference = record { address = schema_start ∷ []; page = 1; role = schema_link.role }

-- what there is to do after it, by the rows of the schema
abbrev pub later_errands : List ℕ → List Reference → List (Errand Way Event)
later_errands file V = errands_at [] (map Follow (later_starts file V))

-- What the walk over the schema has found: whether it has a row, and the roots of its rows, by which what is left to do
-- is known.
pub record IsSchemaOf (file : List ℕ) (V : List Reference) (rows : List SchemaRow) (any : Bool) : Type 0 where
  pub has_rows : any ≡ has_rows file V
  pub listed : AreListed file V rows
  pub left : start_errands_from file 1 rows ≡ later_errands file V

-- visits that are all below starts
abbrev pub AreBelowStarts : List Reference → Type 0
AreBelowStarts V = (u : Reference) → IsIn u V → u.address ≢ []

-- The list of roots: the rows of the schema that have a root page, as far as there is room.
use Rattle.std.specs.Prelude.{◌≡◌, ℕ, ◌+◌, ◌-◌, ◌*◌, ◌≤◌, ◌==◌, nat_le, List, ◌++◌, length, take, drop, map, slice_get, All, vec_len, Option, Some}
use Rattle.std.specs.Prelude.{None, if◌then◌else◌}
use Rattle.std.specs.Option.{option_map_or}
use Rattle.dbformat.specs.Address.{last_root_start, schema_start}
use Rattle.dbformat.specs.Reference.{Reference}
use Rattle.dbformat.specs.Schema.{schema, rooted_rows}
use Rattle.dbformat.specs.SchemaRow.{SchemaRow}
use Rattle.dbsource.specs.Failures.{one_more}
use Rattle.dbwalk.specs.Taking.{ListTakes}
use Rattle.dbwalk.specs.declared.taker.Taken.{Taken}
use Rattle.dbscan.specs.declared.roots.Span.{Span}
use Rattle.dbscan.specs.declared.roots.RootRow.{RootRow}
use Rattle.dbscan.specs.declared.roots.RootList.TheInside.{Inside}

-- a list of roots as contracts see it: its rows, and how many calls were refused memory
pub record Listed : Type 0 where
  pub rows : List SchemaRow
  pub refusals : ℕ

-- the rows of the schema that have a root page, the first 65536
abbrev pub listed_rows : List ℕ → List Reference → List SchemaRow
listed_rows file V = take last_root_start (rooted_rows (schema file V))

-- these are they
abbrev pub AreListed : List ℕ → List Reference → List SchemaRow → Type 0
AreListed file V rows = rows ≡ listed_rows file V

-- the root page of start k: page 1 of the schema, and 0 where there is no such start
abbrev pub root_page : List SchemaRow → ℕ → ℕ
root_page rows k = if k == schema_start then 1 else option_map_or (λ row. row.root) (slice_get rows (k - 1)) 0

-- a name of at most 1000 bytes, or none
abbrev pub short_name : Option (List ℕ) → Option (List ℕ)
short_name None = None
short_name (Some name) = if nat_le (length name) 1000 then Some name else None

-- what is kept of a row
abbrev pub kept_row : SchemaRow → SchemaRow
kept_row row = record { kind = row.kind; root = row.root; name = short_name row.name }

-- a row was taken, with this answer
abbrev pub TakesRow : Listed → SchemaRow → Taken → Listed → Type 0
TakesRow s row answer t = ListTakes kept_row s.rows row answer t.rows × (t.refusals ≡ s.refusals)

-- memory was refused: the rows are as before
abbrev pub RefusesRow : Listed → SchemaRow → Listed → Type 0
RefusesRow s row t = t ≡ record s { refusals = one_more s.refusals }

-- the bytes of a name, among those of all
abbrev pub name_in : List ℕ → Option Span → Option (List ℕ)
name_in names None = None
name_in names (Some span) = Some (take span.len (drop span.start names))

-- the row of an entry
abbrev pub entry_row : List ℕ → RootRow → SchemaRow
entry_row names e = record { kind = e.kind; root = e.page; name = name_in names e.name }

-- what the fields hold
abbrev pub listed : {A : Type 0} → Inside A → Listed
listed l = record { rows = map (entry_row l.names.items) l.entries.items; refusals = l.refusals }

-- a name is within the first n bytes, and has 1000 at most
abbrev pub IsWithin : ℕ → Option Span → Type 0
IsWithin n None = Unit {0}
IsWithin n (Some span) = (span.start + span.len ≤ n) × (span.len ≤ 1000)

-- There are 65536 entries at most, with names of 1000 bytes at most.
pub record AreRoots {A : Type 0} (l : Inside A) : Type 0 where
  pub most : vec_len l.entries ≤ last_root_start
  pub names : vec_len l.names ≤ 1000 * vec_len l.entries
  pub within : All (λ e. IsWithin (vec_len l.names) e.name) l.entries.items

-- the old bytes, and then others
pub record Grows (old new : List ℕ) : Type 0 where
  pub added : List ℕ
  pub is : new ≡ old ++ added

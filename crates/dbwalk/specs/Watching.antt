-- A sink and a taker as one state that is handed the items of a walk: findings, and rows of the schema.
use Rattle.std.specs.Prelude.{◌≡◌, List, Result, Ok, Err}
use Rattle.dbformat.specs.Schema.{SchemaCell}
use Rattle.dbformat.specs.SchemaRow.{SchemaRow}
use Rattle.dbformat.specs.declared.RowFault.{RowFault}
use Rattle.dbsource.specs.declared.error.RunError.{RunError}
use Rattle.dbsource.specs.declared.error.RunError.TheVariants.{OutOfMemory}
use Rattle.dbsurvey.specs.Moves.{Moves, Stops, MovesBySome}
use Rattle.dbtrace.specs.Finding.{Finding}
use Rattle.dbtrace.specs.Item.{Item, found, given}
use Rattle.dbwalk.specs.Taking.{HandsRow, FailsRow}
use Rattle.dbwalk.specs.declared.schema_row.RowPlace.{RowPlace}
use Rattle.dbwalk.specs.declared.taker.Taken.{Taken}

-- the row of a cell of the schema, with its place
abbrev pub row_at : SchemaCell → RowPlace × Result SchemaRow RowFault
row_at c = (record { page = c.page; item = c.item; rowid = c.rowid }, c.row)

-- a finding changes the sink; a row goes to the taker, and its faults to the sink
abbrev pub watches : {S T : Type 0} → (S → Finding → S → Type 0) → (T → SchemaRow → Taken → T → Type 0) → (S × T) → Item → (S × T) → Type 0
watches takes keeps w (found f) x = takes w.0 f x.0 × (w.1 ≡ x.1)
watches takes keeps w (given c) x = HandsRow (Moves takes) keeps (row_at c) w x

-- a row for which the taker was refused memory, and of which nothing was reported
abbrev pub fails : {S T : Type 0} → (T → SchemaRow → T → Type 0) → (S × T) → Item → (S × T) → Type 0
fails refuses w (given c) x = FailsRow refuses OutOfMemory (row_at c) w x
fails refuses w (found f) x = ⊥

-- a sink alone: it is given findings and no row, and asks for no memory
abbrev pub fed : {S : Type 0} → (S → Finding → S → Type 0) → S → Item → S → Type 0
fed takes s (found f) t = takes s f t
fed takes s (given c) t = ⊥

abbrev pub never : {S : Type 0} → S → Item → S → Type 0
never s item t = ⊥

-- The items changed the state up to one that failed, if memory was refused; at another error, up to some point.
abbrev pub StopsAt : {P : Type 0} → (P → Item → P → Type 0) → (P → Item → P → Type 0) → RunError → P → List Item → P → Type 0
StopsAt moves stops OutOfMemory w items x = Stops moves stops w items x
StopsAt moves stops _ w items x = MovesBySome moves w items x

-- at Ok all items, after an error a beginning of them
abbrev pub Handed : {P A : Type 0} → (P → Item → P → Type 0) → (P → Item → P → Type 0) → Result A RunError → P → List Item → P → Type 0
Handed moves stops (Ok a) w items x = Moves moves w items x
Handed moves stops (Err e) w items x = StopsAt moves stops e w items x

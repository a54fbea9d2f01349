-- Rows of the schema: what a sieve has taken of a payload, what is reported of a row, and what the taker answers.
use Rattle.std.specs.Prelude.{◌≡◌, ℕ, ◌+◌, Bool, true, false, List, [], ◌∷◌, ◌++◌, length, map, take, nat_lt, ◌==◌, if◌then◌else◌, Option}
use Rattle.std.specs.Prelude.{Some, None, Result, Ok, Err, filter_map, MatchResult, is_none, unwrap_or, ℤ, pos}
use Rattle.dbformat.specs.Address.{last_root_start, then_step, overflow_step}
use Rattle.dbformat.specs.SchemaRow.{SchemaRow}
use Rattle.dbwalk.specs.declared.taker.Taken.{Taken}
use Rattle.dbwalk.specs.declared.taker.Taken.TheVariants as answer
use Rattle.std.specs.Result.{result_ok}
use Rattle.dbformat.specs.Cell.{Cell}
use Rattle.dbformat.specs.Reference.{Reference}
use Rattle.dbformat.specs.Schema.{payload, schema}
use Rattle.dbformat.specs.declared.Encoding.{Encoding}
use Rattle.dbbytes.specs.Sieve.{HasTaken}
use Rattle.dbbytes.specs.declared.sieve.RowSieve.{RowSieve}
use Rattle.dbwalk.specs.LeafCells.{AreBefore}
use Rattle.dbtrace.specs.Finding.{Finding}
use Rattle.dbsurvey.specs.Moves.{Moves}
use Rattle.dbsource.specs.declared.error.RunError.{RunError}
use Rattle.dbsource.specs.declared.error.RunError.TheVariants.{OutOfMemory, WriteFailed}
use Rattle.dbformat.specs.Faults.{fault}
use Rattle.dbformat.specs.Tests.{reported_if}
use Rattle.dbformat.specs.declared.Fault.{Fault}
use Rattle.dbformat.specs.declared.FaultCode.TheVariants.{S01, S02, S03, S04}
use Rattle.dbformat.specs.declared.RowFault.{RowFault}
use Rattle.dbformat.specs.declared.RowFault.TheVariants.{Malformed, Root}
use Rattle.dbwalk.specs.Reporting.{findings}
use Rattle.dbwalk.specs.declared.schema_row.RowPlace.{RowPlace}

-- the answer to a row with this root, where `held` roots are held
abbrev pub answer_to : ℕ → ℕ → Taken
answer_to held root = if root == 0 then answer.NoRoot else if nat_lt held last_root_start then answer.Taken else answer.Full

-- how many roots are held after it
abbrev pub held_after : ℕ → ℕ → ℕ
held_after held root = if root == 0 then held else if nat_lt held last_root_start then held + 1 else held

-- By a count of the roots that it holds, a taker takes a root while it holds fewer than 65536, and answers Full after that.
pub record HasRootRoom {T : Type 0} (takes : T → SchemaRow → Taken → T → Type 0) (held : T → ℕ) : Type 0 where
  pub answers : (s t : T) (row : SchemaRow) (a : Taken) → takes s row a t → a ≡ answer_to (held s) row.root
  pub counts : (s t : T) (row : SchemaRow) (a : Taken) → takes s row a t → held t ≡ held_after (held s) row.root

-- It has this room, and holds no root yet.
pub record StartsEmpty {T : Type 0} (takes : T → SchemaRow → Taken → T → Type 0) (held : T → ℕ) (first : T) : Type 0 where
  pub room : HasRootRoom takes held
  pub none : held first ≡ 0

-- whether there was no room
abbrev pub is_full : Taken → Bool
is_full answer.Full = true
is_full answer.Taken = false
is_full answer.NoRoot = false

-- a list of roots after a row: the row's entry is added if it has a root and there is room
abbrev pub roots_after : {E : Type 0} → (SchemaRow → E) → List E → SchemaRow → List E
roots_after entry roots row = if row.root == 0 then roots else if nat_lt (length roots) last_root_start then roots ++ entry row ∷ [] else roots

-- what such a list does with a row, and answers
abbrev pub ListTakes : {E : Type 0} → (SchemaRow → E) → List E → SchemaRow → Taken → List E → Type 0
ListTakes entry roots row a new = (a ≡ answer_to (length roots) row.root) × (new ≡ roots_after entry roots row)

-- the list after these rows with a root: the first 65536 of them
abbrev pub first_roots : {E : Type 0} → (SchemaRow → E) → List SchemaRow → List E
first_roots entry rows = map entry (take last_root_start rows)

-- there is a sieve for a row of `size` bytes, and it has taken these bytes of it
abbrev pub HasFed : Option RowSieve → ℕ → Encoding → List ℕ → Type 0
HasFed None size e bytes = ⊥
HasFed (Some s) size e bytes = HasTaken s size e bytes

-- a sieve that has taken the payload bytes in the cell, if the cell can be read
abbrev pub HoldsCell : Option RowSieve → Encoding → Option Cell → Type 0
HoldsCell sieve e None = sieve ≡ None
HoldsCell sieve e (Some x) = HasFed sieve x.size e x.local

-- A sieve that had taken the payload bytes in the cell has taken all of the payload that can be found, where the visits of U were
-- before the cell's chain, and those of V up to its end.
pub record FeedsPayload (file : List ℕ) (U V : List Reference) (c : Reference) (i : ℕ) (old new : Option RowSieve) : Type 0 where
  pub fed : (x : Cell) (e : Encoding) → AreBefore U (then_step c.address (overflow_step i)) → HasFed old x.size e x.local
      → HasFed new x.size e (payload file V c.address i x)

-- a row changes a taker, whatever it answers
abbrev pub gives : {T : Type 0} → (T → SchemaRow → Taken → T → Type 0) → T → SchemaRow → T → Type 0
gives takes s row t = (a : Taken) × takes s row a t

-- the rows of the schema that can be read, in their order
abbrev pub readable_rows : List ℕ → List Reference → List SchemaRow
readable_rows file V = filter_map (λ c. result_ok c.row) (schema file V)

-- What is reported of a row of the schema, and who takes it.

-- the place of the row of a cell with this key
abbrev pub row_place : ℕ → ℕ → Option ℤ → RowPlace
row_place page item key = record { page = page; item = item; rowid = unwrap_or key (pos 0) }

-- the fault of a row that cannot be read, or whose root page is wrong
abbrev pub fault_of : RowPlace → RowFault → Fault
fault_of at Malformed = fault S01 at.page at.item at.rowid
fault_of at (Root value) = fault S03 at.page at.item value

-- the faults of one that can be read, by what the taker answers
abbrev pub taken_faults : RowPlace → SchemaRow → Taken → List Fault
taken_faults at row a = reported_if (is_none row.name) (fault S02 at.page at.item at.rowid)
    ++ reported_if (is_full a) (fault S04 at.page at.item (pos row.root))

-- The taker gets a row that can be read, and then its faults are reported, S04 exactly if it answered Full. Of another row only
-- the fault is reported. `reports` says what reporting findings leaves.
abbrev pub HandsRow : {S T : Type 0} → (S → List Finding → S → Type 0) → (T → SchemaRow → Taken → T → Type 0) → RowPlace × Result SchemaRow RowFault
    → S × T → S × T → Type 0
HandsRow reports keeps (at, Err f) before after = reports before.0 (findings (fault_of at f ∷ [])) after.0 × (before.1 ≡ after.1)
HandsRow reports keeps (at, Ok row) before after = (a : Taken) × keeps before.1 row a after.1 × reports before.0 (findings (taken_faults at row a)) after.0

-- The sink was found shut, and nothing was done with the row; or the taker was refused memory for it, and nothing was reported.
abbrev pub FailsRow : {S T : Type 0} → (T → SchemaRow → T → Type 0) → RunError → RowPlace × Result SchemaRow RowFault → S × T → S × T → Type 0
FailsRow refuses WriteFailed row before after = before ≡ after
FailsRow refuses OutOfMemory (at, Ok row) before after = refuses before.1 row after.1 × (before.0 ≡ after.0)
FailsRow refuses _ row before after = ⊥

-- what was done with a row
abbrev pub ReportsRow : {S T A : Type 0} → (S → Finding → S → Type 0) → (T → SchemaRow → Taken → T → Type 0) → (T → SchemaRow → T → Type 0)
    → RowPlace × Result SchemaRow RowFault → Result A RunError → S × T → S × T → Type 0
ReportsRow takes keeps refuses row r before after = MatchResult r (λ _. HandsRow (Moves takes) keeps row before after) (λ e.
    FailsRow refuses e row before after)

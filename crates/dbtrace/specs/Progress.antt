-- What a walk over one tree keeps of the events so far, beside the visits: a fold over them.
use Rattle.std.specs.Prelude.{ℕ, not, ◌&&◌, List, [], ◌∷◌, Option, Some, None, option_map, ℤ, int_lt, pos, ◌==◌, if◌then◌else◌}
use Rattle.std.specs.Option.{option_map_or}
use Rattle.dbsurvey.specs.Greatest.{OrderedKey, is_out}
use Rattle.dbformat.specs.Tests.{reported_if}
use Rattle.dbformat.specs.Faults.{fault}
use Rattle.dbformat.specs.Address.{start_of, depth, schema_start}
use Rattle.dbformat.specs.Head.{View, is_interior}
use Rattle.dbformat.specs.Cell.{Cell}
use Rattle.dbformat.specs.Reference.{Reference, role_of, tree_kind}
use Rattle.dbformat.specs.Schema.{SchemaCell, schema_cell}
use Rattle.dbformat.specs.PageFaults.{is_leaf_of}
use Rattle.dbformat.specs.KeyFaults.{Key, key_of}
use Rattle.dbformat.specs.Story.{Event, at_page, at_key, at_refused}
use Rattle.dbformat.specs.declared.Fault.{Fault}
use Rattle.dbformat.specs.declared.FaultCode.{FaultCode}
use Rattle.dbformat.specs.declared.FaultCode.TheVariants.{T05, T06, O01}
use Rattle.dbtrace.specs.Causes.{cell_key, leaf_at, leaf_cause, key_up_to, left_rows, refusal_of, visit_cause, cause_of}
use Rattle.dbtrace.specs.declared.CellKey.{CellKey}
use Rattle.dbtrace.specs.declared.RowidBounds.{RowidBounds}
use Rattle.dbtrace.specs.declared.TreeLeaf.{TreeLeaf}
use Rattle.dbtrace.specs.declared.Cause.{Cause}
use Rattle.dbtrace.specs.declared.Cause.TheVariants as cause

-- the greatest key, at the first cell that has it, and the first undamaged leaf
pub record Progress : Type 0 where
  pub greatest : Option CellKey
  pub leaf : Option TreeLeaf

-- before the first event of a tree
abbrev pub no_progress : Progress
no_progress = record { greatest = None; leaf = None }

-- a rowid has to be greater than every earlier key, and the key of an interior page not smaller than one
abbrev pub key_entry : Key → OrderedKey ℤ
key_entry key = record { key = key.value; strict = key.is_rowid }

-- the greatest key so far, or a further one that is greater
abbrev pub greater_key : Option CellKey → CellKey → Option CellKey
greater_key None key = Some key
greater_key (Some top) key = if int_lt top.value key.value then Some key else Some top

-- the greatest key after those of a cell
abbrev pub greatest_after : Option CellKey → List Key → Option CellKey
greatest_after top [] = top
greatest_after top (key ∷ keys) = greatest_after (greater_key top (cell_key key)) keys

-- the value of the greatest key, if there is one
abbrev pub key_value : Option CellKey → Option ℤ
key_value top = option_map (λ k. k.value) top

-- a key out of order, by the greatest so far
abbrev pub late_faults : Option CellKey → Key → List Fault
late_faults top key = reported_if (is_out int_lt (key_value top) (key_entry key)) (fault T06 key.page key.item key.value)

-- the first leaf after a visit with these rowids
abbrev pub leaf_after : List ℕ → Option TreeLeaf → RowidBounds → Reference → Option TreeLeaf
leaf_after file (Some l) rowids r = Some l
leaf_after file None rowids r = if is_leaf_of file (start_of r.address) r then Some (leaf_at rowids r) else None

-- the depth of the first leaf, or else d
abbrev pub depth_of : Option TreeLeaf → ℕ → ℕ
depth_of leaf d = option_map_or (λ l. l.depth) leaf d

-- a leaf at another depth than the first, by the depth of the first
abbrev pub depth_faults : List ℕ → Option TreeLeaf → Reference → List Fault
depth_faults file leaf r = reported_if (is_leaf_of file (start_of r.address) r && not (depth r.address == depth_of leaf (depth r.address)))
    (fault T05 r.page 0 (pos (depth r.address)))

-- the rowids of a page, where the bound by the cells above it is known
abbrev pub rowids_by : Progress → Option ℤ → RowidBounds
rowids_by p up_to = record { above = key_value p.greatest; up_to = up_to }

-- The cause of a fault of this code at an event, by the progress so far, where U has the visits up to it.
abbrev pub cause_by : List ℕ → List Reference → Progress → Event → FaultCode → Cause
cause_by file U p (at_page r) T05 = leaf_cause (rowids_by p (key_up_to file U r)) p.leaf
cause_by file U p (at_page r) O01 = cause_of file U (at_page r) O01
cause_by file U p (at_page r) code = visit_cause (rowids_by p (key_up_to file U r)) file r code
cause_by file U p (at_key r v x) T06 = option_map_or (λ k. cause.Key k (left_rows v x)) p.greatest cause.Itself
cause_by file U p (at_key r v x) code = cause.Itself
cause_by file U p (at_refused r) code = refusal_of file U r (rowids_by p (key_up_to file U r)) (tree_kind (role_of r))

-- the row of the schema that a cell spells, by the visits so far, where it is in a leaf of the schema's tree
abbrev pub rows_of : List ℕ → List Reference → Reference → View → ℕ × Cell → List SchemaCell
rows_of file U r v cell = if (start_of r.address == schema_start) && not (is_interior v.kind) then schema_cell file U r cell ∷ [] else []

-- one event on, where U has the visits up to it
abbrev pub step : List ℕ → List Reference → Progress → Event → Progress
step file U p (at_page r) = record { greatest = p.greatest; leaf = leaf_after file p.leaf (rowids_by p (key_up_to file U r)) r }
step file U p (at_key r v cell) = record { greatest = greatest_after p.greatest (key_of r v cell); leaf = p.leaf }
step file U p (at_refused r) = p

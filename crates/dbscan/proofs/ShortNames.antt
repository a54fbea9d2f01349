-- The rows of the schema have only short names, so that a list of roots keeps them as they are.
use Rattle.dbscan.proofs.Common.{arith, ◌≡◌, ℕ, Bool, true, false, cond, inl, inr, subst, List, [], ◌∷◌, length, map, Option, Some, None, Result, Ok, Err, ℤ}
use Rattle.dbscan.proofs.Common.{pos, refl, sym, ◌==◌, start_of, schema_start, View, is_interior, encoding, Reference, tree_view, SchemaCell, schema_cell}
use Rattle.dbscan.proofs.Common.{schema, rooted, rooted_rows, SchemaRow, Encoding, kept_row, cons_option, IsIn-from_flat_map, RowFault, IsIn, IsIn-from_map}
use Rattle.dbscan.proofs.Common.{cells, payload, leaf_rows, rows_at, short_name}
use Rattle.dbformat.specs.Record.{Value, record_values}
use Rattle.dbformat.specs.SchemaRow.{row_kind, root_number, root_fits, row_name, checked_row, row_of_values, schema_row}
use Rattle.dbformat.specs.declared.RowKind.{RowKind}

-- what is read has a short name
abbrev HasShortName : Result SchemaRow RowFault → Type 0
HasShortName (Ok r) = short_name r.name ≡ r.name
HasShortName (Err e) = Unit {0}

name_is_short : (e : Encoding) (v : Value) → short_name (row_name e v) ≡ row_name e v
name_is_short e v = grind arith

checked_short : (kind : Option RowKind) (root : Option ℤ) (name : Option (List ℕ)) → short_name name ≡ name → HasShortName (checked_row kind root name)
checked_short (Some kind) (Some (pos root)) name h = by_root (root_fits kind root)
  where
    by_root : (b : Bool) → HasShortName (cond b (Ok (record { kind = kind; root = root; name = name })) (checked_row None (Some (pos root)) name))
    by_root true = h
    by_root false = tt
checked_short kind root name h = tt

values_short : (e : Encoding) (columns : Option (List Value)) → HasShortName (row_of_values e columns)
values_short e (Some (type ∷ name ∷ table ∷ root ∷ sql ∷ [])) = checked_short (row_kind e type) (root_number root) (row_name e name) (name_is_short e name)
values_short e _ = tt

row_short : (bytes : List ℕ) (size : ℕ) (e : Encoding) → HasShortName (schema_row bytes size e)
unfolding schema_row
row_short bytes size e = by_size (length bytes == size)
  where
    by_size : (b : Bool) → HasShortName (cond b (row_of_values e (record_values 5 bytes)) (row_of_values e None))
    by_size true = values_short e (record_values 5 bytes)
    by_size false = tt

-- a cell of the schema is read from one of a page
at_page : (file : List ℕ) (V : List Reference) (r : Reference) (c : SchemaCell) → IsIn c (rows_at file V r) → HasShortName c.row
at_page file V r c i = by_start (start_of r.address == schema_start) (tree_view file r) i
  where
    by_kind : (b : Bool) (v : View) → IsIn c (cond b [] (map (schema_cell file V r) (cells v))) → HasShortName c.row
    by_kind true v i = absurd i
    by_kind false v i =
        let m = IsIn-from_map (schema_cell file V r) (cells v) c i in
        subst (λ (c : SchemaCell). HasShortName c.row) (sym m.2) (row_short (payload file V r.address m.0.0 m.0.1) m.0.1.size (encoding file))

    by_start : (b : Bool) (o : Option View) → IsIn c (cond b (leaf_rows file V r o) []) → HasShortName c.row
    by_start true (Some v) i = by_kind (is_interior v.kind) v i
    by_start true None i = absurd i
    by_start false o i = absurd i

-- cell after cell
one_kept : (o : Result SchemaRow RowFault) (rows : List SchemaRow) → ((r : SchemaRow) → o ≡ Ok r → short_name r.name ≡ r.name) → map kept_row rows ≡ rows
    → map kept_row (cons_option (rooted o) rows) ≡ cons_option (rooted o) rows
one_kept o rows h k = grind arith

all_kept : (cells : List SchemaCell) → ((c : SchemaCell) → IsIn c cells → HasShortName c.row) → map kept_row (rooted_rows cells) ≡ rooted_rows cells
all_kept [] h = refl
all_kept (c ∷ cells) h =
    one_kept c.row (rooted_rows cells) (λ r e. subst HasShortName e (h c (inl refl))) (all_kept cells (λ d i. h d (inr i)))

pub roots_are_kept : (file : List ℕ) (V : List Reference) → map kept_row (rooted_rows (schema file V)) ≡ rooted_rows (schema file V)
unfolding schema
roots_are_kept file V = all_kept (schema file V) (λ c i. let m = IsIn-from_flat_map (rows_at file V) V c i in at_page file V m.0 c m.2)

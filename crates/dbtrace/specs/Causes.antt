-- What a fault goes back to (own), by the pages that are visited up to it: a key out of order to the first cell with the greatest
-- key before it, a leaf at another depth to the first leaf, a fault along an overflow chain to the cell of the chain, a page
-- of an unknown type to what it looks like, and any other fault within a page to the page.
use Rattle.std.specs.Prelude.{ℕ, zero, suc, ◌+◌, ◌-◌, ◌/◌, not, option_and_then, Bool, false, ℤ, ◌&&◌, ◌||◌, List, [], ◌∷◌, find, filter, drop, length, take}
use Rattle.std.specs.Prelude.{Option, Some, None, is_some, option_map, count_by, int_lt, unwrap_or, if◌then◌else◌, ◌==◌}
use Rattle.std.specs.List.{list_any, range_with_len}
use Rattle.std.specs.Option.{option_map_or, option_or}
use Rattle.std.specs.Ordering.{int_eq}
use Rattle.std.specs.Result.{result_ok}
use Rattle.dbsurvey.specs.Address.{Address}
use Rattle.dbsurvey.specs.InOrder.{is_before}
use Rattle.dbformat.specs.Options.{◌>>=◌}
use Rattle.dbformat.specs.File.{geometry, page_bytes}
use Rattle.dbformat.specs.Head.{View, is_interior, view}
use Rattle.dbformat.specs.Cell.{Cell, cell, child_number, count}
use Rattle.dbformat.specs.NamedPages.{named_page}
use Rattle.dbformat.specs.Header.{usable_size}
use Rattle.dbformat.specs.Address.{cell_of_step, start_of, depth, chain_place}
use Rattle.dbformat.specs.Reference.{Role, later_overflow, Reference, role_of, from_of, item_of, bytes_left, tree_kind, tree_view}
use Rattle.dbformat.specs.Looks.{is_zeros, look_of}
use Rattle.dbformat.specs.Runs.{content_run, usable_run}
use Rattle.dbformat.specs.PageFaults.{is_leaf_of}
use Rattle.dbformat.specs.KeyFaults.{Key, key_of, keys, earlier_keys}
use Rattle.dbformat.specs.Story.{Event, at_page, at_key, at_refused}
use Rattle.dbformat.specs.declared.ByteRun.{ByteRun}
use Rattle.dbformat.specs.declared.FaultCode.{FaultCode}
use Rattle.dbformat.specs.declared.FaultCode.TheVariants.{P01, P02, P03, P04, P05, P06, P07, P08, P09, P10, T05, T06, O01}
use Rattle.dbformat.specs.declared.Look.{Look}
use Rattle.dbformat.specs.declared.Look.TheVariants as look
use Rattle.dbformat.specs.declared.TreeKind.{TreeKind}
use Rattle.dbtrace.specs.declared.CellKey.{CellKey}
use Rattle.dbtrace.specs.declared.TreeLeaf.{TreeLeaf}
use Rattle.dbtrace.specs.declared.CellChain.{CellChain}
use Rattle.dbtrace.specs.declared.SeenBytes.{SeenBytes}
use Rattle.dbtrace.specs.declared.NamedPages.{NamedPages}
use Rattle.dbtrace.specs.declared.PageFacts.{PageFacts}
use Rattle.dbtrace.specs.declared.RowidBounds.{RowidBounds}
use Rattle.dbtrace.specs.declared.Cause.{Cause}
use Rattle.dbtrace.specs.declared.Cause.TheVariants as cause

-- Keys.

-- a key, without its address
abbrev pub cell_key : Key → CellKey
cell_key k = record { page = k.page; item = k.item; value = k.value }

-- whether a key is above another: it is greater, or it is equal and comes before it
abbrev pub is_above : Key → Key → Bool
is_above j k = int_lt k.value j.value || (not (int_lt j.value k.value) && is_before j.place k.place)

-- the greatest of some keys, and of equal ones the first: none is above it
abbrev pub top_key : List Key → Option Key
top_key ks = find (λ k. not (list_any (λ j. is_above j k) ks)) ks

-- the greatest of the earlier keys of the tree, of the cell's key
abbrev pub top_before : List ℕ → List Reference → List Key → Option Key
top_before file V [] = None
top_before file V (key ∷ keys) = top_key (earlier_keys file V key)

-- Overflow chains.

-- the number of an overflow page in its chain, from 0
abbrev pub chain_number : Address → ℕ
chain_number a = option_map_or (λ p. p.1) (chain_place a) 0

-- the address of the first page of its chain
abbrev pub head_address : Address → Address
head_address a = take (length a - chain_number a) a

-- whether two addresses are one
abbrev pub is_same : Address → Address → Bool
is_same a b = not (is_before a b) && not (is_before b a)

-- the reference of the cell to the first page of the chain
abbrev pub chain_head : List Reference → Reference → Option Reference
chain_head V r = if chain_number r.address == 0 then Some r else find (λ u. is_same u.address (head_address r.address)) V

-- the number of overflow pages that a number of bytes takes
abbrev pub pages_for : ℕ → ℕ → ℕ
pages_for usable left = (left + (usable - 5)) / (usable - 4)

-- the rowid of a cell of a page, where it can be read and has one
abbrev pub cell_rowid : List ℕ → ℕ → ℕ → Option ℤ
cell_rowid file p i = do
  v ← result_ok (view p (usable_size file) (page_bytes file p))
  read ← result_ok (cell v i)
  read.key

-- what is seen in the usable bytes of an overflow page: whether they are zeros, and else the longest run of one byte
abbrev pub seen_bytes : ℕ → List ℕ → SeenBytes
seen_bytes usable page = record { are_zeros = is_zeros usable page; run = if is_zeros usable page then None else usable_run usable page }

-- of a fault that is of no overflow page
abbrev pub nothing_seen : SeenBytes
nothing_seen = record { are_zeros = false; run = None }

-- The chain that begins with this head: `left` bytes remain at page `number` of it, and `found` pages were found.
abbrev pub chain_of : List ℕ → Reference → ℕ → ℕ → ℕ → SeenBytes → CellChain
chain_of file head number left found seen = record {
  page = from_of head;
  item = item_of head;
  rowid = cell_rowid file (from_of head) (item_of head);
  pages = number + pages_for (usable_size file) left;
  found = found;
  seen = seen;
}

-- the cause of a fault at page `number` of a chain, where this many bytes are left; `more` is 1 where this page was found
abbrev pub chain_cause : List ℕ → List Reference → Reference → Option ℕ → ℕ → SeenBytes → Cause
chain_cause file V r None more seen = cause.Itself
chain_cause file V r (Some left) more seen =
    option_map_or (λ head. cause.Chain (chain_of file head (chain_number r.address) left (chain_number r.address + more) seen))
    (chain_head V r) cause.Itself

-- of a reference what is seen in the overflow page that it is from, if it is from one
abbrev pub seen_from : List ℕ → Reference → SeenBytes
seen_from file r = of_role (role_of r)
  where
    of_role : Role → SeenBytes
    of_role (later_overflow left) = seen_bytes (usable_size file) (page_bytes file (from_of r))
    of_role _ = nothing_seen

-- Rowids.

-- the keys at smaller places of the tree
abbrev pub keys_before : List ℕ → List Reference → Address → List Key
keys_before file V place = filter (λ k. (start_of k.place == start_of place) && is_before k.place place) (keys file V)

-- the greatest of them
abbrev pub key_above : List ℕ → List Reference → Address → Option ℤ
key_above file V place = option_map (λ k. k.value) (top_key (keys_before file V place))

-- the key of the cell whose left child is child i of a page: the right child has none
abbrev pub left_key : View → ℕ → Option ℤ
left_key v i = if i == count v then None else option_and_then (λ x. x.key) (result_ok (cell v i))

-- page p, where its head is sound
abbrev pub sound_page : List ℕ → ℕ → Option View
sound_page file p = result_ok (view p (usable_size file) (page_bytes file p))

-- the innermost of these keys along the steps from a page to one below it, or else this bound
abbrev pub bound_along : List ℕ → Option ℤ → Option View → List ℕ → Option ℤ
bound_along file bound page [] = bound
bound_along file bound None (step ∷ steps) = bound
bound_along file bound (Some v) (step ∷ steps) = bound_along file (option_or (left_key v (cell_of_step step)) bound)
    (sound_page file (unwrap_or (child_number v (cell_of_step step)) 0)) steps

-- the key of the innermost cell whose left child leads from a root to a page below it
abbrev pub key_from : List ℕ → Reference → Reference → Option ℤ
key_from file root r = bound_along file None (sound_page file root.page) (drop 1 r.address)

-- the root of the tree of an address
abbrev pub root_of : List Reference → Address → Option Reference
root_of V a = find (λ u. is_same u.address (take 1 a)) V

-- the key of the innermost cell whose left child leads to a visit
abbrev pub key_up_to : List ℕ → List Reference → Reference → Option ℤ
key_up_to file V r = option_and_then (λ root. key_from file root r) (root_of V r.address)

-- between which rowids the rows of a visited page are, or of one that a reference leads to: no cell of an index has a rowid
abbrev pub rowids_of : List ℕ → List Reference → Reference → RowidBounds
rowids_of file V r = record { above = key_above file V r.address; up_to = key_up_to file V r }

abbrev pub no_rowids : RowidBounds
no_rowids = record { above = None; up_to = None }

-- Leaves.

-- the page, the depth and the rowids of a visit
abbrev pub leaf_at : RowidBounds → Reference → TreeLeaf
leaf_at rowids r = record { page = r.page; depth = depth r.address; rowids = rowids }

-- the first undamaged leaf of the tree of a visit
abbrev pub first_leaf : List ℕ → List Reference → Reference → Option TreeLeaf
first_leaf file V r = option_map_or (λ u. Some (leaf_at (rowids_of file V u) u)) (find (is_leaf_of file (start_of r.address)) V) None

-- whether rows begin at the key with which others end
abbrev pub go_on_from : RowidBounds → RowidBounds → Bool
go_on_from own other = option_map_or (λ end. option_map_or (λ above. int_eq end above) own.above false) other.up_to false

-- the rows of a leaf at another depth than the first, by the rowids of both: where they go on from those of the first, also these,
-- since one of the two is at the wrong depth
abbrev pub leaf_rows : RowidBounds → RowidBounds → RowidBounds
leaf_rows first own = if go_on_from own first then record { above = first.above; up_to = own.up_to } else own

-- the cause of a fault of a leaf at another depth
abbrev pub leaf_cause : RowidBounds → Option TreeLeaf → Cause
leaf_cause own first = option_map_or (λ l. cause.Leaf l.page (leaf_rows l.rowids own)) first cause.Itself

-- References that are refused.

-- the cause of the fault of one of this kind of tree: to a page of a tree its rows, and else the chain that it breaks
abbrev pub refusal_of : List ℕ → List Reference → Reference → RowidBounds → Option TreeKind → Cause
refusal_of file V r rowids (Some kind) = cause.Rows rowids
refusal_of file V r rowids None = chain_cause file V r (bytes_left (role_of r)) 0 (seen_from file r)

-- by the visits so far
abbrev pub refusal_cause : List ℕ → List Reference → Reference → Cause
refusal_cause file V r = refusal_of file V r (rowids_of file V r) (tree_kind (role_of r))

-- Keys out of order.

-- the key of the cell before one
abbrev pub key_before : View → ℕ → Option ℤ
key_before v zero = None
key_before v (suc i) = option_and_then (λ x. x.key) (result_ok (cell v i))

-- of a key of an interior page, between which rowids the rows of its left child are, by the cell before it and its own key
abbrev pub left_rows : View → ℕ × Cell → Option RowidBounds
left_rows v x = if is_interior v.kind then Some (record { above = key_before v x.0; up_to = x.1.key }) else None

-- Pages.

-- the longest run of a page that looks like this: none of a blank page, of which it says nothing new
abbrev pub run_beside : Look → ℕ → List ℕ → Option ByteRun
run_beside (look.Blank byte) usable page = None
run_beside look usable page = usable_run usable page

-- what is known of a page of a tree
abbrev pub page_facts : RowidBounds → Option ByteRun → PageFacts
page_facts rowids run = record { run = run; named = None; rowids = rowids }

-- The cause of a fault of this code within page p of a tree: by its rowids, its bytes, and its view where it is undamaged.
abbrev pub page_cause : RowidBounds → ℕ → ℕ → List ℕ → Option View → FaultCode → Cause
page_cause rowids p usable page v P01 = cause.Look (look_of p usable page) (page_facts rowids (run_beside (look_of p usable page) usable page))
page_cause rowids p usable page v P02 = cause.Page p (page_facts rowids None)
page_cause rowids p usable page v P03 = cause.Page p (page_facts rowids (usable_run usable page))
page_cause rowids p usable page v P04 = cause.Page p (page_facts rowids (option_and_then content_run v))
page_cause rowids p usable page v P05 = cause.Page p (page_facts rowids (option_and_then content_run v))
page_cause rowids p usable page v P06 = cause.Page p (page_facts rowids (option_and_then content_run v))
page_cause rowids p usable page v P07 = cause.Page p (page_facts rowids (option_and_then content_run v))
page_cause rowids p usable page v P08 = cause.Page p (page_facts rowids (option_and_then content_run v))
page_cause rowids p usable page v P09 = cause.Page p (page_facts rowids (option_and_then content_run v))
page_cause rowids p usable page v P10 = cause.Rows rowids
page_cause rowids p usable page v _ = cause.Itself

-- that of a visited page
abbrev pub visit_cause : RowidBounds → List ℕ → Reference → FaultCode → Cause
visit_cause rowids file r code = page_cause rowids r.page (usable_size file) (page_bytes file r.page) (tree_view file r) code

-- Lost pages.

-- how many pages an interior page names, and how many of them are lost
abbrev pub names_of : (ℕ → Bool) → View → Option NamedPages
names_of is_lost v = if is_interior v.kind then Some (record {
  pages = count_by (λ i. is_some (named_page v i)) (range_with_len 0 (count v + 1));
  lost = count_by (λ i. option_map_or is_lost (named_page v i) false) (range_with_len 0 (count v + 1));
}) else None

-- what is known of a lost page
abbrev pub lost_facts : (ℕ → Bool) → Option View → PageFacts
lost_facts is_lost v = record { run = None; named = option_and_then (names_of is_lost) v; rowids = no_rowids }

-- the cause of the fault of lost page p, by its usable bytes
abbrev pub lost_cause : (ℕ → Bool) → ℕ → ℕ → List ℕ → Cause
lost_cause is_lost p usable page =
    cause.Look (look_of p usable page) (lost_facts is_lost (result_ok (view p usable page)))

-- by the bytes of a file
abbrev pub lost_cause_at : (ℕ → Bool) → List ℕ → ℕ → Cause
lost_cause_at is_lost file p = lost_cause is_lost p (geometry file).usable (page_bytes file p)

-- The cause of a fault of this code that is reported at an event.
abbrev pub cause_of : List ℕ → List Reference → Event → FaultCode → Cause
cause_of file V (at_page r) T05 = leaf_cause (rowids_of file V r) (first_leaf file V r)
cause_of file V (at_page r) O01 = chain_cause file V r (bytes_left (role_of r)) 1 (seen_bytes (usable_size file) (page_bytes file r.page))
cause_of file V (at_page r) code = visit_cause (rowids_of file V r) file r code
cause_of file V (at_key r v x) T06 = option_map_or (λ k. cause.Key (cell_key k) (left_rows v x)) (top_before file V (key_of r v x)) cause.Itself
cause_of file V (at_key r v x) _ = cause.Itself
cause_of file V (at_refused r) _ = refusal_cause file V r

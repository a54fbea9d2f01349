-- Examples of files with a pointer map, by computation: the order of root pages, and a freelist.
use Rattle.std.proofs.Common.{List, Ok, [], codes, refl, ℕ, ◌∷◌, ◌++◌, ◌≡◌}
use lib.Utf8.{encode}
use Rattle.std.specs.Str.{chars, is_utf8}
use Rattle.std.specs.Char.Utf16.{utf16_chars}
use Rattle.std.specs.Fmt.{digits}
use Rattle.dbformat.specs.Cell.{cell, cell_pointer, cells}
use Rattle.dbformat.specs.Coverage.{coverage, freeblocks, items, unused}
use Rattle.dbformat.specs.EndFaults.{sum_faults, use_fault, late_root_fault}
use Rattle.dbformat.specs.File.{map_entry, page_bytes, refusal_of}
use Rattle.dbformat.specs.FixedPages.{fixed_use, map_page_of}
use Rattle.dbformat.specs.Head.{cell_count, content_start, first_freeblock, fragmented_bytes, own_kind, right_number, type_byte, view}
use Rattle.dbformat.specs.Header.{change_counter, encoding, encoding_number, first_trunk, freelist_count, greatest_root, has_pointer_map, incremental_vacuum}
use Rattle.dbformat.specs.Header.{is_size_valid, page_count, page_size, reserved_bytes, schema_format, stated_pages, usable_size, version_valid_for}
use Rattle.dbformat.specs.Header.{whole_pages}
use Rattle.dbformat.specs.HeaderFaults.{header_faults}
use Rattle.dbformat.specs.KeyFaults.{key_faults, keys, row_faults}
use Rattle.dbformat.specs.Lines.{fault_line, more_line, path_text, tree_name}
use Rattle.dbformat.specs.PageFaults.{depth_fault, page_faults, tree_page_faults}
use Rattle.dbformat.specs.Payload.{local_len}
use Rattle.dbformat.specs.Record.{record_values, serial_len}
use Rattle.dbformat.specs.Reference.{Reference, first_overflow, free_leaf, root, tree_view, trunk}
use Rattle.dbformat.specs.Report.{faults, report, walk_faults}
use Rattle.dbformat.specs.Rows.{stat_rows}
use Rattle.dbformat.specs.Schema.{later_starts, payload, schema}
use Rattle.dbformat.specs.SchemaRow.{schema_row}
use Rattle.dbformat.specs.Survey.{refused, rules_of, survey}
use Rattle.dbformat.specs.Text.{shown_name}
use Rattle.dbformat.specs.Varint.{varint}
use Rattle.dbformat.specs.Address.{freelist_start}
use Rattle.dbformat.specs.Samples.{base_file, blank_page, empty_leaf, long_row_leaf, one_table, patched, reference, schema_root}
use Rattle.dbformat.specs.declared.Command.TheVariants.{Check}
use Rattle.dbformat.specs.declared.Verdict.TheVariants.{Clean, Faulty}
use Rattle.dbformat.specs.Story.{story_of, reporting}
use Rattle.dbformat.specs.declared.TreeKind.TheVariants as tree

-- ---- root pages first

-- an empty leaf
abbrev empty_page : List ℕ
empty_page = patched 0 (empty_leaf 512) blank_page

-- a table whose root page is after a free page
abbrev late_root : ℕ → List ℕ
late_root greatest = patched 55 (greatest ∷ []) (patched 35 (3 ∷ 0 ∷ 0 ∷ 0 ∷ 1 ∷ [])
    (one_table 4 (patched 0 (2 ∷ 0 ∷ 0 ∷ 0 ∷ 0 ∷ 1 ∷ []) blank_page ++ blank_page ++ empty_page)))

abbrev with_free_page : ℕ → ℕ → List Reference
with_free_page root_page free_page = schema_root ∷ reference (1 ∷ []) root_page (root tree.Table) 0 1
    ∷ reference (freelist_start ∷ []) free_page trunk 0 freelist_start ∷ []

late_root_survey : survey (late_root 4) ≡ with_free_page 4 3
unfolding cell cell_count cell_pointer cells change_counter content_start encoding encoding_number first_trunk fixed_use greatest_root has_pointer_map
    is_size_valid later_starts local_len own_kind page_bytes page_count page_size payload record_values reserved_bytes right_number rules_of schema schema_row
    serial_len stated_pages tree_view type_byte usable_size varint version_valid_for view whole_pages is_utf8 chars utf16_chars encode
late_root_survey = refl

pub late_root_check : report (Check 100) (late_root 4) (with_free_page 4 3)
    ≡ record { out = codes "M02 page 4 item 0 value 3: root page after a page that is no root\n"; err = []; answer = Ok (Faulty 1) }
unfolding cell cell_count cell_pointer cells change_counter content_start coverage depth_fault encoding encoding_number fault_line faults first_freeblock
    first_trunk fixed_use fragmented_bytes freeblocks freelist_count greatest_root has_pointer_map header_faults incremental_vacuum is_size_valid items
    key_faults keys late_root_fault later_starts local_len map_entry map_page_of more_line own_kind page_bytes page_count page_faults page_size path_text
    payload record_values refusal_of refused report reserved_bytes right_number row_faults rules_of schema schema_format schema_row serial_len shown_name
    stat_rows stated_pages story_of sum_faults reporting tree_name tree_page_faults tree_view type_byte unused usable_size use_fault varint version_valid_for
    view
    walk_faults whole_pages is_utf8 chars utf16_chars encode digits
late_root_check = refl

-- the same without a pointer map
unmapped_survey : survey (late_root 0) ≡ with_free_page 4 3
unfolding cell cell_count cell_pointer cells change_counter content_start encoding encoding_number first_trunk fixed_use greatest_root has_pointer_map
    is_size_valid later_starts local_len own_kind page_bytes page_count page_size payload record_values reserved_bytes right_number rules_of schema schema_row
    serial_len stated_pages tree_view type_byte usable_size varint version_valid_for view whole_pages is_utf8 chars utf16_chars encode
unmapped_survey = refl

pub unmapped_check : report (Check 100) (late_root 0) (with_free_page 4 3)
    ≡ record { out = codes "N01 page 2 item 0 value 0: page is not in use\n"; err = []; answer = Ok (Faulty 1) }
unfolding cell cell_count cell_pointer cells change_counter content_start coverage depth_fault encoding encoding_number fault_line faults first_freeblock
    first_trunk fixed_use fragmented_bytes freeblocks freelist_count greatest_root has_pointer_map header_faults incremental_vacuum is_size_valid items
    key_faults keys late_root_fault later_starts local_len map_entry map_page_of more_line own_kind page_bytes page_count page_faults page_size path_text
    payload record_values refusal_of refused report reserved_bytes right_number row_faults rules_of schema schema_format schema_row serial_len shown_name
    stat_rows stated_pages story_of sum_faults reporting tree_name tree_page_faults tree_view type_byte unused usable_size use_fault varint version_valid_for
    view
    walk_faults whole_pages is_utf8 chars utf16_chars encode digits
unmapped_check = refl

-- the root page before the free page, and after a page of the pointer map
abbrev root_first : List ℕ
root_first = patched 55 (3 ∷ []) (patched 35 (4 ∷ 0 ∷ 0 ∷ 0 ∷ 1 ∷ [])
    (one_table 3 (patched 0 (1 ∷ 0 ∷ 0 ∷ 0 ∷ 0 ∷ 2 ∷ []) blank_page ++ empty_page ++ blank_page)))

root_first_survey : survey root_first ≡ with_free_page 3 4
unfolding cell cell_count cell_pointer cells change_counter content_start encoding encoding_number first_trunk fixed_use greatest_root has_pointer_map
    is_size_valid later_starts local_len own_kind page_bytes page_count page_size payload record_values reserved_bytes right_number rules_of schema schema_row
    serial_len stated_pages tree_view type_byte usable_size varint version_valid_for view whole_pages is_utf8 chars utf16_chars encode
root_first_survey = refl

pub root_first_check : report (Check 100) root_first (with_free_page 3 4) ≡ record { out = codes "ok\n"; err = []; answer = Ok Clean }
unfolding cell cell_count cell_pointer cells change_counter content_start coverage depth_fault encoding encoding_number fault_line faults first_freeblock
    first_trunk fixed_use fragmented_bytes freeblocks freelist_count greatest_root has_pointer_map header_faults incremental_vacuum is_size_valid items
    key_faults keys late_root_fault later_starts local_len map_entry map_page_of more_line own_kind page_bytes page_count page_faults page_size path_text
    payload record_values refusal_of refused report reserved_bytes right_number row_faults rules_of schema schema_format schema_row serial_len shown_name
    stat_rows stated_pages story_of sum_faults reporting tree_name tree_page_faults tree_view type_byte unused usable_size use_fault varint version_valid_for
    view
    walk_faults whole_pages is_utf8 chars utf16_chars encode digits
root_first_check = refl

-- the file of the long row with a pointer map
abbrev mapped_row : List ℕ
mapped_row = patched 55 (3 ∷ []) (one_table 3 (patched 0 (1 ∷ 0 ∷ 0 ∷ 0 ∷ 0 ∷ 3 ∷ 0 ∷ 0 ∷ 0 ∷ 3 ∷ []) blank_page ++ long_row_leaf 4 ++ blank_page))

abbrev mapped_row_visits : List Reference
mapped_row_visits = schema_root ∷ reference (1 ∷ []) 3 (root tree.Table) 0 1 ∷ reference (1 ∷ 0 ∷ []) 4 (first_overflow 508) 3 0 ∷ []

mapped_row_survey : survey mapped_row ≡ mapped_row_visits
unfolding cell cell_count cell_pointer cells change_counter content_start encoding encoding_number first_trunk fixed_use greatest_root has_pointer_map
    is_size_valid later_starts local_len own_kind page_bytes page_count page_size payload record_values reserved_bytes right_number rules_of schema schema_row
    serial_len stated_pages tree_view type_byte usable_size varint version_valid_for view whole_pages is_utf8 chars utf16_chars encode
mapped_row_survey = refl

pub mapped_row_check : report (Check 100) mapped_row mapped_row_visits ≡ record { out = codes "ok\n"; err = []; answer = Ok Clean }
unfolding cell cell_count cell_pointer cells change_counter content_start coverage depth_fault encoding encoding_number fault_line faults first_freeblock
    first_trunk fixed_use fragmented_bytes freeblocks freelist_count greatest_root has_pointer_map header_faults incremental_vacuum is_size_valid items
    key_faults keys late_root_fault later_starts local_len map_entry map_page_of more_line own_kind page_bytes page_count page_faults page_size path_text
    payload record_values refusal_of refused report reserved_bytes right_number row_faults rules_of schema schema_format schema_row serial_len shown_name
    stat_rows stated_pages story_of sum_faults reporting tree_name tree_page_faults tree_view type_byte unused usable_size use_fault varint version_valid_for
    view
    walk_faults whole_pages is_utf8 chars utf16_chars encode digits
mapped_row_check = refl

-- ---- a freelist

-- an empty schema, and a trunk with one leaf
abbrev pub free_leaf_file : List ℕ
free_leaf_file = patched 55 (1 ∷ []) (patched 35 (3 ∷ 0 ∷ 0 ∷ 0 ∷ 2 ∷ []) (base_file 512 1)) ++ patched 0 (2 ∷ 0 ∷ 0 ∷ 0 ∷ 0 ∷ 2 ∷ []) blank_page
    ++ patched 7 (1 ∷ 0 ∷ 0 ∷ 0 ∷ 4 ∷ []) blank_page ++ blank_page

abbrev pub free_leaf_visits : List Reference
free_leaf_visits = schema_root ∷ reference (freelist_start ∷ []) 3 trunk 0 freelist_start ∷ reference (freelist_start ∷ 0 ∷ []) 4 free_leaf 3 0 ∷ []

free_leaf_survey : survey free_leaf_file ≡ free_leaf_visits
unfolding cell cell_count cell_pointer cells change_counter content_start encoding encoding_number first_trunk fixed_use greatest_root has_pointer_map
    is_size_valid later_starts local_len own_kind page_bytes page_count page_size payload record_values reserved_bytes right_number rules_of schema schema_row
    serial_len stated_pages tree_view type_byte usable_size varint version_valid_for view whole_pages is_utf8 chars utf16_chars encode
free_leaf_survey = refl

pub free_leaf_check : report (Check 100) free_leaf_file free_leaf_visits ≡ record { out = codes "ok\n"; err = []; answer = Ok Clean }
unfolding cell cell_count cell_pointer cells change_counter content_start coverage depth_fault encoding encoding_number fault_line faults first_freeblock
    first_trunk fixed_use fragmented_bytes freeblocks freelist_count greatest_root has_pointer_map header_faults incremental_vacuum is_size_valid items
    key_faults keys late_root_fault later_starts local_len map_entry map_page_of more_line own_kind page_bytes page_count page_faults page_size path_text
    payload record_values refusal_of refused report reserved_bytes right_number row_faults rules_of schema schema_format schema_row serial_len shown_name
    stat_rows stated_pages story_of sum_faults reporting tree_name tree_page_faults tree_view type_byte unused usable_size use_fault varint version_valid_for
    view
    walk_faults whole_pages is_utf8 chars utf16_chars encode digits
free_leaf_check = refl

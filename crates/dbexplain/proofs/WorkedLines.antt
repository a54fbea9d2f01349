-- Examples of the lines below a fault, by computation.
use Rattle.std.proofs.Common.{codes, refl, ◌≡◌, pos}
use lib.Utf8.{encode}
use Rattle.std.specs.Str.{chars, is_utf8}
use Rattle.std.specs.Char.Utf16.{utf16_chars}
use Rattle.std.specs.Fmt.{digits}
use Rattle.dbformat.specs.Cell.{cell, cell_pointer, cells}
use Rattle.dbformat.specs.Coverage.{coverage, freeblocks, items, unused}
use Rattle.dbformat.specs.EndFaults.{sum_faults, use_fault, late_root_fault}
use Rattle.dbformat.specs.File.{map_entry, page_bytes, refusal_of}
use Rattle.dbformat.specs.FixedPages.{fixed_use, map_page_of}
use Rattle.dbformat.specs.Head.{cell_count, content_start, first_freeblock, fragmented_bytes, own_kind, right_number, type_byte, view}
use Rattle.dbformat.specs.Header.{change_counter, encoding, encoding_number, first_trunk, freelist_count, greatest_root, has_pointer_map, incremental_vacuum}
use Rattle.dbformat.specs.Header.{is_size_valid, page_count, page_size, reserved_bytes, schema_format, stated_pages, usable_size, version_valid_for}
use Rattle.dbformat.specs.Header.{whole_pages}
use Rattle.dbformat.specs.HeaderFaults.{header_faults}
use Rattle.dbformat.specs.KeyFaults.{key_faults, keys, row_faults}
use Rattle.dbformat.specs.Lines.{fault_line, more_line, tree_name}
use Rattle.dbformat.specs.PageFaults.{depth_fault, page_faults, tree_page_faults}
use Rattle.dbformat.specs.Payload.{local_len}
use Rattle.dbformat.specs.Record.{record_values, serial_len}
use Rattle.dbformat.specs.Reference.{tree_view}
use Rattle.dbformat.specs.Report.{faults, walk_faults}
use Rattle.dbformat.specs.Schema.{later_starts, payload, schema}
use Rattle.dbformat.specs.SchemaRow.{schema_row}
use Rattle.dbformat.specs.Survey.{refused, rules_of}
use Rattle.dbformat.specs.PlainNames.{plain_name}
use Rattle.dbformat.specs.Varint.{varint}
use Rattle.dbformat.specs.Story.{story_of, reporting}
use Rattle.dbformat.specs.Faults.{fault}
use Rattle.dbformat.specs.Samples.{long_row_file, long_row_survey}
use Rattle.dbformat.specs.declared.FaultCode.TheVariants.{H10, R01, R02, R03, T04, M01}
use Rattle.dbformat.proofs.WorkedMaps.{free_leaf_file, free_leaf_visits}
use Rattle.dbscan.specs.Owners.{place_of}
use Rattle.dbexplain.specs.Below.{lines_below}

-- a page that another page already has
pub two_owners : lines_below long_row_file long_row_survey (fault R03 2 6 (pos 3)) R03
    ≡ codes "    page 2 at byte 512: root of table t\n    page 3 at byte 1024: in table t, overflow page of page 2\n"
unfolding cell cell_count cell_pointer cells change_counter content_start coverage depth_fault encoding encoding_number fault_line faults first_freeblock
    first_trunk fixed_use fragmented_bytes freeblocks freelist_count greatest_root has_pointer_map header_faults incremental_vacuum is_size_valid items
    key_faults keys late_root_fault later_starts local_len map_entry map_page_of more_line own_kind page_bytes page_count page_faults page_size payload
    record_values refusal_of refused reserved_bytes right_number row_faults rules_of schema schema_format schema_row serial_len plain_name stated_pages story_of
    sum_faults reporting tree_name tree_page_faults tree_view type_byte unused usable_size use_fault varint version_valid_for view walk_faults whole_pages
    is_utf8
    chars utf16_chars encode digits place_of
two_owners = refl

-- a root page that is not there
pub lost_root : lines_below long_row_file long_row_survey (fault R01 0 1 (pos 39)) R01 ≡ codes "    start 1: root of table t\n"
unfolding cell cell_count cell_pointer cells change_counter content_start coverage depth_fault encoding encoding_number fault_line faults first_freeblock
    first_trunk fixed_use fragmented_bytes freeblocks freelist_count greatest_root has_pointer_map header_faults incremental_vacuum is_size_valid items
    key_faults keys late_root_fault later_starts local_len map_entry map_page_of more_line own_kind page_bytes page_count page_faults page_size payload
    record_values refusal_of refused reserved_bytes right_number row_faults rules_of schema schema_format schema_row serial_len plain_name stated_pages story_of
    sum_faults reporting tree_name tree_page_faults tree_view type_byte unused usable_size use_fault varint version_valid_for view walk_faults whole_pages
    is_utf8
    chars utf16_chars encode digits place_of
lost_root = refl

-- an entry of the pointer map that differs
pub wrong_entry : lines_below long_row_file long_row_survey (fault M01 3 6 (pos 3)) M01
    ≡ codes "    page 3 at byte 1024: in table t, overflow page of page 2\n    entry wanted: type 3, number 2\n"
unfolding cell cell_count cell_pointer cells change_counter content_start coverage depth_fault encoding encoding_number fault_line faults first_freeblock
    first_trunk fixed_use fragmented_bytes freeblocks freelist_count greatest_root has_pointer_map header_faults incremental_vacuum is_size_valid items
    key_faults keys late_root_fault later_starts local_len map_entry map_page_of more_line own_kind page_bytes page_count page_faults page_size payload
    record_values refusal_of refused reserved_bytes right_number row_faults rules_of schema schema_format schema_row serial_len plain_name stated_pages story_of
    sum_faults reporting tree_name tree_page_faults tree_view type_byte unused usable_size use_fault varint version_valid_for view walk_faults whole_pages
    is_utf8
    chars utf16_chars encode digits place_of
wrong_entry = refl

-- a freelist count that differs
pub wrong_count : lines_below free_leaf_file free_leaf_visits (fault H10 1 0 (pos 21)) H10 ≡ codes "    header: 2\n"
unfolding cell cell_count cell_pointer cells change_counter content_start coverage depth_fault encoding encoding_number fault_line faults first_freeblock
    first_trunk fixed_use fragmented_bytes freeblocks freelist_count greatest_root has_pointer_map header_faults incremental_vacuum is_size_valid items
    key_faults keys late_root_fault later_starts local_len map_entry map_page_of more_line own_kind page_bytes page_count page_faults page_size payload
    record_values refusal_of refused reserved_bytes right_number row_faults rules_of schema schema_format schema_row serial_len plain_name stated_pages story_of
    sum_faults reporting tree_name tree_page_faults tree_view type_byte unused usable_size use_fault varint version_valid_for view walk_faults whole_pages
    is_utf8
    chars utf16_chars encode digits place_of
wrong_count = refl

-- a page of the freelist that names one of fixed use
pub fixed_page : lines_below free_leaf_file free_leaf_visits (fault R02 3 0 (pos 2)) R02
    ≡ codes "    page 3 at byte 1024: trunk of the freelist\n    page 2 at byte 512: pointer map\n"
unfolding cell cell_count cell_pointer cells change_counter content_start coverage depth_fault encoding encoding_number fault_line faults first_freeblock
    first_trunk fixed_use fragmented_bytes freeblocks freelist_count greatest_root has_pointer_map header_faults incremental_vacuum is_size_valid items
    key_faults keys late_root_fault later_starts local_len map_entry map_page_of more_line own_kind page_bytes page_count page_faults page_size payload
    record_values refusal_of refused reserved_bytes right_number row_faults rules_of schema schema_format schema_row serial_len plain_name stated_pages story_of
    sum_faults reporting tree_name tree_page_faults tree_view type_byte unused usable_size use_fault varint version_valid_for view walk_faults whole_pages
    is_utf8
    chars utf16_chars encode digits place_of
fixed_page = refl

-- the start of the freelist, and page 1
pub first_trunk_start : lines_below free_leaf_file free_leaf_visits (fault T04 0 65537 (pos 1)) T04
    ≡ codes "    start 65537: first trunk of the freelist\n    page 1 at byte 0: root of sqlite_schema\n"
unfolding cell cell_count cell_pointer cells change_counter content_start coverage depth_fault encoding encoding_number fault_line faults first_freeblock
    first_trunk fixed_use fragmented_bytes freeblocks freelist_count greatest_root has_pointer_map header_faults incremental_vacuum is_size_valid items
    key_faults keys late_root_fault later_starts local_len map_entry map_page_of more_line own_kind page_bytes page_count page_faults page_size payload
    record_values refusal_of refused reserved_bytes right_number row_faults rules_of schema schema_format schema_row serial_len plain_name stated_pages story_of
    sum_faults reporting tree_name tree_page_faults tree_view type_byte unused usable_size use_fault varint version_valid_for view walk_faults whole_pages
    is_utf8
    chars utf16_chars encode digits place_of
first_trunk_start = refl

-- a leaf of the freelist, and a number that no page has
pub no_page : lines_below free_leaf_file free_leaf_visits (fault R02 4 1 (pos 5)) R02 ≡ codes "    page 4 at byte 1536: leaf of the freelist\n"
unfolding cell cell_count cell_pointer cells change_counter content_start coverage depth_fault encoding encoding_number fault_line faults first_freeblock
    first_trunk fixed_use fragmented_bytes freeblocks freelist_count greatest_root has_pointer_map header_faults incremental_vacuum is_size_valid items
    key_faults keys late_root_fault later_starts local_len map_entry map_page_of more_line own_kind page_bytes page_count page_faults page_size payload
    record_values refusal_of refused reserved_bytes right_number row_faults rules_of schema schema_format schema_row serial_len plain_name stated_pages story_of
    sum_faults reporting tree_name tree_page_faults tree_view type_byte unused usable_size use_fault varint version_valid_for view walk_faults whole_pages
    is_utf8
    chars utf16_chars encode digits place_of
no_page = refl

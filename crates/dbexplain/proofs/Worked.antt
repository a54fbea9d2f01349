-- Examples of the summary, by computation.
use Rattle.std.proofs.Common.{[], codes, refl, ◌∷◌, ◌++◌, ◌≡◌}
use lib.Utf8.{encode}
use Rattle.std.specs.Str.{chars, is_utf8}
use Rattle.std.specs.Char.Utf16.{utf16_chars}
use Rattle.std.specs.Fmt.{digits}
use Rattle.dbformat.specs.Cell.{cell, cell_pointer, cells}
use Rattle.dbformat.specs.Coverage.{coverage, freeblocks, items, unused}
use Rattle.dbformat.specs.EndFaults.{sum_faults, use_fault, late_root_fault}
use Rattle.dbformat.specs.File.{map_entry, page_bytes, refusal_of}
use Rattle.dbexplain.proofs.Common.{fixed_use, encoding, first_trunk, freelist_count, greatest_root, stated_pages, fault_line, faults, stat_rows, later_starts}
use Rattle.dbexplain.proofs.Common.{schema, reported_faults, summary}
use Rattle.dbformat.specs.FixedPages.{map_page_of}
use Rattle.dbformat.specs.Head.{cell_count, content_start, first_freeblock, fragmented_bytes, own_kind, right_number, type_byte, view}
use Rattle.dbformat.specs.Header.{change_counter, encoding_number, has_pointer_map, incremental_vacuum}
use Rattle.dbformat.specs.Header.{is_size_valid, page_count, page_size, reserved_bytes, schema_format, usable_size, version_valid_for}
use Rattle.dbformat.specs.Header.{whole_pages}
use Rattle.dbformat.specs.HeaderFaults.{header_faults}
use Rattle.dbformat.specs.KeyFaults.{key_faults, keys, row_faults}
use Rattle.dbformat.specs.Lines.{more_line, tree_name}
use Rattle.dbformat.specs.Looks.{look_of}
use Rattle.dbformat.specs.PageFaults.{depth_fault, page_faults, tree_page_faults}
use Rattle.dbformat.specs.Payload.{local_len}
use Rattle.dbformat.specs.Record.{record_values, serial_len}
use Rattle.dbformat.specs.Reference.{tree_view}
use Rattle.dbformat.specs.Report.{walk_faults}
use Rattle.dbformat.specs.Schema.{payload}
use Rattle.dbformat.specs.SchemaRow.{schema_row}
use Rattle.dbformat.specs.Survey.{refused, rules_of}
use Rattle.dbformat.specs.PlainNames.{plain_name}
use Rattle.dbformat.specs.Varint.{varint}
use Rattle.dbformat.specs.Story.{story_of, reporting}
use Rattle.dbformat.specs.Samples.{base_file, schema_root}
use Rattle.dbformat.proofs.Worked.{same_root, same_root_survey}

-- one page that nothing refers to
pub unowned_page : summary (base_file 512 2) (schema_root ∷ []) (reported_faults (base_file 512 2) (schema_root ∷ []))
    ≡ codes "1 fault\n    1 N01 page is not in use\n    1 in the whole file\n    page 2 is zeros: bytes 512 to 1023\n"
    ++ codes "    0 of 0 tables and 0 of 0 indexes without a fault\n"
unfolding cell cell_count cell_pointer cells change_counter content_start coverage depth_fault encoding encoding_number fault_line faults first_freeblock
    first_trunk fixed_use fragmented_bytes freeblocks freelist_count greatest_root has_pointer_map header_faults incremental_vacuum is_size_valid items
    key_faults keys late_root_fault later_starts local_len look_of map_entry map_page_of more_line own_kind page_bytes page_count page_faults page_size payload
    record_values refusal_of refused reserved_bytes right_number row_faults rules_of schema schema_format schema_row serial_len plain_name stated_pages story_of
    sum_faults reporting tree_name tree_page_faults tree_view type_byte unused usable_size use_fault varint version_valid_for view walk_faults whole_pages
    is_utf8
    chars utf16_chars encode digits
unowned_page = refl

-- two rows of the schema with one root page: none is reached from the start of the second
pub shared_root : summary same_root same_root_survey (reported_faults same_root same_root_survey)
    ≡ codes "1 fault\n    1 R03 page is already in use\n    1 in table t (root page 2), of which no page was reached\n"
    ++ codes "        rows not reached: all rows\n    1 of 2 tables and 0 of 0 indexes without a fault\n"
unfolding cell cell_count cell_pointer cells change_counter content_start coverage depth_fault encoding encoding_number fault_line faults first_freeblock
    first_trunk fixed_use fragmented_bytes freeblocks freelist_count greatest_root has_pointer_map header_faults incremental_vacuum is_size_valid items
    key_faults keys late_root_fault later_starts local_len look_of map_entry map_page_of more_line own_kind page_bytes page_count page_faults page_size payload
    record_values refusal_of refused reserved_bytes right_number row_faults rules_of schema schema_format schema_row serial_len plain_name stated_pages story_of
    sum_faults reporting tree_name tree_page_faults tree_view type_byte unused usable_size use_fault varint version_valid_for view walk_faults whole_pages
    is_utf8
    chars utf16_chars encode digits stat_rows
shared_root = refl

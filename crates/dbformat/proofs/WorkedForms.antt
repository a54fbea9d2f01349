-- Examples of the forms of the statistics, by computation.
use Rattle.std.proofs.Common.{Ok, [], codes, false, refl, true, ◌∷◌, ◌++◌, ◌≡◌}
use lib.Utf8.{encode}
use Rattle.std.specs.Str.{chars, is_utf8}
use Rattle.std.specs.Char.Utf16.{utf16_chars}
use Rattle.std.specs.Fmt.{digits}
use Rattle.dbformat.specs.Cell.{cell, cell_pointer, cells}
use Rattle.dbformat.specs.Coverage.{coverage, freeblocks, items, unused}
use Rattle.dbformat.specs.EndFaults.{sum_faults, use_fault, late_root_fault}
use Rattle.dbformat.specs.File.{map_entry, page_bytes, refusal_of}
use Rattle.dbformat.specs.FixedPages.{fixed_use, map_page_of}
use Rattle.dbformat.specs.Head.{cell_count, content_start, first_freeblock, fragmented_bytes, own_kind, right_number, type_byte, view}
use Rattle.dbformat.specs.Header.{change_counter, encoding, encoding_number, first_trunk, freelist_count, greatest_root, has_pointer_map, incremental_vacuum}
use Rattle.dbformat.specs.Header.{is_size_valid, page_count, page_size, reserved_bytes, schema_format, stated_pages, usable_size, version_valid_for}
use Rattle.dbformat.specs.Header.{whole_pages}
use Rattle.dbformat.specs.HeaderFaults.{header_faults}
use Rattle.dbformat.specs.KeyFaults.{key_faults, keys, row_faults}
use Rattle.dbformat.specs.Lines.{fault_line, form_line, more_line, path_text, tree_name}
use Rattle.dbformat.specs.PageFaults.{depth_fault, page_faults, tree_page_faults}
use Rattle.dbformat.specs.Payload.{local_len}
use Rattle.dbformat.specs.Record.{record_values, serial_len}
use Rattle.dbformat.specs.Reference.{tree_view}
use Rattle.dbformat.specs.Report.{faults, report, walk_faults}
use Rattle.dbformat.specs.Rows.{form_rows, stat_rows}
use Rattle.dbformat.specs.Schema.{later_starts, payload, schema}
use Rattle.dbformat.specs.SchemaRow.{schema_row}
use Rattle.dbformat.specs.Survey.{refused, rules_of}
use Rattle.dbformat.specs.Text.{shown_name}
use Rattle.dbformat.specs.Varint.{varint}
use Rattle.dbformat.specs.Samples.{base_file, long_row_file, long_row_survey, schema_root}
use Rattle.dbformat.proofs.Worked.{same_root, same_root_survey}
use Rattle.dbformat.proofs.WorkedMaps.{free_leaf_file, free_leaf_visits}
use Rattle.dbformat.specs.declared.Command.TheVariants.{Stat}
use Rattle.dbformat.specs.declared.Verdict.TheVariants.{Clean, Faulty}
use Rattle.dbformat.specs.Story.{story_of, reporting}

-- one row for each tree
pub long_row_trees : report (Stat true false) long_row_file long_row_survey
    ≡ record { out = codes "sqlite_schema\t-\t1\t-\t1\t14\t386\t14\t-\t512\nt\t-\t2\t-\t1\t600\t403\t600\t-\t1024\n"; err = []; answer = Ok Clean }
unfolding cell cell_count cell_pointer cells change_counter content_start coverage depth_fault encoding encoding_number fault_line faults first_freeblock
    first_trunk fixed_use form_line form_rows fragmented_bytes freeblocks freelist_count greatest_root has_pointer_map header_faults incremental_vacuum
    is_size_valid items key_faults keys late_root_fault later_starts local_len map_entry map_page_of more_line own_kind page_bytes page_count page_faults
    page_size path_text payload record_values refusal_of refused report reserved_bytes right_number row_faults rules_of schema schema_format schema_row
    serial_len shown_name stat_rows stated_pages story_of sum_faults reporting tree_name tree_page_faults tree_view type_byte unused usable_size use_fault
    varint
    version_valid_for view walk_faults whole_pages is_utf8 chars utf16_chars encode digits
long_row_trees = refl

-- a root page of two rows of the schema is in one row
pub same_root_trees : report (Stat true false) same_root same_root_survey
    ≡ record {
      out = codes "sqlite_schema\t-\t1\t-\t2\t28\t368\t14\t-\t512\nt\t-\t1\t-\t0\t0\t504\t0\t-\t512\n";
      err =
          codes "R03 page 0 item 2 value 2: page is already in use\n";
      answer = Ok (Faulty 1);
    }
unfolding cell cell_count cell_pointer cells change_counter content_start coverage depth_fault encoding encoding_number fault_line faults first_freeblock
    first_trunk fixed_use form_line form_rows fragmented_bytes freeblocks freelist_count greatest_root has_pointer_map header_faults incremental_vacuum
    is_size_valid items key_faults keys late_root_fault later_starts local_len map_entry map_page_of more_line own_kind page_bytes page_count page_faults
    page_size path_text payload record_values refusal_of refused report reserved_bytes right_number row_faults rules_of schema schema_format schema_row
    serial_len shown_name stat_rows stated_pages story_of sum_faults reporting tree_name tree_page_faults tree_view type_byte unused usable_size use_fault
    varint
    version_valid_for view walk_faults whole_pages is_utf8 chars utf16_chars encode digits
same_root_trees = refl

-- and a row for each page of the pointer map and of the freelist
pub free_leaf_all : report (Stat false true) free_leaf_file free_leaf_visits
    ≡ record {
      out = codes "sqlite_schema\t/\t1\tleaf\t0\t0\t404\t0\t0\t512\n"
          ++ codes "-\t-\t2\tmap\t0\t0\t0\t0\t512\t512\n-\t-\t3\ttrunk\t0\t0\t0\t0\t1024\t512\n-\t-\t4\tfreeleaf\t0\t0\t0\t0\t1536\t512\n";
      err = [];
      answer =
          Ok Clean;
    }
unfolding cell cell_count cell_pointer cells change_counter content_start coverage depth_fault encoding encoding_number fault_line faults first_freeblock
    first_trunk fixed_use form_line form_rows fragmented_bytes freeblocks freelist_count greatest_root has_pointer_map header_faults incremental_vacuum
    is_size_valid items key_faults keys late_root_fault later_starts local_len map_entry map_page_of more_line own_kind page_bytes page_count page_faults
    page_size path_text payload record_values refusal_of refused report reserved_bytes right_number row_faults rules_of schema schema_format schema_row
    serial_len shown_name stat_rows stated_pages story_of sum_faults reporting tree_name tree_page_faults tree_view type_byte unused usable_size use_fault
    varint
    version_valid_for view walk_faults whole_pages is_utf8 chars utf16_chars encode digits
free_leaf_all = refl

pub free_leaf_trees_all : report (Stat true true) free_leaf_file free_leaf_visits
    ≡ record {
      out = codes "sqlite_schema\t-\t1\t-\t0\t0\t404\t0\t-\t512\n"
          ++ codes "-\t-\t2\tmap\t0\t0\t0\t0\t512\t512\n-\t-\t3\ttrunk\t0\t0\t0\t0\t1024\t512\n-\t-\t4\tfreeleaf\t0\t0\t0\t0\t1536\t512\n";
      err = [];
      answer =
          Ok Clean;
    }
unfolding cell cell_count cell_pointer cells change_counter content_start coverage depth_fault encoding encoding_number fault_line faults first_freeblock
    first_trunk fixed_use form_line form_rows fragmented_bytes freeblocks freelist_count greatest_root has_pointer_map header_faults incremental_vacuum
    is_size_valid items key_faults keys late_root_fault later_starts local_len map_entry map_page_of more_line own_kind page_bytes page_count page_faults
    page_size path_text payload record_values refusal_of refused report reserved_bytes right_number row_faults rules_of schema schema_format schema_row
    serial_len shown_name stat_rows stated_pages story_of sum_faults reporting tree_name tree_page_faults tree_view type_byte unused usable_size use_fault
    varint
    version_valid_for view walk_faults whole_pages is_utf8 chars utf16_chars encode digits
free_leaf_trees_all = refl

-- a page that is not in use
pub unowned_all : report (Stat false true) (base_file 512 2) (schema_root ∷ [])
    ≡ record {
      out = codes "sqlite_schema\t/\t1\tleaf\t0\t0\t404\t0\t0\t512\n-\t-\t2\tunowned\t0\t0\t0\t0\t512\t512\n";
      err =
          codes "N01 page 2 item 0 value 0: page is not in use\n";
      answer = Ok (Faulty 1);
    }
unfolding cell cell_count cell_pointer cells change_counter content_start coverage depth_fault encoding encoding_number fault_line faults first_freeblock
    first_trunk fixed_use form_line form_rows fragmented_bytes freeblocks freelist_count greatest_root has_pointer_map header_faults incremental_vacuum
    is_size_valid items key_faults keys late_root_fault later_starts local_len map_entry map_page_of more_line own_kind page_bytes page_count page_faults
    page_size path_text payload record_values refusal_of refused report reserved_bytes right_number row_faults rules_of schema schema_format schema_row
    serial_len shown_name stat_rows stated_pages story_of sum_faults reporting tree_name tree_page_faults tree_view type_byte unused usable_size use_fault
    varint
    version_valid_for view walk_faults whole_pages is_utf8 chars utf16_chars encode digits
unowned_all = refl

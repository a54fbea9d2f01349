use Rattle.std.proofs.Common.{refl}
use lib.Utf8.{encode}
use Rattle.std.specs.Str.{chars, is_utf8}
use Rattle.std.specs.Char.Utf16.{utf16_chars}
use Rattle.dbsound.proofs.Common.{cell, cells, sum_faults, use_fault, late_root_fault, map_entry, page_bytes, content_start, own_kind, right_number, type_byte}
use Rattle.dbsound.proofs.Common.{view, encoding, encoding_number, first_trunk, freelist_count, greatest_root, has_pointer_map, page_size, schema_format}
use Rattle.dbsound.proofs.Common.{usable_size, key_faults, keys, row_faults, depth_fault, page_faults, tree_page_faults, tree_view, faults, walk_faults}
use Rattle.dbsound.proofs.Common.{later_starts, payload, schema, schema_row, story_of, reporting, rules_of}
use Rattle.dbformat.specs.Cell.{cell_pointer}
use Rattle.dbformat.specs.Coverage.{coverage, freeblocks, items, unused}
use Rattle.dbformat.specs.File.{refusal_of}
use Rattle.dbformat.specs.FixedPages.{fixed_use, map_page_of}
use Rattle.dbformat.specs.Head.{cell_count, first_freeblock, fragmented_bytes}
use Rattle.dbformat.specs.Header.{change_counter, incremental_vacuum}
use Rattle.dbformat.specs.Header.{is_size_valid, page_count, reserved_bytes, stated_pages, version_valid_for}
use Rattle.dbformat.specs.Header.{whole_pages}
use Rattle.dbformat.specs.HeaderFaults.{header_faults}
use Rattle.dbformat.specs.Payload.{local_len}
use Rattle.dbformat.specs.Record.{record_values, serial_len}
use Rattle.dbformat.specs.Survey.{refused}
use Rattle.dbformat.specs.Varint.{varint}
use Rattle.dbformat.proofs.WorkedSound.{long_row_is_sound}
use Rattle.dbsound.proofs.Broken.{sound_by, refused_beside, fails_beside}
use Rattle.dbsound.proofs.each_rule_can_fail_alone.Goals as goal

-- by computation
pub returns : goal.returns
unfolding cell cell_count cell_pointer cells change_counter content_start coverage depth_fault encoding encoding_number faults first_freeblock first_trunk
    fixed_use fragmented_bytes freeblocks freelist_count greatest_root has_pointer_map header_faults incremental_vacuum is_size_valid items key_faults keys
    late_root_fault later_starts local_len map_entry map_page_of own_kind page_bytes page_count page_faults page_size payload record_values refusal_of refused
    reserved_bytes right_number row_faults rules_of schema schema_format schema_row serial_len stated_pages story_of sum_faults reporting tree_page_faults
    tree_view type_byte unused usable_size use_fault varint version_valid_for view walk_faults whole_pages is_utf8 chars utf16_chars encode
returns c = record {
  is_read = refused_beside long_row_is_sound refl;
  header = fails_beside long_row_is_sound refl refl;
  schema = fails_beside long_row_is_sound refl refl;
  spelled = fails_beside (sound_by refl refl) refl refl;
  named = fails_beside long_row_is_sound refl refl;
  trees = fails_beside (sound_by refl refl) refl refl;
  freelist = fails_beside (sound_by refl refl) refl refl;
  once = fails_beside long_row_is_sound refl refl;
  freelist_size = fails_beside long_row_is_sound refl refl;
  greatest = fails_beside (sound_by refl refl) refl refl;
  format = fails_beside long_row_is_sound refl refl;
  mapped = fails_beside (sound_by refl refl) refl refl;
  roots_first = fails_beside (sound_by refl refl) refl refl;
}

-- The names of the definitions that the proofs of this crate cite most, passed on from one place. Declares nothing.
pub use Rattle.dbformat.specs.Address.{child_step, depth, freelist_start, key_step, last_root_start, overflow_step, schema_start, start_of}
pub use Rattle.dbformat.specs.Cell.{Cell, count, overflow_size, right_child}
unfoldable pub use Rattle.dbformat.specs.Cell.{cell, cells}
pub use Rattle.dbformat.specs.EndFaults.{free_pages, freelist_fault, greatest_root_fault, greatest_root_reached, page_numbers, visit_of}
unfoldable pub use Rattle.dbformat.specs.EndFaults.{late_root_fault, sum_faults, use_fault}
pub use Rattle.dbformat.specs.Faults.{fault}
pub use Rattle.dbformat.specs.File.{geometry, refusal}
unfoldable pub use Rattle.dbformat.specs.File.{map_entry, page_bytes}
pub use Rattle.dbformat.specs.FixedPages.{is_fixed}
pub use Rattle.dbformat.specs.Head.{View, is_interior, tree_of, undamaged}
unfoldable pub use Rattle.dbformat.specs.Head.{content_start, own_kind, right_number, type_byte, view}
unfoldable pub use Rattle.dbformat.specs.Header.{encoding, encoding_number, first_trunk, freelist_count, greatest_root, has_pointer_map, page_size}
unfoldable pub use Rattle.dbformat.specs.Header.{schema_format, usable_size}
pub use Rattle.dbformat.specs.KeyFaults.{Key, is_out_of_order, key_of, keys_at, keys_of_view, row_faults_at}
unfoldable pub use Rattle.dbformat.specs.KeyFaults.{key_faults, keys, row_faults}
pub use Rattle.dbformat.specs.PageFaults.{is_leaf_of, role_faults}
unfoldable pub use Rattle.dbformat.specs.PageFaults.{depth_fault, page_faults, tree_page_faults}
pub use Rattle.dbformat.specs.Payload.{overflow_next}
pub use Rattle.dbformat.specs.Reference.{Reference, Role, Way, cell_links, child, first_overflow, free_leaf, free_leaves, from_of, is_on_freelist, is_root}
pub use Rattle.dbformat.specs.Reference.{later_overflow, leaf_count, link, most_leaves, overflow_links, page_links, right_links, role_links, role_of, root}
pub use Rattle.dbformat.specs.Reference.{tree_kind, trunk}
unfoldable pub use Rattle.dbformat.specs.Reference.{tree_view}
unfoldable pub use Rattle.dbformat.specs.Report.{faults, walk_faults}
pub use Rattle.dbformat.specs.Schema.{SchemaCell, freelist_starts, held_bytes, leaf_rows, root_start, rooted, rooted_rows, rows_at, schema_cell, schema_link}
pub use Rattle.dbformat.specs.Schema.{start, starts}
unfoldable pub use Rattle.dbformat.specs.Schema.{later_starts, payload, schema}
pub use Rattle.dbformat.specs.SchemaRow.{SchemaRow}
unfoldable pub use Rattle.dbformat.specs.SchemaRow.{schema_row}
pub use Rattle.dbformat.specs.Sound.{Forest, Sound, and_tree, no_tree, with_root}
unfoldable pub use Rattle.dbformat.specs.Story.{reporting, story_of}
pub use Rattle.dbformat.specs.Survey.{Survey, most_depth}
unfoldable pub use Rattle.dbformat.specs.Survey.{rules_of}
pub use Rattle.dbformat.specs.Terms.{Chain, Children, Freelist, IsAbove, IsUpTo, Payload, Payloads, RiseWithin, Tree, Use, and_trunk, cells_of, full, interior}
pub use Rattle.dbformat.specs.Terms.{keys_of, last, leaf, more, no_trunk, none, right_only, role_in_tree, split, use_as, whole}
pub use Rattle.dbformat.specs.declared.Fault.{Fault}
pub use Rattle.dbformat.specs.declared.PageKind.{PageKind}
pub use Rattle.dbformat.specs.declared.PageKind.TheVariants.{InteriorIndex, InteriorTable, LeafIndex, LeafTable}
pub use Rattle.dbformat.specs.declared.RowFault.{RowFault}
pub use Rattle.dbformat.specs.declared.TreeKind.{TreeKind}
pub use Rattle.dbsound.specs.Below.{below, cell_payload, leaf_payloads, use_of, view_payloads}
pub use Rattle.dbsurvey.specs.Address.{Address, EachPair, IsBefore, IsIn}
pub use Rattle.dbsurvey.specs.From.{under}
pub use Rattle.dbsurvey.specs.InOrder.{is_before}
pub use Rattle.dbsurvey.specs.Survey.{Link, children, named_at}
pub use Rattle.dbsurvey.specs.Whole.{IsWhole, nothing}

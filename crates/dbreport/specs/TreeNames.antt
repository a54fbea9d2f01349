-- The name that is shown of a tree.
use Rattle.std.specs.Prelude.{ℕ, ◌==◌, List, codes, if◌then◌else◌}
use Rattle.std.specs.Option.{option_map_or}
use Rattle.dbformat.specs.Address.{schema_start}
use Rattle.dbformat.specs.Text.{shown_name}
use Rattle.dbformat.specs.declared.Encoding.{Encoding}
use Rattle.dbscan.specs.Starts.{At}
use Rattle.dbreport.specs.declared.statistics.tree_name.TreeLabel.{TreeLabel}

-- the text of the name of the tree of a start, where texts are stored so
abbrev pub name_at : Encoding → At → List ℕ
name_at e at = if at.number == schema_start then codes "sqlite_schema" else option_map_or (shown_name e) at.name (codes "?")

-- the text that a label shows
abbrev pub tree_label_text : TreeLabel → List ℕ
tree_label_text l = name_at l.encoding l.start.now

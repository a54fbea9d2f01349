use Rattle.std.proofs.Common.{◌≡◌, map, take}
use Rattle.dbpicture.specs.Keeping.{shown_tree}
use Rattle.dbpicture.proofs.labels.Labels.new.Given as goal

abbrev pub invariant-loop-start : goal.invariant-loop-start
invariant-loop-start g l = l.labels.names.items ≡ map (shown_tree l.names.encoding l.names.roots.now.rows) (take l.start-index l.largest)

use Rattle.std.proofs.Common.{◌-◌, map, set, ap, ◌∙◌}
use Rattle.std.proofs.lemmas.List.{map-set}
use Rattle.dbmarks.specs.Marking.{unpacked}
use Rattle.dbmarks.proofs.marks.Marks.put.Goals as goal

pub returns : goal.returns
returns g c =
    map-set unpacked c.self.inside.words.items (c.args.page - 1) c.pack.result
    ∙ ap (λ m. set (map unpacked c.self.inside.words.items) (c.args.page - 1) m) c.pack.ensures
    ∙ ap (λ l. set l (c.args.page - 1) c.args.mark) c.self.view_is

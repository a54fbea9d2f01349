use Rattle.std.proofs.Common.{ap, sym, ◌∙◌}
use Rattle.dblines.proofs.Writing.{wrote_as}
use Rattle.dbinjuries.specs.Lines.{look_text}
use Rattle.dbinjuries.proofs.lines.put_look.Goals as goal

pub returns-in-Tree : goal.returns-in-Tree
returns-in-Tree g c =
    wrote_as (c.as_slice-in-Tree.ensures.value ∙ c.tree_look_text.ensures ∙ ap (λ l. look_text l c.args.named) (sym c.in-Tree.is)) c.put-in-Tree.ensures

pub returns-in-Other : goal.returns-in-Other
returns-in-Other g c =
    wrote_as (c.as_slice-in-Other.ensures.value ∙ c.first_bytes_text.ensures ∙ ap (λ l. look_text l c.args.named) (sym c.in-Other.is)) c.put-in-Other.ensures

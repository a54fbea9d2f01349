use Rattle.std.proofs.Common.{ap, sym, ◌∙◌}
use Rattle.dblines.proofs.Writing.{wrote_as}
use Rattle.dbinjuries.specs.Lines.{cause_text}
use Rattle.dbinjuries.proofs.lines.put_cause.Goals as goal

pub returns-in-Key : goal.returns-in-Key
returns-in-Key g c = wrote_as (c.as_slice.ensures.value ∙ c.key_text.ensures ∙ ap cause_text (sym c.in-Key.is)) c.put.ensures

pub returns-in-Leaf : goal.returns-in-Leaf
returns-in-Leaf g c = wrote_as (c.as_slice-in-Leaf.ensures.value ∙ c.leaf_text.ensures ∙ ap cause_text (sym c.in-Leaf.is)) c.put-in-Leaf.ensures

pub returns-in-Chain : goal.returns-in-Chain
returns-in-Chain g c = wrote_as (c.as_slice-in-Chain.ensures.value ∙ c.chain_text.ensures ∙ ap cause_text (sym c.in-Chain.is)) c.put-in-Chain.ensures

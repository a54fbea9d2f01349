use Rattle.std.proofs.Common.{sym, ◌∙◌, arith}
use Rattle.dbmarks.specs.Marking.{unpacked}
use Rattle.dbmarks.proofs.Markings.{unpacked_is}
use Rattle.dbmarks.proofs.marks.pack.Goals as goal

pub returns-in-Unmarked : goal.returns-in-Unmarked
unfolding unpacked
returns-in-Unmarked c = sym c.in-Unmarked.is

pub returns-in-Fixed : goal.returns-in-Fixed
unfolding unpacked
returns-in-Fixed c = sym c.in-Fixed.is

pub returns-in-Root : goal.returns-in-Root
unfolding unpacked
returns-in-Root c = sym c.in-Root.is

pub returns-in-Trunk : goal.returns-in-Trunk
unfolding unpacked
returns-in-Trunk c = sym c.in-Trunk.is

pub returns-in-FreeLeaf : goal.returns-in-FreeLeaf
unfolding unpacked
returns-in-FreeLeaf c = sym c.in-FreeLeaf.is

pub returns-in-FirstOverflow : goal.returns-in-FirstOverflow
returns-in-FirstOverflow c = unpacked_is 5 c.in-FirstOverflow.from (omega arith) ∙ sym c.in-FirstOverflow.is

pub returns-in-LaterOverflow : goal.returns-in-LaterOverflow
returns-in-LaterOverflow c = unpacked_is 6 c.in-LaterOverflow.from (omega arith) ∙ sym c.in-LaterOverflow.is

pub returns-in-Child : goal.returns-in-Child
returns-in-Child c = unpacked_is 7 c.in-Child.from (omega arith) ∙ sym c.in-Child.is

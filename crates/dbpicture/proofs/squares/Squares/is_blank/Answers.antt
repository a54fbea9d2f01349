use Rattle.std.proofs.Common.{sym, ◌∙◌, arith}
use Rattle.dbinjuries.specs.Bits.{has_bit}
use Rattle.dbpicture.proofs.Blank.{bit_within, none_outside}
use Rattle.dbpicture.proofs.squares.Squares.is_blank.Goals as goal

pub returns-then-page-eq0 : goal.returns-then-page-eq0
returns-then-page-eq0 g c = sym (none_outside (has_bit c.args.self.now.blank.now) c.args.self.now.grid.pages c.args.page (λ low high. grind (arith, low, high)))

pub returns : goal.returns
returns g c = c.has.ensures ∙ sym (bit_within (has_bit c.args.self.now.blank.now) c.args.self.now.grid.pages c.args.page (omega arith) (omega arith))

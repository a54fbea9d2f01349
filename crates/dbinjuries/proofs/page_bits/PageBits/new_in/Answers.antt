use Rattle.std.proofs.Common.{ap, ◌∙◌}
use Rattle.dbinjuries.specs.Bits.{has_bit}
use Rattle.dbinjuries.proofs.Bits.{none_set}
use Rattle.dbinjuries.proofs.page_bits.PageBits.new_in.Goals as goal

pub returns-clause-none : goal.returns-clause-none
returns-clause-none g c = λ p. ap (λ words. has_bit words p) c.in_ok-words.ensures.items ∙ none_set _ p

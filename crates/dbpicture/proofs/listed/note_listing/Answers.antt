use Rattle.std.proofs.Common.{ℕ, ◌++◌, List, subst}
use Rattle.std.specs.Prelude.{filter, flat_map}
use Rattle.std.specs.List.{range_with_len}
use Rattle.dbinjuries.specs.Bits.{has_bit}
use Rattle.dbpicture.specs.Faults.{injury_signs, with_sign}
use Rattle.dbpicture.specs.Keeping.{AreNoted}
use Rattle.dbpicture.specs.declared.faults.Sign.{Sign}
use Rattle.dbpicture.specs.declared.faults.Sign.TheVariants.{Blank, Zeros}
use Rattle.dbpicture.proofs.listed.note_listing.Goals as goal

pub returns-clause-noted : goal.returns-clause-noted
returns-clause-noted g c = λ count signs h. subst (λ (l : List (ℕ × Sign)). AreNoted count l c.note_bits-2.new.notes)
    (λ i. signs ++ flat_map injury_signs (c.listed.ensures i) ++ with_sign Zeros (filter (has_bit (c.zeros.ensures i)) (range_with_len 1 c.args.pages))
    ++ with_sign Blank (filter (has_bit (c.blank.ensures i)) (range_with_len 1 c.args.pages)))
    (c.note_bits-2.ensures.noted count _ (c.note_bits.ensures.noted count _ (c.note_listed.ensures count signs h)))

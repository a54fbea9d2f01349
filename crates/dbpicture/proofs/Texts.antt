-- The texts of pieces, part by part.
use Rattle.std.proofs.Common.{◌≡◌, ◌≢◌, ℕ, ◌/◌, ◌%◌, false, List, ◌++◌, length, take, refl, sym, ap, ◌∙◌}
use Rattle.std.specs.Prelude.{codes, decimal, ◌==◌}
use Rattle.std.proofs.lemmas.Bool.{cond-false, ne_eqb}
use Rattle.std.proofs.lemmas.Grind.{flat_map-append}
use Rattle.dbpicture.specs.Pieces.{ellipsis, shown_text, tenths_text}
use Rattle.dbpicture.specs.Widths.{fitting}
use Rattle.dbpicture.specs.Xml.{byte_text, escaped}

pub tenths_parts : (n : ℕ) → tenths_text n ≡ decimal (n / 10) ++ (codes "." ++ decimal (n % 10))
unfolding tenths_text
tenths_parts n = refl

-- a text that does not fit
pub cut_text : (text : List ℕ) (width n : ℕ) → n ≡ fitting width text → n ≢ length text → shown_text text width ≡ escaped (take n text) ++ escaped ellipsis
cut_text text width n e cut =
    let whole : (fitting width text == length text) ≡ false = ne_eqb (fitting width text) (length text) (λ same. cut (e ∙ same)) in
    cond-false _ _ _ whole ∙ ap (λ m. escaped (take m text ++ ellipsis)) (sym e) ∙ flat_map-append byte_text (take n text) ellipsis

-- Escaped texts, byte by byte.
use Rattle.std.proofs.Common.{◌≡◌, ℕ, ◌+◌, ◌<◌, ◌≤◌, List, [], ◌∷◌, ◌++◌, length, drop, get_or, add-one, drop-cons, refl, sym, ap₂, ◌∙◌}
use Rattle.std.proofs.lemmas.List.{drop_all}
use Rattle.dbpicture.specs.Xml.{byte_text, escaped}

-- what is left of a text, by its next byte
pub next_byte : (text : List ℕ) (i : ℕ) (none : ℕ) → i < length text → escaped (drop i text) ≡ byte_text (get_or text i none) ++ escaped (drop (i + 1) text)
next_byte text i none h = rw (add-one, drop-cons text i none h) refl

-- so it is where that is no markup
pub next_plain : (text : List ℕ) (i : ℕ) (none : ℕ) → i < length text → byte_text (get_or text i none) ≡ get_or text i none ∷ []
    → escaped (drop (i + 1) text) ≡ drop (i + 1) text → escaped (drop i text) ≡ drop i text
next_plain text i none h plain rest =
    let cut : drop i text ≡ get_or text i none ∷ drop (i + 1) text = rw add-one (drop-cons text i none h) in
    next_byte text i none h ∙ ap₂ (λ a b. a ++ b) plain rest ∙ sym cut

-- and after the last byte nothing is left
pub none_left : (text : List ℕ) (i : ℕ) → length text ≤ i → escaped (drop i text) ≡ drop i text
none_left text i h = rw (drop_all i text h) refl

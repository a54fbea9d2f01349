-- The limit that the text of a row spells.
use Rattle.std.proofs.Common.{◌≡◌, ℕ, Option, Some, None, refl}
use Rattle.clap.specs.Words.{Text}
use Rattle.dbcli.specs.Spelled.{Spells}

-- a number that was read from a row is the one that its text spells
pub limit_of_row : (row : Option Text) (limit : ℕ) → (row ≡ None → Some limit ≡ None) → ((text : Text) → row ≡ Some text → Spells text limit)
    → (text : Text) × (row ≡ Some text) × Spells text limit
limit_of_row None limit none spelled = let bad : Some limit ≡ None = none refl in cc
limit_of_row (Some text) limit none spelled = (text, refl, spelled text refl)

-- Visits that are all below earlier starts.
use Rattle.std.specs.Prelude.{ℕ, ◌<◌, List, [], ◌∷◌}
use Rattle.dbsurvey.specs.Address.{IsIn, Address}
use Rattle.dbformat.specs.Reference.{Reference}

-- the address is below a start before this one
abbrev pub IsOfEarlierStart : ℕ → Address → Type 0
IsOfEarlierStart k [] = ⊥
IsOfEarlierStart k (start ∷ a) = start < k

-- all visits so far are below earlier starts
abbrev pub AreOfEarlierStarts : ℕ → List Reference → Type 0
AreOfEarlierStarts k W = (u : Reference) → IsIn u W → IsOfEarlierStart k u.address

-- The list of the codes, and the index of a code in it (own).
use Rattle.std.specs.Prelude.{◌≡◌, ℕ, suc, Bool, List, [], ◌∷◌, length, map, Some, slice_get, ◌==◌, if◌then◌else◌}
use Rattle.std.specs.List.{range_with_len}
use Rattle.std.specs.Str.{bytes_eq}
use Rattle.dbformat.specs.Lines.{code_text}
use Rattle.dbformat.specs.declared.FaultCode.{FaultCode}
use Rattle.dbformat.specs.declared.FaultCode.TheVariants.{H01, H02, H03, H04, H05, H06, H07, H08, H09, H10, P01, P02, P03, P04, P05, P06, P07, P08}
use Rattle.dbformat.specs.declared.FaultCode.TheVariants.{P09, P10, R01, R02, R03, T04, T05, T06, O01, L01, S01, S02, S03, S04, N01, M01, M02}

-- all codes, in the order in which a summary shows them
abbrev pub all_codes : List FaultCode
all_codes =
    H01 ∷ H02 ∷ H03 ∷ H04 ∷ H05 ∷ H06 ∷ H07 ∷ H08 ∷ H09 ∷ H10 ∷ P01 ∷ P02 ∷ P03 ∷ P04 ∷ P05 ∷ P06 ∷ P07 ∷ P08 ∷ P09 ∷ P10
    ∷ R01 ∷ R02 ∷ R03 ∷ T04 ∷ T05 ∷ T06 ∷ O01 ∷ L01 ∷ S01 ∷ S02 ∷ S03 ∷ S04 ∷ N01 ∷ M01 ∷ M02 ∷ []

-- whether two codes are the same, by their texts
abbrev pub is_code : FaultCode → FaultCode → Bool
is_code a b = bytes_eq (code_text a) (code_text b)

-- how many codes of a list come before one
abbrev pub codes_before : FaultCode → List FaultCode → ℕ
codes_before code [] = 0
codes_before code (c ∷ cs) = if is_code code c then 0 else suc (codes_before code cs)

-- the index of a code in the list of all
abbrev pub code_index : FaultCode → ℕ
code_index code = codes_before code all_codes

-- The list has each code at its index, and no code twice.
abbrev pub IsListedOnce : Type 0
IsListedOnce = ((code : FaultCode) → slice_get all_codes (code_index code) ≡ Some code)
    × (map code_index all_codes ≡ range_with_len 0 (length all_codes))

-- two codes are the same exactly where their indexes are
abbrev pub AreReportedApart : Type 0
AreReportedApart = (a b : FaultCode) → is_code a b ≡ (code_index a == code_index b)

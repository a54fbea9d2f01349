-- The list of the codes.
use Rattle.std.proofs.Common.{◌≡◌, suc, Bool, true, false, List, [], ◌∷◌, length, map, Some, refl, sym, ap, ap₂, ◌∙◌, cond, arith}
use Rattle.std.specs.Prelude.{slice_get, ◌==◌}
use Rattle.std.specs.List.{range_with_len}
use Rattle.std.specs.Str.{bytes_eq}
use Rattle.std.proofs.lemmas.Bool.{eqb-true}
use Rattle.std.proofs.lemmas.Bool.Decides.{nat_tests}
use Rattle.std.proofs.lemmas.Slice.Eq.{bytes_eq-Decides}
use Rattle.dbformat.specs.Lines.{code_text}
use Rattle.dbformat.specs.Codes.{all_codes, is_code, codes_before, code_index}
use Rattle.dbformat.specs.declared.FaultCode.{FaultCode}
use Rattle.dbformat.specs.declared.FaultCode.TheVariants.{H01}

-- each code is in the list, at its index
pub listed : (code : FaultCode) → slice_get all_codes (code_index code) ≡ Some code
listed H01 = refl
listed _ = refl

-- and none is in it twice
pub once : map code_index all_codes ≡ range_with_len 0 (length all_codes)
once = refl

-- ---- two codes

same_before : (a b : FaultCode) → code_text a ≡ code_text b → (cs : List FaultCode) → codes_before a cs ≡ codes_before b cs
same_before a b e [] = refl
same_before a b e (c ∷ cs) = ap₂ (λ t n. cond (bytes_eq t (code_text c)) 0 (suc n)) e (same_before a b e cs)

same_text : (a b : FaultCode) → is_code a b ≡ true → code_index a ≡ code_index b
same_text a b e = same_before a b ((bytes_eq-Decides (code_text a) (code_text b)).0 e) all_codes

same_code : (a b : FaultCode) → code_index a ≡ code_index b → a ≡ b
same_code a b e = let f : Some a ≡ Some b = sym (listed a) ∙ ap (slice_get all_codes) e ∙ listed b in cc

pub is_itself : (a : FaultCode) → is_code a a ≡ true
is_itself a = (bytes_eq-Decides (code_text a) (code_text a)).1 refl

pub apart : (a b : FaultCode) → is_code a b ≡ (code_index a == code_index b)
apart a b = by_case (is_code a b) (code_index a == code_index b) refl refl
  where
    by_case : (x y : Bool) → is_code a b ≡ x → (code_index a == code_index b) ≡ y → x ≡ y
    by_case true true e f = refl
    by_case false false e f = refl
    by_case true false e f = let i : code_index a ≡ code_index b = same_text a b e in absurd (let h : ⊥ = grind (arith, nat_tests) in h)
    by_case false true e f =
        let s : a ≡ b = same_code a b (eqb-true (code_index a) (code_index b) f) in
        sym e ∙ ap (is_code a) (sym s) ∙ is_itself a

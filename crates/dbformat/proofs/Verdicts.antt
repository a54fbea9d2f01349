-- The verdict of a list of faults is that of their count; and the text of a check with a fault is not the line `ok`.
use Rattle.std.proofs.Common.{◌≡◌, ℕ, zero, suc, false, cond, List, [], ◌∷◌, ◌++◌, length, take, drop, refl, ap, append_assoc, arith}
use Rattle.std.specs.Prelude.{flat_map, get_or, nat_lt, true, ◌==◌}
use Rattle.std.proofs.lemmas.Bool.Decides.{nat_tests}
use Rattle.dbformat.specs.Lines.{code_text, counted, fault_line, more_line, ok_line}
use Rattle.dbformat.specs.Report.{check_text, more_text, verdict, verdict_of}
use Rattle.dbformat.specs.declared.Fault.{Fault}
use Rattle.dbformat.specs.declared.FaultCode.{FaultCode}
use Rattle.dbformat.specs.declared.FaultCode.TheVariants.{H01}
use Rattle.dbformat.specs.declared.Verdict.TheVariants.{Clean, Faulty}

not_none : (n : ℕ) → (counted (suc n) == 0) ≡ false
not_none n = grind (arith, nat_tests)

pub verdict_counted : (fs : List Fault) → verdict_of (counted (length fs)) ≡ verdict fs
verdict_counted [] = refl
verdict_counted (f ∷ fs) = ap (λ b. cond b Clean (Faulty (counted (suc (length fs))))) (not_none (length fs))

-- a code begins with a capital letter, and the line `ok` with a small one
begins_below_o : (code : FaultCode) (rest : List ℕ) → nat_lt (get_or (code_text code ++ rest) 0 0) 111 ≡ true
begins_below_o H01 rest = refl
begins_below_o _ rest = refl

code_not_ok : (code : FaultCode) (rest : List ℕ) → code_text code ++ rest ≡ ok_line → ⊥
code_not_ok code rest e = let below = begins_below_o code rest in let h = ap (λ line. nat_lt (get_or line 0 0) 111) e in cc

-- and a line of a fault begins with its code
line_not_ok : (f : Fault) (lines more : List ℕ) → (fault_line f ++ lines) ++ more ≡ ok_line → ⊥
unfolding fault_line
line_not_ok f lines more e = let h = simp append_assoc at e in code_not_ok f.code _ h

pub faults_not_ok : (limit : ℕ) (f : Fault) (fs : List Fault) → check_text limit (f ∷ fs) ≡ ok_line → ⊥
unfolding more_line
faults_not_ok zero f fs e = cc
faults_not_ok (suc limit) f fs e = line_not_ok f (flat_map fault_line (take limit fs)) (more_text (length (drop limit fs))) e

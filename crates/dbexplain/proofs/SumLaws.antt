-- The numbers of the codes, and those of the starts and of the whole file, add up to that of all faults.
use Rattle.std.proofs.Common.{◌≡◌, ℕ, ◌+◌, inl, inr, Bool, true, false, cond, List, [], ◌∷◌, length, map, refl, ap, ◌∙◌, arith}
use Rattle.std.specs.Prelude.{count_by, sum_by, ◌==◌}
use Rattle.std.proofs.lemmas.Bool.{eq-eqb}
use Rattle.std.proofs.lemmas.Bool.Decides.{nat_tests}
use Rattle.std.proofs.lemmas.List.Sums.{sum_by-cons}
use Rattle.dbsurvey.specs.Address.{IsIn}
use Rattle.dbsurvey.specs.From.{under}
use Rattle.dbsurvey.specs.Survey.{Link, IsRising}
use Rattle.dbsurvey.proofs.Lists.{count_more, count_none}
use Rattle.dbsurvey.proofs.Ordering.{IsIn-from_map}
use Rattle.dbformat.specs.Address.{schema_start}
use Rattle.dbexplain.proofs.Common.{all_codes, Reference, starts, Survey, FaultCode, Part, TracedFault, reported_faults, is_part_of_start}
use Rattle.dbformat.specs.Codes.{is_code}
use Rattle.dbformat.specs.Reference.{Way}
use Rattle.dbformat.specs.declared.FaultCode.TheVariants.{H01}
use Rattle.dbformat.proofs.Rising.{starts_rise}
use Rattle.dbtrace.specs.declared.Part.TheVariants as part
use Rattle.dbscan.proofs.Reached.{of_starts}
use Rattle.dbexplain.specs.Summary.{is_whole, CodesAddUp, StartsAddUp}

-- ---- what is counted once for each of a list

module _ {K X : Type 0} (p : K → X → Bool) where
  -- an element more is counted by each test that it passes
  one_more : (ks : List K) (x : X) (xs : List X) → sum_by (λ k. count_by (p k) (x ∷ xs)) ks ≡ count_by (λ k. p k x) ks + sum_by (λ k. count_by (p k) xs) ks
  one_more [] x xs = refl
  one_more (k ∷ ks) x xs =
      let a = sum_by-cons (λ k. count_by (p k) (x ∷ xs)) k ks in
      let b = sum_by-cons (λ k. count_by (p k) xs) k ks in
      let c = count_more (λ k. p k x) k ks in
      let d = count_more (p k) x xs in
      let e = one_more ks x xs in
      omega (arith, a, b, c, d, e)

  none_of : (ks : List K) → sum_by (λ k. count_by (p k) []) ks ≡ 0
  none_of [] = refl
  none_of (k ∷ ks) = let a = sum_by-cons (λ k. count_by (p k) []) k ks in let b = none_of ks in omega (arith, a, b)

  -- where each is of one, or of the others
  pub all_once : (other : X → Bool) (ks : List K) (xs : List X) → ((x : X) → IsIn x xs → count_by (λ k. p k x) ks + cond (other x) 1 0 ≡ 1)
      → sum_by (λ k. count_by (p k) xs) ks + count_by other xs ≡ length xs
  all_once other ks [] h = let a = none_of ks in omega (arith, a)
  all_once other ks (x ∷ xs) h =
      let a = one_more ks x xs in
      let b = count_more other x xs in
      let c = all_once other ks xs (λ y i. h y (inr i)) in
      let d = h x (inl refl) in
      omega (arith, a, b, c, d)

-- ---- codes

one_code : (code : FaultCode) → count_by (is_code code) all_codes ≡ 1
one_code H01 = refl
one_code _ = refl

pub codes_add_up : (ts : List TracedFault) → CodesAddUp ts
codes_add_up ts =
    let a = all_once (λ code (t : TracedFault). is_code t.fault.code code) (λ t. false) all_codes ts (λ t i. let e = one_code t.fault.code in omega
    (arith, e)) in
    let b = count_none (λ (t : TracedFault). false) ts (λ t i. refl) in
    omega (arith, a, b)

-- ---- starts

-- one more, or none
first_in : {X : Type 0} (p : X → Bool) (x : X) (xs : List X) → p x ≡ true → count_by p (x ∷ xs) ≡ 1 + count_by p xs
first_in p x xs e = count_more p x xs ∙ ap (λ b. cond b 1 0 + count_by p xs) e

first_out : {X : Type 0} (p : X → Bool) (x : X) (xs : List X) → p x ≡ false → count_by p (x ∷ xs) ≡ 0 + count_by p xs
first_out p x xs e = count_more p x xs ∙ ap (λ b. cond b 1 0 + count_by p xs) e

-- a step is that of one link
once_in : (ls : List (Link Way)) (k : ℕ) → IsRising ls → IsIn k (map (λ l. l.step) ls) → count_by (λ (l : Link Way). k == l.step) ls ≡ 1
once_in [] k rise i = absurd i
once_in (l ∷ ls) k rise (inl e) =
    let a = first_in (λ (l : Link Way). k == l.step) l ls (eq-eqb k l.step e) in
    let b = count_none (λ (l : Link Way). k == l.step) ls (λ m j. let less = rise.0 m j in let off : (k == m.step) ≡ false = grind (arith, nat_tests) in off) in
    omega (arith, a, b)
once_in (l ∷ ls) k rise (inr i) =
    let m = IsIn-from_map (λ (l : Link Way). l.step) ls k i in
    let less = rise.0 m.0 m.1 in
    let same : k ≡ m.0.step = m.2 in
    let off : (k == l.step) ≡ false = grind (arith, nat_tests) in
    let a = first_out (λ (l : Link Way). k == l.step) l ls off in
    let b = once_in ls k rise.1 i in
    omega (arith, a, b)

module _ (file : List ℕ) (V : List Reference) (s : Survey file V) where
  one_part : (t : TracedFault) → IsIn t (reported_faults file V) → count_by (λ (l : Link Way). is_part_of_start l.step t.part) (starts file V)
      + cond (is_whole t.part) 1 0 ≡ 1
  one_part t i = by_part t.part refl
    where
      by_part : (p : Part) → t.part ≡ p → count_by (λ (l : Link Way). is_part_of_start l.step p) (starts file V) + cond (is_whole p) 1 0 ≡ 1
      by_part part.Header e = let a = count_none (λ (l : Link Way). false) (starts file V) (λ l i. refl) in omega (arith, a)
      by_part (part.Start k) e =
          let a = once_in (starts file V) k (starts_rise file (under schema_start V)) (of_starts file V s t i k e).start in omega (arith, a)
      by_part part.End e = let a = count_none (λ (l : Link Way). false) (starts file V) (λ l i. refl) in omega (arith, a)

  pub starts_add_up : StartsAddUp file V
  starts_add_up = all_once (λ (l : Link Way) (t : TracedFault). is_part_of_start l.step t.part) (λ t. is_whole t.part) (starts file V) (reported_faults file V)
      one_part

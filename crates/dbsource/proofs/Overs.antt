-- A header that is put over what was read.
use Rattle.std.proofs.Common.{◌≡◌, ℕ, ◌≤◌, Bool, true, false, cond, List, ◌++◌, length, take, drop, refl, sym, ap, subst, ◌∙◌, ◌<◌, append-nil, arith, Option}
use Rattle.std.proofs.Common.{Some, None, inl, inr}
use Rattle.std.specs.Prelude.{min, nat_lt, IfSome, ◌==◌, ◌⊎◌}
use Rattle.std.specs.Str.{bytes_eq}
use Rattle.std.proofs.Math.ListN.{drop_of_length-le}
use Rattle.std.proofs.lemmas.Bool.{cases_Bool}
use Rattle.std.proofs.lemmas.Bool.Decides.{nat_tests}
use Rattle.std.proofs.lemmas.List.{take_all, take-take, take-append-drop, length-take}
use Rattle.std.proofs.lemmas.Slice.Eq.{bytes_eq-Decides}
use Rattle.dbsource.specs.Answers.{IsRangeOf}
use Rattle.dbsource.specs.Headed.{over, begun}

-- a copy of the header's part
pub over_first : (head buf new : List ℕ) (offset count : ℕ) → offset ≡ 0 → length head ≡ 100 → count ≡ min (length head) (length buf) → new ≡ take count head
    → new ++ drop count buf ≡ over head offset buf
over_first head buf new offset count z h c n =
    ap (λ xs. xs ++ drop count buf) n ∙ by_length (cases_Bool (nat_lt (length buf) 100)) ∙ sym (ap (λ o. over head o buf) z)
  where
    by_length : (nat_lt (length buf) 100 ≡ true) ⊎ (nat_lt (length buf) 100 ≡ false) → take count head ++ drop count buf ≡ take (length buf) head
        ++ drop 100 buf
    by_length (inl e) =
        let l : length buf < 100 = grind (arith, nat_tests) in
        let k : count ≡ length buf = omega arith in
        ap (λ n. take n head ++ drop n buf) k
        ∙ ap (λ xs. take (length buf) head ++ xs) (drop_of_length-le buf {i = length buf} (omega arith) ∙ sym (drop_of_length-le buf {i = 100} (omega arith)))
    by_length (inr e) =
        let l : 100 ≤ length buf = grind (arith, nat_tests) in
        let k : count ≡ 100 = omega arith in
        ap (λ n. take n head ++ drop n buf) k ∙ ap (λ xs. xs ++ drop 100 buf) (take_all 100 head (omega arith) ∙ sym (take_all (length buf) head (omega arith)))

-- the first bytes of a range from the beginning on are the file's
over_same : (file buf : List ℕ) → buf ≡ take (length buf) file → take (length buf) (take 100 file) ++ drop 100 buf ≡ buf
over_same file buf e = by_length (cases_Bool (nat_lt (length buf) 100))
  where
    by_length : (nat_lt (length buf) 100 ≡ true) ⊎ (nat_lt (length buf) 100 ≡ false) → take (length buf) (take 100 file) ++ drop 100 buf ≡ buf
    by_length (inl f) =
        let l : length buf < 100 = grind (arith, nat_tests) in
        ap (λ xs. xs ++ drop 100 buf) (take-take (length buf) 100 file (omega arith) ∙ sym e)
        ∙ ap (λ xs. buf ++ xs) (drop_of_length-le buf {i = 100} (omega arith)) ∙ append-nil buf
    by_length (inr f) =
        let l : 100 ≤ length buf = grind (arith, nat_tests) in
        let first : take (length buf) (take 100 file) ≡ take 100 buf =
        take_all (length buf) (take 100 file) (simp length-take (omega arith)) ∙ sym (take-take 100 (length buf) file l) ∙ sym (ap (take 100) e) in
        ap (λ xs. xs ++ drop 100 buf) first ∙ take-append-drop 100 buf

pub over_range : (head file : List ℕ) (offset : ℕ) (buf : List ℕ) → take 100 file ≡ head → IsRangeOf file offset buf → over head offset buf ≡ buf
over_range head file offset buf e k = by_offset (offset == 0) refl
  where
    by_offset : (b : Bool) → b ≡ (offset == 0) → cond b (take (length buf) head ++ drop 100 buf) buf ≡ buf
    by_offset false f = refl
    by_offset true f =
        let z : offset ≡ 0 = grind (arith, nat_tests) in
        ap (λ h. take (length buf) h ++ drop 100 buf) (sym e) ∙ over_same file buf (k.1 ∙ ap (λ n. take (length buf) (drop n file)) z)

-- told bytes that begin with the header are not changed by it
pub over_told : (head : List ℕ) (o : Option (List ℕ)) (offset : ℕ) (buf new : List ℕ) → new ≡ over head offset buf
    → IfSome o (λ file. IsRangeOf file offset buf) → IfSome (begun head o) (λ file. IsRangeOf file offset new)
over_told head None offset buf new e k = tt
over_told head (Some file) offset buf new e k = by_head (bytes_eq (take 100 file) head) refl
  where
    by_head : (b : Bool) → b ≡ bytes_eq (take 100 file) head → IfSome (cond b (Some file) None) (λ file. IsRangeOf file offset new)
    by_head false f = tt
    by_head true f = subst (IsRangeOf file offset) (sym (e ∙ over_range head file offset buf ((bytes_eq-Decides (take 100 file) head).0 (sym f)) k)) k

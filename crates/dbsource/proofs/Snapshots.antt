-- A file that agrees with a log of whole pages, put together of the pages as they were when each was read.
use Rattle.std.proofs.Common.{◌≡◌, ◌≢◌, ℕ, suc, ◌+◌, ◌-◌, ◌*◌, ◌<◌, ◌≤◌, List, [], ◌∷◌, ◌++◌, length, map, take, drop, refl, sym, ap, subst, ◌∙◌, ◌⊎◌, inl, inr}
use Rattle.std.proofs.Common.{arith, append_assoc, length-append}
use Rattle.std.proofs.Math.Nat.{mul-le-mul_right, suc-mul}
use Rattle.std.proofs.Math.Seq.{drop-append-add, drop-append_seam, take-append_seam}
use Rattle.std.proofs.lemmas.Bool.{cases_Bool}
use Rattle.std.proofs.lemmas.Bool.Decides.{nat_tests}
use Rattle.std.specs.Prelude.{nat_lt}
use Rattle.std.proofs.lemmas.List.{take-append-drop, take-append-le, drop-append-le, length-take, length-drop}
use Rattle.dbsurvey.specs.Address.{IsIn, EachPair}
use Rattle.dbformat.specs.Log.{page_range, range}
use Rattle.dbformat.specs.declared.ByteRange.{ByteRange}
use Rattle.dbsource.specs.Answers.{Answer, given, failed, IsRangeOf, asked, Fits}
use Rattle.dbsource.proofs.Headers.{beginning}

-- the file with these bytes from offset on
abbrev pub put : List ℕ → ℕ → List ℕ → List ℕ
put file offset bytes = take offset file ++ (bytes ++ drop (offset + length bytes) file)

put_length : (file bytes : List ℕ) (offset : ℕ) → offset + length bytes ≤ length file → length (put file offset bytes) ≡ length file
put_length file bytes offset h = simp (length-append, length-take, length-drop) (omega arith)

front_length : (file : List ℕ) (offset : ℕ) → offset ≤ length file → length (take offset file) ≡ offset
front_length file offset h = simp length-take (omega arith)

-- what comes before the end of a front does not depend on what follows it
before : (a x y : List ℕ) (o k : ℕ) → o + k ≤ length a → take k (drop o (a ++ x)) ≡ take k (drop o (a ++ y))
before a x y o k h =
    let l : o ≤ length a = omega arith in
    let m : k ≤ length (drop o a) = simp length-drop (omega arith) in
    ap (take k) (drop-append-le o a x l) ∙ take-append-le k (drop o a) x m ∙ sym (take-append-le k (drop o a) y m) ∙ sym (ap (take k) (drop-append-le o a y l))

-- nor does what comes after it depend on the front
behind : (a b x : List ℕ) (o : ℕ) → length a ≡ length b → length a ≤ o → drop o (a ++ x) ≡ drop o (b ++ x)
behind a b x o e h =
    let f : length a + (o - length a) ≡ o = omega arith in
    let g : length b + (o - length a) ≡ o = omega arith in
    ap (λ n. drop n (a ++ x)) (sym f) ∙ drop-append-add a x (o - length a) ∙ sym (drop-append-add b x (o - length a)) ∙ ap (λ n. drop n (b ++ x)) g

pub put_there : (file bytes : List ℕ) (offset : ℕ) → offset + length bytes ≤ length file → IsRangeOf (put file offset bytes) offset bytes
put_there file bytes offset h =
    let front : length (take offset file) ≡ offset = front_length file offset (omega arith) in
    let rest : drop offset (put file offset bytes) ≡ bytes ++ drop (offset + length bytes) file =
    ap (λ n. drop n (put file offset bytes)) (sym front) ∙ drop-append_seam (take offset file) (bytes ++ drop (offset + length bytes) file) in
    (omega (arith, put_length file bytes offset h), sym (ap (take (length bytes)) rest ∙ take-append_seam bytes (drop (offset + length bytes) file)))

-- what is elsewhere stays
pub put_other : (file bytes piece : List ℕ) (offset o : ℕ) → offset + length bytes ≤ length file → (o + length piece ≤ offset) ⊎ (offset + length bytes ≤ o)
    → IsRangeOf file o piece → IsRangeOf (put file offset bytes) o piece
put_other file bytes piece offset o h (inl l) r =
    let front : length (take offset file) ≡ offset = front_length file offset (omega arith) in (
      omega (arith, r.0, put_length file bytes offset h),
      r.1 ∙ ap (λ f. take (length piece) (drop o f)) (sym (take-append-drop offset file))
          ∙ before (take offset file) (drop offset file) (bytes ++ drop (offset + length bytes) file) o (length piece) (omega arith),
    )
put_other file bytes piece offset o h (inr l) r =
    let n = offset + length bytes in
    let front : length (take offset file) ≡ offset = front_length file offset (omega arith) in
    let fronts : length (take n file) ≡ length (take offset file ++ bytes) = front_length file n h
    ∙ sym (length-append (take offset file) bytes ∙ ap (λ m. m + length bytes) front) in
    let small : length (take n file) ≤ o = omega (arith, front_length file n h) in (
      omega (arith, r.0, put_length file bytes offset h),
      r.1 ∙ ap (λ f. take (length piece) (drop o f)) (sym (take-append-drop n file))
          ∙ ap (take (length piece)) (behind (take n file) (take offset file ++ bytes) (drop n file) o fronts small
          ∙ ap (drop o) (append_assoc (take offset file) bytes (drop n file))),
    )

-- ---- pages

pages_apart : (size p q : ℕ) → 1 ≤ p → 1 ≤ q → q ≢ p → ((q - 1) * size + size ≤ (p - 1) * size) ⊎ ((p - 1) * size + size ≤ (q - 1) * size)
pages_apart size p q one one' ne = elim (cases_Bool (nat_lt q p)) [
  | inl e ↦ (let h : q < p = grind (arith, nat_tests) in inl (omega (arith, mul-le-mul_right {m = q - 1 + 1} {n = p - 1} size (omega arith))))
  | inr e ↦ (let h : p ≤ q = grind (arith, nat_tests) in inr (omega (arith, mul-le-mul_right {m = p - 1 + 1} {n = q - 1} size (omega arith))))
]

pub same_offset : (o n o' n' : ℕ) → range o n ≡ range o' n' → (o ≡ o') × (n ≡ n')
same_offset o n o' n' e = (ap (λ (r : ByteRange). r.offset) e, ap (λ (r : ByteRange). r.len) e)

pub same_head : (r s : ByteRange) (rs ss : List ByteRange) → r ∷ rs ≡ s ∷ ss → (r ≡ s) × (rs ≡ ss)
same_head r s rs ss e = (let k : r ≡ s = cc in k, let l : rs ≡ ss = cc in l)

-- other pages that were read stay, where a page is put
fits_put : (size p : ℕ) (file bytes : List ℕ) (log : List Answer) (pages : List ℕ) → map asked log ≡ map (page_range size) pages → 1 ≤ p → length bytes ≡ size
    → (p - 1) * size + size ≤ length file → ((q : ℕ) → IsIn q pages → (1 ≤ q) × (q ≢ p)) → Fits file log → Fits (put file ((p - 1) * size) bytes) log
fits_put size p file bytes [] pages e one s h ok f = tt
fits_put size p file bytes (a ∷ log) [] e one s h ok f = cc
fits_put size p file bytes (failed r ∷ log) (q ∷ pages) e one s h ok f =
    let k = same_head _ _ (map asked log) (map (page_range size) pages) e in
    (tt, fits_put size p file bytes log pages k.1 one s h (λ r i. ok r (inr i)) f.1)
fits_put size p file bytes (given o piece ∷ log) (q ∷ pages) e one s h ok f =
    let k = same_head _ _ (map asked log) (map (page_range size) pages) e in
    let m = same_offset o (length piece) ((q - 1) * size) size k.0 in
    let c = ok q (inl refl) in
    let apart : (o + length piece ≤ (p - 1) * size) ⊎ ((p - 1) * size + length bytes ≤ o) =
    rw (m.0, m.1, s) (pages_apart size p q one c.0 c.1) in
    (put_other file bytes piece ((p - 1) * size) o (omega arith) apart f.0, fits_put size p file bytes log pages k.1 one s h (λ r i. ok r (inr i)) f.1)

-- a file of this length that begins so
pub record IsSnapshot (head : List ℕ) (len : ℕ) (log : List Answer) (file : List ℕ) : Type 0 where
  pub length : length file ≡ len
  pub begins : take 100 file ≡ head
  pub fits : Fits file log

-- where page 1 was read, it begins so too
abbrev pub BeginsSo : List ℕ → List Answer → Type 0
BeginsSo head [] = Unit {0}
BeginsSo head (given o bytes ∷ log) = (o ≡ 0 → take 100 bytes ≡ head) × BeginsSo head log
BeginsSo head (failed r ∷ log) = BeginsSo head log

first_or_later : (p : ℕ) → 1 ≤ p → (p ≡ 1) ⊎ (2 ≤ p)
first_or_later p h = elim (cases_Bool (nat_lt p 2)) [
  | inl e ↦ inl (let l : p < 2 = grind (arith, nat_tests) in omega arith)
  | inr e ↦ inr (grind (arith, nat_tests))
]

front_put : (file bytes : List ℕ) (o : ℕ) → o ≡ 0 → take 100 (put file o bytes) ≡ take 100 (bytes ++ drop (length bytes) file)
front_put file bytes o e = let k : 0 + length bytes ≡ length bytes = omega arith in
    ap (λ n. take 100 (put file n bytes)) e ∙ ap (λ n. take 100 (bytes ++ drop n file)) k

put_begins : (size p len : ℕ) (head file bytes : List ℕ) → 100 ≤ size → 1 ≤ p → length bytes ≡ size → (p - 1) * size + size ≤ length file
    → ((p - 1) * size ≡ 0 → take 100 bytes ≡ head) → take 100 file ≡ head
    → take 100 (put file ((p - 1) * size) bytes) ≡ head
put_begins size p len head file bytes big one s h first old = elim (first_or_later p one) [
  | inl e ↦ (let z : (p - 1) * size ≡ 0 = ap (λ q. (q - 1) * size) e ∙ omega arith in
      front_put file bytes ((p - 1) * size) z ∙ take-append-le 100 bytes (drop (length bytes) file) (omega arith) ∙ first z)
  | inr l ↦ (
      let far : 100 ≤ (p - 1) * size = omega (arith, mul-le-mul_right {m = 1} {n = p - 1} size (omega arith)) in
      let front : length (take ((p - 1) * size) file) ≡ (p - 1) * size = front_length file ((p - 1) * size) (omega arith) in
      before (take ((p - 1) * size) file) (bytes ++ drop ((p - 1) * size + length bytes) file) (drop ((p - 1) * size) file) 0 100 (omega arith)
      ∙ ap (take 100) (take-append-drop ((p - 1) * size) file) ∙ old)
]

-- each answer lies in a file of this length
abbrev pub AreWithin : ℕ → List Answer → Type 0
AreWithin len [] = Unit {0}
AreWithin len (given o bytes ∷ log) = (o + length bytes ≤ len) × AreWithin len log
AreWithin len (failed r ∷ log) = AreWithin len log

-- there is one for each log of distinct whole pages whose answers lie in it
pub snapshot_of : (size len : ℕ) (head : List ℕ) (log : List Answer) (pages : List ℕ) → 100 ≤ size → 100 ≤ len → length head ≡ 100
    → map asked log ≡ map (page_range size) pages → ((p : ℕ) → IsIn p pages → 1 ≤ p) → AreWithin len log → EachPair (λ p q. p ≢ q) pages → BeginsSo head log
    → (file : List ℕ) × IsSnapshot head len log file
snapshot_of size len head [] pages big long h e ok w d b =
    let f = beginning head len (omega arith) in
    (f.0, record { length = f.1; begins = ap (λ n. take n f.0) (sym h) ∙ sym f.2.1; fits = tt })
snapshot_of size len head (a ∷ log) [] big long h e ok w d b = cc
snapshot_of size len head (failed r ∷ log) (p ∷ pages) big long h e ok w d b =
    let k = same_head _ _ (map asked log) (map (page_range size) pages) e in
    let f = snapshot_of size len head log pages big long h k.1 (λ q i. ok q (inr i)) w d.1 b in
    (f.0, record { length = f.1.length; begins = f.1.begins; fits = (tt, f.1.fits) })
snapshot_of size len head (given o bytes ∷ log) (p ∷ pages) big long h e ok w d b =
    let k = same_head _ _ (map asked log) (map (page_range size) pages) e in
    let f = snapshot_of size len head log pages big long h k.1 (λ q i. ok q (inr i)) w.1 d.1 b.1 in
    let m = same_offset o (length bytes) ((p - 1) * size) size k.0 in
    let one = ok p (inl refl) in
    let room : (p - 1) * size + size ≤ length f.0 = omega (arith, f.1.length, m.0, m.1, w.0) in
    let room' : (p - 1) * size + length bytes ≤ length f.0 = omega (arith, m.1) in (
      put f.0 ((p - 1) * size) bytes,
      record {
        length = put_length f.0 bytes ((p - 1) * size) room' ∙ f.1.length;
        begins = put_begins size p len head f.0 bytes big one m.1 room (λ z. b.0 (m.0 ∙ z)) f.1.begins;
        fits = (
          subst (λ n. IsRangeOf (put f.0 ((p - 1) * size) bytes) n bytes) (sym m.0) (put_there f.0 bytes ((p - 1) * size) room'),
          fits_put size p f.0 bytes log pages k.1 one m.1 room (λ q i. (ok q (inr i), λ x. d.0 q i (sym x))) f.1.fits,
        );
      },
    )

-- the answers of whole pages lie in a file that has these pages
pages_lie : (size len : ℕ) (log : List Answer) (pages : List ℕ) → map asked log ≡ map (page_range size) pages
    → ((p : ℕ) → IsIn p pages → (1 ≤ p) × (p * size ≤ len)) → AreWithin len log
pages_lie size len [] pages e ok = tt
pages_lie size len (a ∷ log) [] e ok = cc
pages_lie size len (failed r ∷ log) (p ∷ pages) e ok =
    let k = same_head _ _ (map asked log) (map (page_range size) pages) e in
    pages_lie size len log pages k.1 (λ q i. ok q (inr i))
pages_lie size len (given o bytes ∷ log) (p ∷ pages) e ok =
    let k = same_head _ _ (map asked log) (map (page_range size) pages) e in
    let m = same_offset o (length bytes) ((p - 1) * size) size k.0 in
    let c = ok p (inl refl) in
    (omega (arith, m.0, m.1, c.1, page_end p c.0), pages_lie size len log pages k.1 (λ q i. ok q (inr i)))
  where
    page_end : (p : ℕ) → 1 ≤ p → (p - 1) * size + size ≡ p * size
    page_end p one = let e : p ≡ suc (p - 1) = omega arith in sym (ap (λ n. n * size) e ∙ suc-mul (p - 1) size)

-- and so for each log of distinct whole pages in range
pub snapshot : (size len : ℕ) (head : List ℕ) (log : List Answer) (pages : List ℕ) → 100 ≤ size → 100 ≤ len → length head ≡ 100
    → map asked log ≡ map (page_range size) pages → ((p : ℕ) → IsIn p pages → (1 ≤ p) × (p * size ≤ len)) → EachPair (λ p q. p ≢ q) pages → BeginsSo head log
    → (file : List ℕ) × IsSnapshot head len log file
snapshot size len head log pages big long h e ok d b =
    snapshot_of size len head log pages big long h e (λ p i. (ok p i).0) (pages_lie size len log pages e ok) d b

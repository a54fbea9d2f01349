-- How often a page is read in the log of a run.
use Rattle.std.proofs.Common.{◌≡◌, ◌≢◌, ℕ, suc, ◌+◌, ◌-◌, ◌*◌, ◌<◌, ◌≤◌, Bool, true, false, cond, List, [], ◌∷◌, length, map, filter, refl, ap, ◌∙◌, arith, inl}
use Rattle.std.proofs.Common.{inr}
use Rattle.std.specs.Prelude.{◌==◌, nat_lt, max, min}
use Rattle.std.proofs.Math.Nat.{mul-le-mul_right, le-max_right, le-max_left, min-le_left, min-le_right}
use Rattle.std.proofs.lemmas.Bool.{cases_Bool}
use Rattle.std.proofs.lemmas.List.{length-map}
use Rattle.std.proofs.lemmas.Bool.Decides.{nat_tests}
use Rattle.std.specs.List.{range_with_len}
use Rattle.std.proofs.lemmas.List.FromFn.{length-range_with_len}
use Rattle.dbsurvey.specs.Address.{IsIn, EachPair}
use Rattle.dbsurvey.proofs.Elements.{IsIn-range}
use Rattle.dbsurvey.proofs.Rearranged.{no_longer}
use Rattle.dbformat.specs.FixedPages.{IsInRange}
use Rattle.dbformat.specs.Log.{page_range, header_range, is_sharing, reads, IsReadable, IsRunLog, IsReadOnce}
use Rattle.dbformat.specs.declared.ByteRange.{ByteRange}
use Rattle.dbformat.specs.declared.Geometry.{Geometry}

not_below : (a b : ℕ) → b ≤ a → nat_lt a b ≡ false
not_below a b h = grind (arith, nat_tests)

-- a range shares no byte with one that begins where it ends, or later
apart : (a n b m : ℕ) → a + n ≤ b → nat_lt (max a b) (min (a + n) (b + m)) ≡ false
apart a n b m h = not_below _ _ (omega (arith, le-max_right a b, min-le_left (a + n) (b + m)))

-- nor with one that ends where it begins, or before
apart_behind : (a n b m : ℕ) → b + m ≤ a → nat_lt (max a b) (min (a + n) (b + m)) ≡ false
apart_behind a n b m h = not_below _ _ (omega (arith, le-max_left a b, min-le_right (a + n) (b + m)))

-- a page ends where a later one begins, or before
ends : (size p q : ℕ) → 1 ≤ p → p < q → (p - 1) * size + size ≤ (q - 1) * size
ends size p q one h = omega (arith, mul-le-mul_right {m = p - 1 + 1} {n = q - 1} size (omega arith))

differ : (a b : ℕ) → a ≢ b → (a == b) ≡ false
differ a b h = grind (arith, nat_tests)

-- two pages share no byte
pages_apart : (size p q : ℕ) → 1 ≤ p → 1 ≤ q → (p == q) ≡ false → is_sharing (page_range size p) (page_range size q) ≡ false
pages_apart size p q one one' ne = elim (cases_Bool (nat_lt p q)) [
  | inl e ↦ (let h : p < q = grind (arith, nat_tests) in apart _ size _ size (ends size p q one h))
  | inr e ↦ (let h : q < p = grind (arith, nat_tests) in apart_behind _ size _ size (ends size q p one' h))
]

-- the ranges of some pages that share a byte with page p
abbrev page_reads : Geometry → ℕ → List ℕ → List ByteRange
page_reads g p pages = filter (is_sharing (page_range g.page_size p)) (map (page_range g.page_size) pages)

-- page p is not read where it is none of the pages
none_read : (g : Geometry) (p : ℕ) (pages : List ℕ) → 1 ≤ p → ((q : ℕ) → IsIn q pages → IsReadable g q) → ((q : ℕ) → IsIn q pages → p ≢ q)
    → page_reads g p pages ≡ []
none_read g p [] one h ne = refl
none_read g p (q ∷ pages) one h ne =
    ap (λ b. cond b (page_range g.page_size q ∷ page_reads g p pages) (page_reads g p pages))
    (pages_apart g.page_size p q one (h q (inl refl)).from_one (differ p q (ne q (inl refl))))
    ∙ none_read g p pages one (λ r i. h r (inr i)) (λ r i. ne r (inr i))

cond_at_most : (b : Bool) (r : ByteRange) (rs : List ByteRange) → length rs ≤ 0 → length (cond b (r ∷ rs) rs) ≤ 1
cond_at_most true r rs h = omega arith
cond_at_most false r rs h = omega arith

-- page p is read at most once
once_read : (g : Geometry) (p : ℕ) (pages : List ℕ) → 1 ≤ p → ((q : ℕ) → IsIn q pages → IsReadable g q) → EachPair (λ q r. q ≢ r) pages
    → reads g.page_size p (map (page_range g.page_size) pages) ≤ 1
once_read g p [] one h d = omega arith
once_read g p (q ∷ pages) one h d = elim (cases_Bool (p == q)) [
  | inl e ↦ (
      let same : q ≡ p = grind (arith, nat_tests) in
      let rest : page_reads g p pages ≡ [] = none_read g p pages one (λ r i. h r (inr i)) (λ r i f. d.0 r i (same ∙ f)) in
      let none : length (page_reads g p pages) ≤ 0 = rw rest (omega arith) in
      cond_at_most (is_sharing (page_range g.page_size p) (page_range g.page_size q)) (page_range g.page_size q) (page_reads g p pages) none)
  | inr e ↦ (
      let away = pages_apart g.page_size p q one (h q (inl refl)).from_one e in
      rw away (once_read g p pages one (λ r i. h r (inr i)) d.1))
]

-- the header lies in page 1
header_apart : (size p : ℕ) → 512 ≤ size → 2 ≤ p → is_sharing (page_range size p) header_range ≡ false
header_apart size p wide h =
    apart_behind ((p - 1) * size) size 0 100 (omega (arith, mul-le-mul_right {m = 1} {n = p - 1} size (omega arith)))

one_more_read : (b : Bool) (r : ByteRange) (rs : List ByteRange) (n : ℕ) → length rs ≤ n → length (cond b (r ∷ rs) rs) ≤ suc n
one_more_read true r rs n h = omega arith
one_more_read false r rs n h = omega arith

-- pages of the file, none twice, are no more than it has
bounded : (g : Geometry) (pages : List ℕ) → ((p : ℕ) → IsIn p pages → IsReadable g p) → EachPair (λ p q. p ≢ q) pages
    → length (map (page_range g.page_size) pages) ≤ g.pages
bounded g pages readable distinct =
    let fit = no_longer pages (range_with_len 1 g.pages) distinct
    (λ p i. let r = readable p i in IsIn-range 1 g.pages p r.from_one (omega (arith, r.within))) in
    omega (arith, fit, length-map pages (page_range g.page_size), length-range_with_len 1 g.pages)

pub read_once : (g : Geometry) (log : List ByteRange) → IsInRange g → IsRunLog g log → IsReadOnce g log
read_once g log range (inl e) = rw e (record { bounded = omega arith; first = omega arith; others = λ p h. omega arith })
read_once g log range (inr h) =
    let once : (p : ℕ) → 1 ≤ p → reads g.page_size p h.0 ≤ 1 = λ p one. rw h.2.ranges (once_read g p h.2.pages one h.2.readable h.2.distinct) in
    let most : length h.0 ≤ g.pages = rw h.2.ranges (bounded g h.2.pages h.2.readable h.2.distinct) in
    rw h.1 (record {
      bounded = omega (arith, most);
      first = one_more_read _ _ _ 1 (once 1 (omega arith));
      others = λ p two. (let away = header_apart g.page_size p range.page_size.0 two in rw away (once p (omega arith)));
    })

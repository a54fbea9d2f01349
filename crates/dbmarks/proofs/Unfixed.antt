-- What is read has no fixed use, whatever the source answers.
use Rattle.std.proofs.Common.{arith, ◌≤◌, ◌≢◌, ◌∷◌, inl, inr, ◌≡◌, ℕ, ◌-◌, Bool, true, false, cond, List, [], map, Option, Some, None, refl, sym, ap, ◌∙◌}
use Rattle.std.specs.Prelude.{slice_get, option_map, ◌==◌, ◌&&◌, is_some}
use Rattle.std.specs.Option.{option_map_or}
use Rattle.std.proofs.lemmas.Bool.{cases_Bool}
use Rattle.std.proofs.lemmas.Bool.Decides.{nat_tests}
use Rattle.std.proofs.lemmas.Option.{slice_get-map}
use Rattle.dbformat.specs.FixedPages.{is_page, is_fixed, is_map_position, lock_page, fixed_use}
use Rattle.dbformat.specs.Log.{IsReadable}
use Rattle.dbformat.specs.Tests.{first_true}
use Rattle.dbformat.specs.declared.Fixed.TheVariants.{Lock, Map}
use Rattle.dbformat.specs.declared.Geometry.{Geometry}
use Rattle.dbmarks.specs.declared.marks.Mark.{Mark}
use Rattle.dbmarks.specs.declared.marks.Mark.TheVariants.{Unmarked, Fixed, Root, Trunk, FreeLeaf, FirstOverflow, LaterOverflow, Child}
use Rattle.dbmarks.specs.Marking.{marks_of, page_mark, is_none, is_unmarked, cleared, AreMarksFor, KeepsMarks}
use Rattle.dbmarks.specs.Reads.{ReadsEachPageOnce}
use Rattle.dbmarks.proofs.Readings.{reads_then}
use Rattle.dbmarks.proofs.Markings.{page_mark-in, page_mark-out, unvisited}

-- marks of a file's pages stay so
pub marks_for-kept : (g : Geometry) (old new : List Mark) → AreMarksFor g old → KeepsMarks old new → AreMarksFor g new
marks_for-kept g old new h k = k.fixed ∙ h

page_mark-cleared : (marks : List Mark) (p : ℕ) → page_mark (map cleared marks) p ≡ option_map cleared (page_mark marks p)
page_mark-cleared marks p = by_case (p == 0)
  where
    by_case : (b : Bool) → cond b None (slice_get (map cleared marks) (p - 1)) ≡ option_map cleared (cond b None (slice_get marks (p - 1)))
    by_case true = refl
    by_case false = slice_get-map cleared marks (p - 1)

none_is : (o : Option Mark) → option_map_or is_none o false ≡ true → o ≡ Some Unmarked
none_is None h = cc
none_is (Some Unmarked) h = refl
none_is (Some Fixed) h = cc
none_is (Some Root) h = cc
none_is (Some Trunk) h = cc
none_is (Some FreeLeaf) h = cc
none_is (Some (FirstOverflow from)) h = cc
none_is (Some (LaterOverflow from)) h = cc
none_is (Some (Child from)) h = cc

pub unmarked_unfixed : (g : Geometry) (marks : List Mark) (p : ℕ) → AreMarksFor g marks → is_unmarked marks p ≡ true → (is_page g p ≡ true)
    × (is_fixed g p ≡ false)
unmarked_unfixed g marks p h u =
    let k : page_mark (marks_of g []) p ≡ Some Unmarked = ap (λ l. page_mark l p) (sym h) ∙ page_mark-cleared marks p
    ∙ ap (option_map cleared) (none_is (page_mark marks p) u) in
    elim (cases_Bool (is_page g p)) [
      | inl e ↦ (e, (unvisited g [] p (same (sym (page_mark-in g [] p (low e) (high e)) ∙ k))).0)
      | inr e ↦ absurd (clash (sym (page_mark-out g [] p e) ∙ k))
    ]
  where
    low : is_page g p ≡ true → 1 ≤ p
    low e = grind (arith, nat_tests)

    high : is_page g p ≡ true → p ≤ g.pages
    high e = grind (arith, nat_tests)

    same : {x y : Mark} → Some x ≡ Some y → x ≡ y
    same e = cc

    clash : None ≡ Some Unmarked → ⊥
    clash e = cc

fixed_lock : (g : Geometry) (p : ℕ) → is_page g p ≡ true → is_fixed g p ≡ false → p ≢ lock_page g.page_size
unfolding fixed_use
fixed_lock g p page free e = at_lock (p == lock_page g.page_size) (g.has_map && is_map_position g p) (is_lock p (lock_page g.page_size) e) (rw page at free)
  where
    is_lock : (p lock : ℕ) → p ≡ lock → (p == lock) ≡ true
    is_lock p lock e = grind (arith, nat_tests)

    at_lock : (b c : Bool) → b ≡ true → is_some (first_true ((b, Lock) ∷ (c, Map) ∷ [])) ≡ false → ⊥
    at_lock true c e f = cc
    at_lock false c e f = cc

-- a page without a mark is one that may be read
pub readable : (g : Geometry) (marks : List Mark) (p : ℕ) → AreMarksFor g marks → is_unmarked marks p ≡ true → IsReadable g p
readable g marks p h u =
    let k = unmarked_unfixed g marks p h u in
    record { from_one = low k.0; within = high k.0; unlocked = fixed_lock g p k.0 k.1 }
  where
    low : is_page g p ≡ true → 1 ≤ p
    low e = grind (arith, nat_tests)

    high : is_page g p ≡ true → p ≤ g.pages
    high e = grind (arith, nat_tests)

-- what walks read, one call after another
pub read_once : (g : Geometry) → ReadsEachPageOnce g
read_once g = record {
  pages = λ old new log h r. record { pages = r.pages; ranges = r.ranges; readable = λ p i. readable g old p h (r.fresh p i); distinct = r.distinct };
  joined = λ old mid new first second h k. reads_then g.page_size old mid new first second h k;
  marks = λ old new log h r. marks_for-kept g old new h r.kept;
}

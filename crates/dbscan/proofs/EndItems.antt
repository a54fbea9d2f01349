-- What is reported at the end: page after page by the marks, and all of it by the visits.
use Rattle.dbscan.proofs.Common.{◌≡◌, ℕ, ◌+◌, ◌-◌, ◌≤◌, Bool, true, false, List, [], ◌∷◌, ◌++◌, map, Option, Result, Ok, Err, refl, sym, ap, ap₂, subst, ◌∙◌}
use Rattle.dbscan.proofs.Common.{arith, count_by, flat_map, option_to_list, append-nil, Moves, end_faults, has_rows, geometry, map_entry, MapEntry, is_fixed}
use Rattle.dbscan.proofs.Common.{map_page_of, Role, Reference, Survey, Fault, Geometry, HeaderBytes, IsHeaderOf, RunError, is_free_mark, least_other_marked}
use Rattle.dbscan.proofs.Common.{mark_fault, late_fault, Notice, whole, end_notices, pages_from, mark_of, marks_of, role_mark, AreMarksOf, Reports, Mark}
use Rattle.dbscan.proofs.Common.{is_fixed_mark, page_notices, pages_items, items_of, range_with_len, map-append, Moves-append, some_after, common_steps}
use Rattle.dbscan.proofs.Common.{flat_map-append, schema_format_within, encoding_number_within, greatest_root_within, freelist_count_within, is_none}
use Rattle.dbsurvey.proofs.Lists.{flat_map-same, map-flat_map}
use Rattle.dbformat.proofs.Looping.{range-parts}
use Rattle.dbformat.specs.EndFaults.{sum_faults, page_end_faults, page_numbers}
use Rattle.dbformat.specs.Header.{has_pointer_map, schema_format, encoding_number, greatest_root, freelist_count}
use Rattle.dbmarks.specs.EndMarks.{greatest_root_marked}
use Rattle.dbmarks.proofs.LateRoots.{marks_give_the_end}
use Rattle.dbscan.specs.EndPass.{counted_faults}
use Rattle.dbscan.proofs.CountedMarks.{numbers_more}
use Rattle.dbtrace.specs.declared.Part.TheVariants as part

-- ---- one page

-- nothing is reported of a page of fixed use
pub fixed_items : (file : List ℕ) (least : Option ℕ) (p : ℕ) (m : Mark) → is_fixed_mark m ≡ true → page_notices file least p m ≡ []
fixed_items file least p m h = grind arith

-- what is reported of another page, from its two faults
pub other_items : (file : List ℕ) (least : Option ℕ) (p : ℕ) (m : Mark) (a b : Option Fault) (e : Option MapEntry) (has : Bool) → e ≡ map_entry file p → has
    ≡ (geometry file).has_map
    → option_to_list a ≡ mark_fault p e m → option_to_list b ≡ late_fault has p m least → items_of part.End (a ∷ b ∷ []) ≡ page_notices file least p m
other_items file least p m a b e has is own ea eb = grind (arith, common_steps)

-- without a map nothing is reported of a page that is used
pub used_items : (file : List ℕ) (least : Option ℕ) (p : ℕ) (m : Mark) → (geometry file).has_map ≡ false → is_none m ≡ false
    → page_notices file least p m ≡ []
unfolding map_entry map_page_of
used_items file least p m off used = grind arith

-- a mark is that of fixed use exactly where the page has one
role_not_fixed : (role : Role) (from : ℕ) → is_fixed_mark (role_mark role from) ≡ false
role_not_fixed role from = grind arith

pub fixed_by_mark : (g : Geometry) (V : List Reference) (p : ℕ) → is_fixed_mark (mark_of g V p) ≡ is_fixed g p
unfolding mark_of
fixed_by_mark g V p = grind (arith, role_not_fixed)

-- ---- the first pages

pub items_one_more : (file : List ℕ) (V : List Reference) (least : Option ℕ) (n : ℕ) → pages_items file V least (n + 1) ≡ pages_items file V least n
    ++ page_notices file least (n + 1) (mark_of (geometry file) V (n + 1))
items_one_more file V least n = rw (numbers_more n) (simp (flat_map-append, append-nil))

-- what is reported of the first pages is the beginning of what is reported of all
pub items_begin : (file : List ℕ) (V : List Reference) (least : Option ℕ) (n m : ℕ) → n ≤ m → (rest : List Notice)
    × (pages_items file V least n ++ rest ≡ pages_items file V least m)
items_begin file V least n m l =
    let f : ℕ → List Notice = λ p. page_notices file least p (mark_of (geometry file) V p) in
    let e : n + (m - n) ≡ m = omega arith in (
      flat_map f (range_with_len (1 + n) (m - n)),
      sym (ap (λ x. flat_map f (range_with_len 1 x)) (sym e) ∙ ap (flat_map f) (range-parts 1 n (m - n))
          ∙ flat_map-append f (range_with_len 1 n) (range_with_len (1 + n) (m - n))),
    )

-- ---- all of it, by the visits

module _ (file : List ℕ) (V : List Reference) (s : Survey file V) where
  pages_are : pages_items file V (least_other_marked (marks_of (geometry file) V)) (geometry file).pages
      ≡ map (whole part.End) (flat_map (page_end_faults file V) (page_numbers (geometry file)))
  pages_are =
      let reported = marks_give_the_end file V s in
      sym (map-flat_map (page_end_faults file V) (whole part.End) (page_numbers (geometry file))
      ∙ flat_map-same _ (λ p. page_notices file (least_other_marked (marks_of (geometry file) V)) p (mark_of (geometry file) V p))
      (page_numbers (geometry file))
      (λ p i. ap (map (whole part.End)) (ap₂ (λ a b. a ++ b) (reported.uses p) (reported.late p))))

  sums_are : (h : HeaderBytes) (rows : Bool) → IsHeaderOf h file → rows ≡ has_rows file V
      → counted_faults h.bytes rows (greatest_root_marked (marks_of (geometry file) V)) (count_by is_free_mark (marks_of (geometry file) V)) ≡ sum_faults file V
  unfolding sum_faults has_pointer_map
  sums_are h rows header e =
      let reported = marks_give_the_end file V s in
      let format = ap schema_format header.begins ∙ schema_format_within file in
      let encoding = ap encoding_number header.begins ∙ encoding_number_within file in
      let greatest = ap greatest_root header.begins ∙ greatest_root_within file in
      let count = ap freelist_count header.begins ∙ freelist_count_within file in
      rw (format, encoding, greatest, count, e, ← reported.greatest, ← reported.free) refl

  -- the faults of the whole, as they were reported, and then those of the pages
  pub all_items : (h : HeaderBytes) (rows : Bool) (marks : List Mark) (greatest free : ℕ) (faults : List (Option Fault))
      → IsHeaderOf h file → AreMarksOf file V marks → rows ≡ has_rows file V → greatest ≡ greatest_root_marked marks → free ≡ count_by is_free_mark marks
      → flat_map option_to_list faults ≡ counted_faults h.bytes rows greatest free
      → items_of part.End faults ++ pages_items file V (least_other_marked (marks_of (geometry file) V)) (geometry file).pages
      ≡ map (whole part.End) (end_faults file V)
  all_items h rows marks greatest free faults header m e g f k =
      ap₂ (λ a b. map (whole part.End) a ++ b)
      (k ∙ ap₂ (counted_faults h.bytes rows) (g ∙ ap greatest_root_marked m) (f ∙ ap (count_by is_free_mark) m) ∙ sums_are h rows header e) pages_are
      ∙ sym (map-append (whole part.End) (sum_faults file V) (flat_map (page_end_faults file V) (page_numbers (geometry file))))

-- some items, and then others
pub reports_then : {S I A : Type 0} (takes : S → I → S → Type 0) (r : Result A RunError) (s m t : S) (L M : List I) → Moves takes s L m
    → Reports takes r m M t → Reports takes r s (L ++ M) t
reports_then takes (Ok a) s m t L M h k = Moves-append takes s m t L M h k
reports_then takes (Err e) s m t L M h k = some_after takes s m t L M h k

-- the pages, and then the faults at the end
pub pages_then : {S A : Type 0} (receives : S → Notice → S → Type 0) (file : List ℕ) (V : List Reference) (r : Result A RunError) (s m t : S) (g : Geometry)
    (marks : List Mark)
    → g ≡ geometry file → AreMarksOf file V marks → Moves receives s (pages_from g 1 marks) m
    → Reports receives r m (map (whole part.End) (end_faults file V)) t
    → Reports receives r s (end_notices file V) t
pages_then receives file V r s m t g marks same marked reported k =
    reports_then receives r s m t (pages_from (geometry file) 1 (marks_of (geometry file) V)) (map (whole part.End) (end_faults file V))
    (subst (λ l. Moves receives s l m) (ap₂ (λ g l. pages_from g 1 l) same marked) reported) k

-- Pages to which nothing refers, by the marks, and their faults.
use Rattle.std.proofs.Common.{◌≡◌, ℕ, ◌+◌, ◌<◌, ◌≤◌, Bool, true, false, List, [], ◌∷◌, ◌++◌, length, map, take, drop, Option, Some, None, refl, sym, ap, ap₂}
use Rattle.std.proofs.Common.{◌∙◌, arith, append-nil, ◌&&◌}
use Rattle.std.specs.Prelude.{filter, flat_map, if◌then◌else◌}
use Rattle.std.specs.List.{range_with_len}
use Rattle.std.specs.Option.{option_map_or}
use Rattle.std.proofs.lemmas.Bool.Decides.{nat_tests}
use Rattle.std.proofs.lemmas.Grind.{flat_map-append}
use Rattle.std.proofs.lemmas.List.{take-append-drop}
use Rattle.std.proofs.lemmas.List.FromFn.{map-range_with_len_more, take-map-range_with_len}
use Rattle.std.proofs.lemmas.List.Folds.{flat_map-map}
use Rattle.dbsurvey.specs.Story as story
use Rattle.dbsurvey.proofs.Lists.{flat_map-flat_map, flat_map-same}
use Rattle.dbformat.specs.Address.{start_of}
use Rattle.dbformat.specs.EndFaults.{end_faults, entry_fault, format_fault, freelist_fault, greatest_root_fault, late_root_fault, least_other_page}
use Rattle.dbformat.specs.EndFaults.{page_end_faults, page_numbers, sum_faults, use_fault, visit_of}
use Rattle.dbformat.specs.File.{MapEntry, geometry, map_entry}
use Rattle.dbformat.specs.FixedPages.{is_fixed, is_page}
use Rattle.dbformat.specs.HeaderFaults.{header_faults}
use Rattle.dbformat.specs.Reference.{Reference, Role, root, child, first_overflow, later_overflow, trunk, free_leaf, role_of, from_of}
use Rattle.dbformat.specs.Report.{event_faults}
use Rattle.dbformat.specs.Story.{Event, reporting}
use Rattle.dbformat.specs.Tests.{reported_if}
use Rattle.dbformat.specs.declared.Fault.{Fault}
use Rattle.dbformat.specs.declared.FaultCode.{FaultCode}
use Rattle.dbformat.specs.declared.Geometry.{Geometry}
use Rattle.dbmarks.specs.Marking.{AreMarksOf, is_none, is_unmarked, mark_of, role_mark}
use Rattle.dbmarks.specs.declared.marks.Mark.{Mark}
use Rattle.dbmarks.proofs.Markings.{page_mark-in, page_mark-out}
use Rattle.dbtrace.specs.Causes.{cause_of}
use Rattle.dbtrace.specs.declared.Cause.{Cause}
use Rattle.dbtrace.specs.declared.Part.TheVariants as part
use Rattle.dbtrace.specs.declared.TracedFault.{TracedFault}
use Rattle.dbscan.specs.Notices.{at_start, of_file}
use Rattle.dbscan.specs.Placed.{reported_faults, walk_reported}
use Rattle.dbinjuries.specs.Listed.{IsBeginning, is_lost, is_lost_code, is_lost_page, is_unreached, looked_at, lost_faults}
use Rattle.dbinjuries.specs.Lost.{lost_at, lost_page}

-- ---- by the marks

-- a visit leaves a mark
visit_marked : (role : Role) (from : ℕ) → is_none (role_mark role from) ≡ false
visit_marked (root kind) from = refl
visit_marked (child kind) from = refl
visit_marked (first_overflow left) from = refl
visit_marked (later_overflow left) from = refl
visit_marked trunk from = refl
visit_marked free_leaf from = refl

-- a page is lost just where its mark is none
nowhere_by_mark : (file : List ℕ) (V : List Reference) (p : ℕ) → is_none (mark_of (geometry file) V p) ≡ is_unreached file V p
unfolding mark_of
nowhere_by_mark file V p = by_case (is_fixed (geometry file) p) refl (visit_of V p) refl
  where
    by_case : (b : Bool) → is_fixed (geometry file) p ≡ b → (o : Option Reference) → visit_of V p ≡ o → is_none (mark_of (geometry file) V p)
        ≡ is_unreached file V p
    by_case true e o f = rw e refl
    by_case false e None f = rw (e, f) refl
    by_case false e (Some r) f = rw (e, f) (visit_marked (role_of r) (from_of r))

-- where the marks are those of a survey, a page of the file has none just where it is lost
pub unmarked_nowhere : (file : List ℕ) (V : List Reference) (marks : List Mark) (p : ℕ) → AreMarksOf file V marks → 1 ≤ p → p ≤ (geometry file).pages
    → is_unmarked marks p ≡ is_unreached file V p
unmarked_nowhere file V marks p m low high =
    ap (λ marks. is_unmarked marks p) m
    ∙ ap (λ o. option_map_or is_none o false) (page_mark-in (geometry file) V p low high)
    ∙ nowhere_by_mark file V p

-- a page is a lost one of the file just where it has no mark
pub unmarked_lost : (file : List ℕ) (V : List Reference) (marks : List Mark) → AreMarksOf file V marks → is_unmarked marks ≡ is_lost_page file V
unmarked_lost file V marks m = λ i p. by_case p (is_page (geometry file) p) refl i
  where
    by_case : (p : ℕ) (b : Bool) → is_page (geometry file) p ≡ b → is_unmarked marks p ≡ is_lost_page file V p
    by_case p true e =
        let low : 1 ≤ p = grind (arith, nat_tests, e) in
        let high : p ≤ (geometry file).pages = grind (arith, nat_tests, e) in
        unmarked_nowhere file V marks p m low high ∙ sym (ap (λ b. b && is_unreached file V p) e)
    by_case p false e =
        ap (λ marks. is_unmarked marks p) m ∙ ap (λ o. option_map_or is_none o false) (page_mark-out (geometry file) V p e)
        ∙ sym (ap (λ b. b && is_unreached file V p) e)

pub lost_here : (file : List ℕ) (V : List Reference) (p : ℕ) → is_unreached file V p ≡ true → lost_at file V p ≡ lost_page file V p ∷ []
lost_here file V p h = rw h refl

pub not_lost : (file : List ℕ) (V : List Reference) (p : ℕ) → is_unreached file V p ≡ false → lost_at file V p ≡ []
not_lost file V p h = rw h refl

-- ---- their faults

-- a fault with the look of its page, if it is that of a lost page
abbrev as_lost : List ℕ → List Reference → TracedFault → List TracedFault
as_lost file V x = if is_lost x then looked_at file V x ∷ [] else []

picked : (file : List ℕ) (V : List Reference) (ts : List TracedFault) → map (looked_at file V) (filter is_lost ts) ≡ flat_map (as_lost file V) ts
picked file V [] = refl
picked file V (x ∷ ts) = by_case (is_lost x) refl (picked file V ts)
  where
    by_case : (b : Bool) → is_lost x ≡ b → map (looked_at file V) (filter is_lost ts) ≡ flat_map (as_lost file V) ts
        → map (looked_at file V) (filter is_lost (x ∷ ts)) ≡ flat_map (as_lost file V) (x ∷ ts)
    by_case true e rest = rw e (ap (λ l. looked_at file V x ∷ l) rest)
    by_case false e rest = rw e rest

-- before the end there is none
none_in_header : (file : List ℕ) (V : List Reference) (fs : List Fault) → flat_map (as_lost file V) (map (of_file part.Header) fs) ≡ []
none_in_header file V [] = refl
none_in_header file V (f ∷ fs) = none_in_header file V fs

none_at_start : (file : List ℕ) (V : List Reference) (k : ℕ) (why : FaultCode → Cause) (fs : List Fault)
    → flat_map (as_lost file V) (map (λ f. at_start k f (why f.code)) fs) ≡ []
none_at_start file V k why [] = refl
none_at_start file V k why (f ∷ fs) = none_at_start file V k why fs

none_of_walk : (file : List ℕ) (V : List Reference) (ts : List (story.Reported Event))
    → flat_map (as_lost file V) (flat_map (λ t. map (λ f. at_start (start_of t.key) f (cause_of file V t.event f.code)) (event_faults file V t.event)) ts) ≡ []
none_of_walk file V [] = refl
none_of_walk file V (t ∷ ts) =
    flat_map-append (as_lost file V) (map (λ f. at_start (start_of t.key) f (cause_of file V t.event f.code)) (event_faults file V t.event)) _
    ∙ ap₂ (λ a b. a ++ b) (none_at_start file V (start_of t.key) (cause_of file V t.event) (event_faults file V t.event)) (none_of_walk file V ts)

-- ---- those at the end

-- that of a fault at the end
abbrev at_end : List ℕ → List Reference → Fault → List TracedFault
at_end file V f = as_lost file V (of_file part.End f)

not_at_end : (file : List ℕ) (V : List Reference) (b : Bool) (f : Fault) → is_lost_code f.code ≡ false → flat_map (at_end file V) (reported_if b f) ≡ []
not_at_end file V true f e = rw e refl
not_at_end file V false f e = refl

sums_at_end : (file : List ℕ) (V : List Reference) → flat_map (at_end file V) (sum_faults file V) ≡ []
unfolding sum_faults
sums_at_end file V =
    flat_map-append (at_end file V) (format_fault file V ++ greatest_root_fault file V) (freelist_fault file V)
    ∙ ap₂ (λ a b. a ++ b)
    (flat_map-append (at_end file V) (format_fault file V) (greatest_root_fault file V)
    ∙ ap₂ (λ a b. a ++ b) (not_at_end file V _ _ refl) (not_at_end file V _ _ refl))
    (not_at_end file V _ _ refl)

late_at_end : (file : List ℕ) (V : List Reference) (p : ℕ) → flat_map (at_end file V) (late_root_fault file V p) ≡ []
unfolding late_root_fault
late_at_end file V p = by_least (least_other_page V) refl
  where
    by_least : (o : Option ℕ) → least_other_page V ≡ o → flat_map (at_end file V) (late_root_fault file V p) ≡ []
    by_least None e = rw e refl
    by_least (Some least) e = rw e (not_at_end file V _ _ refl)

use_at_end : (file : List ℕ) (V : List Reference) (p : ℕ) → flat_map (at_end file V) (use_fault file V p) ≡ lost_at file V p
unfolding use_fault
use_at_end file V p = by_visit (visit_of V p) refl (is_fixed (geometry file) p) refl
  where
    of_injury : (e : Option MapEntry) (r : Reference) → flat_map (at_end file V) (entry_fault p e r) ≡ []
    of_injury None r = refl
    of_injury (Some e) r = not_at_end file V _ _ refl

    by_visit : (o : Option Reference) → visit_of V p ≡ o → (b : Bool) → is_fixed (geometry file) p ≡ b → flat_map (at_end file V) (use_fault file V p)
        ≡ lost_at file V p
    by_visit None e true f = rw (e, f) refl
    by_visit None e false f = rw (e, f) refl
    by_visit (Some r) e true f = rw (e, f) (of_injury (map_entry file p) r)
    by_visit (Some r) e false f = rw (e, f) (of_injury (map_entry file p) r)

-- the faults of lost pages are those of the pages to which nothing refers, in their order
pub lost_are : (file : List ℕ) (V : List Reference) → lost_faults file V ≡ flat_map (lost_at file V) (page_numbers (geometry file))
lost_are file V =
    let hs = map (of_file part.Header) (header_faults file (length file)) in
    let es = map (of_file part.End) (end_faults file V) in
    let pages = page_numbers (geometry file) in
    picked file V (reported_faults file V)
    ∙ flat_map-append (as_lost file V) (hs ++ walk_reported file V) es
    ∙ ap₂ (λ a b. a ++ b)
    (flat_map-append (as_lost file V) hs (walk_reported file V)
    ∙ ap₂ (λ a b. a ++ b) (none_in_header file V (header_faults file (length file))) (none_of_walk file V (reporting file V)))
    (flat_map-map (as_lost file V) (of_file part.End) (end_faults file V)
    ∙ flat_map-append (at_end file V) (sum_faults file V) (flat_map (page_end_faults file V) pages)
    ∙ ap₂ (λ a b. a ++ b) (sums_at_end file V)
    (flat_map-flat_map (page_end_faults file V) (at_end file V) pages
    ∙ flat_map-same (λ p. flat_map (at_end file V) (page_end_faults file V p)) (lost_at file V) pages (λ p i.
    flat_map-append (at_end file V) (use_fault file V p) (late_root_fault file V p)
    ∙ ap₂ (λ a b. a ++ b) (use_at_end file V p) (late_at_end file V p) ∙ append-nil (lost_at file V p))))

-- ---- page by page

map-same : (xs : List ℕ) → map (λ k. k) xs ≡ xs
map-same [] = refl
map-same (x ∷ xs) = ap (λ l. x ∷ l) (map-same xs)

-- with those of one page more
pub lost_more : (file : List ℕ) (V : List Reference) (n : ℕ) → flat_map (lost_at file V) (range_with_len 1 (n + 1))
    ≡ flat_map (lost_at file V) (range_with_len 1 n) ++ lost_at file V (n + 1)
lost_more file V n =
    let f = lost_at file V in
    ap (flat_map f) (range_more n) ∙ flat_map-append f (range_with_len 1 n) ((n + 1) ∷ [])
    ∙ ap (λ l. flat_map f (range_with_len 1 n) ++ l) (append-nil (f (n + 1)))
  where
    range_more : (n : ℕ) → range_with_len 1 (n + 1) ≡ range_with_len 1 n ++ (n + 1) ∷ []
    range_more n = sym (map-same (range_with_len 1 (n + 1))) ∙ map-range_with_len_more (λ k. k) 1 n (n + 1) (omega arith)
        ∙ ap (λ l. l ++ (n + 1) ∷ []) (map-same (range_with_len 1 n))

-- those of the first pages are a beginning
pub lost_first : (file : List ℕ) (V : List Reference) (n : ℕ) → n ≤ (geometry file).pages
    → IsBeginning (flat_map (lost_at file V) (range_with_len 1 n)) (lost_faults file V)
lost_first file V n h =
    let pages = (geometry file).pages in
    let f = lost_at file V in
    let cut : range_with_len 1 n ++ drop n (range_with_len 1 pages) ≡ range_with_len 1 pages =
    ap (λ l. l ++ drop n (range_with_len 1 pages)) (sym (taken 1 pages n h)) ∙ take-append-drop n (range_with_len 1 pages) in (
      flat_map f (drop n (range_with_len 1 pages)),
      sym (flat_map-append f (range_with_len 1 n) (drop n (range_with_len 1 pages))) ∙ ap (flat_map f) cut ∙ sym (lost_are file V),
    )
  where
    taken : (a m n : ℕ) → n ≤ m → take n (range_with_len a m) ≡ range_with_len a n
    taken a m n h = sym (ap (take n) (map-same (range_with_len a m))) ∙ take-map-range_with_len (λ k. k) a m n h ∙ map-same (range_with_len a n)

-- ---- how far the loop over the pages has come

pub fits : {a b : Geometry} {pages i : ℕ} → a ≡ b → pages ≡ a.pages → i < pages → i + 1 ≤ b.pages
fits e n h = let k = ap (λ (g : Geometry). g.pages) e in omega (arith, k, n, h)

pub ends : {a b : Geometry} {pages i : ℕ} → a ≡ b → pages ≡ a.pages → i ≤ pages → pages ≤ i → i ≡ b.pages
ends e n h l = let k = ap (λ (g : Geometry). g.pages) e in omega (arith, k, n, h, l)

-- Roots that come after a page that is no root, by marks alone; and with them all that marks say at the end.
use Rattle.std.proofs.Common.{◌≡◌, ℕ, zero, suc, ◌+◌, ◌≤◌, inl, inr, Bool, true, false, cond, not, ◌&&◌, List, [], ◌∷◌, length, Option, Some, None, refl, sym}
use Rattle.std.proofs.Common.{ap, subst, ◌∙◌, arith}
use Rattle.std.specs.Prelude.{find, pos, nat_lt, min, ◌==◌}
use Rattle.std.specs.List.{range_with_len, reduce}
use Rattle.std.proofs.lemmas.Bool.{cases_Bool, and_parts, and_from, eqb-true, eq-eqb, ne_eqb, not-true, both_ways}
use Rattle.dbsurvey.specs.Address.{IsIn, Address, IsBefore}
use Rattle.dbsurvey.specs.From.{under}
use Rattle.dbsurvey.specs.Survey.{Link}
use Rattle.dbsurvey.proofs.Composing.{named_at-from}
use Rattle.dbsurvey.proofs.Elements.{IsIn-from_range, one_by}
use Rattle.dbsurvey.proofs.Least.{least_of, reduced_in}
use Rattle.dbsurvey.proofs.Lists.{filter-has, filter-from, find-none, find-some, any_true, any_none}
use Rattle.dbformat.specs.Address.{start_of, schema_start}
use Rattle.dbformat.specs.EndFaults.{least_other_page, is_root_page, late_root_fault}
use Rattle.dbformat.specs.Faults.{fault}
use Rattle.dbformat.specs.File.{geometry}
use Rattle.dbformat.specs.FixedPages.{is_page, is_fixed}
use Rattle.dbformat.specs.Reference.{Way, Reference, role_of, is_root}
use Rattle.dbformat.specs.Schema.{schema_link, starts}
use Rattle.dbformat.specs.Survey.{Survey, rules_of}
use Rattle.dbformat.specs.Tests.{reported_if}
use Rattle.dbformat.specs.declared.Fault.{Fault}
use Rattle.dbformat.specs.declared.FaultCode.TheVariants.{M02}
use Rattle.dbformat.specs.declared.Geometry.{Geometry}
use Rattle.dbformat.proofs.Rising.{starts_rise}
use Rattle.dbformat.proofs.Visited.{allowed, each_once, has_address, root_is_start}
use Rattle.dbmarks.specs.EndMarks.{AreVisits, is_root_mark, is_other_mark, is_marked, least_other_marked, late_fault, MarksGiveTheEnd}
use Rattle.dbmarks.specs.Marking.{mark_of, marks_of}
use Rattle.dbmarks.proofs.EndMarking.{use_fault-by_mark, free_pages-by_marks, survey_visits, root_test, other_test, visited_pages, visit-of_marked}
use Rattle.dbmarks.proofs.EndMarking.{marked-visit_of, visited_is_marked, marked_is_visited, greatest_root-by_marks}

-- the least page that is no root

find_least : (test : ℕ → Bool) (a n m : ℕ) → find test (range_with_len a n) ≡ Some m → (y : ℕ) → IsIn y (range_with_len a n) → test y ≡ true → m ≤ y
find_least test a zero m h y i e = absurd i
find_least test a (suc n) m h y i e = by_case (test a) refl (λ g j. find_least test (a + 1) n m g y j e) h i
  where
    by_case : (b : Bool) → test a ≡ b → (find test (range_with_len (a + 1) n) ≡ Some m → IsIn y (range_with_len (a + 1) n) → m ≤ y)
        → cond b (Some a) (find test (range_with_len (a + 1) n)) ≡ Some m → IsIn y (a ∷ range_with_len (a + 1) n) → m ≤ y
    by_case true f deeper g j = let k : a ≡ m = cc in let l = (IsIn-from_range a (suc n) y i).0 in omega arith
    by_case false f deeper g (inl z) = absurd (both_ways (test a) f (ap test (sym z) ∙ e))
    by_case false f deeper g (inr j) = deeper g j

-- the first number that passes a test is the least of these
least_found : (test : ℕ → Bool) (a n : ℕ) (ys : List ℕ) → ((y : ℕ) → IsIn y ys → IsIn y (range_with_len a n) × (test y ≡ true))
    → ((y : ℕ) → IsIn y (range_with_len a n) → test y ≡ true → IsIn y ys) → reduce min ys ≡ find test (range_with_len a n)
least_found test a n ys from to = by_case (find test (range_with_len a n)) refl
  where
    none_in : (zs : List ℕ) → ((y : ℕ) → IsIn y zs → ⊥) → reduce min zs ≡ None
    none_in [] h = refl
    none_in (z ∷ zs) h = absurd (h z (inl refl))

    by_case : (o : Option ℕ) → find test (range_with_len a n) ≡ o → reduce min ys ≡ o
    by_case None e = none_in ys (λ y i. let k = from y i in both_ways (test y) (find-none test (range_with_len a n) e y k.0) k.1)
    by_case (Some m) e =
        let k = find-some test (range_with_len a n) m e in
        let l = least_of ys m (to m k.0 k.1) in
        let f = from l.0 (reduced_in ys l.0 l.1) in
        let g = find_least test a n m e l.0 f.0 f.1 in
        let below = l.2 in
        let same : l.0 ≡ m = omega arith in l.1 ∙ ap Some same

least_other-by_marks : (g : Geometry) (V : List Reference) → AreVisits g V → least_other_page V ≡ least_other_marked (marks_of g V)
least_other-by_marks g V h =
    let test = is_marked is_other_mark (marks_of g V) in
    let numbers = range_with_len 1 (length (marks_of g V)) in
    least_found test 1 (length (marks_of g V)) (visited_pages (λ role. not (is_root role)) V)
    (λ y i. filter-from test numbers y (visited_is_marked is_other_mark (λ role. not (is_root role)) other_test g V h y i))
    (λ y i e. marked_is_visited is_other_mark (λ role. not (is_root role)) other_test g V h y (filter-has test numbers y i e))

-- roots of rows of the schema

module _ (file : List ℕ) (V : List Reference) (s : Survey file V) where
  -- page 1 is visited by the first start alone
  first_start : (r : Reference) → IsIn r V → r.page ≡ 1 → start_of r.address ≡ schema_start
  unfolding rules_of
  first_start r i e =
      let first : Reference = record { address = schema_start ∷ []; page = 1; role = schema_link.role } in
      let page : is_page (geometry file) 1 ≡ true = subst (λ p. is_page (geometry file) p ≡ true) e (allowed file V s r i).0 in
      let free : is_fixed (geometry file) 1 ≡ false = subst (λ p. is_fixed (geometry file) p ≡ false) e (allowed file V s r i).1 in
      let may : (rules_of file).may first ≡ true = and_from (is_page (geometry file) 1) (not (is_fixed (geometry file) 1) && true) page
      (and_from (not (is_fixed (geometry file) 1)) true (ap not free) refl) in
      let there : IsIn first V = (s.exact first).1 (inl (inl refl), may, λ u j before same. none_before u.address (has_address file V s u j) before) in
      ap (λ r. start_of r.address) (one_by (λ r. r.page) V (each_once file V s) r first i there e)
    where
      none_before : (a : Address) → (a ≡ [] → ⊥) → IsBefore a (schema_start ∷ []) → ⊥
      none_before [] h k = h refl
      none_before (x ∷ a) h (inl l) = let z : ⊥ = omega arith in z
      none_before (x ∷ a) h (inr k) = k.1

  -- and a root that the first start does not visit is another page
  later_start : (r : Reference) → IsIn r V → is_root (role_of r) ≡ true → (r.page == 1) ≡ false → (start_of r.address == schema_start) ≡ false
  later_start r i e other = by_start (named_at-from [] (starts file V) r (root_is_start file V s r i e))
    where
      by_start : (l : Link Way) × IsIn l (starts file V) × (r ≡ record { address = l.step ∷ []; page = l.page; role = l.role })
          → (start_of r.address == schema_start) ≡ false
      by_start h = elim h.1 [
        | inl k ↦ absurd (both_ways (r.page == 1) other (eq-eqb r.page 1 (ap (λ r. r.page) h.2 ∙ ap (λ l. l.page) k)))
        | inr k ↦ (let later = (starts_rise file (under schema_start V)).0 h.0 k in
            ap (λ r. start_of r.address == schema_start) h.2 ∙ ne_eqb h.0.step 0 (λ z. let x : ⊥ = omega arith in x))
      ]

  -- whether a visit is of page p as the root of a row
  abbrev is_row_root : ℕ → Reference → Bool
  is_row_root p r = (r.page == p) && is_root (role_of r) && not (start_of r.address == schema_start)

  row_root : (p : ℕ) (r : Reference) → is_row_root p r ≡ true → (r.page ≡ p) × (is_root (role_of r) ≡ true) × ((start_of r.address == schema_start) ≡ false)
  row_root p r e =
      let a = and_parts ((r.page == p) && is_root (role_of r)) (not (start_of r.address == schema_start)) e in
      let b = and_parts (r.page == p) (is_root (role_of r)) a.0 in
      (eqb-true r.page p b.0, b.1, not-true (start_of r.address == schema_start) a.1)

  no_row_root : (p : ℕ) → ((r : Reference) → IsIn r V → is_row_root p r ≡ true → ⊥) → is_root_page V p ≡ false
  no_row_root p h = any_none (is_row_root p) V (λ r i. elim (cases_Bool (is_row_root p r)) [ inl e ↦ absurd (h r i e) | inr e ↦ e ])

  root_page-by_mark : (p : ℕ) → is_root_page V p ≡ (is_root_mark (mark_of (geometry file) V p) && not (p == 1))
  root_page-by_mark p = by_case (is_root_mark (mark_of (geometry file) V p)) (p == 1) refl refl
    where
      by_case : (b c : Bool) → is_root_mark (mark_of (geometry file) V p) ≡ b → (p == 1) ≡ c → is_root_page V p ≡ (b && not c)
      by_case false c e f = no_row_root p (λ r i h.
          let k = row_root p r h in
          both_ways (is_root_mark (mark_of (geometry file) V p)) e
          (subst (λ q. is_root_mark (mark_of (geometry file) V q) ≡ true) k.0
          (marked-visit_of is_root_mark is_root root_test (geometry file) V (survey_visits file V s) r i k.1)))
      by_case true true e f = no_row_root p (λ r i h.
          let k = row_root p r h in
          both_ways (start_of r.address == schema_start) k.2 (eq-eqb (start_of r.address) schema_start (first_start r i (k.0 ∙ eqb-true p 1 f))))
      by_case true false e f =
          let k = visit-of_marked is_root_mark is_root root_test (geometry file) V p e in
          let r = k.0 in
          let later = later_start r k.1 k.3 (ap (λ q. q == 1) k.2 ∙ f) in
          any_true (is_row_root p) V r k.1
          (and_from ((r.page == p) && is_root (role_of r)) (not (start_of r.address == schema_start))
          (and_from (r.page == p) (is_root (role_of r)) (eq-eqb r.page p k.2) k.3) (ap not later))

  abbrev late_by : ℕ → Option ℕ → List Fault
  late_by p None = []
  late_by p (Some least) = reported_if ((geometry file).has_map && is_root_page V p && nat_lt least p) (fault M02 p 0 (pos least))

  late_root_fault-by_marks : (p : ℕ) → late_root_fault file V p
      ≡ late_fault (geometry file).has_map p (mark_of (geometry file) V p) (least_other_marked (marks_of (geometry file) V))
  unfolding late_root_fault
  late_root_fault-by_marks p =
      by_least (least_other_page V)
      ∙ ap (late_fault (geometry file).has_map p (mark_of (geometry file) V p)) (least_other-by_marks (geometry file) V (survey_visits file V s))
    where
      by_least : (o : Option ℕ) → late_by p o ≡ late_fault (geometry file).has_map p (mark_of (geometry file) V p) o
      by_least None = refl
      by_least (Some least) = ap (λ b. reported_if ((geometry file).has_map && b && nat_lt least p) (fault M02 p 0 (pos least))) (root_page-by_mark p)

pub marks_give_the_end : (file : List ℕ) → MarksGiveTheEnd file
marks_give_the_end file V s = record {
  uses = λ p. use_fault-by_mark file V p (survey_visits file V s);
  late = late_root_fault-by_marks file V s;
  free = sym (free_pages-by_marks (geometry file) V (survey_visits file V s));
  greatest = greatest_root-by_marks (geometry file) V (survey_visits file V s);
}

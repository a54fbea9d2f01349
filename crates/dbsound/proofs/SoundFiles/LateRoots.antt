-- Where roots come first no root page is late.
use Rattle.std.proofs.Common.{arith, ◌≡◌, ℕ, ◌<◌, Bool, true, false, not, ◌&&◌, Option, Some, None, List, [], map, refl, sym, subst, ◌∙◌}
use Rattle.std.specs.Prelude.{filter, Contains, pos, nat_lt, ◌==◌}
use Rattle.std.proofs.lemmas.Bool.{and_parts, eqb-true, not-true}
use Rattle.std.proofs.lemmas.Bool.Decides.{nat_tests}
use Rattle.dbsound.proofs.Common.{IsIn, has_pointer_map, fault, start_of, schema_start, Reference, role_of, is_root, late_root_fault, Sound, use_of}
use Rattle.dbsurvey.proofs.Ordering.{IsIn-map, IsIn-from_map}
use Rattle.dbformat.specs.EndFaults.{least_other_page, is_root_page}
use Rattle.dbformat.specs.declared.FaultCode.TheVariants.{M02}
use Rattle.dbsurvey.proofs.Lists.{filter-from, any_one}
use Rattle.dbsound.proofs.SoundFiles.Survey.{all_visits, all_uses, uses_are}
use Rattle.dbsurvey.proofs.Elements.{contains}
use Rattle.dbformat.proofs.TestsLemmas.{reported_none}
use Rattle.dbsound.proofs.TermVisits.Uses.{root_use}
use Rattle.dbsurvey.proofs.Least.{reduced_in}

module _ (file : List ℕ) (s : Sound file) where
  abbrev V : List Reference
  V = all_visits file s

  among : (r : Reference) → IsIn r V → Contains (all_uses file s) (use_of r)
  among r i = contains (all_uses file s) (use_of r) (subst (λ l. IsIn (use_of r) l) (uses_are file s) (IsIn-map use_of V r i))

  before : has_pointer_map file ≡ true → (p : ℕ) → is_root_page V p ≡ true → (least : ℕ) → least_other_page V ≡ Some least → p < least
  before map_there p e least f =
      let h = any_one (λ r. (r.page == p) && is_root (role_of r) && not (start_of r.address == schema_start)) V e in
      let a = and_parts ((h.0.page == p) && is_root (role_of h.0)) (not (start_of h.0.address == schema_start)) h.2 in
      let b = and_parts (h.0.page == p) (is_root (role_of h.0)) a.0 in
      let m = IsIn-from_map (λ r. r.page) (filter (λ r. not (is_root (role_of r))) V) least
      (reduced_in (map (λ r. r.page) (filter (λ r. not (is_root (role_of r))) V)) least f) in
      let w = filter-from (λ r. not (is_root (role_of r))) V m.0 m.1 in
      let l = s.roots_first map_there (use_of h.0) (use_of m.0) (among h.0 h.1) (root_use h.0 ∙ b.1) (among m.0 w.0)
      (root_use m.0 ∙ not-true (is_root (role_of m.0)) w.1) in
      subst (λ n. p < n) (sym m.2) (subst (λ n. n < m.0.page) (eqb-true h.0.page p b.0) l)

  pub late_none : (p : ℕ) → late_root_fault file V p ≡ []
  unfolding late_root_fault
  late_none p = by_least (least_other_page V) refl
    where
      not_less : (m n : ℕ) → n < m → nat_lt m n ≡ false
      not_less m n h = grind (arith, nat_tests)

      test_none : (least : ℕ) → least_other_page V ≡ Some least → (b d : Bool) → has_pointer_map file ≡ b → is_root_page V p ≡ d → (b && d && nat_lt least p)
          ≡ false
      test_none least f true true g h = not_less least p (before g p h least f)
      test_none least f true false g h = refl
      test_none least f false d g h = refl

      by_least : (o : Option ℕ) → least_other_page V ≡ o → late_root_fault file V p ≡ []
      by_least None e = rw e refl
      by_least (Some least) e = rw e (reported_none (has_pointer_map file && is_root_page V p && nat_lt least p) (fault M02 p 0 (pos least))
          (test_none least e (has_pointer_map file) (is_root_page V p) refl refl))

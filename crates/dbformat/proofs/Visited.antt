-- The visits of any survey: each has a page of its own, which the file has and no fixed use takes; its address is not empty;
-- and a visited root is a start.
use Rattle.std.proofs.Common.{◌≡◌, ℕ, ◌+◌, ◌<◌, ◌≤◌, inl, inr, true, false, not, ◌&&◌, List, [], ◌++◌, Option, Some, None, refl, sym, ap, ◌∙◌, arith, ◌∷◌}
use Rattle.std.specs.Prelude.{nat_le, ◌==◌}
use Rattle.std.proofs.lemmas.Bool.{and_parts, eqb-true, eq-eqb, not-true, both_ways}
use Rattle.std.proofs.lemmas.Bool.Decides.{nat_tests}
use Rattle.dbsurvey.specs.Address.{IsIn, Address}
use Rattle.dbsurvey.specs.Survey.{named_at}
use Rattle.dbsurvey.specs.Whole.{HasEachPageOnce}
use Rattle.dbsurvey.proofs.Composing.{survey_is_part, named_at-step}
use Rattle.dbsurvey.proofs.Deciding.{each_page_once}
use Rattle.dbformat.specs.FixedPages.{is_page, is_fixed}
use Rattle.dbformat.specs.File.{geometry, page_bytes}
use Rattle.dbformat.specs.Head.{View, undamaged}
use Rattle.dbformat.specs.Header.{usable_size}
use Rattle.dbformat.specs.declared.TreeKind.{TreeKind}
use Rattle.dbformat.specs.Reference.{Reference, role_of, is_root, tree_kind, tree_view}
use Rattle.dbformat.specs.Schema.{starts}
use Rattle.dbformat.specs.Survey.{Survey, rules_of, is_too_deep}
use Rattle.dbformat.specs.EndFaults.{visit_of, page_numbers}
use Rattle.dbsurvey.proofs.Lists.{find-none, find-some}
use Rattle.dbsurvey.proofs.Elements.{IsIn-range, one_by}
use Rattle.dbformat.proofs.CellParts.{then_some}
use Rattle.dbformat.proofs.Roles.{child_leads}

-- a visited page with a view is one of a tree
pub kind_of_view : (file : List ℕ) (r : Reference) (v : View) → tree_view file r ≡ Some v → (kind : TreeKind) × (tree_kind (role_of r) ≡ Some kind)
unfolding tree_view
kind_of_view file r v e = let h = then_some (tree_kind (role_of r)) (λ kind. undamaged kind r.page (usable_size file) (page_bytes file r.page)) v e in
    (h.0, h.1)

bounds : (p n : ℕ) → (nat_le 1 p && nat_le p n) ≡ true → (1 ≤ p) × (p < 1 + n)
bounds p n e = grind (arith, nat_tests)

module _ (file : List ℕ) (V : List Reference) (s : Survey file V) where
  pub each_once : HasEachPageOnce V
  each_once = each_page_once (rules_of file) [] (named_at [] (starts file V)) V (survey_is_part (rules_of file) (starts file V) V s)

  -- a visited page is a page of the file without a fixed use
  pub allowed : (r : Reference) → IsIn r V → (is_page (geometry file) r.page ≡ true) × (is_fixed (geometry file) r.page ≡ false)
  unfolding rules_of
  allowed r i =
      let a = and_parts (is_page (geometry file) r.page) (not (is_fixed (geometry file) r.page) && not (is_too_deep r)) ((s.exact r).0 i).1 in
      let b = and_parts (not (is_fixed (geometry file) r.page)) (not (is_too_deep r)) a.1 in
      (a.0, not-true (is_fixed (geometry file) r.page) b.0)

  pub visit_is : (r : Reference) → IsIn r V → visit_of V r.page ≡ Some r
  visit_is r i = by_case (visit_of V r.page) refl
    where
      by_case : (o : Option Reference) → visit_of V r.page ≡ o → visit_of V r.page ≡ Some r
      by_case None e = let f = sym (find-none (λ q. q.page == r.page) V e r i) ∙ eq-eqb r.page r.page refl in cc
      by_case (Some q) e = let k = find-some (λ q. q.page == r.page) V q e in e
          ∙ ap Some (one_by (λ r. r.page) V each_once q r k.0 i (eqb-true q.page r.page k.1))

  pub number_of : (r : Reference) → IsIn r V → IsIn r.page (page_numbers (geometry file))
  number_of r i = let b = bounds r.page (geometry file).pages (allowed r i).0 in IsIn-range 1 (geometry file).pages r.page b.0 b.1

  -- a visited page has an address that goes on from another
  pub stepped : (r : Reference) → IsIn r V → (a : Address) × (step : ℕ) × (r.address ≡ a ++ (step ∷ []))
  stepped r i = elim ((s.exact r).0 i).0 [
    | inl j ↦ (let k = named_at-step [] (starts file V) r j in ([], k.0, k.1))
    | inr u ↦ (let k = named_at-step u.0.address ((rules_of file).links u.0.page u.0.role) r u.2 in (u.0.address, k.0, k.1))
  ]

  pub has_address : (r : Reference) → IsIn r V → r.address ≡ [] → ⊥
  has_address r i e = let k = stepped r i in no_step k.0 k.1 (sym k.2 ∙ e)
    where
      no_step : (a : Address) (x : ℕ) → a ++ (x ∷ []) ≡ [] → ⊥
      no_step [] x e = cc
      no_step (y ∷ a) x e = cc

  -- no page refers to a root
  pub root_is_start : (r : Reference) → IsIn r V → is_root (role_of r) ≡ true → IsIn r (named_at [] (starts file V))
  root_is_start r i is_a_root = elim ((s.exact r).0 i).0 [
    | inl j ↦ j
    | inr u ↦ absurd (both_ways (is_root (role_of r)) (child_leads file u.0 r u.2).0 is_a_root)
  ]

-- How a candidate is entered.
use Rattle.std.proofs.Common.{◌≡◌, ℕ, true, false, inl, List, [], ◌∷◌, ◌++◌, refl, ap, subst, ◌∙◌, ◌-◌, Bool, set, Option}
use Rattle.std.proofs.Common.{Some, None, pos, arith}
use Rattle.dbwalk.proofs.Common.{IsIn, IsBefore, is_followed, Go, Reference, role_of, bytes_left, tree_kind, rules_of, Mark, AreMarksOf, page_mark}
use Rattle.dbwalk.proofs.Common.{chain_cause, seen_from, refusal_cause, refusal_of, rowids_of, Cause, reported_fault, IsNext, refused_reported, FaultCode}
use Rattle.dbwalk.proofs.Common.{Unmarked, Step}
use Rattle.dbformat.specs.Survey.{refused}
use Rattle.dbmarks.specs.Marking.{visit_mark, refusal_by}
use Rattle.dbtrace.specs.declared.Cause.TheVariants.{Itself}
use Rattle.dbwalk.specs.Entered.{IsStepOf}
use Rattle.dbmarks.proofs.Markings.{refused-by_mark, followed-unrefused, followed-refused, marked-visit}

-- only a page without a mark is followed, by a reference that does not lead too deep
pub refusal_none : (o : Option Mark) (deep : Bool) → refusal_by o deep ≡ None → (o ≡ Some Unmarked) × (deep ≡ false)
refusal_none o deep e = (grind arith, grind arith)

-- a reference to a page of no chain and no tree goes back to nothing else
pub no_chain_refusal : (file : List ℕ) (W : List Reference) (c : Reference) → tree_kind (role_of c) ≡ None → bytes_left (role_of c) ≡ None
    → refusal_cause file W c ≡ Itself
no_chain_refusal file W c h k = ap (refusal_of file W c (rowids_of file W c)) h ∙ ap (λ o. chain_cause file W c o 0 (seen_from file c)) k

module _ (file : List ℕ) (W : List Reference) (c : Reference) (marks : List Mark) (step : Step) (is : IsStepOf step c) (next : IsNext W c)
    (m : AreMarksOf file W marks) where
  before : (u : Reference) → IsIn u W → IsBefore u.address c.address
  before u i = next u (Go c) i (inl refl)

  refused-is : refused file W c ≡ refusal_by (page_mark marks step.page) step.is_too_deep
  refused-is = let by = refused-by_mark file W c marks before m in let page = is.page in let deep = is.deep in grind arith

  pub entered_yes : refusal_by (page_mark marks step.page) step.is_too_deep ≡ None
      → (is_followed (rules_of file) W c ≡ true) × AreMarksOf file (W ++ (c ∷ [])) (set marks (step.page - 1) step.mark)
  entered_yes h = (
    followed-unrefused file W c before (refused-is ∙ h),
    subst (λ x. AreMarksOf file (W ++ (c ∷ [])) (set marks (step.page - 1) x)) is.mark
        (subst (λ p. AreMarksOf file (W ++ (c ∷ [])) (set marks (p - 1) (visit_mark c))) is.page
        (marked-visit file W c marks m (ap (λ p. page_mark marks p) is.page ∙ (refusal_none (page_mark marks step.page) step.is_too_deep h).0))),
  )

  pub entered_no : (code : FaultCode) (expected why : Cause) → expected ≡ why → refusal_by (page_mark marks step.page) step.is_too_deep ≡ Some code
      → (is_followed (rules_of file) W c ≡ false) × (refused_reported file W c expected
      ≡ reported_fault (record { code = code; page = step.from; item = step.item; value = pos step.page }) why ∷ [])
  entered_no code expected why causes h =
      let refuses = refused-is ∙ h in
      let page = is.page in
      let from = is.from in
      let item = is.item in
      (followed-refused file W c code before refuses, grind arith)

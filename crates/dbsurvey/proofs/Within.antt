-- What is reported below some errands has keys that continue theirs.
use Rattle.std.proofs.Common.{◌≡◌, ℕ, zero, suc, Bool, true, false, cond, inl, inr, List, [], ◌∷◌, ◌++◌, refl, sym, subst}
use Rattle.dbsurvey.specs.Address.{IsIn, Address}
use Rattle.dbsurvey.specs.Survey.{Triple, Rules}
use Rattle.dbsurvey.specs.Story.{Reported, Story, PageStep, Follow, Place, Errand, Go, Due, errand_key, errands_at, errands_of, reported_own, reported_refused}
use Rattle.dbsurvey.specs.Story.{report_one}
use Rattle.dbsurvey.specs.Story.{report_each, report_below, reporting_of, visited}
use Rattle.dbsurvey.specs.Traverse.{is_followed}
use Rattle.dbsurvey.proofs.Order.{IsIn-cases}

-- P holds of an address with a step more, where it holds of the address
module _ {R E : Type 0} (rules : Rules R) (story : Story R E) (pages : ℕ) (P : Address → Type 0) (more : (a : Address) (x : ℕ) → P a → P (a ++ (x ∷ []))) where
  abbrev pub AreWithin : List (Errand R E) → Type 0
  AreWithin es = (e : Errand R E) → IsIn e es → P (errand_key e)

  at_items : (a : Address) → P a → (items : List (PageStep R E)) → AreWithin (errands_at a items)
  at_items a p [] e i = absurd i
  at_items a p (Follow r ∷ is) e (inl f) = subst (λ e. P (errand_key e)) (sym f) (more a r.step p)
  at_items a p (Follow r ∷ is) e (inr i) = at_items a p is e i
  at_items a p (Place step event ∷ is) e (inl f) = subst (λ e. P (errand_key e)) (sym f) (more a step p)
  at_items a p (Place step event ∷ is) e (inr i) = at_items a p is e i

  module _ (deeper : List (Triple R) → List (Errand R E) → List (Reported E))
      (h : (W : List (Triple R)) (es : List (Errand R E)) → AreWithin es → (t : Reported E) → IsIn t (deeper W es) → P t.key) where
    of_one : (W : List (Triple R)) (e : Errand R E) → P (errand_key e) → (t : Reported E) → IsIn t (report_one rules story deeper W e) → P t.key
    of_one W (Due e) p t (inl f) = subst (λ t. P t.key) (sym f) p
    of_one W (Due e) p t (inr i) = absurd i
    of_one W (Go c) p t i = by_case (is_followed rules W c) i
      where
        by_case : (b : Bool) → IsIn t (cond b (reported_own story c ∷ deeper (W ++ (c ∷ [])) (errands_of story c)) (reported_refused story c ∷ [])) → P t.key
        by_case true (inl f) = subst (λ t. P t.key) (sym f) p
        by_case true (inr j) = h (W ++ (c ∷ [])) (errands_of story c) (at_items c.address p (story.items c)) t j
        by_case false (inl f) = subst (λ t. P t.key) (sym f) p
        by_case false (inr j) = absurd j

    of_each : (W : List (Triple R)) (es : List (Errand R E)) → AreWithin es → (t : Reported E) → IsIn t (report_each rules story pages deeper W es) → P t.key
    of_each W [] w t i = absurd i
    of_each W (e ∷ es) w t i = elim (IsIn-cases t (report_one rules story deeper W e)
        (report_each rules story pages deeper (W ++ visited rules pages W e) es) i) [
          | inl k ↦ of_one W e (w e (inl refl)) t k
          | inr k ↦ of_each (W ++ visited rules pages W e) es (λ f j. w f (inr j)) t k
        ]

  of_below : (fuel : ℕ) (W : List (Triple R)) (es : List (Errand R E)) → AreWithin es → (t : Reported E) → IsIn t (report_below rules story pages fuel W es)
      → P t.key
  of_below zero = of_each (λ U fs. []) (λ W es w t i. absurd i)
  of_below (suc fuel) = of_each (report_below rules story pages fuel) (of_below fuel)

  pub reported_within : (W : List (Triple R)) (es : List (Errand R E)) → AreWithin es → (t : Reported E) → IsIn t (reporting_of rules story pages W es)
      → P t.key
  reported_within = of_below pages

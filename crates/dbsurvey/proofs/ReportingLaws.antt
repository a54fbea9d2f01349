-- The traversal reports all that is to be reported, and what it has still to report, step by step.
use Rattle.std.proofs.Common.{◌≡◌, ℕ, zero, suc, ◌<◌, ◌≤◌, inl, inr, true, false, cond, List, [], ◌∷◌, ◌++◌, refl, sym, ap, subst, arith, append_assoc, ◌∙◌}
use Rattle.std.proofs.lemmas.List.{append-nil}
use Rattle.std.proofs.lemmas.Bool.{cases_Bool}
use Rattle.dbsurvey.specs.Address.{IsIn, IsLeftOf}
use Rattle.dbsurvey.specs.Survey.{Link, Triple, Rules, AreRules, IsRising, IsSurvey, IsPart}
use Rattle.dbsurvey.specs.Traverse.{AreApart, free, is_followed, part_of}
use Rattle.dbsurvey.specs.Story.{Reported, PageStep, Follow, Place, links_in, AreRising, Story, IsStoryOf, Errand, Go, Due, errand_key, errands_at, errands_of}
use Rattle.dbsurvey.specs.Story.{goes, AreErrandsApart, reported_own, reported_refused, IsReporting, report_one, visited, report_each, report_below}
use Rattle.dbsurvey.specs.Story.{reporting_of}
use Rattle.dbsurvey.proofs.Traversal.{free_more, free_at_most, free_below, traverse_part, survey_is_survey_of}
use Rattle.dbsurvey.proofs.Remaining.{rest_none, rest_skip, rest_one, rest_join}
use Rattle.dbsurvey.proofs.Reportings.{goes-append, goes-from, goes-of, goes-errands, errands_at-apart, reporting_none, reporting_due, reporting_refused}
use Rattle.dbsurvey.proofs.Reportings.{reporting_node}
use Rattle.dbsurvey.proofs.Reportings.{reporting_join}

pub goes-apart : {R E : Type 0} (es : List (Errand R E)) → AreErrandsApart es → AreApart (goes es)
goes-apart [] h = tt
goes-apart (Go c ∷ es) h = ((λ d i. h.0 (Go d) (goes-from es d i)), goes-apart es h.1)
goes-apart (Due e ∷ es) h = goes-apart es h.1

links-from : {R E : Type 0} (items : List (PageStep R E)) (r : Link R) → IsIn r (links_in items) → IsIn (Follow r) items
links-from [] r h = absurd h
links-from (Follow q ∷ is) r (inl e) = inl (ap Follow e)
links-from (Follow q ∷ is) r (inr h) = inr (links-from is r h)
links-from (Place step event ∷ is) r h = inr (links-from is r h)

pub links-rising : {R E : Type 0} (items : List (PageStep R E)) → AreRising items → IsRising (links_in items)
links-rising [] h = tt
links-rising (Follow r ∷ is) h = ((λ q i. h.0 (Follow q) (links-from is q i)), links-rising is h.1)
links-rising (Place step event ∷ is) h = links-rising is h.1

module _ {R E : Type 0} (rules : Rules R) (story : Story R E) (pages : ℕ) where
  one_followed : (deeper : List (Triple R) → List (Errand R E) → List (Reported E)) (W : List (Triple R)) (c : Triple R) → is_followed rules W c ≡ true
      → report_one rules story deeper W (Go c) ≡ reported_own story c ∷ deeper (W ++ (c ∷ [])) (errands_of story c)
  one_followed deeper W c h = ap (λ b. cond b (reported_own story c ∷ deeper (W ++ (c ∷ [])) (errands_of story c)) (reported_refused story c ∷ [])) h

  one_refused : (deeper : List (Triple R) → List (Errand R E) → List (Reported E)) (W : List (Triple R)) (c : Triple R) → is_followed rules W c ≡ false
      → report_one rules story deeper W (Go c) ≡ reported_refused story c ∷ []
  one_refused deeper W c h = ap (λ b. cond b (reported_own story c ∷ deeper (W ++ (c ∷ [])) (errands_of story c)) (reported_refused story c ∷ [])) h

  module _ (are : AreRules rules pages) where
    part_is : (W cs : List (Triple R)) → AreApart cs → IsPart rules W cs (part_of rules pages W cs)
    part_is W cs apart = traverse_part rules pages are pages W cs (free_at_most pages W) apart

    -- what an errand and then others visit
    visited_then : (W : List (Triple R)) (e : Errand R E) (es : List (Errand R E)) → part_of rules pages W (goes (e ∷ es)) ≡ visited rules pages W e
        ++ part_of rules pages (W ++ visited rules pages W e) (goes es)
    visited_then W e es = ap (λ cs. part_of rules pages W cs) (goes-append (e ∷ []) es) ∙ rest_join rules pages are W (goes (e ∷ [])) (goes es)

    module _ (is_story : IsStoryOf rules story) where
      one_is : (deeper : List (Triple R) → List (Errand R E) → List (Reported E)) (W : List (Triple R)) (e : Errand R E)
          → ((c : Triple R) → is_followed rules W c ≡ true → IsReporting rules story (errands_of story c)
          (part_of rules pages (W ++ (c ∷ [])) (goes (errands_of story c))) (deeper (W ++ (c ∷ [])) (errands_of story c)))
          → IsReporting rules story (e ∷ []) (visited rules pages W e) (report_one rules story deeper W e)
      one_is deeper W (Due e) deep =
          subst (λ V. IsReporting rules story (Due e ∷ []) V (e ∷ [])) (sym (rest_none rules pages are W)) (reporting_due rules story is_story e)
      one_is deeper W (Go c) deep = elim (cases_Bool (is_followed rules W c)) [
        | inl h ↦ (let V = part_of rules pages (W ++ (c ∷ [])) (goes (errands_of story c)) in
            let v : visited {R = R} {E = E} rules pages W (Go c) ≡ c ∷ V = rest_one rules pages are W c h
            ∙ ap (λ cs. c ∷ part_of rules pages (W ++ (c ∷ [])) cs) (sym (goes-of rules story is_story c)) in
            subst (λ V. IsReporting rules story (Go c ∷ []) V (report_one rules story deeper W (Go c))) (sym v)
            (subst (λ L. IsReporting rules story (Go c ∷ []) (c ∷ V) L) (sym (one_followed deeper W c h))
            (reporting_node rules story is_story (W ++ (c ∷ [])) c V (deeper (W ++ (c ∷ [])) (errands_of story c))
            (part_is (W ++ (c ∷ [])) (goes (errands_of story c))
            (goes-apart (errands_of story c) (errands_at-apart c.address (story.items c) (is_story.rising c))))
            (deep c h))))
        | inr h ↦ (let v : visited {R = R} {E = E} rules pages W (Go c) ≡ [] = rest_skip rules pages are W c [] h ∙ rest_none rules pages are W in
            subst (λ V. IsReporting rules story (Go c ∷ []) V (report_one rules story deeper W (Go c))) (sym v)
            (subst (λ L. IsReporting rules story (Go c ∷ []) [] L) (sym (one_refused deeper W c h))
            (reporting_refused rules story is_story c)))
      ]

      each_is : (deeper : List (Triple R) → List (Errand R E) → List (Reported E)) (W : List (Triple R)) (es : List (Errand R E)) → AreErrandsApart es
          → ((U : List (Triple R)) (c : Triple R) → free pages U ≤ free pages W → is_followed rules U c ≡ true
          → IsReporting rules story (errands_of story c) (part_of rules pages (U ++ (c ∷ [])) (goes (errands_of story c)))
          (deeper (U ++ (c ∷ [])) (errands_of story c))) → IsReporting rules story es (part_of rules pages W (goes es))
          (report_each rules story pages deeper W es)
      each_is deeper W [] apart deep =
          subst (λ V. IsReporting rules story [] V []) (sym (rest_none rules pages are W)) (reporting_none rules story is_story)
      each_is deeper W (e ∷ es) apart deep =
          let V = visited rules pages W e in
          let l : free pages (W ++ V) ≤ free pages W = free_more pages W V in
          subst (λ V. IsReporting rules story (e ∷ es) V (report_each rules story pages deeper W (e ∷ es))) (sym (visited_then W e es))
          (reporting_join rules story is_story W (W ++ V) (e ∷ []) es V (part_of rules pages (W ++ V) (goes es))
          (report_one rules story deeper W e) (report_each rules story pages deeper (W ++ V) es)
          (λ d f i j. elim i [ inl g ↦ subst (λ e. IsLeftOf (errand_key e) (errand_key f)) (sym g) (apart.0 f j) | inr k ↦ absurd k ])
          (part_is W (goes (e ∷ [])) (goes-apart (e ∷ []) ((λ y i. absurd i), tt)))
          (part_is (W ++ V) (goes es) (goes-apart es apart.1))
          (one_is deeper W e (λ c h. deep W c (omega arith) h))
          (each_is deeper (W ++ V) es apart.1 (λ U c m h. deep U c (omega arith) h)))

      pub reporting_is : (fuel : ℕ) (W : List (Triple R)) (es : List (Errand R E)) → free pages W ≤ fuel → AreErrandsApart es
          → IsReporting rules story es (part_of rules pages W (goes es)) (report_below rules story pages fuel W es)
      reporting_is zero W es enough apart =
          each_is (λ U fs. []) W es apart (λ U c l h. absurd
          (let k : free pages (U ++ (c ∷ [])) < free pages U = free_below rules pages are U c h in omega arith))
      reporting_is (suc fuel) W es enough apart =
          each_is (report_below rules story pages fuel) W es apart (λ U c l h.
          let k : free pages (U ++ (c ∷ [])) < free pages U = free_below rules pages are U c h in
          reporting_is fuel (U ++ (c ∷ [])) (errands_of story c) (omega arith) (errands_at-apart c.address (story.items c) (is_story.rising c)))

      pub reporting_exact : (items : List (PageStep R E)) → AreRising items → (V : List (Triple R)) → IsSurvey rules (links_in items) V
          → IsReporting rules story (errands_at [] items) V (reporting_of rules story pages [] (errands_at [] items))
      reporting_exact items rising V s =
          let e : V ≡ part_of rules pages [] (goes (errands_at [] items)) =
          survey_is_survey_of rules pages are (links_in items) (links-rising items rising) V s
          ∙ ap (λ cs. part_of rules pages [] cs) (sym (goes-errands [] items)) in
          subst (λ V. IsReporting rules story (errands_at [] items) V (reporting_of rules story pages [] (errands_at [] items))) (sym e)
          (reporting_is pages [] (errands_at [] items) (free_at_most pages []) (errands_at-apart [] items rising))

    -- the laws of what is still to be reported

    same_each : (f g : List (Triple R) → List (Errand R E) → List (Reported E)) (W : List (Triple R)) (es : List (Errand R E))
        → ((U : List (Triple R)) (c : Triple R) → free pages U ≤ free pages W → is_followed rules U c ≡ true → f (U ++ (c ∷ [])) (errands_of story c)
        ≡ g (U ++ (c ∷ [])) (errands_of story c)) → report_each rules story pages f W es ≡ report_each rules story pages g W es
    same_each f g W [] h = refl
    same_each f g W (e ∷ es) h =
        let V = visited rules pages W e in
        let l : free pages (W ++ V) ≤ free pages W = free_more pages W V in
        let r : report_each rules story pages f (W ++ V) es ≡ report_each rules story pages g (W ++ V) es =
        same_each f g (W ++ V) es (λ U c m i. h U c (omega arith) i) in
        ap (λ L. L ++ report_each rules story pages f (W ++ V) es) (same_one e (λ c i. h W c (omega arith) i)) ∙ ap (λ L. report_one rules story g W e ++ L) r
      where
        same_one : (e : Errand R E) → ((c : Triple R) → is_followed rules W c ≡ true → f (W ++ (c ∷ [])) (errands_of story c)
            ≡ g (W ++ (c ∷ [])) (errands_of story c)) → report_one rules story f W e ≡ report_one rules story g W e
        same_one (Due e) h = refl
        same_one (Go c) h = elim (cases_Bool (is_followed rules W c)) [
          | inl k ↦ one_followed f W c k ∙ ap (λ l. reported_own story c ∷ l) (h c k) ∙ sym (one_followed g W c k)
          | inr k ↦ one_refused f W c k ∙ sym (one_refused g W c k)
        ]

    too_deep : (n : ℕ) (W U : List (Triple R)) (c : Triple R) → free pages W ≤ 0 → free pages U ≤ free pages W → is_followed rules U c ≡ true → ⊥
    too_deep n W U c h l i = let k : free pages (U ++ (c ∷ [])) < free pages U = free_below rules pages are U c i in omega arith

    enough_reporting : (n m : ℕ) (W : List (Triple R)) (es : List (Errand R E)) → free pages W ≤ n → free pages W ≤ m → report_below rules story pages n W es
        ≡ report_below rules story pages m W es
    enough_reporting zero zero W es h k = refl
    enough_reporting zero (suc m) W es h k = same_each (λ U fs. []) (report_below rules story pages m) W es (λ U c l i. absurd (too_deep 0 W U c h l i))
    enough_reporting (suc n) zero W es h k = same_each (report_below rules story pages n) (λ U fs. []) W es (λ U c l i. absurd (too_deep 0 W U c k l i))
    enough_reporting (suc n) (suc m) W es h k =
        same_each (report_below rules story pages n) (report_below rules story pages m) W es (λ U c l i.
        let below : free pages (U ++ (c ∷ [])) < free pages U = free_below rules pages are U c i in
        enough_reporting n m (U ++ (c ∷ [])) (errands_of story c) (omega arith) (omega arith))

    reporting_unfolds : (W : List (Triple R)) (es : List (Errand R E)) → reporting_of rules story pages W es
        ≡ report_each rules story pages (reporting_of rules story pages) W es
    reporting_unfolds W es =
        let l : free pages W ≤ pages = free_at_most pages W in
        enough_reporting pages (suc pages) W es l (omega arith)

    report_each-append : (deeper : List (Triple R) → List (Errand R E) → List (Reported E)) (W : List (Triple R)) (es fs : List (Errand R E))
        → report_each rules story pages deeper W (es ++ fs) ≡ report_each rules story pages deeper W es
        ++ report_each rules story pages deeper (W ++ part_of rules pages W (goes es)) fs
    report_each-append deeper W [] fs =
        ap (λ U. report_each rules story pages deeper U fs) (sym (append-nil W) ∙ ap (λ V. W ++ V) (sym (rest_none rules pages are W)))
    report_each-append deeper W (e ∷ es) fs =
        let V = visited rules pages W e in
        let L = report_one rules story deeper W e in
        let r : report_each rules story pages deeper (W ++ V) (es ++ fs) ≡ report_each rules story pages deeper (W ++ V) es
        ++ report_each rules story pages deeper ((W ++ V) ++ part_of rules pages (W ++ V) (goes es)) fs = report_each-append deeper (W ++ V) es fs in
        let w : (W ++ V) ++ part_of rules pages (W ++ V) (goes es) ≡ W ++ part_of rules pages W (goes (e ∷ es)) =
        append_assoc W V (part_of rules pages (W ++ V) (goes es)) ∙ ap (λ U. W ++ U) (sym (visited_then W e es)) in
        ap (λ M. L ++ M) (r ∙ ap (λ U. report_each rules story pages deeper (W ++ V) es ++ report_each rules story pages deeper U fs) w)
        ∙ sym (append_assoc L (report_each rules story pages deeper (W ++ V) es)
        (report_each rules story pages deeper (W ++ part_of rules pages W (goes (e ∷ es))) fs))

    pub reporting_join_law : (W : List (Triple R)) (es fs : List (Errand R E))
        → reporting_of rules story pages W (es ++ fs) ≡ reporting_of rules story pages W es
        ++ reporting_of rules story pages (W ++ part_of rules pages W (goes es)) fs
    reporting_join_law W es fs =
        reporting_unfolds W (es ++ fs)
        ∙ report_each-append (reporting_of rules story pages) W es fs
        ∙ ap (λ L. L ++ report_each rules story pages (reporting_of rules story pages) (W ++ part_of rules pages W (goes es)) fs) (sym (reporting_unfolds W es))
        ∙ ap (λ M. reporting_of rules story pages W es ++ M) (sym (reporting_unfolds (W ++ part_of rules pages W (goes es)) fs))

    pub reporting_none_law : (W : List (Triple R)) → reporting_of rules story pages W [] ≡ []
    reporting_none_law W = reporting_unfolds W []

    pub reporting_event_law : (W : List (Triple R)) (e : Reported E) (es : List (Errand R E)) → reporting_of rules story pages W (Due e ∷ es) ≡ e
        ∷ reporting_of rules story pages W es
    reporting_event_law W e es =
        reporting_unfolds W (Due e ∷ es)
        ∙ ap (λ U. e ∷ report_each rules story pages (reporting_of rules story pages) U es) (ap (λ V. W ++ V) (rest_none rules pages are W) ∙ append-nil W)
        ∙ ap (λ L. e ∷ L) (sym (reporting_unfolds W es))

    pub reporting_refused_law : (W : List (Triple R)) (c : Triple R) (es : List (Errand R E)) → is_followed rules W c ≡ false
        → reporting_of rules story pages W (Go c ∷ es) ≡ reported_refused story c ∷ reporting_of rules story pages W es
    reporting_refused_law W c es h =
        reporting_unfolds W (Go c ∷ es)
        ∙ ap (λ L. L ++ report_each rules story pages (reporting_of rules story pages) (W ++ part_of rules pages W (c ∷ [])) es)
        (one_refused (reporting_of rules story pages) W c h)
        ∙ ap (λ U. reported_refused story c ∷ report_each rules story pages (reporting_of rules story pages) U es)
        (ap (λ V. W ++ V) (rest_skip rules pages are W c [] h ∙ rest_none rules pages are W) ∙ append-nil W)
        ∙ ap (λ L. reported_refused story c ∷ L) (sym (reporting_unfolds W es))

    pub reporting_visit_law : IsStoryOf rules story → (W : List (Triple R)) (c : Triple R) (es : List (Errand R E)) → is_followed rules W c ≡ true
        → reporting_of rules story pages W (Go c ∷ es) ≡ reported_own story c ∷ reporting_of rules story pages (W ++ (c ∷ [])) (errands_of story c ++ es)
    reporting_visit_law is_story W c es h =
        let X = part_of rules pages (W ++ (c ∷ [])) (goes (errands_of story c)) in
        let L = reporting_of rules story pages (W ++ (c ∷ [])) (errands_of story c) in
        let v : part_of rules pages W (c ∷ []) ≡ c ∷ X = rest_one rules pages are W c h
        ∙ ap (λ cs. c ∷ part_of rules pages (W ++ (c ∷ [])) cs) (sym (goes-of rules story is_story c)) in
        reporting_unfolds W (Go c ∷ es)
        ∙ ap (λ L. L ++ report_each rules story pages (reporting_of rules story pages) (W ++ part_of rules pages W (c ∷ [])) es)
        (one_followed (reporting_of rules story pages) W c h)
        ∙ ap (λ U. reported_own story c ∷ (L ++ report_each rules story pages (reporting_of rules story pages) U es))
        (ap (λ V. W ++ V) v ∙ sym (append_assoc W (c ∷ []) X))
        ∙ ap (λ M. reported_own story c ∷ (L ++ M)) (sym (reporting_unfolds ((W ++ (c ∷ [])) ++ X) es))
        ∙ ap (λ M. reported_own story c ∷ M) (sym (reporting_join_law (W ++ (c ∷ [])) (errands_of story c) es))

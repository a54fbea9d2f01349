-- What the traversal reports is all that is reported of the survey, in order.
use Rattle.std.proofs.Common.{◌↔◌, ◌≡◌, ◌<◌, inl, inr, List, [], ◌∷◌, ◌++◌, refl, sym, ap, subst, append_assoc, ◌∙◌}
use Rattle.dbsurvey.specs.Address.{IsIn, Address, IsBefore, IsLeftOf}
use Rattle.dbsurvey.specs.Survey.{Triple, Rules, named_at, children, IsNamed, IsPart}
use Rattle.dbsurvey.specs.Story.{Reported, PageStep, Follow, Place, step_of, links_in, AreRising, Story, IsStoryOf, Errand, Go, Due, errand_key, errands_at}
use Rattle.dbsurvey.specs.Story.{errands_of, goes, AreErrandsApart, reported_own, reported_refused, IsReported, of_errand, of_page, of_place, of_refused}
use Rattle.dbsurvey.specs.Story.{IsReporting}
use Rattle.dbsurvey.proofs.Order.{earlier, IsIn-left, IsIn-right, IsIn-cases, EachPair-append, IsBefore-irreflexive, IsBefore-beginning, IsLeftOf-before}
use Rattle.dbsurvey.proofs.Order.{IsLeftOf-steps}
use Rattle.dbsurvey.proofs.Determined.{same_elements}
use Rattle.dbsurvey.proofs.Composing.{IsBelow, IsBelow-itself, IsBelow-longer, IsBelow-across, named_at-step, part_below}

-- errands and their candidates

pub goes-append : {R E : Type 0} (es fs : List (Errand R E)) → goes (es ++ fs) ≡ goes es ++ goes fs
goes-append [] fs = refl
goes-append (Go c ∷ es) fs = ap (λ l. c ∷ l) (goes-append es fs)
goes-append (Due e ∷ es) fs = goes-append es fs

pub goes-from : {R E : Type 0} (es : List (Errand R E)) (c : Triple R) → IsIn c (goes es) → IsIn (Go c) es
goes-from [] c h = absurd h
goes-from (Go d ∷ es) c (inl e) = inl (ap Go e)
goes-from (Go d ∷ es) c (inr h) = inr (goes-from es c h)
goes-from (Due e ∷ es) c h = inr (goes-from es c h)

pub goes-errands : {R E : Type 0} (a : Address) (is : List (PageStep R E)) → goes (errands_at a is) ≡ named_at a (links_in is)
goes-errands a [] = refl
goes-errands a (Follow r ∷ is) = ap (λ l. record { address = a ++ (r.step ∷ []); page = r.page; role = r.role } ∷ l) (goes-errands a is)
goes-errands a (Place step event ∷ is) = goes-errands a is

pub errands_at-append : {R E : Type 0} (a : Address) (is js : List (PageStep R E)) → errands_at a (is ++ js) ≡ errands_at a is ++ errands_at a js
errands_at-append a [] js = refl
errands_at-append a (Follow r ∷ is) js = ap (λ es. Go (record { address = a ++ (r.step ∷ []); page = r.page; role = r.role }) ∷ es) (errands_at-append a is js)
errands_at-append a (Place step event ∷ is) js = ap (λ es. Due (record { key = a ++ (step ∷ []); event = event }) ∷ es) (errands_at-append a is js)

pub errands_at-step : {R E : Type 0} (a : Address) (is : List (PageStep R E)) (e : Errand R E) → IsIn e (errands_at a is) → (i : PageStep R E) × IsIn i is
    × (errand_key e ≡ a ++ (step_of i ∷ []))
errands_at-step a [] e h = absurd h
errands_at-step a (Follow r ∷ is) e (inl f) = (Follow r, inl refl, ap errand_key f)
errands_at-step a (Follow r ∷ is) e (inr h) = let k = errands_at-step a is e h in (k.0, inr k.1, k.2)
errands_at-step a (Place step event ∷ is) e (inl f) = (Place step event, inl refl, ap errand_key f)
errands_at-step a (Place step event ∷ is) e (inr h) = let k = errands_at-step a is e h in (k.0, inr k.1, k.2)

later_step : {R E : Type 0} (a : Address) (i : PageStep R E) (is : List (PageStep R E)) → ((j : PageStep R E) → IsIn j is → step_of i < step_of j)
    → (e : Errand R E) → IsIn e (errands_at a is) → IsLeftOf (a ++ (step_of i ∷ [])) (errand_key e)
later_step a i is h e k =
    let m = errands_at-step a is e k in
    subst (λ b. IsLeftOf (a ++ (step_of i ∷ [])) b) (sym m.2) (IsLeftOf-steps a (step_of i) (step_of m.0) (h m.0 m.1))

pub errands_at-apart : {R E : Type 0} (a : Address) (is : List (PageStep R E)) → AreRising is → AreErrandsApart (errands_at a is)
errands_at-apart a [] h = tt
errands_at-apart a (Follow r ∷ is) h = (later_step a (Follow r) is h.0, errands_at-apart a is h.1)
errands_at-apart a (Place step event ∷ is) h = (later_step a (Place step event) is h.0, errands_at-apart a is h.1)

module _ {R E : Type 0} (rules : Rules R) (story : Story R E) (is_story : IsStoryOf rules story) where
  pub goes-of : (t : Triple R) → goes (errands_of story t) ≡ children rules t
  goes-of t = goes-errands t.address (story.items t) ∙ ap (λ rs. named_at t.address rs) (is_story.links t)

  goes-below : (es : List (Errand R E)) (a : Address) → IsBelow (λ c. c.address) (goes es) a → IsBelow errand_key es a
  goes-below es a h = (Go h.0, goes-from es h.0 h.1, h.2)

  named-below : (W V : List (Triple R)) (es : List (Errand R E)) → IsPart rules W (goes es) V → (c : Triple R) → IsNamed rules (goes es) V c
      → IsBelow errand_key es c.address
  named-below W V es part c n = elim n [
    | inl i ↦ goes-below es c.address (IsBelow-itself (λ c. c.address) (goes es) c i)
    | inr u ↦ (let k = named_at-step u.0.address (rules.links u.0.page u.0.role) c u.2 in
        IsBelow-longer errand_key es u.0.address c.address (k.0 ∷ []) k.1 (goes-below es u.0.address (part_below rules W (goes es) V part u.0 u.1)))
  ]

  reported-below : (W V : List (Triple R)) (es : List (Errand R E)) → IsPart rules W (goes es) V → (e : Reported E) → IsReported rules story es V e
      → IsBelow errand_key es e.key
  reported-below W V es part e (of_errand i) = IsBelow-itself errand_key es (Due e) i
  reported-below W V es part e (of_page t i f) =
      subst (λ e. IsBelow errand_key es e.key) (sym f) (goes-below es t.address (part_below rules W (goes es) V part t i))
  reported-below W V es part e (of_place t i j) =
      let k = errands_at-step t.address (story.items t) (Due e) j in
      IsBelow-longer errand_key es t.address e.key (step_of k.0 ∷ []) k.2 (goes-below es t.address (part_below rules W (goes es) V part t i))
  reported-below W V es part e (of_refused c n m f) =
      subst (λ e. IsBelow errand_key es e.key) (sym f) (named-below W V es part c n)

  pub reporting_none : IsReporting rules story [] [] []
  reporting_none = record { ascending = tt; exact = λ e. ((λ i. absurd i), back e) }
    where
      back : (e : Reported E) → IsReported rules story [] [] e → IsIn e []
      back e (of_errand i) = i
      back e (of_page t i f) = i
      back e (of_place t i j) = i
      back e (of_refused c n m f) = elim n [ inl i ↦ i | inr u ↦ u.1 ]

  pub reporting_due : (e : Reported E) → IsReporting rules story (Due e ∷ []) [] (e ∷ [])
  reporting_due e = record { ascending = ((λ y i. absurd i), tt); exact = λ d. (there d, back d) }
    where
      there : (d : Reported E) → IsIn d (e ∷ []) → IsReported rules story (Due e ∷ []) [] d
      there d (inl f) = of_errand (inl (ap Due f))
      there d (inr i) = absurd i

      back : (d : Reported E) → IsReported rules story (Due e ∷ []) [] d → IsIn d (e ∷ [])
      back d (of_errand i) = elim i [ inl f ↦ inl (cc) | inr j ↦ absurd j ]
      back d (of_page t i f) = absurd i
      back d (of_place t i j) = absurd i
      back d (of_refused c n m f) = elim n [ inl i ↦ absurd i | inr u ↦ absurd u.1 ]

  pub reporting_refused : (c : Triple R) → IsReporting rules story (Go c ∷ []) [] (reported_refused story c ∷ [])
  reporting_refused c = record { ascending = ((λ y i. absurd i), tt); exact = λ d. (there d, back d) }
    where
      there : (d : Reported E) → IsIn d (reported_refused story c ∷ []) → IsReported rules story (Go c ∷ []) [] d
      there d (inl f) = of_refused c (inl (inl refl)) (λ i. i) f
      there d (inr i) = absurd i

      back : (d : Reported E) → IsReported rules story (Go c ∷ []) [] d → IsIn d (reported_refused story c ∷ [])
      back d (of_errand i) = elim i [ inl f ↦ absurd (cc) | inr j ↦ absurd j ]
      back d (of_page t i f) = absurd i
      back d (of_place t i j) = absurd i
      back d (of_refused c' n m f) = elim n [
        | inl i ↦ (elim i [ inl g ↦ inl (f ∙ ap (reported_refused story) g) | inr j ↦ absurd j ])
        | inr u ↦ absurd u.1
      ]

  pub reporting_node : (W : List (Triple R)) (c : Triple R) (V : List (Triple R)) (L : List (Reported E)) → IsPart rules W (goes (errands_of story c)) V
      → IsReporting rules story (errands_of story c) V L → IsReporting rules story (Go c ∷ []) (c ∷ V) (reported_own story c ∷ L)
  reporting_node W c V L part reports = record { ascending = (after, reports.ascending); exact = λ d. (there d, back d) }
    where
      -- what is below the errands of c is after c
      deeper : (a : Address) → IsBelow errand_key (errands_of story c) a → IsBefore c.address a
      deeper a b =
          let k = errands_at-step c.address (story.items c) b.0 b.1 in
          let e : a ≡ c.address ++ (step_of k.0 ∷ b.2.0) = b.2.1 ∙ ap (λ a. a ++ b.2.0) k.2 ∙ append_assoc c.address (step_of k.0 ∷ []) b.2.0 in
          subst (λ a. IsBefore c.address a) (sym e) (IsBefore-beginning c.address (step_of k.0) b.2.0)

      after : (d : Reported E) → IsIn d L → IsBefore c.address d.key
      after d i = deeper d.key (reported-below W V (errands_of story c) part d ((reports.exact d).0 i))

      outer : (d : Reported E) → IsReported rules story (errands_of story c) V d → IsReported rules story (Go c ∷ []) (c ∷ V) d
      outer d (of_errand i) = of_place c (inl refl) i
      outer d (of_page t i f) = of_page t (inr i) f
      outer d (of_place t i j) = of_place t (inr i) j
      outer d (of_refused c' n m f) = of_refused c'
          (elim n [ inl i ↦ inr (c, inl refl, subst (λ l. IsIn c' l) (goes-of c) i) | inr u ↦ inr (u.0, inr u.1, u.2) ])
          (λ i. elim i [
            | inl g ↦ IsBefore-irreflexive c.address (subst (λ w. IsBefore c.address w.address) g
                (deeper c'.address (named-below W V (errands_of story c) part c' n)))
            | inr j ↦ m j
          ])
          f

      there : (d : Reported E) → IsIn d (reported_own story c ∷ L) → IsReported rules story (Go c ∷ []) (c ∷ V) d
      there d (inl f) = of_page c (inl refl) f
      there d (inr i) = outer d ((reports.exact d).0 i)

      back : (d : Reported E) → IsReported rules story (Go c ∷ []) (c ∷ V) d → IsIn d (reported_own story c ∷ L)
      back d (of_errand i) = elim i [ inl f ↦ absurd (cc) | inr j ↦ absurd j ]
      back d (of_page t i f) = elim i [
        | inl g ↦ inl (f ∙ ap (reported_own story) g)
        | inr j ↦ inr ((reports.exact d).1 (of_page t j f))
      ]
      back d (of_place t i j) = elim i [
        | inl g ↦ inr ((reports.exact d).1 (of_errand (subst (λ t. IsIn (Due d) (errands_of story t)) g j)))
        | inr k ↦ inr ((reports.exact d).1 (of_place t k j))
      ]
      back d (of_refused c' n m f) = elim n [
        | inl i ↦ (elim i [ inl g ↦ absurd (m (inl g)) | inr j ↦ absurd j ])
        | inr u ↦ (elim u.1 [
          | inl g ↦ inr ((reports.exact d).1 (of_refused c' (inl (subst (λ l. IsIn c' l) (sym (goes-of c)) (subst (λ t. IsIn c' (children rules t)) g u.2)))
              (λ i. m (inr i)) f))
          | inr j ↦ inr ((reports.exact d).1 (of_refused c' (inr (u.0, j, u.2)) (λ i. m (inr i)) f))
        ])
      ]

  pub reporting_join : (W W' : List (Triple R)) (es fs : List (Errand R E)) (V U : List (Triple R)) (L M : List (Reported E))
      → ((e f : Errand R E) → IsIn e es → IsIn f fs → IsLeftOf (errand_key e) (errand_key f)) → IsPart rules W (goes es) V → IsPart rules W' (goes fs) U
      → IsReporting rules story es V L → IsReporting rules story fs U M → IsReporting rules story (es ++ fs) (V ++ U) (L ++ M)
  reporting_join W W' es fs V U L M apart p q a b = record {
    ascending = EachPair-append (λ d e. IsBefore d.key e.key) L M a.ascending b.ascending across;
    exact = λ d. (there d, back d);
  }
    where
      left : (x y : Address) → IsBelow errand_key es x → IsBelow errand_key fs y → IsBefore x y
      left x y h k = IsLeftOf-before x y (IsBelow-across errand_key errand_key es fs x y apart h k)

      across : (d e : Reported E) → IsIn d L → IsIn e M → IsBefore d.key e.key
      across d e i j = left d.key e.key (reported-below W V es p d ((a.exact d).0 i)) (reported-below W' U fs q e ((b.exact e).0 j))

      apart_members : (c c' : Triple R) → c ≡ c' → IsBelow errand_key es c.address → IsBelow errand_key fs c'.address → ⊥
      apart_members c c' e h k = IsBefore-irreflexive c.address (subst (λ w. IsBefore c.address w.address) (sym e) (left c.address c'.address h k))

      early : (d : Reported E) → IsReported rules story es V d → IsReported rules story (es ++ fs) (V ++ U) d
      early d (of_errand i) = of_errand (IsIn-left (Due d) es fs i)
      early d (of_page t i f) = of_page t (IsIn-left t V U i) f
      early d (of_place t i j) = of_place t (IsIn-left t V U i) j
      early d (of_refused c n m f) = of_refused c
          (elim n [
            | inl i ↦ inl (subst (λ l. IsIn c l) (sym (goes-append es fs)) (IsIn-left c (goes es) (goes fs) i))
            | inr u ↦ inr
                (u.0, IsIn-left u.0 V U u.1, u.2)
          ])
          (λ i. elim (IsIn-cases c V U i) [
            | inl j ↦ m j
            | inr j ↦ apart_members c c refl (named-below W V es p c n) (goes-below fs c.address (part_below rules W' (goes fs) U q c j))
          ])
          f

      late : (d : Reported E) → IsReported rules story fs U d → IsReported rules story (es ++ fs) (V ++ U) d
      late d (of_errand i) = of_errand (IsIn-right (Due d) es fs i)
      late d (of_page t i f) = of_page t (IsIn-right t V U i) f
      late d (of_place t i j) = of_place t (IsIn-right t V U i) j
      late d (of_refused c n m f) = of_refused c
          (elim n [
            | inl i ↦ inl (subst (λ l. IsIn c l) (sym (goes-append es fs)) (IsIn-right c (goes es) (goes fs) i))
            | inr u ↦ inr
                (u.0, IsIn-right u.0 V U u.1, u.2)
          ])
          (λ i. elim (IsIn-cases c V U i) [
            | inl j ↦ apart_members c c refl (goes-below es c.address (part_below rules W (goes es) V p c j)) (named-below W' U fs q c n)
            | inr j ↦ m j
          ])
          f

      there : (d : Reported E) → IsIn d (L ++ M) → IsReported rules story (es ++ fs) (V ++ U) d
      there d i = elim (IsIn-cases d L M i) [ inl j ↦ early d ((a.exact d).0 j) | inr j ↦ late d ((b.exact d).0 j) ]

      in_left : (d : Reported E) → IsReported rules story es V d → IsIn d (L ++ M)
      in_left d h = IsIn-left d L M ((a.exact d).1 h)

      in_right : (d : Reported E) → IsReported rules story fs U d → IsIn d (L ++ M)
      in_right d h = IsIn-right d L M ((b.exact d).1 h)

      back : (d : Reported E) → IsReported rules story (es ++ fs) (V ++ U) d → IsIn d (L ++ M)
      back d (of_errand i) = elim (IsIn-cases (Due d) es fs i) [ inl j ↦ in_left d (of_errand j) | inr j ↦ in_right d (of_errand j) ]
      back d (of_page t i f) = elim (IsIn-cases t V U i) [ inl j ↦ in_left d (of_page t j f) | inr j ↦ in_right d (of_page t j f) ]
      back d (of_place t i j) = elim (IsIn-cases t V U i) [ inl k ↦ in_left d (of_place t k j) | inr k ↦ in_right d (of_place t k j) ]
      back d (of_refused c n m f) = elim n [
        | inl i ↦ (elim (IsIn-cases c (goes es) (goes fs) (subst (λ l. IsIn c l) (goes-append es fs) i)) [
          | inl j ↦ in_left d (of_refused c (inl j) (λ k. m (IsIn-left c V U k)) f)
          | inr j ↦ in_right d (of_refused c (inl j) (λ k. m (IsIn-right c V U k)) f)
        ])
        | inr u ↦ (elim (IsIn-cases u.0 V U u.1) [
          | inl j ↦ in_left d (of_refused c (inr (u.0, j, u.2)) (λ k. m (IsIn-left c V U k)) f)
          | inr j ↦ in_right d (of_refused c (inr (u.0, j, u.2)) (λ k. m (IsIn-right c V U k)) f)
        ])
      ]

-- there is at most one such list
pub reporting_unique : {R E : Type 0} (rules : Rules R) (story : Story R E) (es : List (Errand R E)) (V : List (Triple R)) (L M : List (Reported E))
    → IsReporting rules story es V L → IsReporting rules story es V M → L ≡ M
reporting_unique rules story es V L M a b = same_elements (λ e. e.key) L M a.ascending b.ascending
    (λ e. ((λ i. (b.exact e).1 ((a.exact e).0 i)), (λ i. (a.exact e).1 ((b.exact e).0 i))))

-- what is reported before an event is what has a smaller key
pub reported_before : {R E : Type 0} (rules : Rules R) (story : Story R E) (es : List (Errand R E)) (V : List (Triple R)) (A B : List (Reported E))
    (e : Reported E)
    → IsReporting rules story es V (A ++ (e ∷ B)) → (d : Reported E) → IsIn d A ↔ (IsReported rules story es V d × IsBefore d.key e.key)
reported_before rules story es V A B e reports d =
    let k = earlier (λ d. d.key) A B e reports.ascending d in
    ((λ i. let b = k.0 i in ((reports.exact d).0 b.0, b.1)), (λ h. k.1 ((reports.exact d).1 h.0, h.1)))

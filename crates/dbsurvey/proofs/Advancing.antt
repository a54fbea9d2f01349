-- A machine's run along what is reported below errands, step by step.
use Rattle.std.proofs.Common.{◌≡◌, ℕ, true, false, List, [], ◌∷◌, ◌++◌, Option, Some, None, refl, sym, ap, ◌∙◌, append_assoc}
use Rattle.std.specs.Prelude.{filter_map, option_to_list}
use Rattle.std.proofs.lemmas.List.{append-nil}
use Rattle.std.proofs.lemmas.List.Elements.{filter_map-append}
use Rattle.dbsurvey.specs.Survey.{Triple, Rules, AreRules}
use Rattle.dbsurvey.specs.Traverse.{is_followed, part_of}
use Rattle.dbsurvey.specs.Story.{Reported, Story, IsStoryOf, Errand, Go, Due, errands_of, goes, reported_own, reported_refused, reporting_of}
use Rattle.dbsurvey.specs.InOrder.{ShowsVisits, visits_in, read_back, AreQuiet}
use Rattle.dbsurvey.specs.Run.{Machine, Run, up_to, advance, run, run_below}
use Rattle.dbsurvey.proofs.ReportingLaws.{reporting_none_law, reporting_event_law, reporting_refused_law, reporting_visit_law, reporting_join_law}
use Rattle.dbsurvey.proofs.Parting.{visits_of}
use Rattle.dbsurvey.proofs.ReadBack.{joined}

module _ {R E S X : Type 0} (machine : Machine R E S X) where
  pub run_both : (now : Run R S X) (L M : List (Reported E)) → run machine now (L ++ M) ≡ run machine (run machine now L) M
  run_both now [] M = refl
  run_both now (t ∷ L) M = run_both (advance machine now t.event) L M

  pub run_visits : (now : Run R S X) (L : List (Reported E)) → (run machine now L).visits ≡ now.visits ++ visits_in machine.visit L
  run_visits now [] = sym (append-nil now.visits)
  run_visits now (t ∷ L) = run_visits (advance machine now t.event) L ∙ joined (machine.visit t.event) now.visits (visits_in machine.visit L)

  -- what was put out before stays in front
  abbrev with_items : List X → Run R S X → Run R S X
  with_items xs now = record now { items = xs ++ now.items }

  run_with : (xs : List X) (now : Run R S X) (L : List (Reported E)) → run machine (with_items xs now) L ≡ with_items xs (run machine now L)
  run_with xs now [] = refl
  run_with xs now (t ∷ L) =
      ap (λ l. run machine (record (advance machine now t.event) { items = l }) L)
      (append_assoc xs now.items (machine.out (up_to machine now t.event) now.state t.event))
      ∙ run_with xs (advance machine now t.event) L

  pub run_items : (now : Run R S X) (L : List (Reported E)) → (run machine now L).items ≡ now.items ++ (run machine (record now { items = [] }) L).items
  run_items now L = ap (λ l. (run machine (record now { items = l }) L).items) (sym (append-nil now.items))
      ∙ ap (λ m. m.items) (run_with now.items (record now { items = [] }) L)

  -- and has no part in the state
  pub run_state : (now : Run R S X) (L : List (Reported E)) → (run machine now L).state ≡ (run machine (record now { items = [] }) L).state
  run_state now L = ap (λ l. (run machine (record now { items = l }) L).state) (sym (append-nil now.items))
      ∙ ap (λ m. m.state) (run_with now.items (record now { items = [] }) L)

  -- items by the state are items by the visits alone, where they are so at each event
  module _ {Y : Type 0} (f : X → Option Y) (each : List (Triple R) → E → List Y) where
    abbrev pub IsReadAt : Run R S X → E → Type 0
    IsReadAt m event = filter_map f (machine.out (up_to machine m event) m.state event) ≡ each (up_to machine m event) event

    pub run_reads : (now : Run R S X) (L : List (Reported E)) → ((A B : List (Reported E)) (t : Reported E) → L ≡ A ++ (t ∷ B)
        → IsReadAt (run machine now A) t.event)
        → filter_map f (run machine now L).items ≡ filter_map f now.items ++ read_back machine.visit each now.visits L
    run_reads now [] h = sym (append-nil (filter_map f now.items))
    run_reads now (t ∷ L) h =
        let U = up_to machine now t.event in
        run_reads (advance machine now t.event) L (λ A B u e. h (t ∷ A) B u (ap (λ l. t ∷ l) e))
        ∙ ap (λ l. l ++ read_back machine.visit each U L) (filter_map-append f now.items (machine.out U now.state t.event)
        ∙ ap (λ l. filter_map f now.items ++ l) (h [] L t refl))
        ∙ append_assoc (filter_map f now.items) (each U t.event) (read_back machine.visit each U L)

module _ {R E S X : Type 0} (rules : Rules R) (story : Story R E) (pages : ℕ) (are : AreRules rules pages) (machine : Machine R E S X) where
  abbrev below : Run R S X → List (Errand R E) → Run R S X
  below now es = run_below rules story pages machine now es

  pub run_none : (now : Run R S X) → below now [] ≡ now
  run_none now = ap (run machine now) (reporting_none_law rules story pages are now.visits)

  -- one event, and what is reported after it
  one_on : (now : Run R S X) (t : Reported E) (o : Option (Triple R)) (es : List (Errand R E)) → machine.visit t.event ≡ o
      → run machine now (t ∷ reporting_of rules story pages (now.visits ++ option_to_list o) es) ≡ below (advance machine now t.event) es
  one_on now t o es e = ap (λ o. run machine (advance machine now t.event) (reporting_of rules story pages (now.visits ++ option_to_list o) es)) (sym e)

  quiet_on : (now : Run R S X) (t : Reported E) (es : List (Errand R E)) → machine.visit t.event ≡ None
      → run machine now (t ∷ reporting_of rules story pages now.visits es) ≡ below (advance machine now t.event) es
  quiet_on now t es e = ap (λ U. run machine now (t ∷ reporting_of rules story pages U es)) (sym (append-nil now.visits)) ∙ one_on now t None es e

  pub run_event : (now : Run R S X) (t : Reported E) (es : List (Errand R E)) → machine.visit t.event ≡ None → below now (Due t ∷ es)
      ≡ below (advance machine now t.event) es
  run_event now t es e = ap (run machine now) (reporting_event_law rules story pages are now.visits t es) ∙ quiet_on now t es e

  pub run_refused : ShowsVisits story machine.visit → (now : Run R S X) (c : Triple R) (es : List (Errand R E)) → is_followed rules now.visits c ≡ false
      → below now (Go c ∷ es) ≡ below (advance machine now (story.refused c)) es
  run_refused shows now c es f = ap (run machine now) (reporting_refused_law rules story pages are now.visits c es f)
      ∙ quiet_on now (reported_refused story c) es (shows.of_refused c)

  module _ (is_story : IsStoryOf rules story) (shows : ShowsVisits story machine.visit) where
    pub run_visit : (now : Run R S X) (c : Triple R) (es : List (Errand R E)) → is_followed rules now.visits c ≡ true
        → below now (Go c ∷ es) ≡ below (advance machine now (story.own c)) (errands_of story c ++ es)
    run_visit now c es f = ap (run machine now) (reporting_visit_law rules story pages are is_story now.visits c es f)
        ∙ one_on now (reported_own story c) (Some c) (errands_of story c ++ es) (shows.of_page c)

    pub run_below_visits : (now : Run R S X) (es : List (Errand R E)) → AreQuiet machine.visit es → (below now es).visits ≡ now.visits
        ++ part_of rules pages now.visits (goes es)
    run_below_visits now es q = run_visits machine now (reporting_of rules story pages now.visits es)
        ∙ ap (λ V. now.visits ++ V) (visits_of rules story pages are is_story machine.visit shows now.visits es q)

    pub run_join : (now : Run R S X) (es fs : List (Errand R E)) → AreQuiet machine.visit es → below now (es ++ fs) ≡ below (below now es) fs
    run_join now es fs q = ap (run machine now) (reporting_join_law rules story pages are now.visits es fs)
        ∙ run_both machine now (reporting_of rules story pages now.visits es)
        (reporting_of rules story pages (now.visits ++ part_of rules pages now.visits (goes es)) fs)
        ∙ ap (λ U. run machine (below now es) (reporting_of rules story pages U fs)) (sym (run_below_visits now es q))

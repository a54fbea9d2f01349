-- The faults of a file with the starts of their places, start by start.
use Rattle.std.proofs.Common.{◌≡◌, ℕ, inl, inr, List, [], ◌∷◌, ◌++◌, map, Option, Some, None, refl, sym, ap, ap₂, subst, ◌∙◌, append_assoc, append-nil}
use Rattle.std.specs.Prelude.{filter_map, flat_map, option_to_list}
use Rattle.std.proofs.lemmas.List.Elements.{filter_map-append}
use Rattle.dbtrace.proofs.Common.{Address, IsIn, visits_in, read_back, Reported, Go, reporting_of, start_of, geometry, event_row, Way, Reference, event_faults}
use Rattle.dbtrace.proofs.Common.{Event, own_visit, story_of, rules_of, Fault, FaultCode, cause_of, Finding, reported_row, reported_fault, reported_by}
use Rattle.dbtrace.proofs.Common.{reported_at, Cause}
use Rattle.dbsurvey.specs.InOrder.{AreQuiet}
use Rattle.dbsurvey.specs.Story.{Errand, errand_key}
use Rattle.dbsurvey.proofs.Parting.{visits_of}
use Rattle.dbsurvey.proofs.ReadBack.{joined}
use Rattle.dbsurvey.proofs.ReportingLaws.{reporting_join_law}
use Rattle.dbsurvey.proofs.Within.{reported_within}
use Rattle.dbformat.specs.Rows.{StatRow}
use Rattle.dbformat.specs.Story.{start_errands, reporting}
use Rattle.dbformat.specs.Survey.{Survey}
use Rattle.dbformat.proofs.Theory.{are_rules, is_story, shows_visits, reported_in_order}
use Rattle.dbtrace.specs.Finding.{reported_below, visited_below}
use Rattle.dbtrace.specs.LookBack.{visits_up_to}
use Rattle.dbtrace.proofs.LookBack.{findings_here, visits_more}

-- an address of start k
abbrev pub BeginsWith : ℕ → Address → Type 0
BeginsWith k a = (rest : Address) × (a ≡ k ∷ rest)

-- Whatever is made of a start, a fault and its cause.
module _ {X : Type 0} (make : ℕ → Fault → Cause → X) where
  abbrev made_of : ℕ → Finding → Option X
  made_of k (reported_row r) = None
  made_of k (reported_fault f why) = Some (make k f why)

  -- what is made of the faults among findings at a start
  abbrev pub made_at : ℕ → List Finding → List X
  made_at k items = filter_map (made_of k) items

  of_rows : (k : ℕ) (rows : List StatRow) → made_at k (map reported_row rows) ≡ []
  of_rows k [] = refl
  of_rows k (r ∷ rows) = of_rows k rows

  of_faults : (k : ℕ) (why : FaultCode → Cause) (fs : List Fault) → made_at k (reported_by why fs) ≡ map (λ f. make k f (why f.code)) fs
  of_faults k why [] = refl
  of_faults k why (f ∷ fs) = ap (λ l. make k f (why f.code) ∷ l) (of_faults k why fs)

  module _ (file : List ℕ) where
    of_event : (k : ℕ) (U : List Reference) (e : Event) → made_at k (reported_at file U e)
        ≡ map (λ f. make k f (cause_of file U e f.code)) (event_faults file U e)
    of_event k U e = filter_map-append (made_of k) (map reported_row (option_to_list (event_row file e)))
        (reported_by (cause_of file U e) (event_faults file U e))
        ∙ ap₂ (λ a b. a ++ b) (of_rows k (option_to_list (event_row file e))) (of_faults k (cause_of file U e) (event_faults file U e))

    -- of a list of reported events, each at the start of its key, where W has the visits before the list
    abbrev by_keys : List Reference → List (Reported Event) → List X
    by_keys W [] = []
    by_keys W (t ∷ L) = made_at (start_of t.key) (reported_at file (W ++ option_to_list (own_visit t.event)) t.event)
        ++ by_keys (W ++ option_to_list (own_visit t.event)) L

    -- of all that is reported below some errands
    abbrev pub made_below : List Reference → List (Errand Way Event) → List X
    made_below W es = by_keys W (reporting_of (rules_of file) (story_of file) (geometry file).pages W es)

    by_keys_both : (W : List Reference) (L M : List (Reported Event)) → by_keys W (L ++ M) ≡ by_keys W L ++ by_keys (W ++ visits_in own_visit L) M
    by_keys_both W [] M = ap (λ U. by_keys U M) (sym (append-nil W))
    by_keys_both W (t ∷ L) M =
        let U = W ++ option_to_list (own_visit t.event) in
        let here = made_at (start_of t.key) (reported_at file U t.event) in
        ap (λ l. here ++ l) (by_keys_both U L M)
        ∙ sym (append_assoc here (by_keys U L) (by_keys (U ++ visits_in own_visit L) M))
        ∙ ap (λ V. (here ++ by_keys U L) ++ by_keys V M) (joined (own_visit t.event) W (visits_in own_visit L))

    -- where all keys are those of one start
    by_one_key : (k : ℕ) (W : List Reference) (L : List (Reported Event)) → ((t : Reported Event) → IsIn t L → start_of t.key ≡ k) → by_keys W L
        ≡ made_at k (read_back own_visit (reported_at file) W L)
    by_one_key k W [] h = refl
    by_one_key k W (t ∷ L) h =
        let U = W ++ option_to_list (own_visit t.event) in
        ap₂ (λ j l. made_at j (reported_at file U t.event) ++ l) (h t (inl refl)) (by_one_key k U L (λ u i. h u (inr i)))
        ∙ sym (filter_map-append (made_of k) (reported_at file U t.event) (read_back own_visit (reported_at file) U L))

    pub below_start : (k : ℕ) (W : List Reference) (es : List (Errand Way Event)) → ((e : Errand Way Event) → IsIn e es → BeginsWith k (errand_key e))
        → made_below W es ≡ made_at k (reported_below file W es)
    below_start k W es h = by_one_key k W (reporting_of (rules_of file) (story_of file) (geometry file).pages W es)
        (λ t i. let b = reported_within (rules_of file) (story_of file) (geometry file).pages (BeginsWith k)
        (λ a x p. (p.0 ++ (x ∷ []), ap (λ a. a ++ (x ∷ [])) p.1)) W es h t i in ap start_of b.1)

    -- below the root of a start, and then below others
    pub root_then : (k : ℕ) (W : List Reference) (c : Reference) (es : List (Errand Way Event)) → c.address ≡ k ∷ []
        → made_below W (Go c ∷ es) ≡ made_at k (reported_below file W (Go c ∷ [])) ++ made_below (W ++ visited_below file W (Go c ∷ [])) es
    root_then k W c es at =
        let rules = rules_of file in
        let pages = (geometry file).pages in
        let U = W ++ visited_below file W (Go c ∷ []) in
        let first = reporting_of rules (story_of file) pages W (Go c ∷ []) in
        let rest = reporting_of rules (story_of file) pages U es in
        ap (by_keys W) (reporting_join_law rules (story_of file) pages (are_rules file) W (Go c ∷ []) es)
        ∙ by_keys_both W first rest
        ∙ ap (λ X. by_keys W first ++ by_keys (W ++ X) rest)
        (visits_of rules (story_of file) pages (are_rules file) (is_story file) own_visit (shows_visits file) W (Go c ∷ []) quiet)
        ∙ ap (λ l. l ++ by_keys U rest) (below_start k W (Go c ∷ []) root)
      where
        quiet : AreQuiet own_visit (Go c ∷ [])
        quiet e (inl h) = cc
        quiet e (inr h) = absurd h

        root : (e : Errand Way Event) → IsIn e (Go c ∷ []) → BeginsWith k (errand_key e)
        root e (inl f) = subst (λ e. BeginsWith k (errand_key e)) (sym f) ([], at)
        root e (inr i) = absurd i

    -- of all of a survey
    module _ (V : List Reference) (s : Survey file V) where
      abbrev here : Reported Event → List X
      here t = map (λ f. make (start_of t.key) f (cause_of file V t.event f.code)) (event_faults file V t.event)

      from_here : (A L : List (Reported Event)) → A ++ L ≡ reporting file V → flat_map here L ≡ by_keys (visits_in own_visit A) L
      from_here A [] e = refl
      from_here A (t ∷ L) e =
          ap (λ l. l ++ flat_map here L) (sym (of_event (start_of t.key) V t.event) ∙ ap (made_at (start_of t.key)) (findings_here file V s A t L e))
          ∙ ap (λ l. made_at (start_of t.key) (reported_at file (visits_up_to A t) t.event) ++ l)
          (from_here (A ++ t ∷ []) L (append_assoc A (t ∷ []) L ∙ e) ∙ ap (λ X. by_keys X L) (visits_more file V s A t))

      pub all_made : flat_map here (reporting file V) ≡ made_below [] (start_errands file V)
      all_made = from_here [] (reporting file V) refl ∙ ap (by_keys []) (reported_in_order file V s).1

-- The theorems on surveys: statements of the contracts.
use Rattle.std.specs.Prelude.{◌≡◌, ℕ, ◌≤◌, ◌↔◌, Bool, true, false, int_lt, Option, None, filter_map, List, [], ◌∷◌, ◌++◌}
use Rattle.dbsurvey.specs.Address.{Address, IsIn, IsBefore, IsAscending}
use Rattle.dbsurvey.specs.Greatest.{OrderedKey, IsLine, IsOut, greater, greatest_from, is_out}
use Rattle.dbsurvey.specs.Story.{Reported, PageStep, links_in, AreRising, Story, IsStoryOf, Errand, Go, Due, errands_at, errands_of, goes}
use Rattle.dbsurvey.specs.Story.{AreErrandsApart, reported_own, reported_refused, IsReported, IsReporting, report_below, reporting_of}
use Rattle.dbsurvey.specs.Survey.{Rules, AreRules, IsRising, IsSurvey, Triple, Link, IsPart, IsOwned, IsNamed, children, named_at}
use Rattle.dbsurvey.specs.From.{IsSurveyFrom, under, first_part, survey_from}
use Rattle.dbsurvey.specs.InOrder.{ShowsVisits, AreQuiet, IsPast, earlier, is_visited, reporting_by, visits_in, read_back, read_below}
use Rattle.dbsurvey.specs.Run.{Machine, Run, up_to, advance, run, run_below}
use Rattle.dbsurvey.specs.Traverse.{AreApart, free, is_followed, traverse, part_of, survey_of}
use Rattle.dbsurvey.specs.Whole.{IsWhole, IsNoneRefused, HasEachPageOnce}

-- There is a survey, which the traversal finds, and there is no other.
pub record OneSurvey (R : Type 0) : Type 0 where
  pub exists : (rules : Rules R) (pages : ℕ) (starts : List (Link R)) → AreRules rules pages → IsRising starts
      → IsSurvey rules starts (survey_of rules pages starts)
  pub only : (rules : Rules R) (pages : ℕ) (starts : List (Link R)) (V : List (Triple R)) → AreRules rules pages
      → IsRising starts → IsSurvey rules starts V → V ≡ survey_of rules pages starts
  pub same : (rules : Rules R) (starts : List (Link R)) (V W : List (Triple R)) → IsSurvey rules starts V
      → IsSurvey rules starts W → V ≡ W

-- The part of a survey below some candidates, after W: it is made of the parts of its candidates, there is only one,
-- and the traversal finds it where its fuel is at least the number of pages that W does not own.
pub record Parts (R : Type 0) : Type 0 where
  pub none : (rules : Rules R) (W : List (Triple R)) → IsPart rules W [] []
  pub skip : (rules : Rules R) (W : List (Triple R)) (c : Triple R) → is_followed rules W c ≡ false
      → IsPart rules W (c ∷ []) []
  pub node : (rules : Rules R) (W : List (Triple R)) (c : Triple R) (V : List (Triple R))
      → is_followed rules W c ≡ true → IsPart rules (W ++ (c ∷ [])) (children rules c) V
      → IsPart rules W (c ∷ []) (c ∷ V)
  pub join : (rules : Rules R) (W cs ds V U : List (Triple R)) → AreApart (cs ++ ds) → IsPart rules W cs V
      → IsPart rules (W ++ V) ds U → IsPart rules W (cs ++ ds) (V ++ U)
  pub apart : (at : Address) (links : List (Link R)) → IsRising links → AreApart (named_at at links)
  pub same : (rules : Rules R) (W cs V U : List (Triple R)) → IsPart rules W cs V → IsPart rules W cs U → V ≡ U
  pub found : (rules : Rules R) (pages fuel : ℕ) (W cs : List (Triple R)) → AreRules rules pages → AreApart cs
      → free pages W ≤ fuel → IsPart rules W cs (traverse rules fuel W cs)
  pub survey : (rules : Rules R) (starts : List (Link R)) (V : List (Triple R))
      → IsSurvey rules starts V ↔ IsPart rules [] (named_at [] starts) V

-- What is left to visit, step by step, for a program with a list of candidates that are still to be looked at.
pub record Rest (R : Type 0) : Type 0 where
  pub none : (rules : Rules R) (pages : ℕ) (W : List (Triple R)) → AreRules rules pages
      → part_of rules pages W [] ≡ []
  pub skip : (rules : Rules R) (pages : ℕ) (W : List (Triple R)) (c : Triple R) (cs : List (Triple R))
      → AreRules rules pages → is_followed rules W c ≡ false
      → part_of rules pages W (c ∷ cs) ≡ part_of rules pages W cs
  pub visit : (rules : Rules R) (pages : ℕ) (W : List (Triple R)) (c : Triple R) (cs : List (Triple R))
      → AreRules rules pages → is_followed rules W c ≡ true
      → part_of rules pages W (c ∷ cs) ≡ c ∷ part_of rules pages (W ++ (c ∷ [])) (children rules c ++ cs)
  pub join : (rules : Rules R) (pages : ℕ) (W cs ds : List (Triple R)) → AreRules rules pages
      → part_of rules pages W (cs ++ ds) ≡ part_of rules pages W cs ++ part_of rules pages (W ++ part_of rules pages W cs) ds

-- What a survey has at an address rests on what it has below that address, which comes before it in the list; and each
-- page is in it once.
pub record BelowDecides (R : Type 0) : Type 0 where
  pub decided : (rules : Rules R) (starts : List (Link R)) (V W : List (Triple R)) (t : Triple R)
      → IsSurvey rules starts V → ((u : Triple R) → IsIn u W ↔ (IsIn u V × IsBefore u.address t.address))
      → IsIn t V ↔ (IsNamed rules (named_at [] starts) W t × (rules.may t ≡ true) × (IsOwned W t.page → ⊥))
  pub before : (A B : List (Triple R)) (t : Triple R) → IsAscending (λ t. t.address) (A ++ (t ∷ B)) → (u : Triple R)
      → IsIn u A ↔ (IsIn u (A ++ (t ∷ B)) × IsBefore u.address t.address)
  pub once : (rules : Rules R) (W cs V : List (Triple R)) → IsPart rules W cs V → HasEachPageOnce V

-- The same where the starts after the first depend on what is below the first, and have greater numbers than it.
pub record OneSurveyFrom (R : Type 0) : Type 0 where
  pub exists : (rules : Rules R) (pages : ℕ) (first : Link R) (more : List (Triple R) → List (Link R))
      → AreRules rules pages → ((V : List (Triple R)) → IsRising (first ∷ more V))
      → IsSurveyFrom rules first more (survey_from rules pages first more)
  pub only : (rules : Rules R) (pages : ℕ) (first : Link R) (more : List (Triple R) → List (Link R)) (V : List (Triple R))
      → AreRules rules pages → ((V : List (Triple R)) → IsRising (first ∷ more V)) → IsSurveyFrom rules first more V
      → V ≡ survey_from rules pages first more
  pub first : (rules : Rules R) (pages : ℕ) (first : Link R) (more : List (Triple R) → List (Link R)) (V : List (Triple R))
      → AreRules rules pages → ((V : List (Triple R)) → IsRising (first ∷ more V)) → IsSurveyFrom rules first more V
      → under first.step V ≡ first_part rules pages first

-- All that candidates lead to, where each page occurs once and W owns none, is the part below them, and nothing in it
-- is refused; and a part in which nothing is refused is all that its candidates lead to.
pub record Wholes (R : Type 0) : Type 0 where
  pub visited : (rules : Rules R) (pages : ℕ) (W cs V : List (Triple R)) → AreRules rules pages → IsWhole rules cs V
      → HasEachPageOnce V → ((t : Triple R) → IsIn t V → IsOwned W t.page → ⊥) → part_of rules pages W cs ≡ V
  pub none_refused : (rules : Rules R) (cs V : List (Triple R)) → IsWhole rules cs V → IsNoneRefused rules cs V
  pub whole : (rules : Rules R) (pages : ℕ) (W cs : List (Triple R)) → AreRules rules pages → AreApart cs
      → IsNoneRefused rules cs (part_of rules pages W cs) → IsWhole rules cs (part_of rules pages W cs)

-- The traversal reports exactly what is to be reported of a survey, in strictly ascending order of keys. No other list
-- does. What it reports before an event is what has a smaller key.
pub record Reporting (R E : Type 0) : Type 0 where
  pub exact : (rules : Rules R) (story : Story R E) (pages : ℕ) (items : List (PageStep R E)) (V : List (Triple R))
      → AreRules rules pages → IsStoryOf rules story → AreRising items → IsSurvey rules (links_in items) V
      → IsReporting rules story (errands_at [] items) V (reporting_of rules story pages [] (errands_at [] items))
  pub only : (rules : Rules R) (story : Story R E) (errands : List (Errand R E)) (V : List (Triple R)) (L M : List (Reported E))
      → IsReporting rules story errands V L → IsReporting rules story errands V M → L ≡ M
  pub before : (rules : Rules R) (story : Story R E) (errands : List (Errand R E)) (V : List (Triple R)) (A B : List (Reported E)) (e : Reported E)
      → IsReporting rules story errands V (A ++ (e ∷ B)) → (d : Reported E)
      → IsIn d A ↔ (IsReported rules story errands V d × IsBefore d.key e.key)
  pub found : (rules : Rules R) (story : Story R E) (pages fuel : ℕ) (W : List (Triple R)) (errands : List (Errand R E))
      → AreRules rules pages → IsStoryOf rules story → AreErrandsApart errands → free pages W ≤ fuel
      → IsReporting rules story errands (part_of rules pages W (goes errands)) (report_below rules story pages fuel W errands)

-- What is left to report, step by step, for a program with a list of errands that are still to be done.
pub record ReportingSteps (R E : Type 0) : Type 0 where
  pub none : (rules : Rules R) (story : Story R E) (pages : ℕ) (W : List (Triple R)) → AreRules rules pages
      → reporting_of rules story pages W [] ≡ []
  pub event : (rules : Rules R) (story : Story R E) (pages : ℕ) (W : List (Triple R)) (e : Reported E) (es : List (Errand R E))
      → AreRules rules pages → reporting_of rules story pages W (Due e ∷ es) ≡ e ∷ reporting_of rules story pages W es
  pub refused : (rules : Rules R) (story : Story R E) (pages : ℕ) (W : List (Triple R)) (c : Triple R) (es : List (Errand R E))
      → AreRules rules pages → is_followed rules W c ≡ false
      → reporting_of rules story pages W (Go c ∷ es) ≡ reported_refused story c ∷ reporting_of rules story pages W es
  pub visit : (rules : Rules R) (story : Story R E) (pages : ℕ) (W : List (Triple R)) (c : Triple R) (es : List (Errand R E))
      → AreRules rules pages → IsStoryOf rules story → is_followed rules W c ≡ true
      → reporting_of rules story pages W (Go c ∷ es) ≡ reported_own story c ∷ reporting_of rules story pages (W ++ (c ∷ [])) (errands_of story c ++ es)
  pub join : (rules : Rules R) (story : Story R E) (pages : ℕ) (W : List (Triple R)) (es fs : List (Errand R E))
      → AreRules rules pages
      → reporting_of rules story pages W (es ++ fs) ≡ reporting_of rules story pages W es
      ++ reporting_of rules story pages (W ++ part_of rules pages W (goes es)) fs
  pub goes : (rules : Rules R) (story : Story R E) (t : Triple R) → IsStoryOf rules story
      → goes (errands_of story t) ≡ children rules t

-- What is reported of a survey follows from the survey itself, without a traversal: a named triple is visited if it may
-- be and no earlier one has its page, and all reported events, put in order, are the reporting. The pages whose own
-- events are reported are those of the survey, in its order; below some errands they are those of the part below them.
pub record ReportingInOrder (R E : Type 0) : Type 0 where
  pub visited : (rules : Rules R) (starts : List (Link R)) (V : List (Triple R)) (t : Triple R)
      → IsSurvey rules starts V → IsNamed rules (named_at [] starts) V t → IsIn t V ↔ (is_visited rules V t ≡ true)
  pub exact : (rules : Rules R) (story : Story R E) (pages : ℕ) (items : List (PageStep R E)) (V : List (Triple R))
      → AreRules rules pages → IsStoryOf rules story → AreRising items → IsSurvey rules (links_in items) V
      → IsReporting rules story (errands_at [] items) V (reporting_by rules story (errands_at [] items) V)
  pub found : (rules : Rules R) (story : Story R E) (pages : ℕ) (items : List (PageStep R E)) (V : List (Triple R))
      → AreRules rules pages → IsStoryOf rules story → AreRising items → IsSurvey rules (links_in items) V
      → reporting_by rules story (errands_at [] items) V ≡ reporting_of rules story pages [] (errands_at [] items)
  pub visits : (rules : Rules R) (story : Story R E) (visit : E → Option (Triple R)) (errands : List (Errand R E)) (V : List (Triple R)) (L : List (Reported E))
      → ShowsVisits story visit → AreQuiet visit errands → IsAscending (λ t. t.address) V
      → IsReporting rules story errands V L → visits_in visit L ≡ V
  pub part : (rules : Rules R) (story : Story R E) (pages : ℕ) (visit : E → Option (Triple R)) (W : List (Triple R)) (errands : List (Errand R E))
      → AreRules rules pages → IsStoryOf rules story → ShowsVisits story visit → AreQuiet visit errands
      → visits_in visit (reporting_of rules story pages W errands) ≡ part_of rules pages W (goes errands)

-- What a function gives for each reported event, by the triples visited up to it, step by step: for a program that
-- reports each page when it reaches it.
pub record ReadingBelow (R E X : Type 0) : Type 0 where
  pub none : (rules : Rules R) (story : Story R E) (pages : ℕ) (visit : E → Option (Triple R)) (each : List (Triple R) → E → List X) (W : List (Triple R))
      → AreRules rules pages → read_below rules story pages visit each W [] ≡ []
  pub event : (rules : Rules R) (story : Story R E) (pages : ℕ) (visit : E → Option (Triple R))
      (each : List (Triple R) → E → List X) (W : List (Triple R)) (e : Reported E)
      → AreRules rules pages → visit e.event ≡ None
      → read_below rules story pages visit each W (Due e ∷ []) ≡ each W e.event
  pub refused : (rules : Rules R) (story : Story R E) (pages : ℕ) (visit : E → Option (Triple R))
      (each : List (Triple R) → E → List X) (W : List (Triple R)) (c : Triple R)
      → AreRules rules pages → ShowsVisits story visit → is_followed rules W c ≡ false
      → read_below rules story pages visit each W (Go c ∷ []) ≡ each W (story.refused c)
  pub visit : (rules : Rules R) (story : Story R E) (pages : ℕ) (visit : E → Option (Triple R))
      (each : List (Triple R) → E → List X) (W : List (Triple R)) (c : Triple R)
      → AreRules rules pages → IsStoryOf rules story → ShowsVisits story visit → is_followed rules W c ≡ true
      → read_below rules story pages visit each W (Go c ∷ []) ≡ each (W ++ (c ∷ [])) (story.own c)
      ++ read_below rules story pages visit each (W ++ (c ∷ [])) (errands_of story c)
  pub join : (rules : Rules R) (story : Story R E) (pages : ℕ) (visit : E → Option (Triple R))
      (each : List (Triple R) → E → List X) (W : List (Triple R)) (es fs : List (Errand R E))
      → AreRules rules pages → IsStoryOf rules story → ShowsVisits story visit → AreQuiet visit es
      → read_below rules story pages visit each W (es ++ fs) ≡ read_below rules story pages visit each W es
      ++ read_below rules story pages visit each (W ++ part_of rules pages W (goes es)) fs
  pub both : (visit : E → Option (Triple R)) (each : List (Triple R) → E → List X) (W : List (Triple R)) (L M : List (Reported E))
      → read_back visit each W (L ++ M) ≡ read_back visit each W L ++ read_back visit each (W ++ visits_in visit L) M

-- The visited triples come before what is still to be done, at each step of a program; and all triples of such a list
-- are earlier.
pub record Passing (R E : Type 0) : Type 0 where
  pub visit : (story : Story R E) (W : List (Triple R)) (c : Triple R) → IsPast {E = E} W (Go c ∷ [])
      → IsPast (W ++ (c ∷ [])) (errands_of story c)
  pub join : (rules : Rules R) (pages : ℕ) (W : List (Triple R)) (es fs : List (Errand R E)) → AreRules rules pages
      → AreErrandsApart (es ++ fs) → AreErrandsApart es → IsPast W fs
      → IsPast (W ++ part_of rules pages W (goes es)) fs
  pub apart : (rules : Rules R) (story : Story R E) (t : Triple R) → IsStoryOf rules story
      → AreErrandsApart (errands_of story t)
  pub earlier : (W : List (Triple R)) (a : Address) → ((u : Triple R) → IsIn u W → IsBefore u.address a)
      → earlier W a ≡ W

-- A machine's run along all that is reported below errands, step by step: for a program with a list of errands that are
-- still to be done. Its visits are those of the traversal, and its output is appended to the output so far. If its
-- output at each event follows from the visits alone, so does its whole output.
pub record Runs (R E S X Y : Type 0) : Type 0 where
  pub none : (rules : Rules R) (story : Story R E) (pages : ℕ) (machine : Machine R E S X) (now : Run R S X)
      → AreRules rules pages → run_below rules story pages machine now [] ≡ now
  pub event : (rules : Rules R) (story : Story R E) (pages : ℕ) (machine : Machine R E S X) (now : Run R S X) (t : Reported E) (es : List (Errand R E))
      → AreRules rules pages → machine.visit t.event ≡ None
      → run_below rules story pages machine now (Due t ∷ es) ≡ run_below rules story pages machine (advance machine now t.event) es
  pub refused : (rules : Rules R) (story : Story R E) (pages : ℕ) (machine : Machine R E S X) (now : Run R S X) (c : Triple R) (es : List (Errand R E))
      → AreRules rules pages → ShowsVisits story machine.visit → is_followed rules now.visits c ≡ false
      → run_below rules story pages machine now (Go c ∷ es) ≡ run_below rules story pages machine (advance machine now (story.refused c)) es
  pub visit : (rules : Rules R) (story : Story R E) (pages : ℕ) (machine : Machine R E S X) (now : Run R S X) (c : Triple R) (es : List (Errand R E))
      → AreRules rules pages → IsStoryOf rules story → ShowsVisits story machine.visit → is_followed rules now.visits c ≡ true
      → run_below rules story pages machine now (Go c ∷ es) ≡ run_below rules story pages machine (advance machine now (story.own c)) (errands_of story c ++ es)
  pub join : (rules : Rules R) (story : Story R E) (pages : ℕ) (machine : Machine R E S X) (now : Run R S X) (es fs : List (Errand R E))
      → AreRules rules pages → IsStoryOf rules story → ShowsVisits story machine.visit → AreQuiet machine.visit es
      → run_below rules story pages machine now (es ++ fs) ≡ run_below rules story pages machine (run_below rules story pages machine now es) fs
  pub visits : (rules : Rules R) (story : Story R E) (pages : ℕ) (machine : Machine R E S X) (now : Run R S X) (es : List (Errand R E))
      → AreRules rules pages → IsStoryOf rules story → ShowsVisits story machine.visit → AreQuiet machine.visit es
      → (run_below rules story pages machine now es).visits ≡ now.visits ++ part_of rules pages now.visits (goes es)
  pub items : (rules : Rules R) (story : Story R E) (pages : ℕ) (machine : Machine R E S X) (now : Run R S X) (es : List (Errand R E))
      → (run_below rules story pages machine now es).items ≡ now.items ++ (run_below rules story pages machine (record now { items = [] }) es).items
  pub state : (rules : Rules R) (story : Story R E) (pages : ℕ) (machine : Machine R E S X) (now : Run R S X) (es : List (Errand R E))
      → (run_below rules story pages machine now es).state ≡ (run_below rules story pages machine (record now { items = [] }) es).state
  pub reads : (f : X → Option Y) (each : List (Triple R) → E → List Y) (machine : Machine R E S X) (now : Run R S X) (L : List (Reported E))
      → ((A B : List (Reported E)) (t : Reported E) → L ≡ A ++ (t ∷ B)
      → filter_map f (machine.out (up_to machine (run machine now A) t.event) (run machine now A).state t.event)
      ≡ each (up_to machine (run machine now A) t.event) t.event)
      → filter_map f (run machine now L).items ≡ filter_map f now.items ++ read_back machine.visit each now.visits L

-- The greatest key so far alone decides whether an entry is out of order, that is, whether it is so after an earlier one.
pub record RunningGreatest (K : Type 0) : Type 0 where
  pub exact : (less : K → K → Bool) (before : List (OrderedKey K)) (e : OrderedKey K) → IsLine less
      → (is_out less (greatest_from less None before) e ≡ true) ↔ IsOut less before e
  pub step : (less : K → K → Bool) (before : List (OrderedKey K)) (e : OrderedKey K) → IsLine less
      → greatest_from less None (before ++ (e ∷ [])) ≡ greater less (greatest_from less None before) e.key
  pub integers : IsLine int_lt

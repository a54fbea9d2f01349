-- One turn of the walk along a chain.
use Rattle.std.proofs.Common.{◌≡◌, ℕ, ◌+◌, ◌-◌, ◌≤◌, ◌<◌, true, false, List, [], ◌∷◌, ◌++◌, Bool, Option, Some, None, Ok, refl, sym, ap, subst, ◌∙◌, ap₂}
use Rattle.std.proofs.Common.{arith, IfSome}
use Rattle.dbwalk.proofs.Common.{Moves, Errand, Way, Event, Go, errands_of, page_bytes, usable_size, overflow_next, first_overflow, Reference, role_of, from_of}
use Rattle.dbwalk.proofs.Common.{bytes_left, tree_kind, at_page, story_of, RowSieve, Mark, Tree, FirstOverflow, LaterOverflow, seen_bytes, seen_from}
use Rattle.dbwalk.proofs.Common.{EntersBeside, Opens, Turns, IsChainOf, next_of, FeedsSince, IsNext, Finding, reported_at, Walk, advance, bare, IsUnderway}
use Rattle.dbwalk.proofs.Common.{IsAt, done_below, fed, role_mark, nat_tests, append-nil, Chain}
use Rattle.dbwalk.specs.declared.chain.ChainPlace.{ChainPlace}
use Rattle.dbtrace.specs.Causes.{nothing_seen}
use Rattle.dbwalk.proofs.Reporting.Besides.{turn_ended, turn_entered, visited_beside}
use Rattle.dbwalk.specs.Chains.{IsOnWay, IsOverflowVisited, seen_before, place_cause}
use Rattle.dbwalk.proofs.Chaining.Feedings.{feeds_none, feeds_page}
use Rattle.dbwalk.proofs.Underway.Underways.{under_start}
use Rattle.dbwalk.proofs.Chaining.Heads.{head_next, head_start, head_visited, chain_few, refusal_here}
use Rattle.dbwalk.proofs.Chaining.Overflows.{more_errands, last_errands, next_on_chain, overflow_shallow}

pub if_some_all : {X : Type 0} (Q : X → Type 0) (o : Option X) → ((x : X) → Q x) → IfSome o Q
if_some_all Q None f = tt
if_some_all Q (Some x) f = f x

-- after a page of the chain
seen_after : (usable number : ℕ) (here : List ℕ) → seen_before usable (number + 1) here ≡ seen_bytes usable here
seen_after usable number here = grind (arith, nat_tests)

module _ {S : Type 0} {takes : S → Finding → S → Type 0} {file : List ℕ} {W : List Reference} {whole : Walk} {before : S} {chain : Chain}
    {place : ChainPlace} {marks : List Mark} {tree : Tree} {s : S} {first old : Option RowSieve} {read : List ℕ}
    (on : IsOnWay takes file W whole before chain place (marks, tree) s first old read) where
  abbrev Fed : Option RowSieve → List Reference → Type 0
  Fed new V = FeedsSince file W V first new

  -- what a sieve was fed, where the next reference is refused
  pub fed_so_far : whole.visits ≡ on.at.now.visits → Fed old whole.visits
  fed_so_far same = subst (Fed old) (sym same) on.fed

  -- its page is entered, and visited
  module _ {b : Bool} {marks' : List Mark} {m t : S} {here : List ℕ} {new : Option RowSieve} (is : b ≡ true)
      (h : EntersBeside takes file place.step (place_cause chain place read) marks s (Ok b) marks' m here)
      (visit : here ≡ page_bytes file place.step.page → IsOverflowVisited takes file chain place old new m t) where
    abbrev V : List Reference
    V = on.at.now.visits ++ (on.at.d ∷ [])

    abbrev Left : List (Errand Way Event) → Type 0
    Left es = IsUnderway (fed takes) file whole before (advance file on.at.now (at_page on.at.d)) es (marks', tree) t

    entered : Opens takes file on.at.now.visits on.at.d (Ok true) marks' s m here
    entered = turn_entered on.at h is

    visited : IsOverflowVisited takes file chain place old new m t
    visited = visit (entered.1 ∙ ap (page_bytes file) on.at.is.page)

    left : Left (errands_of (story_of file) on.at.d ++ [])
    left = visited_beside on.at.rest on.at.aside entered.0.0 entered.0.1
        (subst (λ y. Moves takes y (reported_at file V (at_page on.at.d)) t) (sym entered.0.2)
        (visited.reported V on.at.d on.at.is.page on.left on.on (head_visited file chain on.at.now.visits place.number on.at.d on.on on.head)))

    fed_more : Fed new V
    fed_more = feeds_page on.at.d on.fed (visited.fed on.at.d on.at.is.page on.left)

    module _ {room : ℕ} (rooms : room ≡ usable_size file - 4) where
      -- it was the last page
      pub turn_last : {P : Type 0} {next : P → Type 0} → place.left ≤ room
          → Turns takes file whole before next (Fed new whole.visits) (Ok None) (marks', tree) t
      turn_last l = turn_ended (subst Left
          (ap (λ es. es ++ []) (last_errands file on.at.d place.left on.left (subst (λ k. place.left ≤ k) rooms l))) left)
          (λ same. subst (Fed new) (sym same) fed_more)

      -- the next one is after it
      pub turn_more : room < place.left → {next : ℕ} → next ≡ overflow_next here → IsOnWay takes file W whole before chain (record {
        number = place.number + 1;
        left = place.left - room;
        step = record { page = next; mark = LaterOverflow place.step.page; from = place.step.page; item = 0; is_too_deep = false };
      }) (marks', tree) t first new here
      turn_more l n =
          let after = overflow_next (page_bytes file on.at.d.page) in
          let rest = place.left - room in
          let on_chain = next_on_chain chain place.number on.at.d rest after on.on in
          let head = head_next file chain on.at.now.visits place.number on.at.d on.on on.head on.at.rest.past (chain_few chain place.number on.at.d on.on) rest
          after in
          record {
            usable = on.usable;
            at = record {
              now = advance file on.at.now (at_page on.at.d);
              d = next_of on.at.d rest after;
              is = record {
                page = ap overflow_next (sym entered.1) ∙ sym n;
                mark = ap LaterOverflow on.at.is.page;
                from = on.at.is.page;
                item = refl;
                deep = refl;
              };
              aside = refl;
              cause_is = refusal_here file chain (place.number + 1) rest (next_of on.at.d rest after) V on.usable
                  (seen_after chain.usable place.number here ∙ ap₂ seen_bytes on.usable entered.1) refl on_chain head;
              rest = subst Left (ap (λ es. es ++ []) (more_errands file on.at.d place.left on.left (subst (λ k. k < place.left) rooms l)
                  ∙ ap (λ k. Go (next_of on.at.d (place.left - k) after) ∷ []) (sym rooms))) left;
            };
            fed = fed_more;
            left = refl;
            on = on_chain;
            head = head;
          }

-- a cell is on no overflow page
none_from : (file : List ℕ) (c : Reference) (left : ℕ) → role_of c ≡ first_overflow left → seen_from file c ≡ nothing_seen
none_from file c left h = rw h refl

-- at the first page all is left
pub way_start : {S : Type 0} (takes : S → Finding → S → Type 0) (file : List ℕ) (from : Walk) (c : Reference) (chain : Chain) (marks : List Mark) (tree : Tree)
    (s : S) (sieve : Option RowSieve) (here : List ℕ) → IsChainOf file chain c → IsNext from.visits c → IsAt file from marks tree
    → IsOnWay takes file from.visits (done_below file from (Go c ∷ [])) s chain (record {
      number = 0;
      left = chain.left;
      step =
          record { page = chain.first; mark = FirstOverflow chain.page; from = chain.page; item = chain.cell; is_too_deep = false };
    }) (marks, tree)
    s sieve sieve here
way_start takes file from c chain marks tree s sieve here h next at = record {
  usable = h.usable;
  at = record {
    now = bare from;
    d = c;
    is = record {
      page = h.page;
      mark = ap (λ r. role_mark r (from_of c)) h.role ∙ ap FirstOverflow h.from;
      from = h.from;
      item = h.item;
      deep = overflow_shallow c chain.left (ap bytes_left h.role);
    };
    aside = ap tree_kind h.role;
    cause_is = refusal_here file chain 0 chain.left c from.visits h.usable (sym (none_from file c chain.left h.role)) (ap bytes_left h.role) h.place
        (head_start file chain from.visits c h);
    rest = under_start file from c at next;
  };
  fed = record { pages = []; since = sym (append-nil from.visits); fed = feeds_none sieve };
  left = ap bytes_left h.role;
  on = h.place;
  head = head_start file chain from.visits c h;
}

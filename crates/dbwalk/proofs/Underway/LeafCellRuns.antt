-- A cell of a leaf: its overflow chain, its row, where the tree is the schema's, and its key.
use Rattle.std.proofs.Common.{◌≡◌, ℕ, ℤ, ◌≤◌, arith, true, false, not, inl, inr, List, [], ◌∷◌, ◌++◌, map, Option, Some, None, Result, Ok, Err, refl, sym, ap}
use Rattle.std.proofs.Common.{cond, subst, ◌∙◌, OnOk, is_some, option_and_then, ◌==◌}
use Rattle.dbwalk.proofs.Common.{Moves, Errand, start_of, then_step, overflow_step, schema_start, Cell, cell, cell_errands, View, is_interior, encoding, Way}
use Rattle.dbwalk.proofs.Common.{Reference, SchemaCell, schema_cell, SchemaRow, Event, at_key, TreeKind, RowSieve, RunError, key_before, left_rows}
use Rattle.dbwalk.proofs.Common.{Finding, visited_below, CellKey, Item, found, given, rows_of, Walk, bare, advance, HasDone, fed, never, overflow_errands}
use Rattle.dbwalk.proofs.Common.{late_reported, top_after, AreBefore, AreMarksOf, ReportsRow, HasFed, HoldsCell, FeedsPayload, IsAt, done_below}
use Rattle.dbwalk.proofs.Common.{watches, fails, StopsAt, Handed, Mark, Tree, Taken, result_ok, cases_Bool, eqb-true, nat_tests, append-nil, has_steps}
use Rattle.dbformat.specs.SchemaRow.{schema_row}
use Rattle.dbformat.specs.declared.Encoding.{Encoding}
use Rattle.dbtrace.proofs.Asides.{are_aside}
use Rattle.dbwalk.specs.Taking.{row_place}
use Rattle.dbwalk.specs.declared.schema_row.RowPlace.{RowPlace}
use Rattle.dbwalk.proofs.Leaves.LeafErrands.{own_errands, read_overflow, errands_split, quiet_overflow}
use Rattle.dbwalk.proofs.Underway.CellSteps.{order_reported_of, cell_items, greatest_behind, no_row_elsewhere}
use Rattle.dbwalk.proofs.Underway.Handing.{HasEnded, bare_visits, done_then, done_stops, fed_done, handed_after, stop_first, row_handed}

-- there is no sieve
pub gone : (o : Option RowSieve) → is_some o ≡ false → o ≡ None
gone None e = refl
gone (Some s) e = cc

-- the row of a readable cell of the schema's tree, by these visits
abbrev pub rows_behind : List ℕ → List Reference → Reference → View → ℕ → Option Cell → List SchemaCell
rows_behind file U c v i None = []
rows_behind file U c v i (Some x) = rows_of file U c v (i, x)

module _ (file : List ℕ) (from : Walk) (c : Reference) (kind : TreeKind) (v : View) (leaf : is_interior v.kind ≡ false) (i : ℕ)
    (overflow : Option (ℕ × ℕ)) (overflow_is : overflow ≡ read_overflow (result_ok (cell v i))) (key : Option ℤ)
    (key_is : key ≡ option_and_then (λ c. c.key) (result_ok (cell v i))) where
  abbrev chain : List (Errand Way Event)
  chain = overflow_errands c i overflow

  abbrev own : List (Errand Way Event)
  own = own_errands c v i (result_ok (cell v i))

  -- the walk after the chain, and that after the cell
  abbrev m : Walk
  m = done_below file from chain

  abbrev rows : List SchemaCell
  rows = rows_behind file m.visits c v i (result_ok (cell v i))

  abbrev key_items : List Item
  key_items = map found (late_reported from.state.greatest c.page i key)

  -- the chain leaves the progress
  chained : m.state ≡ from.state
  chained = by_chain overflow
    where
      by_chain : (o : Option (ℕ × ℕ)) → (done_below file from (overflow_errands c i o)).state ≡ from.state
      by_chain None = ap (λ w. w.state) ((has_steps file).none (bare from))
      by_chain (Some o) = (are_aside file (bare from) _ refl).state

  visited : m.visits ≡ from.visits ++ visited_below file from.visits chain
  visited = (has_steps file).visits (bare from) chain (quiet_overflow c i overflow)

  -- and then the row and the key
  record IsBehind (o : Option Cell) (w : Walk) : Type 0 where
    visits : w.visits ≡ m.visits
    greatest_is : w.state.greatest ≡ top_after from.state.greatest c.page i key
    leaf_is : w.state.leaf ≡ from.state.leaf
    items : w.items ≡ map given (rows_behind file m.visits c v i o) ++ key_items

  same_faults : (top : Option CellKey) (o : Option ℤ) → order_reported_of true None top c.page i o ≡ late_reported top c.page i o
  same_faults top o = grind arith

  behind : IsBehind (result_ok (cell v i)) (done_below file m own)
  behind = by_cell (result_ok (cell v i)) key_is
    where
      by_cell : (o : Option Cell) → key ≡ option_and_then (λ c. c.key) o → IsBehind o (done_below file m (own_errands c v i o))
      by_cell None e = subst (IsBehind None) (sym ((has_steps file).none (bare m))) (record {
        visits = refl;
        greatest_is = ap (λ p. p.greatest) chained ∙ sym (ap (top_after from.state.greatest c.page i) e);
        leaf_is = ap (λ p. p.leaf) chained;
        items = sym (ap (λ k. map found (late_reported from.state.greatest c.page i k)) e);
      })
      by_cell (Some x) e =
          let U = m.visits ++ [] in
          let here : rows_of file U c v (i, x) ≡ rows_of file m.visits c v (i, x) = ap (λ U. rows_of file U c v (i, x)) (append-nil m.visits) in
          subst (IsBehind (Some x)) (sym ((has_steps file).event (bare m) _ [] refl ∙ (has_steps file).none (advance file (bare m) (at_key c v (i, x)))))
          (record {
            visits = append-nil m.visits;
            greatest_is = greatest_behind file c v i x (bare m) ∙ ap (λ p. top_after p.greatest c.page i x.key) chained
                ∙ ap (top_after from.state.greatest c.page i) (sym e);
            leaf_is = ap (λ p. p.leaf) chained;
            items = cell_items file c v i x U m.state (rows_of file m.visits c v (i, x)) here
                ∙ ap (λ p. map given (rows_of file m.visits c v (i, x)) ++ map found
                (order_reported_of (not (is_interior v.kind)) (left_rows v (i, x)) p.greatest c.page i x.key))
                chained
                ∙ ap (λ b. map given (rows_of file m.visits c v (i, x)) ++ map found
                (order_reported_of (not b) (cond b (Some (record { above = key_before v i; up_to = x.key })) None) from.state.greatest c.page i x.key)) leaf
                ∙ ap (λ fs. map given (rows_of file m.visits c v (i, x)) ++ map found fs)
                (same_faults from.state.greatest x.key ∙ ap (late_reported from.state.greatest c.page i) (sym e));
          })

  split : cell_errands c kind v i ≡ chain ++ own
  split = errands_split c kind v i overflow leaf overflow_is

  -- the visits after the cell are those of its chain
  pub cell_visits : (done_below file from (cell_errands c kind v i)).visits ≡ from.visits ++ visited_below file from.visits chain
  cell_visits = ap (λ es. (done_below file from es).visits) split
      ∙ ap (λ w. w.visits) ((has_steps file).join (bare from) chain own (quiet_overflow c i overflow)) ∙ bare_visits file m own ∙ behind.visits ∙ visited

  module _ {S T : Type 0} (takes : S → Finding → S → Type 0) (keeps : T → SchemaRow → Taken → T → Type 0) (refuses : T → SchemaRow → T → Type 0) where
    abbrev pub Whole : Result (Unit {0}) RunError → List Mark × Tree → (S × T) → (S × T) → Type 0
    Whole r now w x = HasEnded (watches takes keeps) (fails refuses) file (done_below file from (cell_errands c kind v i)) r now w x

    -- what the chain's call has done
    abbrev pub Chain : Result (Unit {0}) RunError → List Mark × Tree → S → S → Type 0
    Chain r now s s' = HasDone {A = Unit {0}} (fed takes) never file m r now s s'

    -- it could not be walked to its end
    pub chain_stops : (e : RunError) (mid now : List Mark × Tree) (s s' : S) (t : T) → Chain (Err e) mid s s' → Whole (Err e) now (s, t) (s', t)
    chain_stops e mid now s s' t done =
        rw split (done_stops (watches takes keeps) (fails refuses) file from e chain own mid now (s, t) (s', t) (quiet_overflow c i overflow)
        (fed_done takes keeps refuses (Err e) t done))

    -- it was, and then row and key were handed out, or not
    pub own_done : (r : Result (Unit {0}) RunError) (marks : List Mark) (old new : Tree) (s s' : S) (t : T) (x : S × T) → Chain (Ok tt) (marks, old) s s'
        → Handed (watches takes keeps) (fails refuses) r (s', t) (map given rows ++ key_items) x
        → OnOk r ((new.greatest ≡ top_after old.greatest c.page i key) × (new.leaf ≡ old.leaf)) → Whole r (marks, new) (s, t) x
    own_done r marks old new s s' t x done handed tree_is =
        rw split (done_then (watches takes keeps) (fails refuses) file from tt r chain own (marks, old) (marks, new) (s, t) (s', t) x
        (quiet_overflow c i overflow) (fed_done takes keeps refuses (Ok tt) t done) (record {
          at = by_ok r tree_is;
          handed = subst (λ l. Handed (watches takes keeps) (fails refuses) r (s', t) l x) (sym behind.items) handed;
        }))
      where
        by_ok : (r : Result (Unit {0}) RunError) → OnOk r ((new.greatest ≡ top_after old.greatest c.page i key) × (new.leaf ≡ old.leaf))
            → OnOk r (IsAt file (done_below file m own) marks new)
        by_ok (Ok a) h = (
          subst (λ U. AreMarksOf file U marks) (sym behind.visits) done.at.0,
          h.0 ∙ ap (λ top. top_after top c.page i key) (done.at.1 ∙ ap (λ p. p.greatest) chained) ∙ sym behind.greatest_is,
          h.1 ∙ done.at.2 ∙ ap (λ p. p.leaf) chained ∙ sym behind.leaf_is,
        )
        by_ok (Err e) h = tt

    -- the row: by the sieve that took the payload
    module _ (t t' : T) (place : RowPlace) (p : ℕ) (place_is : place ≡ row_place p i key) (page : c.page ≡ p) (e : Encoding) (coded : e ≡ encoding file)
        (r : Result (Unit {0}) RunError) (s s' : S) (new : Option RowSieve)
        (quiet : new ≡ None → (r ≡ Ok tt) × (s' ≡ s) × (t' ≡ t)) where
      abbrev Rows : List SchemaCell → Type 0
      Rows cells = Handed (watches takes keeps) (fails refuses) r (s, t) (map given cells) (s', t')

      none_handed : new ≡ None → Rows []
      none_handed none = let q = quiet none in rw (q.0, q.1, q.2) refl

      -- in other trees there is none
      no_row_handed : (start_of c.address == schema_start) ≡ false → new ≡ None → Rows rows
      no_row_handed other none = subst Rows (sym (by_cell (result_ok (cell v i)))) (none_handed none)
        where
          by_cell : (o : Option Cell) → rows_behind file m.visits c v i o ≡ []
          by_cell None = refl
          by_cell (Some x) = no_row_elsewhere file m.visits c v (i, x) other

      cell_row_handed : (start_of c.address == schema_start) ≡ true → (old : Option RowSieve) → HoldsCell old e (result_ok (cell v i))
          → AreBefore from.visits (then_step c.address (overflow_step i)) → FeedsPayload file from.visits m.visits c i old new
          → is_some new ≡ is_some old → ((size : ℕ) (e : Encoding) (bytes : List ℕ) → HasFed new size e bytes
          → ReportsRow takes keeps refuses (place, schema_row bytes size e) r (s, t) (s', t')) → Rows rows
      cell_row_handed schema old holds before fed kept reported = by_cell (result_ok (cell v i)) key_is holds
        where
          by_cell : (o : Option Cell) → key ≡ option_and_then (λ c. c.key) o → HoldsCell old e o → Rows (rows_behind file m.visits c v i o)
          by_cell None key_is h = none_handed (gone new (kept ∙ ap is_some h))
          by_cell (Some x) key_is h =
              let one : rows_of file m.visits c v (i, x) ≡ schema_cell file m.visits c (i, x) ∷ [] = rw (schema, leaf) refl in
              let here : place ≡ row_place c.page i x.key = place_is ∙ ap (λ q. row_place q i key) (sym page) ∙ ap (row_place c.page i) key_is in
              subst Rows (sym one) (row_handed takes keeps refuses r (schema_cell file m.visits c (i, x)) (s, t) (s', t')
              (rw (coded, here) at (reported x.size e _ (fed.fed x e before h))))

      -- by the start of the tree
      pub row_reported : (k : ℕ) → start_of c.address ≡ k → (old : Option RowSieve) → (k ≡ schema_start → HoldsCell old e (result_ok (cell v i)))
          → (1 ≤ k → old ≡ None)
          → AreBefore from.visits (then_step c.address (overflow_step i)) → FeedsPayload file from.visits m.visits c i old new → is_some new ≡ is_some old
          → ((size : ℕ) (e : Encoding) (bytes : List ℕ) → HasFed new size e bytes
          → ReportsRow takes keeps refuses (place, schema_row bytes size e) r (s, t) (s', t')) → Rows rows
      row_reported k start old holds other before fed kept reported = elim (cases_Bool (start_of c.address == schema_start)) [
        | inl f ↦ (let z : k ≡ schema_start = sym start ∙ eqb-true (start_of c.address) schema_start f in cell_row_handed f old
            (holds z) before fed kept reported)
        | inr f ↦ no_row_handed f (gone new (kept ∙ ap is_some (other (later start f))))
      ]
        where
          later : start_of c.address ≡ k → (start_of c.address == schema_start) ≡ false → 1 ≤ k
          later e f = grind (arith, nat_tests)

    -- the row could not be taken, or not all was reported of it
    pub row_stops : (e : RunError) (marks : List Mark) (old new : Tree) (s s' : S) (t : T) (x : S × T) → Chain (Ok tt) (marks, old) s s'
        → StopsAt (watches takes keeps) (fails refuses) e (s', t) (map given rows) x → Whole (Err e) (marks, new) (s, t) x
    row_stops e marks old new s s' t x done stops =
        own_done (Err e) marks old new s s' t x done (stop_first (watches takes keeps) (fails refuses) e (s', t) x (map given rows) key_items stops) tt

    -- the key's fault was reported, or not completely
    pub key_done : (r : Result (Unit {0}) RunError) (marks : List Mark) (old new : Tree) (s s' s'' : S) (t t' : T) (x : S × T) → Chain (Ok tt) (marks, old) s s'
        → Moves (watches takes keeps) (s', t) (map given rows) (s'', t')
        → Handed (watches takes keeps) (fails refuses) r (s'', t') key_items x
        → OnOk r ((new.greatest ≡ top_after old.greatest c.page i key) × (new.leaf ≡ old.leaf)) → Whole r (marks, new) (s, t) x
    key_done r marks old new s s' s'' t t' x done moved handed tree_is =
        own_done r marks old new s s' t x done
        (handed_after (watches takes keeps) (fails refuses) r (s', t) (s'', t') x (map given rows) key_items moved handed) tree_is

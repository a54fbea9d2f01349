-- What a taker with room for 65536 roots answers, row after row of the schema.
use Rattle.std.proofs.Common.{map, take, ◌≡◌, ℕ, ◌+◌, ◌≤◌, Bool, true, false, cond, not, ◌&&◌, inl, inr, List, [], ◌∷◌, ◌++◌, length, refl, sym, ap}
use Rattle.std.proofs.Common.{◌∙◌, arith, Some, None, Result, Ok, Err, subst, nat_lt, nat_le, ◌==◌, is_none, pos, if◌then◌else◌, OnOk}
use Rattle.dbwalk.proofs.Common.{Moves, Stops, MovesBySome, Go, schema_start, start_of, fault, Reference, SchemaCell, schema, SchemaRow, reported_if, RunError}
use Rattle.dbwalk.proofs.Common.{OutOfMemory, Finding, reported_alone, visited_below, Item, found, given, given_cells, counted_findings}
use Rattle.dbwalk.proofs.Common.{Mark, IsDone, IsTreeDone, Reports, tree_walk, watches, fails, row_at, Handed, Taken, result_ok, cases_Bool, eqb-true}
use Rattle.dbwalk.proofs.Common.{nat_tests, append-nil, length-append, length-map, Moves-append, some_none, some_after}
use Rattle.std.specs.List.{cons_option}
use Rattle.std.proofs.lemmas.Bool.{eq-eqb}
use Rattle.std.proofs.lemmas.List.{take_all, length-take-le, map-append, take-append-le}
use Rattle.std.proofs.lemmas.List.Elements.{filter_map-append}
use Rattle.dbformat.specs.Address.{last_root_start}
use Rattle.dbformat.specs.KeyFaults.{row_faults_if}
use Rattle.dbformat.specs.Schema.{rooted_rows}
use Rattle.dbformat.specs.declared.FaultCode.TheVariants.{S02, S04}
use Rattle.dbformat.specs.declared.RowFault.{RowFault}
use Rattle.dbtrace.specs.Item.{readable}
use Rattle.dbtrace.specs.Starts.{AreOfEarlierStarts}
use Rattle.dbtrace.proofs.Folding.{is_fold}
use Rattle.dbwalk.specs.Taking.{answer_to, held_after, is_full, HasRootRoom, StartsEmpty, roots_after, ListTakes, first_roots, gives, readable_rows, fault_of}
use Rattle.dbwalk.specs.Taking.{HandsRow, FailsRow}
use Rattle.dbwalk.specs.Reporting.{findings}

-- how many roots it holds after this many rows with a root
abbrev pub held_of : ℕ → ℕ
held_of roots = if nat_le last_root_start roots then last_root_start else roots

-- it has room exactly if fewer than 65536 came
has_room : (roots : ℕ) → nat_lt (held_of roots) last_root_start ≡ not (nat_le last_root_start roots)
has_room roots = grind (arith, nat_tests)

-- Full is the answer to a root exactly if 65536 came before
pub full_is : (roots root : ℕ) → is_full (answer_to (held_of roots) root) ≡ (not (root == 0) && nat_le last_root_start roots)
full_is roots root = let room = has_room roots in grind (arith, nat_tests)

-- one row more
pub held_more : (roots root : ℕ) → held_after (held_of roots) root ≡ held_of (roots + cond (root == 0) 0 1)
held_more roots root = grind (arith, nat_tests)

-- What a taker answers to the row of a cell is what is reported of it: S04 if it answers Full.
module _ {T : Type 0} (takes : T → SchemaRow → Taken → T → Type 0) (held : T → ℕ) (room : HasRootRoom takes held) (s t : T) (row : SchemaRow) (a : Taken)
    (taken : takes s row a t) (roots : ℕ) (at : held s ≡ held_of roots) where
  pub answer_full : is_full a ≡ (not (row.root == 0) && nat_le last_root_start roots)
  answer_full = ap is_full (room.answers s t row a taken ∙ ap (λ n. answer_to n row.root) at) ∙ full_is roots row.root

  pub held_next : held t ≡ held_of (roots + cond (row.root == 0) 0 1)
  held_next = room.counts s t row a taken ∙ ap (λ n. held_after n row.root) at ∙ held_more roots row.root

-- a list of roots is such a taker
pub list_has_room : {E : Type 0} (entry : SchemaRow → E) → HasRootRoom (ListTakes entry) length
list_has_room {E} entry = record {
  answers = λ s t row a h. h.0;
  counts = λ s t row a h. ap length h.1 ∙ by_root s row (row.root == 0) (nat_lt (length s) last_root_start);
}
  where
    by_root : (s : List E) (row : SchemaRow) (b c : Bool) → length (cond b s (cond c (s ++ entry row ∷ []) s))
        ≡ cond b (length s) (cond c (length s + 1) (length s))
    by_root s row b c = grind (arith, length-append)

module _ {E : Type 0} (entry : SchemaRow → E) (rows : List SchemaRow) where
  is_room : nat_le last_root_start (length rows) ≡ false → length rows + 1 ≤ 65536
  is_room e = grind (arith, nat_tests)

  is_full_there : nat_le last_root_start (length rows) ≡ true → 65536 ≤ length rows
  is_full_there e = grind (arith, nat_tests)

  -- it holds as many as came, and 65536 at most
  pub first_count : length (first_roots entry rows) ≡ held_of (length rows)
  first_count = length-map (take last_root_start rows) entry ∙ elim (cases_Bool (nat_le last_root_start (length rows))) [
    | inl e ↦ length-take-le last_root_start rows (is_full_there e) ∙ sym (ap (λ b. cond b last_root_start (length rows)) e)
    | inr e ↦ (let l : length rows ≤ 65536 = omega (arith, is_room e) in ap length (take_all last_root_start rows l)
        ∙ sym (ap (λ b. cond b last_root_start (length rows)) e))
  ]

  -- a row more
  pub first_more : (row : SchemaRow) → roots_after entry (first_roots entry rows) row ≡ first_roots entry (rows ++ cond (row.root == 0) [] (row ∷ []))
  first_more row = by_root (row.root == 0)
    where
      by_room : (b : Bool) → nat_le last_root_start (length rows) ≡ b → cond (not b) (first_roots entry rows ++ entry row ∷ []) (first_roots entry rows)
          ≡ first_roots entry (rows ++ row ∷ [])
      by_room true e = ap (map entry) (sym (take-append-le last_root_start rows (row ∷ []) (is_full_there e)))
      by_room false e =
          let l : length rows ≤ 65536 = omega (arith, is_room e) in
          let m : length (rows ++ row ∷ []) ≤ 65536 = let k : length (rows ++ row ∷ []) ≡ length rows + 1 =
          length-append rows (row ∷ []) in omega (arith, k, is_room e) in
          ap (λ xs. map entry xs ++ entry row ∷ []) (take_all last_root_start rows l) ∙ sym (map-append entry rows (row ∷ []))
          ∙ ap (map entry) (sym (take_all last_root_start (rows ++ row ∷ []) m))

      by_root : (b : Bool) → cond b (first_roots entry rows)
          (cond (nat_lt (length (first_roots entry rows)) last_root_start) (first_roots entry rows ++ entry row ∷ []) (first_roots entry rows))
          ≡ first_roots entry (rows ++ cond b [] (row ∷ []))
      by_root true = ap (first_roots entry) (sym (append-nil rows))
      by_root false = ap (λ n. cond (nat_lt n last_root_start) (first_roots entry rows ++ entry row ∷ []) (first_roots entry rows)) first_count
          ∙ ap (λ c. cond c (first_roots entry rows ++ entry row ∷ []) (first_roots entry rows)) (has_room (length rows))
          ∙ by_room (nat_le last_root_start (length rows)) refl

-- A taker that has this room, and that holds as many as came, 65536 at most: what is reported of a row is by the count.

module _ {S T : Type 0} (keeps : T → SchemaRow → Taken → T → Type 0) (held : T → ℕ) (room : HasRootRoom keeps held) (reports : S → List Finding → S → Type 0)
    (roots : ℕ) (c : SchemaCell) (w x : S × T) (holds : held w.1 ≡ held_of roots) where
  -- reported, taken, and held
  abbrev IsCounted : SchemaCell → Type 0
  IsCounted c = reports w.0 (map reported_alone (row_faults_if (nat_le last_root_start roots) c)) x.0 × Moves (gives keeps) w.1 (readable (c ∷ [])) x.1
      × (held x.1 ≡ held_of (roots + length (rooted_rows (c ∷ []))))

  abbrev with_row : Result SchemaRow RowFault → SchemaCell
  with_row row = record { place = c.place; page = c.page; item = c.item; rowid = c.rowid; row = row }

  row_counted : HandsRow reports keeps (row_at c) w x → IsCounted c
  row_counted h = by_row c.row h
    where
      bad_row : (f : RowFault) → fault_of (row_at c).0 f ∷ [] ≡ row_faults_if (nat_le last_root_start roots) (with_row (Err f))
      bad_row f = grind arith

      by_root : (row : SchemaRow) (b : Bool) → cond b 0 1 ≡ length (cons_option (cond b None (Some row)) [])
      by_root row b = grind arith

      by_row : (row : Result SchemaRow RowFault) → HandsRow reports keeps ((row_at c).0, row) w x → IsCounted (with_row row)
      by_row (Err f) h = let z : roots ≡ roots + 0 = omega arith in
          (subst (λ fs. reports w.0 (map reported_alone fs) x.0) (bad_row f) h.0, h.1, ap held (sym h.1) ∙ holds ∙ ap held_of z)
      by_row (Ok row) h = (
        subst (λ b. reports w.0 (findings (reported_if (is_none row.name) (fault S02 c.page c.item c.rowid)
            ++ reported_if b (fault S04 c.page c.item (pos row.root))))
            x.0) (answer_full keeps held room w.1 x.1 row h.0 h.1 roots holds) h.2,
        (x.1, (h.0, h.1), refl),
        held_next keeps held room w.1 x.1 row h.0 h.1 roots holds ∙ ap (λ n. held_of (roots + n)) (by_root row (row.root == 0)),
      )

-- and so what is reported of items

module _ {S T : Type 0} (takes : S → Finding → S → Type 0) (keeps : T → SchemaRow → Taken → T → Type 0) (refuses : T → SchemaRow → T → Type 0)
    (held : T → ℕ) (room : HasRootRoom keeps held) where
  abbrev faults_of : ℕ → SchemaCell → List Finding
  faults_of roots c = map reported_alone (row_faults_if (nat_le last_root_start roots) c)

  abbrev more : ℕ → SchemaCell → ℕ
  more roots c = roots + length (rooted_rows (c ∷ []))

  pub counted_moves : (roots : ℕ) (items : List Item) (w x : S × T) → held w.1 ≡ held_of roots → Moves (watches takes keeps) w items x
      → Moves takes w.0 (counted_findings roots items) x.0 × Moves (gives keeps) w.1 (readable (given_cells items)) x.1
  counted_moves roots [] w x holds e = (ap (λ p. p.0) e, ap (λ p. p.1) e)
  counted_moves roots (found f ∷ items) w x holds h =
      let k = counted_moves roots items h.0 x (ap held (sym h.1.1) ∙ holds) h.2 in
      ((h.0.0, h.1.0, k.0), subst (λ t. Moves (gives keeps) t (readable (given_cells items)) x.1) (sym h.1.1) k.1)
  counted_moves roots (given c ∷ items) w x holds h =
      let o = row_counted keeps held room (Moves takes) roots c w h.0 holds h.1 in
      let k = counted_moves (more roots c) items h.0 x o.2 h.2 in (
        Moves-append takes w.0 h.0.0 x.0 (faults_of roots c) (counted_findings (more roots c) items) o.0 k.0,
        subst (λ rows. Moves (gives keeps) w.1 rows x.1) (sym (filter_map-append (λ c. result_ok c.row) (c ∷ []) (given_cells items)))
            (Moves-append (gives keeps) w.1 h.0.1 x.1 (readable (c ∷ [])) (readable (given_cells items)) o.1 k.1),
      )

  counted_some : (roots : ℕ) (items : List Item) (w x : S × T) → held w.1 ≡ held_of roots → MovesBySome (watches takes keeps) w items x
      → MovesBySome takes w.0 (counted_findings roots items) x.0
  counted_some roots [] w x holds e = ap (λ p. p.0) e
  counted_some roots (found f ∷ items) w x holds (inl e) = inl (ap (λ p. p.0) e)
  counted_some roots (found f ∷ items) w x holds (inr h) = inr (h.0.0, h.1.0, counted_some roots items h.0 x (ap held (sym h.1.1) ∙ holds) h.2)
  counted_some roots (given c ∷ items) w x holds (inl e) =
      subst (λ s. MovesBySome takes w.0 (counted_findings roots (given c ∷ items)) s) (ap (λ p. p.0) e)
      (some_none takes w.0 (counted_findings roots (given c ∷ items)))
  counted_some roots (given c ∷ items) w x holds (inr h) =
      let o = row_counted keeps held room (Moves takes) roots c w h.0 holds h.1 in
      some_after takes w.0 h.0.0 x.0 (faults_of roots c) (counted_findings (more roots c) items) o.0 (counted_some (more roots c) items h.0 x o.2 h.2)

  counted_refused : (roots : ℕ) (items : List Item) (w x : S × T) → held w.1 ≡ held_of roots
      → Stops (watches takes keeps) (fails refuses) w items x → MovesBySome takes w.0 (counted_findings roots items) x.0
  counted_refused roots [] w x holds h = absurd h
  counted_refused roots (found f ∷ items) w x holds (inl h) = absurd h
  counted_refused roots (found f ∷ items) w x holds (inr h) = inr (h.0.0, h.1.0, counted_refused roots items h.0 x (ap held (sym h.1.1) ∙ holds) h.2)
  counted_refused roots (given c ∷ items) w x holds (inl h) =
      subst (λ s. MovesBySome takes w.0 (counted_findings roots (given c ∷ items)) s) (same c.row h)
      (some_none takes w.0 (counted_findings roots (given c ∷ items)))
    where
      same : (row : Result SchemaRow RowFault) → FailsRow refuses OutOfMemory ((row_at c).0, row) w x → w.0 ≡ x.0
      same (Ok row) h = h.1
      same (Err f) h = absurd h
  counted_refused roots (given c ∷ items) w x holds (inr h) =
      let o = row_counted keeps held room (Moves takes) roots c w h.0 holds h.1 in
      some_after takes w.0 h.0.0 x.0 (faults_of roots c) (counted_findings (more roots c) items) o.0 (counted_refused (more roots c) items h.0 x o.2 h.2)

  -- from a taker that holds none
  pub counted_reported : {A : Type 0} (r : Result A RunError) (items : List Item) (w x : S × T) → held w.1 ≡ 0
      → Handed (watches takes keeps) (fails refuses) r w items x → Reports takes r w.0 (counted_findings 0 items) x.0
  counted_reported (Ok a) items w x none h = (counted_moves 0 items w x none h).0
  counted_reported (Err OutOfMemory) items w x none h = counted_refused 0 items w x none h
  counted_reported (Err _) items w x none h = counted_some 0 items w x none h

-- The walk over a tree with such a taker reports what the definitions report; and if the tree is the schema's, the taker was
-- given the rows that can be read.
module _ {S T : Type 0} (takes : S → Finding → S → Type 0) (keeps : T → SchemaRow → Taken → T → Type 0) (refuses : T → SchemaRow → T → Type 0)
    (file : List ℕ) (k : ℕ) (W : List Reference) (c : Reference)
    (at : c.address ≡ k ∷ []) (early : AreOfEarlierStarts k W) (r : Result (Unit {0}) RunError) (marks : List Mark) (before after : S × T)
    (done : IsTreeDone takes keeps refuses file W c r marks before after)
    (held : T → ℕ) (empty : start_of c.address ≡ schema_start → StartsEmpty keeps held before.1) where
  pub tree_reported : IsDone takes file W (Go c ∷ []) r marks before.0 after.0
  tree_reported = record {
    marked = done.marked;
    reported = elim (cases_Bool (start_of c.address == schema_start)) [
      | inl e ↦ (let first = empty (eqb-true (start_of c.address) schema_start e) in subst (λ L. Reports takes r before.0 L after.0)
          ((is_fold file).findings_are k W c at early)
          (counted_reported takes keeps refuses held first.room r (tree_walk file W c).items before after first.none done.handed))
      | inr e ↦ done.others (later (start_of c.address) e)
    ];
  }
    where
      later : (n : ℕ) → (n == schema_start) ≡ false → 1 ≤ n
      later n e = grind (arith, nat_tests)

  pub tree_given : start_of c.address ≡ schema_start
      → OnOk r (Moves (gives keeps) before.1 (readable_rows file (W ++ visited_below file W (Go c ∷ []))) after.1)
  tree_given e = by_result r done.handed
    where
      by_result : (r : Result (Unit {0}) RunError) → Handed (watches takes keeps) (fails refuses) r before (tree_walk file W c).items after
          → OnOk r (Moves (gives keeps) before.1 (readable_rows file (W ++ visited_below file W (Go c ∷ []))) after.1)
      by_result (Ok u) h = subst (λ cells. Moves (gives keeps) before.1 (readable cells) after.1)
          ((is_fold file).rows_are k W c at early ∙ ap (λ b. cond b (schema file (W ++ visited_below file W (Go c ∷ []))) [])
          (eq-eqb k schema_start (sym (ap start_of at) ∙ e)))
          (counted_moves takes keeps refuses held (empty e).room 0 (tree_walk file W c).items before after (empty e).none h).1
      by_result (Err x) h = tt

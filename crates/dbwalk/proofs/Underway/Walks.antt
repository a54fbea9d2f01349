-- What a call of the walk over a tree keeps, call after call.
use Rattle.std.proofs.Common.{◌≡◌, ℕ, zero, suc, ◌≤◌, inl, inr, Result, Ok, Err, refl, sym, ap, subst, ◌∙◌, arith, IfErr}
use Rattle.dbwalk.proofs.Common.{is_read_failed, failures_after, SourceState, RunError, IsReadOrWrite, IsWriteOrMemory, SinkWalks, SinkState, IsTreeError}
use Rattle.dbwalk.proofs.Common.{Walked, Tree, Geometry}
use Rattle.dbsource.specs.Errors.{is_out_of_memory}
use Rattle.dbwalk.specs.Reporting.{IsReadWriteOrMemory}
use Rattle.dbwalk.proofs.Reporting.Sinks.{asked, asked_both, asked_walks, walks_after, walks_as, walks_ok}
use Rattle.dbwalk.specs.declared.tree_walk.TreeWalk.{TreeWalk}

-- what is no error of memory is one of the walk over any tree
pub tree_error : (start : ℕ) (e : RunError) → IsWriteOrMemory e → (1 ≤ start → ⊥) → IsTreeError start e
tree_error start e (inl w) none = inl (inr w)
tree_error zero e (inr m) none = inr (m, refl)
tree_error (suc n) e (inr m) none = absurd (none (omega arith))

-- no error of a sink or of memory is one of the source
pub unread : {e : RunError} {m n : ℕ} → IsWriteOrMemory e → n ≡ m → n ≡ failures_after {A = Unit {0}} is_read_failed (Err e) m
unread (inl w) h = rw w h
unread (inr m) h = rw m h

pub none_refused : {A : Type 0} (r : Result A RunError) (n : ℕ) → IfErr r IsReadOrWrite → n ≡ failures_after is_out_of_memory r n
none_refused r n h = grind arith

pub read_or_write : {A : Type 0} (start : ℕ) (r : Result A RunError) → IfErr r IsReadOrWrite → IfErr r (IsTreeError start)
read_or_write start (Ok a) h = tt
read_or_write start (Err e) h = inl h

pub with_memory : {A : Type 0} (start : ℕ) (r : Result A RunError) → IfErr r (IsTreeError start) → IfErr r IsReadWriteOrMemory
with_memory start (Ok a) h = tt
with_memory start (Err e) (inl h) = inl h
with_memory start (Err e) (inr h) = inr h.0

pub without_memory : {A : Type 0} (start : ℕ) (r : Result A RunError) → 1 ≤ start → IfErr r (IsTreeError start) → IfErr r IsReadOrWrite
without_memory start (Ok a) l h = tt
without_memory start (Err e) l (inl h) = h
without_memory start (Err e) l (inr h) = let z = h.1 in absurd (omega arith)

-- a walk that borrows the same, over the same tree
abbrev pub IsSame : {A S K T : Type 0} → TreeWalk A S K T → TreeWalk A S K T → Type 0
IsSame old new = (new.source.ghost_name ≡ old.source.ghost_name) × (new.marks.ghost_name ≡ old.marks.ghost_name) × (new.taker.ghost_name ≡ old.taker.ghost_name)
    × (new.sink.ghost_name ≡ old.sink.ghost_name)
    × (new.encoding ≡ old.encoding) × (new.tree.start ≡ old.tree.start) × (new.tree.kind ≡ old.tree.kind)

module _ {A S K T : Type 0} {told : S → SourceState} {held : K → SinkState} {refusals : T → ℕ} where
  pub walked_by : {R : Type 0} {r : Result R RunError} {g h : Geometry} {old new : TreeWalk A S K T} → IsSame old new → h ≡ g → (told new.source.now).failures
      ≡ failures_after is_read_failed r (told old.source.now).failures
      → SinkWalks r (held old.sink.now) (held new.sink.now) → refusals new.taker.now
      ≡ failures_after is_out_of_memory r (refusals old.taker.now) → IfErr r (IsTreeError old.tree.start)
      → (1 ≤ old.tree.start → new.taker.now ≡ old.taker.now)
      → Walked told held refusals r g h old new
  walked_by same shape reads writes refused only others = record {
    source = same.0;
    marks = same.1;
    taker = same.2;
    sink = same.3;
    coded = same.4;
    shape = shape;
    start = same.5;
    kind = same.6;
    reads = reads;
    writes = writes;
    refused = refused;
    only = only;
    others = others;
  }

  -- it borrows the same
  same_of : {R : Type 0} {r : Result R RunError} {g h : Geometry} {old new : TreeWalk A S K T} → Walked told held refusals r g h old new → IsSame old new
  same_of w = (w.source, w.marks, w.taker, w.sink, w.coded, w.start, w.kind)

  -- the same error, of a call that answers something else
  pub walked_as : {R Q : Type 0} {r : Result Q RunError} {e : RunError} {g g' : Geometry} {old new : TreeWalk A S K T} → r ≡ Err e
      → Walked {R = R} told held refusals (Err e) g g' old new → Walked told held refusals r g g' old new
  walked_as {g = g} {g' = g'} {old = old} {new = new} q w =
      subst (λ r. Walked told held refusals r g g' old new) (sym q)
      (walked_by (same_of w) w.shape w.reads (walks_as refl w.writes) w.refused w.only w.others)

  -- an error of the source or of the sink
  pub walked_err : {R : Type 0} {r : Result R RunError} {e : RunError} {g h : Geometry} {old new : TreeWalk A S K T} → r ≡ Err e → IsReadOrWrite e
      → IsSame old new → h ≡ g → (told new.source.now).failures ≡ failures_after {A = Unit {0}} is_read_failed (Err e) (told old.source.now).failures
      → SinkWalks {A = Unit {0}} (Err e) (held old.sink.now) (held new.sink.now) → refusals new.taker.now ≡ refusals old.taker.now
      → (1 ≤ old.tree.start → new.taker.now ≡ old.taker.now) → Walked told held refusals r g h old new
  walked_err {e = e} q only same shape reads writes kept others = walked_as {R = Unit {0}} q
      (walked_by same shape reads writes (kept ∙ none_refused {A = Unit {0}} (Err e) _ only) (inl only) others)

  -- the same where there is no error
  pub walked_as_ok : {R Q : Type 0} {a : R} {b : Q} {g g' : Geometry} {old new : TreeWalk A S K T} → Walked told held refusals (Ok a) g g' old new
      → Walked told held refusals (Ok b) g g' old new
  walked_as_ok w = walked_by (same_of w) w.shape w.reads (walks_ok w.writes.moves) w.refused tt w.others

  -- all was done, and the sink is asked at the end
  pub walked_asked : {R : Type 0} {a : R} {r : Result (Unit {0}) RunError} {g h : Geometry} {old new : TreeWalk A S K T}
      → r ≡ asked (held new.sink.now).is_shut → Walked told held refusals (Ok a) g h old new → Walked told held refusals r g h old new
  walked_asked {old = old} {new = new} e w =
      let shut = (held new.sink.now).is_shut in
      walked_by (same_of w) w.shape
      (asked_both (λ r. (told new.source.now).failures ≡ failures_after is_read_failed r (told old.source.now).failures) shut e w.reads w.reads)
      (asked_walks e w.writes.moves)
      (asked_both (λ r. refusals new.taker.now ≡ failures_after is_out_of_memory r (refusals old.taker.now)) shut e w.refused w.refused)
      (asked_both (λ r. IfErr r (IsTreeError old.tree.start)) shut e tt (inl (inr refl))) w.others

  -- a call after another
  pub walked_behind : {R Q : Type 0} {a : R} {r : Result Q RunError} {g h k : Geometry} {old mid new : TreeWalk A S K T}
      → Walked told held refusals r h k mid new → Walked told held refusals (Ok a) g h old mid → Walked told held refusals r g k old new
  walked_behind {r = r} {new = new} v w = record {
    source = v.source ∙ w.source;
    marks = v.marks ∙ w.marks;
    taker = v.taker ∙ w.taker;
    sink = v.sink ∙ w.sink;
    coded = v.coded ∙ w.coded;
    shape = v.shape ∙ w.shape;
    start = v.start ∙ w.start;
    kind = v.kind ∙ w.kind;
    reads = v.reads ∙ ap (failures_after is_read_failed r) w.reads;
    writes = walks_after v.writes w.writes.moves;
    refused = v.refused ∙ ap (failures_after is_out_of_memory r) w.refused;
    only = subst (λ n. IfErr r (IsTreeError n)) w.start v.only;
    others = λ l. v.others (subst (λ n. 1 ≤ n) (sym w.start) l) ∙ w.others l;
  }

  -- the tree's state moves on
  pub walked_tree : {R : Type 0} {r : Result R RunError} {g h : Geometry} {old new : TreeWalk A S K T} {tree : Tree} → tree.start ≡ new.tree.start → tree.kind
      ≡ new.tree.kind → Walked told held refusals r g h old new → Walked told held refusals r g h old (record new { tree = tree })
  walked_tree start kind w = walked_by (w.source, w.marks, w.taker, w.sink, w.coded, start ∙ w.start, kind ∙ w.kind) w.shape w.reads w.writes w.refused w.only
      w.others

-- What the reporter of the statistics writes of what it receives, notice after notice.
use Rattle.dbreport.proofs.Common.{◌≡◌, ℕ, ◌⊎◌, inl, inr, Bool, false, not, List, [], ◌∷◌, ◌++◌, Result, Ok, Err, refl, sym, ◌∙◌, subst, arith, append-nil}
use Rattle.dbreport.proofs.Common.{OnOk, Moves, Stops, MovesBySome, fault_line, StatRow, Fault, Begins, OutState, RunError, Reports, Notice, received_fault}
use Rattle.dbreport.proofs.Common.{received_row, ended, marked, tree_end_text, pages_text, CutsStat, HasBegun, HasWritten, ReceivesOpen, ReceivesStat}
use Rattle.dbreport.proofs.Common.{IsFlushedIf, WritesBoth, name_at, Form, StatReporter, Appends, begins_more, appends_nothing, other_text, sums_of}
use Rattle.dbreport.proofs.Common.{kept_appends, At, CutsStatFault, IsSameReporter, TakesFault}
use Rattle.dbformat.specs.declared.Encoding.{Encoding}
use Rattle.dbscan.specs.Notices.{faults_received}
use Rattle.dbreport.proofs.Flushed.{keeps_begins, kept_if}
use Rattle.dbreport.proofs.StatShut.{all_open, some_open}
use Rattle.dbreport.proofs.StatWrites.{begun_first, begun_none, begun_then, written_none, written_then}

-- it stopped, by an error or at one
abbrev Cut : {S I : Type 0} → (S → I → S → Type 0) → (S → I → S → Type 0) → S → List I → S → Type 0
Cut move fail s items t = MovesBySome move s items t ⊎ Stops move fail s items t

cut_none : {S I : Type 0} (move fail : S → I → S → Type 0) (s t : S) → Cut move fail s [] t → s ≡ t
cut_none move fail s t (inl e) = e
cut_none move fail s t (inr h) = absurd h

-- before the first item, in it, or after it
cut_first : {S I : Type 0} (move fail : S → I → S → Type 0) (s : S) (i : I) (L : List I) (t : S) → Cut move fail s (i ∷ L) t → (s ≡ t) ⊎ fail s i t
    ⊎ ((m : S) × move s i m × Cut move fail m L t)
cut_first move fail s i L t (inl (inl e)) = inl e
cut_first move fail s i L t (inl (inr h)) = inr (inr (h.0, h.1, inl h.2))
cut_first move fail s i L t (inr (inl h)) = inr (inl h)
cut_first move fail s i L t (inr (inr h)) = inr (inr (h.0, h.1, inr h.2))

-- how lines are written between two notices: in which form, with which encoding and size of a page, and after which rows of the
-- same tree
pub record Sheet : Type 0 where
  pub form : Form
  pub encoding : Encoding
  pub size : ℕ
  pub rows : List StatRow

-- the bytes that are put to the first Out at a notice
abbrev pub lines : Sheet → Notice → List ℕ
lines p (received_fault x) = []
lines p (received_row at r) = pages_text p.form.aggregate (name_at p.encoding at) p.size (r ∷ [])
lines p (ended at) = tree_end_text p.form.aggregate (name_at p.encoding at) p.size p.rows
lines p (marked g q mark) = other_text p.form.all g q mark

-- and how they are written after it
abbrev pub next : Sheet → Notice → Sheet
next p (received_fault x) = p
next p (received_row at r) = record p { rows = p.rows ++ r ∷ [] }
next p (ended at) = record p { rows = [] }
next p (marked g q mark) = p

abbrev pub all_lines : Sheet → List Notice → List ℕ
all_lines p [] = []
all_lines p (n ∷ ns) = lines p n ++ all_lines (next p n) ns

abbrev faults_of : List Notice → List Fault
faults_of ns = faults_received ns

one_more : (n : Notice) (ns : List Notice) → faults_of (n ∷ []) ++ faults_of ns ≡ faults_of (n ∷ ns)
one_more n ns = grind arith

module _ {O E : Type 0} (held : O → OutState) (held' : E → OutState) where
  abbrev all : StatReporter O E → Notice → StatReporter O E → Type 0
  all = ReceivesStat held held'

  abbrev part : StatReporter O E → Notice → StatReporter O E → Type 0
  part = CutsStat held held'

  -- it writes so
  pub record IsOn (p : Sheet) (s : StatReporter O E) : Type 0 where
    pub form : s.form ≡ p.form
    pub encoding : s.encoding ≡ p.encoding
    pub size : s.page_size ≡ p.size
    pub summed : s.sums ≡ sums_of p.rows

  -- ---- one fault

  fault_written : (s m : StatReporter O E) (f : Fault) → TakesFault held held' s f m → HasWritten held held' s m [] (f ∷ [])
  fault_written s m f a = record {
    form = a.same.form;
    encoding = a.same.encoding;
    page_size = a.same.page_size;
    found = λ n e. omega (arith, a.found);
    out = kept_appends (held s.out.now).bytes (held m.out.now).bytes (held m.out.now).bytes [] a.out.kept (appends_nothing (held m.out.now).bytes);
    err = subst (λ l. Appends (held' s.err.now).bytes (held' m.err.now).bytes l) (sym (append-nil (fault_line f))) a.puts.held;
  }

  fault_begun : (s t : StatReporter O E) (f : Fault) → CutsStatFault held held' s f t → HasBegun held held' s t [] (f ∷ [])
  fault_begun s t f a = record {
    out = keeps_begins (held s.out.now).bytes (held t.out.now).bytes [] a.out;
    err = begins_more (held' s.err.now).bytes (held' t.err.now).bytes (fault_line f) [] (fault_line f ++ []) refl a.err;
  }

  -- ---- rows alone: no fault is counted, and the other Out has the bytes that it had

  rows_written : (flushed : Bool) (s m : StatReporter O E) (text : List ℕ) → IsSameReporter s m → m.found ≡ s.found
      → IsFlushedIf flushed (held' s.err.now) (held' m.err.now)
      → Appends (held s.out.now).bytes (held m.out.now).bytes text → HasWritten held held' s m text []
  rows_written flushed s m text same as_many err out = record {
    form = same.form;
    encoding = same.encoding;
    page_size = same.page_size;
    found = λ n e. omega arith;
    out = out;
    err = kept_appends (held' s.err.now).bytes (held' m.err.now).bytes (held' m.err.now).bytes [] (kept_if flushed (held' s.err.now) (held' m.err.now) err)
        (appends_nothing (held' m.err.now).bytes);
  }

  -- ---- one notice

  module _ (p : Sheet) (s : StatReporter O E) (on : IsOn p s) where
    by_sheet : (P : List ℕ → Type 0) (f : Bool → List ℕ → ℕ → List ℕ) (at : At) → P (f s.form.aggregate (name_at s.encoding at) s.page_size)
        → P (f p.form.aggregate (name_at p.encoding at) p.size)
    by_sheet P f at h =
        subst (λ (a : Form). P (f a.aggregate (name_at p.encoding at) p.size)) on.form
        (subst (λ e. P (f s.form.aggregate (name_at e at) p.size)) on.encoding (subst (λ z. P (f s.form.aggregate (name_at s.encoding at) z)) on.size h))

    -- after a notice that changes at most the rows of the tree
    on_same : (m : StatReporter O E) → IsSameReporter s m → (rows : List StatRow) → m.sums ≡ sums_of rows → IsOn (record p { rows = rows }) m
    on_same m same rows e = record { form = same.form ∙ on.form; encoding = same.encoding ∙ on.encoding; size = same.page_size ∙ on.size; summed = e }

    one_written : (n : Notice) (m : StatReporter O E) → all s n m → HasWritten held held' s m (lines p n) (faults_of (n ∷ [])) × IsOn (next p n) m
    one_written (received_fault x) m a = (fault_written s m x.fault a, on_same m a.same p.rows (a.sums ∙ on.summed))
    one_written (received_row at r) m a = (
      rows_written (not s.form.aggregate) s m (lines p (received_row at r)) a.same a.found a.err
          (by_sheet (Appends (held s.out.now).bytes (held m.out.now).bytes) (λ form name size. pages_text form name size (r ∷ [])) at a.puts.held),
      on_same m a.same (p.rows ++ r ∷ []) (a.sums p.rows on.summed),
    )
    one_written (ended at) m a = (
      rows_written s.form.aggregate s m (lines p (ended at)) a.same a.found a.err
          (by_sheet (Appends (held s.out.now).bytes (held m.out.now).bytes) (λ form name size. tree_end_text form name size p.rows) at
          (a.writes p.rows on.summed)),
      on_same m a.same [] a.sums,
    )
    one_written (marked g q mark) m a = (
      rows_written s.form.all s m (lines p (marked g q mark)) a.same a.found a.err
          (subst (λ (form : Form). Appends (held s.out.now).bytes (held m.out.now).bytes (other_text form.all g q mark)) on.form a.writes),
      on_same m a.same p.rows (a.sums ∙ on.summed),
    )

    one_begun : (n : Notice) (t : StatReporter O E) → part s n t → HasBegun held held' s t (lines p n) (faults_of (n ∷ []))
    one_begun (received_fault x) t a = fault_begun s t x.fault a
    one_begun (received_row at r) t a = record {
      out = by_sheet (Begins (held s.out.now).bytes (held t.out.now).bytes) (λ form name size. pages_text form name size (r ∷ [])) at a.out;
      err = keeps_begins (held' s.err.now).bytes (held' t.err.now).bytes [] a.err;
    }
    one_begun (ended at) t a = record {
      out = by_sheet (Begins (held s.out.now).bytes (held t.out.now).bytes) (λ form name size. tree_end_text form name size p.rows) at
          (a.writes p.rows on.summed);
      err = keeps_begins (held' s.err.now).bytes (held' t.err.now).bytes [] a.kept;
    }
    one_begun (marked g q mark) t a = record {
      out = subst (λ (form : Form). Begins (held s.out.now).bytes (held t.out.now).bytes (other_text form.all g q mark)) on.form a.writes;
      err = keeps_begins (held' s.err.now).bytes (held' t.err.now).bytes [] a.kept;
    }

  -- ---- notice after notice

  all_written : (p : Sheet) (ns : List Notice) (s t : StatReporter O E) → IsOn p s → Moves all s ns t
      → HasWritten held held' s t (all_lines p ns) (faults_of ns)
  all_written p [] s t on h = subst (λ u. HasWritten held held' s u [] []) h (written_none held held' s)
  all_written p (n ∷ ns) s t on h =
      let one = one_written p s on n h.0 h.1 in
      subst (λ fs. HasWritten held held' s t (all_lines p (n ∷ ns)) fs) (one_more n ns)
      (written_then held held' s h.0 t (lines p n) (all_lines (next p n) ns) (faults_of (n ∷ [])) (faults_of ns) one.0
      (all_written (next p n) ns h.0 t one.1 h.2))

  some_written : (p : Sheet) (ns : List Notice) (s t : StatReporter O E) → IsOn p s → Cut all part s ns t
      → HasBegun held held' s t (all_lines p ns) (faults_of ns)
  some_written p [] s t on h = begun_none held held' s t [] [] (cut_none all part s t h)
  some_written p (n ∷ ns) s t on h =
      subst (λ fs. HasBegun held held' s t (all_lines p (n ∷ ns)) fs) (one_more n ns)
      (elim (cut_first all part s n ns t h) [
        | inl e ↦ begun_none held held' s t (all_lines p (n ∷ ns)) (faults_of (n ∷ []) ++ faults_of ns) e
        | inr (inl c) ↦ begun_first held held' s t (lines p n) (all_lines (next p n) ns) (faults_of (n ∷ [])) (faults_of ns) (one_begun p s on n t c)
        | inr (inr k) ↦ (
            let one = one_written p s on n k.0 k.1 in
            begun_then held held' s k.0 t (lines p n) (all_lines (next p n) ns) (faults_of (n ∷ [])) (faults_of ns) one.0
            (some_written (next p n) ns k.0 t one.1 k.2))
      ])

  -- the reporter was open before them; and after them, if nothing stopped the run
  pub notices_written : {A : Type 0} (r : Result A RunError) (p : Sheet) (ns : List Notice) (s t : StatReporter O E) → IsOn p s → s.is_shut ≡ false
      → OnOk r (t.is_shut ≡ false) → Reports (ReceivesOpen held held') r s ns t → WritesBoth held held' r s t (all_lines p ns) (faults_of ns)
  notices_written (Ok a) p ns s t on first last h = all_written p ns s t on (all_open held held' ns s t first last h)
  notices_written (Err e) p ns s t on first last h = some_written p ns s t on (some_open held held' ns s t first h)

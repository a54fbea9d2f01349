-- What the reporter of the statistics has written, one part after another.
use Rattle.dbreport.proofs.Common.{◌≡◌, ℕ, ◌+◌, List, [], ◌++◌, length, refl, sym, ◌∙◌, subst, arith, length-append, flat_map, fault_line, Fault, OutState}
use Rattle.dbreport.proofs.Common.{HasWritten, HasBegun, StatReporter, Appends, flat_map-append, appends_nothing, begins_nothing, begins_more, appends_append}
use Rattle.dbsource.proofs.Beginnings.{begins_after}

lines_more : (xs ys : List Fault) → flat_map fault_line xs ++ flat_map fault_line ys ≡ flat_map fault_line (xs ++ ys)
lines_more xs ys = sym (flat_map-append fault_line xs ys)

module _ {O E : Type 0} (held : O → OutState) (held' : E → OutState) where
  pub written_none : (s : StatReporter O E) → HasWritten held held' s s [] []
  written_none s = record {
    form = refl;
    encoding = refl;
    page_size = refl;
    found = λ n e. omega arith;
    out = appends_nothing (held s.out.now).bytes;
    err = appends_nothing (held' s.err.now).bytes;
  }

  module _ (s m t : StatReporter O E) (a b : List ℕ) (xs ys : List Fault) (first : HasWritten held held' s m a xs) where
    pub written_then : HasWritten held held' m t b ys → HasWritten held held' s t (a ++ b) (xs ++ ys)
    written_then h = record {
      form = h.form ∙ first.form;
      encoding = h.encoding ∙ first.encoding;
      page_size = h.page_size ∙ first.page_size;
      found = λ n e. omega (arith, h.found (n + length xs) (first.found n e), length-append xs ys);
      out = appends_append (held s.out.now).bytes (held m.out.now).bytes (held t.out.now).bytes a b first.out h.out;
      err = subst (λ l. Appends (held' s.err.now).bytes (held' t.err.now).bytes l) (lines_more xs ys)
          (appends_append (held' s.err.now).bytes (held' m.err.now).bytes (held' t.err.now).bytes (flat_map fault_line xs) (flat_map fault_line ys) first.err
          h.err);
    }

    pub begun_then : HasBegun held held' m t b ys → HasBegun held held' s t (a ++ b) (xs ++ ys)
    begun_then h = record {
      out = begins_after (held s.out.now).bytes (held m.out.now).bytes (held t.out.now).bytes a b (a ++ b) refl first.out h.out;
      err = begins_after (held' s.err.now).bytes (held' m.err.now).bytes (held' t.err.now).bytes (flat_map fault_line xs) (flat_map fault_line ys)
          (flat_map fault_line (xs ++ ys)) (lines_more xs ys) first.err h.err;
    }

  -- a beginning of the first part
  pub begun_first : (s t : StatReporter O E) (a b : List ℕ) (xs ys : List Fault) → HasBegun held held' s t a xs → HasBegun held held' s t (a ++ b) (xs ++ ys)
  begun_first s t a b xs ys h = record {
    out = begins_more (held s.out.now).bytes (held t.out.now).bytes a b (a ++ b) refl h.out;
    err = begins_more (held' s.err.now).bytes (held' t.err.now).bytes (flat_map fault_line xs) (flat_map fault_line ys) (flat_map fault_line (xs ++ ys))
        (lines_more xs ys) h.err;
  }

  -- nothing is a beginning
  pub begun_none : (s t : StatReporter O E) (text : List ℕ) (faults : List Fault) → s ≡ t → HasBegun held held' s t text faults
  begun_none s t text faults e = subst (λ u. HasBegun held held' s u text faults) e
      (record { out = begins_nothing (held s.out.now).bytes text; err = begins_nothing (held' s.err.now).bytes (flat_map fault_line faults) })

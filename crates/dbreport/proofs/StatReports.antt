-- What the statistics have written of a file in the end, and what they found: its report.
use Rattle.dbreport.proofs.Common.{◌≡◌, ℕ, false, None, List, [], ◌++◌, length, Result, Ok, Err, inl, inr, sym, ap, ◌∙◌, subst, arith, flat_map}
use Rattle.dbreport.proofs.Common.{if◌then◌else◌, Moves, MovesBySome, geometry, refusal, Stat, counted, form_line, Reference, faults, verdict_of, form_rows}
use Rattle.dbreport.proofs.Common.{other_rows, page_rows, tree_rows, Survey, Geometry, Verdict, HeaderBytes, IsHeaderOf, OutState, RunError, run_notices}
use Rattle.dbreport.proofs.Common.{IsReported, HasBegun, HasWritten, ReceivesOpen, StatReporter, Form, flat_map-append, sums_of, verdict_counted, Leaves}
use Rattle.dbreport.proofs.Common.{IsForFile, LeavesStat, rows_text, form_of}
use Rattle.dbformat.specs.Header.{encoding as encoding_of}
use Rattle.dbformat.proofs.HeaderPrefix.{encoding_within}
use Rattle.dbreport.proofs.RunAnswers.{if_ok}
use Rattle.dbreport.proofs.RunReports.{stat_is}
use Rattle.dbreport.proofs.StatStarts.{run_written}
use Rattle.dbreport.proofs.StatTexts.{trees_written}

-- all rows are those of the form
form_text : (form : Form) (file : List ℕ) (V : List Reference) → Survey file V → rows_text form.aggregate form.all file V
    ≡ flat_map (form_line file V) (form_rows (form_of form) file V)
unfolding form_rows
form_text form file V s =
    ap (λ l. l ++ flat_map (form_line file V) (if form.all then other_rows file V else [])) (trees_written form.aggregate file V s)
    ∙ sym (flat_map-append (form_line file V) (if form.aggregate then tree_rows file V else page_rows file V) (if form.all then other_rows file V else []))

module _ {O E : Type 0} (held : O → OutState) (held' : E → OutState) (file : List ℕ) (V : List Reference) (survey : Survey file V) where
  -- it was cut off
  begun : (e : RunError) (s t : StatReporter O E) → HasBegun held held' s t (rows_text s.form.aggregate s.form.all file V) (faults file V)
      → LeavesStat held held' file V (Err e) s t
  begun e s t h for none first = ((subst (λ l. HasBegun held held' s t l (faults file V)) (form_text s.form file V survey) h).out, h.err, tt)

  -- all was written
  whole : (v : Verdict) (s t : StatReporter O E) → HasWritten held held' s t (rows_text s.form.aggregate s.form.all file V) (faults file V) → v
      ≡ verdict_of t.found
      → LeavesStat held held' file V (Ok v) s t
  whole v s t h found for none first = let n : t.found ≡ counted (length (faults file V)) = let k = h.found 0 none in omega arith in (
    (subst (λ l. HasWritten held held' s t l (faults file V)) (form_text s.form file V survey) h).out,
    h.err,
    found ∙ ap verdict_of n ∙ verdict_counted (faults file V),
  )

  -- a beginning of what is reported was received
  stat_stopped : (e : RunError) (s t : StatReporter O E) → MovesBySome (ReceivesOpen held held') s (run_notices file V) t
      → LeavesStat held held' file V (Err e) s t
  stat_stopped e s t k for none first = begun e s t (run_written {A = Verdict} held held' file V survey s t for first (Err e) tt k) for none first

  stat_left : (r : Result Verdict RunError) (s t : StatReporter O E) → Leaves (ReceivesOpen held held') (LeavesStat held held') file V r s t
      → LeavesStat held held' file V r s t
  stat_left r s t (inl h) = h
  stat_left r s t (inr (e, is, k)) = subst (λ (r : Result Verdict RunError). LeavesStat held held' file V r s t) (sym is) (stat_stopped e s t k)

  -- the report of the statistics, on the Outs that they were given
  pub stat_reported : (r : Result Verdict RunError) (s t : StatReporter O E) (out after : O) (err behind : E) (form : Form) → s.out.now ≡ out → s.err.now ≡ err
      → s.form ≡ form → s.found ≡ 0 → s.is_shut ≡ false → IsForFile file s
      → after ≡ t.out.now → behind ≡ t.err.now → refusal file ≡ None
      → Leaves (ReceivesOpen held held') (LeavesStat held held') file V r s t
      → IsReported (Stat form.aggregate form.all) file V r (held out).bytes (held after).bytes (held' err).bytes (held' behind).bytes
  stat_reported r s t out after err behind form same same' form_is none first for end end' read h =
      let k = stat_left r s t h for none first in
      rw (← same, ← same', ← form_is, end, end') (record {
        out = rw (stat_is s.form file V read) k.0;
        err = rw (stat_is s.form file V read) k.1;
        verdict = rw (stat_is s.form file V read) (if_ok r (λ v e. ap Ok (sym e)) k.2);
      })

  -- all was received
  pub stat_ended : (s t : StatReporter O E) → t.is_shut ≡ false → Moves (ReceivesOpen held held') s (run_notices file V) t → (v : Verdict)
      → v ≡ verdict_of t.found
      → LeavesStat held held' file V (Ok v) s t
  stat_ended s t last reported v found for none first =
      whole v s t (run_written {A = Unit {0}} held held' file V survey s t for first (Ok tt) last reported) found for none first

-- a reporter by the header of a file is as the file asks for
pub for_file : {O E : Type 0} (file : List ℕ) (h : HeaderBytes) (g : Geometry) (s : StatReporter O E) → IsHeaderOf h file → g ≡ geometry file
    → s.encoding ≡ encoding_of h.bytes → s.page_size ≡ g.page_size → s.sums ≡ sums_of [] → IsForFile file s
for_file file h g s is e code size none = record {
  encoding = code ∙ ap encoding_of is.begins ∙ encoding_within file;
  page_size = size ∙ ap (λ (g : Geometry). g.page_size) e;
  summed = none;
}

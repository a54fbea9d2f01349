-- The report of a file that is read, by what was written of it and what was found.
use Rattle.dbreport.proofs.Common.{◌≡◌, List, [], Ok, Err, Result, None, Option, refl, sym, ap, ◌∙◌, ℕ, true, false, refusal, Reference, Report, report}
use Rattle.dbreport.proofs.Common.{verdict, faults, Survey, Check, Stat, Verdict, Writes, RunError, Form, begins_nothing, appends_nothing, check_report}
use Rattle.dbreport.proofs.Common.{stat_report, StatForm, Command, adds_up, counts_each_page, counts_no_page_twice, CountsPages, form_of}

-- at an error nothing is a beginning, and to no bytes nothing is added
pub writes_nothing : (r : Result Verdict RunError) (held : Option (List ℕ)) → Writes r held held []
writes_nothing (Ok v) held = appends_nothing held
writes_nothing (Err e) held = begins_nothing held []

module _ (limit : ℕ) (file : List ℕ) (V : List Reference) (read : refusal file ≡ None) where
  pub check_is : report (Check limit) file V ≡ check_report limit (faults file V)
  unfolding report
  check_is = rw read refl

  pub check_answer : (v : Verdict) → v ≡ verdict (faults file V) → (report (Check limit) file V).answer ≡ Ok v
  check_answer v e = ap (λ (r : Report). r.answer) check_is ∙ ap Ok (sym e)

module _ (form : Form) (file : List ℕ) (V : List Reference) (read : refusal file ≡ None) where
  pub stat_is : report (Stat form.aggregate form.all) file V ≡ stat_report (form_of form) file V
  unfolding report
  stat_is = rw read refl

-- which pages the rows of a command count
pub counts_pages : (command : Command) (file : List ℕ) (V : List Reference) → Survey file V → CountsPages command file V
counts_pages (Check limit) file V s = tt
counts_pages (Stat aggregate true) file V s =
    let form : StatForm = record { aggregate = aggregate; all = true } in
    (counts_each_page file V s form refl, λ read. adds_up file V s form refl read)
counts_pages (Stat aggregate false) file V s = counts_no_page_twice file V s (record { aggregate = aggregate; all = false })

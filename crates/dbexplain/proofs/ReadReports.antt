-- The report of a file that is read: its verdict, and that it is the line `ok` exactly where the file is sound.
use Rattle.std.proofs.Common.{◌≡◌, ℕ, ◌≤◌, Bool, true, false, List, [], ◌∷◌, ◌++◌, length, Ok, Some, None, Option, refl, sym, ap, ◌∙◌, arith}
use Rattle.std.specs.Prelude.{◌↔◌, codes, decimal, flat_map, drop, take, sum_by, ◌==◌, if◌then◌else◌}
use Rattle.std.specs.Io.KnownBytes.{Appends}
use Rattle.std.proofs.lemmas.List.{length-append}
use Rattle.dbexplain.proofs.Common.{all_codes, geometry, counted, line_feed, ok_line, Reference, faults, more_text, starts, Survey, Verdict, TracedFault}
use Rattle.dbexplain.proofs.Common.{reported_faults, listed_injuries, injury_text, explain_text, count_text, summary}
use Rattle.dbformat.specs.File.{refusal}
use Rattle.dbformat.specs.Report.{Report, verdict}
use Rattle.dbformat.specs.Sound.{Sound}
use Rattle.dbformat.specs.Survey.{survey}
use Rattle.dbformat.specs.declared.Command.TheVariants.{Check}
use Rattle.dbformat.specs.declared.Refusal.{Refusal}
use Rattle.dbformat.specs.declared.Verdict.TheVariants.{Clean}
use Rattle.dbformat.proofs.Theory.{one_survey}
use Rattle.dbsound.proofs.Soundness.{sound_by_faults, sound_by_verdict}
use Rattle.dbscan.specs.Placed.{faults_of}
use Rattle.dbscan.proofs.AllReported.{all_reported}
use Rattle.dbscan.specs.Roots.{listed_rows}
use Rattle.dbinjuries.specs.Listing.{Injury, size}
use Rattle.dbinjuries.specs.Zeros.{zero_pages}
use Rattle.dbreport.specs.Runs.{SaysOk}
use Rattle.dbreport.proofs.RunAnswers.{said_ok}
use Rattle.dbreport.proofs.RunReports.{check_answer}
use Rattle.dbexplain.specs.Explained.{explain_report}
use Rattle.dbexplain.specs.Summary.{code_line, start_sum_line, trees_text, whole_line, whole_trees, zeros_text}
use Rattle.dbexplain.proofs.Reports.{none_reported, ok_text}

module _ (limit : ℕ) (file : List ℕ) (V : List Reference) (read : refusal file ≡ None) where
  abbrev read_report : Report
  read_report = record { out = explain_text limit file V (listed_injuries file V); err = []; answer = Ok (verdict (faults file V)) }

  explain_is : explain_report limit file V ≡ read_report
  unfolding explain_report
  explain_is = rw read refl

  pub out_is : explain_text limit file V (listed_injuries file V) ≡ (explain_report limit file V).out
  out_is = sym (ap (λ (r : Report). r.out) explain_is)

  pub answer_is : (v : Verdict) → v ≡ verdict (faults file V) → (explain_report limit file V).answer ≡ Ok v
  answer_is v e = ap (λ (r : Report). r.answer) explain_is ∙ ap Ok (sym e)

-- its verdict is that of a check
pub explain_sound : (limit : ℕ) (file : List ℕ) → refusal file ≡ None → (v : Verdict) → (explain_report limit file (survey file)).answer ≡ Ok v → v
    ≡ Clean ↔ Sound file
explain_sound limit file read v e =
    let V = survey file in
    sound_by_verdict file (Check limit) V (one_survey file).0 v
    (check_answer limit file V read (verdict (faults file V)) refl ∙ sym (answer_is limit file V read (verdict (faults file V)) refl) ∙ e)

-- ---- the line `ok`

-- a text is as long as its front, and as its end
front_long : (c d : List ℕ) → 4 ≤ length c → 4 ≤ length (c ++ d)
front_long c d h = let x = length-append c d in omega (arith, x, h)

end_long : (a b s : List ℕ) → 4 ≤ length s → 4 ≤ length (a ++ (b ++ s))
end_long a b s h = let x = length-append a (b ++ s) in let y = length-append b s in omega (arith, x, y, h)

-- the line that counts the faults is longer than `ok`
word_long : (n word : List ℕ) → 4 ≤ length word → 4 ≤ length (n ++ word ++ line_feed ∷ [])
word_long n word h = front_long (n ++ word) (line_feed ∷ []) (let x = length-append n word in let q : 4 ≤ length (n ++ word) = omega (arith, x, h) in q)

count_long : (one : Bool) (n : ℕ) → 4 ≤ length (decimal n ++ (if one then codes " fault" else codes " faults") ++ line_feed ∷ [])
count_long true n = word_long (decimal n) (codes " fault") (let q : 4 ≤ 6 = omega arith in q)
count_long false n = word_long (decimal n) (codes " faults") (let q : 4 ≤ 7 = omega arith in q)

summary_long : (file : List ℕ) (V : List Reference) (ts : List TracedFault) → 4 ≤ length (summary file V ts)
summary_long file V ts =
    let zeros = zeros_text (geometry file).page_size (zero_pages file V) in
    let trees = trees_text (whole_trees false (listed_rows file V) ts) (whole_trees true (listed_rows file V) ts) in
    let count = count_text (length ts) in
    let by_code = flat_map (code_line ts) all_codes in
    let by_start = flat_map (λ l. start_sum_line file V ts l.step) (starts file V) in
    front_long (count ++ by_code ++ by_start ++ whole_line ts) (zeros ++ trees) (front_long (count ++ by_code ++ by_start) (whole_line ts)
    (front_long (count ++ by_code) by_start (front_long count by_code (count_long (length ts == 1) (counted (length ts))))))

module _ (limit : ℕ) (file : List ℕ) (V : List Reference) where
  -- so is the report of a file that has injuries
  longer : (e : Injury) (es : List Injury) → 4 ≤ length (explain_text limit file V (e ∷ es))
  longer e es = end_long (flat_map (injury_text file V) (take limit (e ∷ es))) (more_text (sum_by size (drop limit (e ∷ es))))
      (summary file V (reported_faults file V)) (summary_long file V (reported_faults file V))

  none_by_text : (es : List Injury) → listed_injuries file V ≡ es → explain_text limit file V es ≡ ok_line → faults file V ≡ []
  none_by_text [] is e = sym (all_reported file V) ∙ ap faults_of (none_reported file V is)
  none_by_text (k ∷ es) is e = absurd
      (let x = longer k es in let y : length (explain_text limit file V (k ∷ es)) ≡ 3 = ap length e in let f : ⊥ = omega (arith, x, y) in f)

  by_text : (explain_report limit file V).out ≡ ok_line → (refusal file ≡ None) × (faults file V ≡ [])
  unfolding explain_report
  by_text e = by_refusal (refusal file) refl
    where
      by_refusal : (o : Option Refusal) → refusal file ≡ o → (refusal file ≡ None) × (faults file V ≡ [])
      by_refusal None r = (r, none_by_text (listed_injuries file V) refl (out_is limit file V r ∙ e))
      by_refusal (Some why) r = let h = rw r at e in cc

  none_of : (ts : List TracedFault) → faults_of ts ≡ [] → ts ≡ []
  none_of [] e = refl
  none_of (t ∷ ts) e = cc

  -- the report is that line exactly where the file is sound
  text_is_ok : Survey file V → (explain_report limit file V).out ≡ ok_line ↔ Sound file
  text_is_ok s = let by = sound_by_faults file V s in (
    (λ e. by.1 (by_text e)),
    (λ sound. let h = by.0 sound in
        sym (out_is limit file V h.0) ∙ ok_text limit file V (none_of (reported_faults file V) (all_reported file V ∙ h.1))),
  )

  -- and so is what was written of it
  pub explain_says_ok : (old new : Option (List ℕ)) → Survey file V → Appends old new (explain_report limit file V).out → SaysOk file old new
  explain_says_ok old new s k = said_ok file (explain_report limit file V).out old new (text_is_ok s) k

-- Clean means sound and sound means clean, at once: by the faults of a file, by the answer of its report, by its verdict, and by
-- the line that a check writes.
use Rattle.std.proofs.Common.{◌≡◌, ℕ, List, [], ◌∷◌, Option, Some, None, Ok, refl, sym, ap, ◌∙◌}
use Rattle.std.specs.Option.{option_map_or}
use Rattle.dbsound.proofs.Common.{refusal, Reference, faults, Fault}
use Rattle.dbformat.specs.Lines.{ok_line}
use Rattle.dbformat.specs.Report.{check_text, verdict, refused_report, report_of, report}
use Rattle.dbformat.specs.declared.Refusal.{Refusal}
use Rattle.dbformat.specs.declared.Command.{Command}
use Rattle.dbformat.specs.declared.Command.TheVariants.{Check, Stat}
use Rattle.dbformat.specs.declared.Verdict.TheVariants.{Clean}
use Rattle.dbformat.proofs.Verdicts.{faults_not_ok}
use Rattle.dbsound.specs.Soundness.{IsSoundByFaults, IsSoundByAnswer, IsSoundByOk, IsSoundByVerdict}
use Rattle.dbsound.proofs.FaultlessFiles.Sound.{faultless_sound}
use Rattle.dbsound.proofs.SoundFiles.NoFault.{no_fault}

-- a verdict is clean where there is no fault
clean_is : (fs : List Fault) → verdict fs ≡ Clean → fs ≡ []
clean_is [] e = refl
clean_is (f ∷ fs) e = cc

module _ (file : List ℕ) (V : List Reference) where
  -- each command answers the verdict on all faults
  of_command : (command : Command) → (report_of command file V).answer ≡ Ok (verdict (faults file V))
  of_command (Check limit) = refl
  of_command (Stat aggregate all) = refl

  answer_read : (command : Command) → refusal file ≡ None → (report command file V).answer ≡ Ok (verdict (faults file V))
  unfolding report
  answer_read command read = ap (λ o. (option_map_or refused_report o (report_of command file V)).answer) read ∙ of_command command

  clean_answer : (command : Command) → (report command file V).answer ≡ Ok Clean → (refusal file ≡ None) × (faults file V ≡ [])
  unfolding report
  clean_answer command e = by_refusal (refusal file) refl
    where
      by_refusal : (o : Option Refusal) → refusal file ≡ o → (refusal file ≡ None) × (faults file V ≡ [])
      by_refusal None r = let h = sym (answer_read command r) ∙ e in let v : verdict (faults file V) ≡ Clean = cc in (r, clean_is (faults file V) v)
      by_refusal (Some why) r = let h = rw r at e in cc

  -- a check of no fault writes the line `ok`, and no other check does
  text_read : (limit : ℕ) → refusal file ≡ None → (report (Check limit) file V).out ≡ check_text limit (faults file V)
  unfolding report
  text_read limit read = ap (λ o. (option_map_or refused_report o (report_of (Check limit) file V)).out) read

  none_by_text : (limit : ℕ) (fs : List Fault) → check_text limit fs ≡ ok_line → fs ≡ []
  none_by_text limit [] e = refl
  none_by_text limit (f ∷ fs) e = absurd (faults_not_ok limit f fs e)

  ok_text : (limit : ℕ) → (report (Check limit) file V).out ≡ ok_line → (refusal file ≡ None) × (faults file V ≡ [])
  unfolding report
  ok_text limit e = by_refusal (refusal file) refl
    where
      by_refusal : (o : Option Refusal) → refusal file ≡ o → (refusal file ≡ None) × (faults file V ≡ [])
      by_refusal None r = (r, none_by_text limit (faults file V) (sym (text_read limit r) ∙ e))
      by_refusal (Some why) r = let h = rw r at e in cc

pub sound_by_faults : (file : List ℕ) → IsSoundByFaults file
sound_by_faults file V s = ((λ sound. (sound.is_read, no_fault file sound V s)), (λ h. faultless_sound file V s h.0 h.1))

pub sound_by_answer : (file : List ℕ) → IsSoundByAnswer file
sound_by_answer file command V s = (
  (λ e. let h = clean_answer file V command e in faultless_sound file V s h.0 h.1),
  (λ sound. answer_read file V command sound.is_read ∙ ap (λ fs. Ok (verdict fs)) (no_fault file sound V s)),
)

pub sound_by_verdict : (file : List ℕ) → IsSoundByVerdict file
sound_by_verdict file command V s v answer = let by_answer = sound_by_answer file command V s in (
  (λ e. by_answer.0 (answer ∙ ap Ok e)),
  (λ sound. let h = sym answer ∙ by_answer.1 sound in cc),
)

pub sound_by_ok : (file : List ℕ) → IsSoundByOk file
sound_by_ok file limit V s = (
  (λ e. let h = ok_text file V limit e in faultless_sound file V s h.0 h.1),
  (λ sound. text_read file V limit sound.is_read ∙ ap (check_text limit) (no_fault file sound V s)),
)

-- What the answer of a map says.
use Rattle.std.proofs.Common.{◌≡◌, ℕ, List, [], Option, Result, Ok, Err, None, refl}
use Rattle.std.specs.Io.KnownBytes.{Keeps}
use Rattle.std.specs.Prelude.{IfErr, IfOk, ◌↔◌}
use Rattle.dbformat.specs.File.{refusal}
use Rattle.dbformat.specs.Reference.{Reference}
use Rattle.dbformat.specs.Report.{faults, verdict}
use Rattle.dbformat.specs.Sound.{Sound}
use Rattle.dbformat.specs.Survey.{Survey, survey}
use Rattle.dbformat.specs.declared.Command.TheVariants.{Check}
use Rattle.dbformat.specs.declared.Verdict.{Verdict}
use Rattle.dbformat.specs.declared.Verdict.TheVariants.{Clean}
use Rattle.dbformat.proofs.Theory.{one_survey}
use Rattle.dbsound.proofs.Soundness.{sound_by_verdict}
use Rattle.dbsource.proofs.Puts.{appends_kept, appends_nothing, keeps_same}
use Rattle.dbsource.specs.Outs.{Begins}
use Rattle.dbsource.specs.declared.error.RunError.{RunError}
use Rattle.dbsource.specs.declared.error.RunError.TheVariants.{OutOfMemory, ReadFailed, Refused, WriteFailed}
use Rattle.dbwalk.specs.Reporting.{IsReadWriteOrMemory}
use Rattle.dbreport.specs.Runs.{IsAnswerOf}
use Rattle.dbreport.proofs.RunAnswers.{read_answer}
use Rattle.dbreport.proofs.RunReports.{check_answer}
use Rattle.dbpicture.specs.Pictures.{map_picture}
use Rattle.dbmap.specs.Maps.{IsMapOf, PutsMap}

-- nothing was put of some bytes
pub nothing_begun : (old new : Option (List ℕ)) (bytes : List ℕ) → Keeps old new → Begins old new bytes
nothing_begun old new bytes kept = record { part = []; rest = bytes; whole = refl; added = appends_kept old old new [] (appends_nothing old) kept }

-- the file was read
pub map_of : (name file : List ℕ) (r : Result Verdict RunError) → IfErr r IsReadWriteOrMemory → refusal file ≡ None
    → (old new : Option (List ℕ)) → ((V : List Reference) → Survey file V → IfOk r (λ v. v ≡ verdict (faults file V))
    × PutsMap r old new (map_picture file V name)) → IsMapOf name file r old new
map_of name file r only read old new found = record {
  survey = (one_survey file).0;
  verdict = λ V s. (found V s).0;
  picture = λ V s. (found V s).1;
  answer = read_answer file r only read;
  sound = by_answer r (found (survey file) (one_survey file).0).0;
}
  where
    by_answer : (r : Result Verdict RunError) → IfOk r (λ v. v ≡ verdict (faults file (survey file))) → IfOk r (λ v. v ≡ Clean ↔ Sound file)
    by_answer (Ok v) h = sound_by_verdict file (Check 0) (survey file) (one_survey file).0 v (check_answer 0 file (survey file) read v h)
    by_answer (Err e) h = tt

-- no verdict was found
pub no_map : (name file : List ℕ) (e : RunError) (old : Option (List ℕ)) → IsAnswerOf {A = Verdict} (Err e) file → IsMapOf name file (Err e) old old
no_map name file e old answer = record {
  survey = (one_survey file).0;
  verdict = λ V s. tt;
  picture = λ V s. by_error e V;
  answer = answer;
  sound = tt;
}
  where
    by_error : (e : RunError) (V : List Reference) → PutsMap {A = Verdict} (Err e) old old (map_picture file V name)
    by_error (Refused r) V = keeps_same old
    by_error ReadFailed V = keeps_same old
    by_error OutOfMemory V = keeps_same old
    by_error WriteFailed V = nothing_begun old old (map_picture file V name) (keeps_same old)

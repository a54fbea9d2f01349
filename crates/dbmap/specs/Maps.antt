-- What an answer of a map says of the file, and what it puts.
use Rattle.std.specs.Prelude.{◌≡◌, ◌↔◌, ℕ, List, Option, Result, Ok, Err, IfOk}
use Rattle.std.specs.Io.KnownBytes.{Appends, Keeps}
use Rattle.dbformat.specs.File.{geometry}
use Rattle.dbformat.specs.Log.{IsRunLog, IsSomeRunLog}
use Rattle.dbformat.specs.Reference.{Reference}
use Rattle.dbformat.specs.Report.{faults, verdict as verdict_on}
use Rattle.dbformat.specs.Sound.{Sound}
use Rattle.dbformat.specs.Survey.{Survey, survey}
use Rattle.dbformat.specs.declared.Verdict.{Verdict}
use Rattle.dbformat.specs.declared.Verdict.TheVariants.{Clean}
use Rattle.dbsource.specs.Answers.{Lengths, Step}
use Rattle.dbsource.specs.Outs.{Begins}
use Rattle.dbsource.specs.Snapshots.{HasRead, ToldFileIsRead}
use Rattle.dbsource.specs.Sources.{SourceState}
use Rattle.dbsource.specs.declared.error.RunError.{RunError}
use Rattle.dbsource.specs.declared.error.RunError.TheVariants.{WriteFailed}
use Rattle.dbsource.specs.declared.out.Out.{Ghosts as OutWords}
use Rattle.dbsource.specs.declared.source.Source.{Ghosts as SourceWords}
use Rattle.dbreport.specs.Runs.{IsAnswerOf}
use Rattle.dbpicture.specs.Pictures.{map_picture}

-- what the bytes of an Out become, where they are known: at Ok a picture was put; at a failed write a beginning of it; at any other error nothing
abbrev pub PutsMap : {A : Type 0} → Result A RunError → Option (List ℕ) → Option (List ℕ) → List ℕ → Type 0
PutsMap (Ok a) old new picture = Appends old new picture
PutsMap (Err WriteFailed) old new picture = Begins old new picture
PutsMap (Err e) old new picture = Keeps old new

-- What is answered and put is so of a file: it has a survey, and by any survey of it this is the verdict on its faults, and its picture
-- was put; `Clean` is what a sound file is answered, and no other; a refused file is answered its refusal or a failed read, and
-- no other a refusal.
pub record IsMapOf (name file : List ℕ) (r : Result Verdict RunError) (old new : Option (List ℕ)) : Type 0 where
  pub survey : Survey file (survey file)
  pub verdict : (V : List Reference) → Survey file V → IfOk r (λ v. v ≡ verdict_on (faults file V))
  pub picture : (V : List Reference) → Survey file V → PutsMap r old new (map_picture file V name)
  pub answer : IsAnswerOf r file
  pub sound : IfOk r (λ v. v ≡ Clean ↔ Sound file)

-- What a map says of each file that agrees with what was read, it says of the bytes that a source tells.
abbrev pub ToldFilesAreDrawn : Step → Lengths → Type 0
ToldFilesAreDrawn step lengths = (r : Result Verdict RunError) (name : List ℕ) (out_old out_new : Option (List ℕ)) (old new : SourceState)
    → ToldFileIsRead step lengths IsSomeRunLog (λ file ranges. IsRunLog (geometry file) ranges × IsMapOf name file r out_old out_new) old new

-- ---- a map from a source and an Out to what these have become, by what their traits say of them

module _ {S O : Type 0} (source : SourceWords S) (out : OutWords O) where
  -- Whatever the source answered: there is a file, of the length that it answered, that agrees with every byte that was used;
  -- and of each such file the answer and what was put are so, and what was asked for is what a run over that file asks for.
  abbrev pub HasMap : List ℕ → Result Verdict RunError → S × O → S × O → Type 0
  HasMap name r old new = HasRead source.step source.lengths IsSomeRunLog (λ file ranges. IsRunLog (geometry file) ranges
      × IsMapOf name file r (out.held old.1).bytes (out.held new.1).bytes)
      (source.held old.0) (source.held new.0)

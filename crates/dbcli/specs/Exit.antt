-- What an exit status says of what was asked of a file, and of what was written of it.
use Rattle.std.specs.Prelude.{◌≡◌, ◌≢◌, ◌≤◌, ◌⊎◌, ◌↔◌, ℕ, ◌+◌, ◌%◌, ◌^◌, ◌==◌, if◌then◌else◌, List, [], ◌++◌, Option, Some, Ok, Err, None}
use Rattle.dbformat.specs.File.{refusal}
use Rattle.std.specs.Io.KnownBytes.{Appends, Keeps}
use Rattle.dbformat.specs.Reference.{Reference}
use Rattle.dbformat.specs.Report.{Report, report}
use Rattle.dbformat.specs.Sound.{Sound}
use Rattle.dbformat.specs.Survey.{Survey}
use Rattle.dbformat.specs.declared.Command.TheVariants.{Check}
use Rattle.dbformat.specs.declared.Refusal.{Refusal}
use Rattle.dbformat.specs.declared.Verdict.TheVariants.{Clean, Faulty}
use Rattle.dbsource.specs.Failures.{one_more}
use Rattle.dbsource.specs.Outs.{Begins, OutState}
use Rattle.dbpicture.specs.Pictures.{map_picture}
use Rattle.dbreport.specs.Runs.{SaysOk, SaysOkWhereSound}
use Rattle.dbexplain.specs.Explained.{IsFoundText, explain_report}
use Rattle.dbcli.specs.ErrorLines.{exit_line}
use Rattle.dbcli.specs.declared.request.Request.{Request}
use Rattle.dbcli.specs.declared.request.Request.TheVariants as request

-- all of a report was written, to the one Out and to the other
pub record IsWritten (r : Report) (out out' err err' : OutState) : Type 0 where
  pub first : Appends out.bytes out'.bytes r.out
  pub second : Appends err.bytes err'.bytes r.err

-- The bytes of an Out, where they are known, grew by a beginning of these, and then by a beginning of a line: by all of
-- the line, unless a call of the Out failed.
pub record BeginsThenLine (old new : OutState) (bytes line : List ℕ) : Type 0 where
  pub part : List ℕ
  pub rest : List ℕ
  pub whole : part ++ rest ≡ bytes
  pub shown : List ℕ
  pub cut : List ℕ
  pub of_line : shown ++ cut ≡ line
  pub added : Appends old.bytes new.bytes (part ++ shown)
  pub uncut : new.failures ≡ old.failures → cut ≡ []

-- nothing of an Out is pending, and no call of it failed
pub record IsHandedOn (old new : OutState) : Type 0 where
  pub all : new.pending ≡ []
  pub unfailed : new.failures ≡ old.failures

-- After an error: at most `most` calls of an Out failed, and if none did, nothing of it is pending.
pub record IsHandedOnOrFailed (most : ℕ) (old new : OutState) : Type 0 where
  pub failed : ℕ
  pub bound : failed ≤ most
  pub count : new.failures % 2 ^ 64 ≡ (old.failures + failed) % 2 ^ 64
  pub all : failed ≡ 0 → new.pending ≡ []

-- The same where a line was put last: a beginning of it, and all of it where no call failed.
pub record EndsWithLine (line : List ℕ) (most : ℕ) (old new : OutState) : Type 0 where
  pub tried : IsHandedOnOrFailed most old new
  pub shown : List ℕ
  pub cut : List ℕ
  pub of_line : shown ++ cut ≡ line
  pub added : Appends old.bytes new.bytes shown
  pub uncut : tried.failed ≡ 0 → cut ≡ []

-- how many calls of the first Out fail at most after a failed read: the last handing on, and of an explanation one before it
abbrev pub unread_most : Request → ℕ
unread_most (request.Explain limit) = 2
unread_most _ = 1

-- and at any status: at 6 the last handing on, and one that ended the run
abbrev pub first_most : Request → ℕ → ℕ
first_most asked status = if status == 6 then 2 else (if status == 4 then unread_most asked else 1)

-- how many of the second do: the last handing on, the line of the error, and at 6 one that ended the run
abbrev pub second_most : ℕ → ℕ
second_most status = if status == 6 then 3 else 2

-- its count of failures has moved
abbrev pub OutHasFailed : OutState → OutState → Type 0
OutHasFailed old new = new.failures ≢ old.failures

-- how many calls of the source failed: one more at 4, and no more at another status
abbrev pub failures_at_4 : ℕ → ℕ → ℕ
failures_at_4 status count = if status == 4 then one_more count else count

-- there is no other status
abbrev pub IsKnown : ℕ → Type 0
IsKnown status = (status ≤ 1) ⊎ ((3 ≤ status) × (status ≤ 6))

-- What an exit status says of a report and of what was written of it, where this is why its file is refused, if it is.
pub record IsStatusOf (status : ℕ) (r : Report) (why : Option Refusal) (out out' err err' : OutState) : Type 0 where
  -- the second Out got a beginning of its part of the report, and then the line of the error
  pub ends : BeginsThenLine err err' r.err (exit_line status why)
  -- 0 is answered only where no fault was found, and all of the report was written
  pub clean : status ≡ 0 → (r.answer ≡ Ok Clean) × IsWritten r out out' err err'
  -- 1 only where some were, and all of the report was written
  pub faulty : status ≡ 1 → (n : ℕ) × (r.answer ≡ Ok (Faulty n)) × IsWritten r out out' err err'
  -- 3 only where the file is refused, and nothing of it was written
  pub refused : status ≡ 3 → (e : Refusal) × (r.answer ≡ Err e) × (out'.bytes ≡ out.bytes)

-- The same; and whatever the status, the first Out got a beginning of its part of the report.
pub record IsExit (status : ℕ) (r : Report) (why : Option Refusal) (out out' err err' : OutState) : Type 0 where
  pub begun : Begins out.bytes out'.bytes r.out
  pub says : IsStatusOf status r why out out' err err'

-- The first Out got the fault lines of the entries found so far, by this survey: a beginning of them, and all where no call of it failed.
pub record GetsFound (limit : ℕ) (file : List ℕ) (V : List Reference) (out out' : OutState) : Type 0 where
  pub text : List ℕ
  pub found : IsFoundText limit file V text
  pub begun : Begins out.bytes out'.bytes text
  pub uncut : out'.failures ≡ out.failures → Appends out.bytes out'.bytes text

-- What it says of an explanation.
pub record IsExplainExit (status limit : ℕ) (file : List ℕ) (V : List Reference) (out out' err err' : OutState) : Type 0 where
  -- at 4 the first Out got what was found so far
  pub found : status ≡ 4 → GetsFound limit file V out out'
  -- and at any other status a beginning of the report
  pub begun : status ≢ 4 → Begins out.bytes out'.bytes (explain_report limit file V).out
  -- the rest is as of any report
  pub says : IsStatusOf status (explain_report limit file V) (refusal file) out out' err err'

-- the report of a map with this name: a picture on the one output, and what a check answers
abbrev pub map_report : List ℕ → List ℕ → List Reference → Report
map_report name file V = record { out = map_picture file V name; err = []; answer = (report (Check 0) file V).answer }

-- by what was asked, and by every survey of the file; of a map also that at 4 and 5 nothing was put to the first Out
abbrev pub IsExitOf : ℕ → Request → List ℕ → OutState → OutState → OutState → OutState → Type 0
IsExitOf status (request.Report command) file out out' err err' =
    (V : List Reference) → Survey file V → IsExit status (report command file V) (refusal file) out out' err err'
IsExitOf status (request.Explain limit) file out out' err err' =
    (V : List Reference) → Survey file V → IsExplainExit status limit file V out out' err err'
IsExitOf status (request.Map name) file out out' err err' =
    (V : List Reference) → Survey file V
    → IsExit status (map_report name.now file V) (refusal file) out out' err err' × ((4 ≤ status) × (status ≤ 5) → Keeps out.bytes out'.bytes)

-- Of a check and of an explanation: what the first Out got is the line `ok` exactly where the file is sound.
abbrev pub SaysOkFor : Request → List ℕ → OutState → OutState → Type 0
SaysOkFor (request.Report command) file out out' = SaysOkWhereSound command file out.bytes out'.bytes
SaysOkFor (request.Explain limit) file out out' = SaysOk file out.bytes out'.bytes
SaysOkFor (request.Map name) file out out' = Unit {0}

-- What an exit status says of a file.
pub record IsFinishOf (status : ℕ) (asked : Request) (file : List ℕ) (out out' err err' : OutState) : Type 0 where
  -- what was asked, and what was written of it
  pub exit : IsExitOf status asked file out out' err err'
  -- of the two statuses of a verdict 0 is that of a sound file
  pub sound : status ≤ 1 → status ≡ 0 ↔ Sound file
  -- at these two a check says so, and an explanation
  pub ok : status ≤ 1 → SaysOkFor asked file out out'
  -- want of memory ends the run of a file that is read alone
  pub memory : status ≡ 5 → refusal file ≡ None
  -- and so does a failed write
  pub unwritable : status ≡ 6 → refusal file ≡ None

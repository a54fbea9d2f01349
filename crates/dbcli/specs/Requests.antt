-- What is asked of a file, and what a run for it leaves.
use Rattle.std.specs.Prelude.{◌≡◌, ℕ, List, Result, Err, ⊤}
use Rattle.dbformat.specs.Report.{report}
use Rattle.dbformat.specs.declared.Verdict.{Verdict}
use Rattle.dbsource.specs.Errors.{is_write_failed}
use Rattle.dbsource.specs.Failures.{CountsAfter}
use Rattle.dbsource.specs.Outs.{OutState}
use Rattle.dbsource.specs.declared.error.RunError.{RunError}
use Rattle.dbsource.specs.declared.error.RunError.TheVariants.{ReadFailed}
use Rattle.dbexplain.specs.Runs.{IsExplained, OutFailures}
use Rattle.dbreport.specs.Runs.{IsCheck, IsRunBy}
use Rattle.dbreport.specs.StatReporter.{failures_of_each}
use Rattle.dbmap.specs.Maps.{IsMapOf}
use Rattle.dbcli.specs.declared.request.Request.{Request}
use Rattle.dbcli.specs.declared.request.Request.TheVariants as request

-- nothing is written to the second Out but the line of an error
abbrev pub WritesToFirst : Request → Type 0
WritesToFirst (request.Report command) = IsCheck command
WritesToFirst (request.Explain limit) = ⊤
WritesToFirst (request.Map name) = ⊤

-- What a run left is right for a file, by what was asked of it: it is the run of a report, an explanation, or a map.
abbrev pub IsRunFor : Request → List ℕ → Result Verdict RunError → OutState → OutState → OutState → OutState → Type 0
IsRunFor (request.Report command) file r out out' err err' = IsRunBy (report command) file r out.bytes out'.bytes err.bytes err'.bytes
IsRunFor (request.Explain limit) file r out out' err err' = IsExplained limit file r out out'
IsRunFor (request.Map name) file r out out' err err' = IsMapOf name.now file r out.bytes out'.bytes

-- Exactly one of the Outs failed, once, exactly at a failed write; but of an explanation the first may fail, once,
-- after a failed read.
abbrev pub OutsFail : Result Verdict RunError → Request → OutState → OutState → OutState → OutState → Type 0
OutsFail (Err ReadFailed) (request.Explain limit) out out' err err' =
    OutFailures (Err ReadFailed) out.failures out'.failures × (err'.failures ≡ err.failures)
OutsFail r asked out out' err err' = CountsAfter is_write_failed r (failures_of_each out err) (failures_of_each out' err')

-- What a walk from a start reports, as it is handed on with that start.
use Rattle.std.specs.Prelude.{◌≡◌, ◌||◌, ◌∷◌}
use Rattle.dbtrace.specs.Finding.{Finding}
use Rattle.dbwalk.specs.Reporting.{SinkState}
use Rattle.dbscan.specs.Findings.{is_schema_row}
use Rattle.dbscan.specs.Notices.{Notice, found}
use Rattle.dbscan.specs.declared.notifier.Notifier.{Notifier}

-- a finding came to a notifier, whose reporter received it with the start
pub record HandsOn {K : Type 0} (receives : K → Notice → K → Type 0) (s : Notifier K) (item : Finding) (t : Notifier K) : Type 0 where
  pub received : receives s.reporter.now (found s.start.now item) t.reporter.now
  pub start : t.start.now ≡ s.start.now
  pub has_rows : t.has_rows ≡ (s.has_rows || is_schema_row item)

-- it borrows the reporter, and what that borrows, and is shut where that is
abbrev pub lent_by : {K : Type 0} → (K → SinkState) → Notifier K → SinkState
lent_by held s = record {
  lent = s.reporter.ghost_name ∷ (held s.reporter.now).lent;
  failures = (held s.reporter.now).failures;
  is_shut = (held s.reporter.now).is_shut;
}

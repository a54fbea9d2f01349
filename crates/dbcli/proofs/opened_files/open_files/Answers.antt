use Rattle.std.proofs.Common.{rules, ◌≡◌, true, false, subst, refl, Ok, Err}
use Rattle.dbcli.specs.OpeningFiles.{OpensLogs}
use Rattle.dbcli.proofs.opened_files.open_files.Goals as goal

pub returns-then-not-line : goal.returns-then-not-line
returns-then-not-line g c =
    let matched = c.in-Ok.is in
    let is : c.open.result ≡ Ok c.in-Ok.base = cc in
    let alone : c.args.line.now.recovered ≡ false = search rules in
    record {
      base = Ok c.in-Ok.base;
      between = c.open.new.self;
      opened = subst (λ a. g.F.Opener.opens c.args.files.now c.args.line.now.file.now a c.open.new.self) is c.open.ensures;
      logs = rw alone (refl, refl);
    }

pub returns-in-Ok-open_logs : goal.returns-in-Ok-open_logs
returns-in-Ok-open_logs g c =
    let matched = c.in-Ok.is in
    let found = c.in-Ok-open_logs.is in
    let first = c.in-Ok-open_logs.journal-is in
    let second = c.in-Ok-open_logs.wal-is in
    let is : c.open.result ≡ Ok c.in-Ok.base = cc in
    let logs : c.open_logs.result ≡ Ok (c.in-Ok-open_logs.journal, c.in-Ok-open_logs.wal) = cc in
    let both : c.args.line.now.recovered ≡ true = search rules in
    record {
      base = Ok c.in-Ok.base;
      between = c.open.new.self;
      opened = subst (λ a. g.F.Opener.opens c.args.files.now c.args.line.now.file.now a c.open.new.self) is c.open.ensures;
      logs = rw both (
        Ok (c.in-Ok-open_logs.journal, c.in-Ok-open_logs.wal),
        c.open_logs.new.files,
        subst (λ r. OpensLogs g.F.Opener.opens g.F.Opener.opens_log g.F.Opener.closes c.args.line.now.file.now r c.open.new.self
            c.open_logs.new.files) logs c.open_logs.ensures,
        (refl, refl),
      );
    }

pub returns-in-Err-open_logs : goal.returns-in-Err-open_logs
returns-in-Err-open_logs g c =
    let matched = c.in-Ok.is in
    let found = c.in-Err-open_logs.is in
    let why = c.in-Err-open_logs.error-is in
    let is : c.open.result ≡ Ok c.in-Ok.base = cc in
    let logs : c.open_logs.result ≡ Err c.in-Err-open_logs.error = cc in
    let both : c.args.line.now.recovered ≡ true = search rules in
    record {
      base = Ok c.in-Ok.base;
      between = c.open.new.self;
      opened = subst (λ a. g.F.Opener.opens c.args.files.now c.args.line.now.file.now a c.open.new.self) is c.open.ensures;
      logs = rw both (
        Err c.in-Err-open_logs.error,
        c.open_logs.new.files,
        subst (λ r. OpensLogs g.F.Opener.opens g.F.Opener.opens_log g.F.Opener.closes c.args.line.now.file.now r c.open.new.self
            c.open_logs.new.files) logs c.open_logs.ensures,
        (refl, c.close.ensures),
      );
    }

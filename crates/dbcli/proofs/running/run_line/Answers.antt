use Rattle.std.proofs.Common.{◌≡◌, ◌∙◌, Ok, Err, refl, sym, subst}
use Rattle.dbcli.specs.OpeningFiles.{OpensFiles}
use Rattle.dbcli.proofs.running.run_line.Goals as goal

pub returns-in-Ok : goal.returns-in-Ok
returns-in-Ok g c =
    let matched = c.in-Ok.is in
    let is : c.open_files.result ≡ Ok c.in-Ok.opened = cc in
    let same : c.args.system.now.rt.now ≡ c.opened.new.self.rt.now = sym (c.opened.ensures ∙ c.new-notes.ensures.rt) in
    rw same (record {
      answer = Ok c.in-Ok.opened;
      between = c.open_files.new.files;
      opened = subst (λ r. OpensFiles g.F.Opener.opens g.F.Opener.opens_log g.F.Opener.closes c.args.line.recovered c.args.line.file.now r
          c.args.system.now.files c.open_files.new.files) is c.open_files.ensures;
      ran = (c.run_files-status.result.1, c.run_files-status.ensures, c.close_files.ensures);
    })

pub returns : goal.returns
returns g c =
    let matched = c.in-Err.is in
    let is : c.open_files.result ≡ Err c.in-Err.error = cc in
    record {
      answer = Err c.in-Err.error;
      between = c.open_files.new.files;
      opened = subst (λ r. OpensFiles g.F.Opener.opens g.F.Opener.opens_log g.F.Opener.closes c.args.line.recovered c.args.line.file.now r
          c.args.system.now.files c.open_files.new.files) is c.open_files.ensures;
      ran = (c.end.ensures.status, record { first = refl; second = c.end.ensures.line }, refl);
    }

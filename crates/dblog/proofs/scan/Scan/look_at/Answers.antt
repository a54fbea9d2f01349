use Rattle.std.proofs.Common.{◌∙◌, ap, sym, subst, [], ◌∷◌}
use Rattle.dblog.proofs.Scans.{added_room, on_ok, passed_room, scans_added, scans_passed}
use Rattle.dblog.specs.Scanning.{LooksAt}
use Rattle.dblog.specs.Wal.{is_valid}
use Rattle.dblog.proofs.scan.Scan.look_at.Goals as goal

pub returns-then-not-self : goal.returns-then-not-self
returns-then-not-self g c =
    subst (LooksAt c.args.header.now (c.args.frame.now ∷ []) c.args.self.now) (sym c.pass.ensures) (record {
      scans = λ done h. scans_passed c.args.header.now c.args.self.now c.args.frame.now done (sym (ap (λ s. s.is_open) c.self.view_is)
          ∙ c.if-not-self.true) h;
      room = passed_room c.args.header.now c.args.frame.now c.args.self.now;
    })

pub returns-then-is_valid : goal.returns-then-is_valid
returns-then-is_valid g c = on_ok c.add.result
    (λ a. record {
      scans = λ done h. scans_added c.args.header.now c.args.self.now c.add.new.self c.args.frame.now done
          (sym (ap (λ s. s.is_open) c.self.view_is) ∙ c.if-not-self.false)
          (sym (ap (λ s. is_valid c.args.header.now s.before c.args.frame.now) c.self.view_is) ∙ sym c.if-is_valid.ensures) a h;
      room = added_room c.args.frame.now c.args.self.now c.add.new.self a;
    })
    c.add.ensures

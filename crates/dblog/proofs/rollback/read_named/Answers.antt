use Rattle.std.proofs.Common.{◌≡◌, subst, Ok, Err}
use Rattle.dblog.specs.JournalReading.{ReadsJournal}
use Rattle.dblog.specs.Stated.{ReadsName}
use Rattle.dblog.proofs.rollback.read_named.Goals as goal

pub returns-in-Err-super_name-clause-named : goal.returns-in-Err-super_name-clause-named
returns-in-Err-super_name-clause-named g c =
    let a = c.in-Ok-Ok.is in
    let b = c.in-Ok-Ok.field-0-is in
    let d = c.in-Ok-Ok.journal-is in
    let is : c.in-Ok-Ok.field-0 ≡ Ok c.in-Ok-Ok.journal = cc in
    record {
      journal = Ok (Ok c.in-Ok-Ok.journal);
      between = g.L.Source.held c.read.new.journal;
      reads = subst (λ o. ReadsJournal g.L.Source.step g.L.Source.lengths c.args.stored (Ok o) (g.L.Source.held c.args.log.now)
          (g.L.Source.held c.read.new.journal)) is c.in-Ok-Ok.ensures.reads;
      name = (
        c.from.ensures,
        c.in-Err-super_name.error,
        subst (λ n. ReadsName g.L.Source.step n (Err c.in-Err-super_name.error) (g.L.Source.held c.read.new.journal)
            (g.L.Source.held c.super_name.new.journal)) c.len.ensures c.in-Err-super_name.ensures.name,
      );
    }

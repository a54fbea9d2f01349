use Rattle.std.proofs.Common.{ap, Ok, Err}
use Rattle.std.specs.Prelude.{◌==◌}
use Rattle.dbformat.specs.declared.Geometry.{Geometry}
use Rattle.dbcli.proofs.beside.has_size.Goals as goal

pub returns-in-Ok : goal.returns-in-Ok
returns-in-Ok g c = record {
  header = Ok c.in-Ok.header;
  opens = c.in-Ok.ensures.opens;
  fits = ap (λ (x : Geometry). Ok (x.page_size == c.args.size)) c.geometry.ensures.shape;
}

pub returns-in-Err : goal.returns-in-Err
returns-in-Err g c = record { header = Err c.in-Err.error; opens = c.in-Err.ensures.opens; fits = c.unless_unread.ensures }

use Rattle.dbformat.proofs.PageReads.{read_once}
use Rattle.dbformat.proofs.runs_read_once.Goals as goal

pub returns : goal.returns
returns c = read_once

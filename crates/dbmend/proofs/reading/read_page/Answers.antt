use Rattle.std.proofs.lemmas.Result.{err_from_is_err_and}
use Rattle.dbmend.proofs.Done.{done_look, done_unread}
use Rattle.dbmend.proofs.reading.read_page.Goals as goal

pub returns-in_err-look_at : goal.returns-in_err-look_at
returns-in_err-look_at g c =
    let q = err_from_is_err_and c.from_residual.result c.from_residual.ensures.1 in
    rw q.1 (rw q.2 (done_unread g.S.Source 0 _ c.args.source.now c.look_at.new.source c.in_err-look_at.ensures))

pub returns : goal.returns
returns g c = done_look g.S.Source tt 0 _ _ c.args.source.now c.look_at.new.source c.in_ok-look_at.ensures tt

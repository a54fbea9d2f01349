use Rattle.std.proofs.Common.{rules, ◌≡◌, List, ℕ, ap, ap₂, inl, sym}
use Rattle.std.proofs.lemmas.Result.{err_from_is_err_and}
use Rattle.dbsource.specs.Answers.{given}
use Rattle.dbsource.specs.Changes.{Change}
use Rattle.dbmend.specs.Deeds.{looked}
use Rattle.dbmend.proofs.Done.{done_look, done_unread}
use Rattle.dbmend.proofs.stepping.look_before.Goals as goal

pub returns-in_err-look_at : goal.returns-in_err-look_at
returns-in_err-look_at g c =
    let q = err_from_is_err_and c.from_residual.result c.from_residual.ensures.1 in
    rw q.1 (rw q.2 (done_unread g.S.Source 0 _ c.args.source.now c.look_at.new.source c.in_err-look_at.ensures))

pub returns : goal.returns
returns g c =
    let same : c.new.result.bytes ≡ c.look_at.new.buf = ap (λ (r : Change). r.bytes) c.new.ensures in
    done_look g.S.Source c.new.result 0 c.offset.result c.look_at.new.buf c.args.source.now c.look_at.new.source c.in_ok-look_at.ensures
    (record {
      look = inl (ap₂ (λ (o : ℕ) (b : List ℕ). looked (given o b)) c.offset.ensures (sym same));
      long = search (rules, same);
    })

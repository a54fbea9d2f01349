use Rattle.std.proofs.lemmas.Result.{IfOk-weaker}
use Rattle.dbexplain.proofs.IndexesNoted.{none_noted}
use Rattle.dbexplain.proofs.indexes.no_indexes.Goals as goal

pub returns : goal.returns
returns g c = IfOk-weaker c.new_in.result _ _ (λ noted e. none_noted noted e) c.new_in.ensures

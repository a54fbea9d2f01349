use Rattle.std.proofs.Common.{ℕ, Result, Ok, Err, refl}
use Rattle.std.specs.Prelude.{IfOk}
use Rattle.dbsource.specs.declared.source.ReadFailed.{ReadFailed}
use Rattle.dbsource.proofs.headed_source.HeadedSourceSource.len.Goals as goal

pub returns-clause-length : goal.returns-clause-length
returns-clause-length g c = by_answer c.len.result (λ n h. record {
  name = c.args.self.now.source.ghost_name;
  head = c.args.self.now.header.now.bytes;
  told = (g.S.Source.held c.args.self.now.source.now).bytes;
  before = (g.S.Source.held c.args.self.now.source.now).trail;
  was = refl;
  length = h;
}) c.len.ensures.length
  where
    by_answer : {P Q : ℕ → Type 0} (r : Result ℕ ReadFailed) → ((n : ℕ) → P n → Q n) → IfOk r P → IfOk r Q
    by_answer (Ok n) f h = f n h
    by_answer (Err e) f h = tt

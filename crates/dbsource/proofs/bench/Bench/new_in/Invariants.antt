use Rattle.std.proofs.Common.{◌≡◌, length, vec_len}
use Rattle.std.specs.Prelude.{All}
use Rattle.dbsource.proofs.bench.Bench.new_in.Given as goal

abbrev pub invariant-loop-i : goal.invariant-loop-i
invariant-loop-i g l = (length l.levels.items ≡ l._i) × All (λ v. vec_len v ≡ l.page_size) l.levels.items

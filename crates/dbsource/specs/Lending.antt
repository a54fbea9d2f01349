-- The state of a bench when a borrow of one of its buffers for writing ends.
use Rattle.std.specs.Prelude.{ℕ, List, length, take, drop, ◌++◌}
use Rattle.std.specs.Borrow.{Lends, MutBor, Fml, RattleType, Array, u8}
use Rattle.std.specs.declared.alloc.Allocator.{Ghosts}
use Rattle.dbsource.specs.Bench.{Pages}
use Rattle.dbsource.specs.contracts.bench.Bench.{the_row}

-- n bytes of what was written, filled up from the old ones
abbrev pub written : ℕ → List ℕ → List ℕ → List ℕ
written n old bytes = take n (bytes ++ drop (length bytes) old)

-- the bench with these bytes in its chain buffer
abbrev pub with_chain : Pages → List ℕ → Pages
with_chain b bytes = record b { chain = written b.geometry.page_size b.chain bytes }

-- the bench with these bytes in its byte-use table
abbrev pub with_uses : Pages → List ℕ → Pages
with_uses b bytes = record b { uses = written b.geometry.page_size b.uses bytes }

module _ (A : RattleType) (heap : Ghosts A.Denot) (b : MutBor Pages) (r : MutBor (List ℕ)) where
  abbrev pub LendsChain : Fml
  LendsChain = Lends (the_row A heap) (Array u8 0) b r (with_chain b.now)

  abbrev pub LendsUses : Fml
  LendsUses = Lends (the_row A heap) (Array u8 0) b r (with_uses b.now)

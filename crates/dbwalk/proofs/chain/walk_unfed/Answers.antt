use Rattle.std.proofs.Common.{refl, sym}
use Rattle.dbwalk.proofs.Pages.Levels.{page_buffer}
use Rattle.dbwalk.proofs.Reporting.Besides.{walk_sized}
use Rattle.dbwalk.proofs.chain.walk_unfed.Goals as goal

pub returns-clause-walks : goal.returns-clause-walks
returns-clause-walks g c = walk_sized c.chain-buffer.ensures.len.1 c.walk_chain.ensures.walks (λ file done from d tree is next at.
    (done from d tree is next at).0)

pub walk_chain-requires : goal.walk_chain-requires
walk_chain-requires g c =
    let b = page_buffer refl c.requires.usable.0 c.chain-buffer.ensures.len.1 in
    record { chain = c.requires.chain; buffer = rw (sym c.requires.usable.1) at b }

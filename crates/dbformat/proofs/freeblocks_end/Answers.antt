use Rattle.dbformat.proofs.Freeblocks
use Rattle.dbformat.proofs.freeblocks_end.Goals as goal

pub returns : goal.returns
returns c = Freeblocks.freeblocks_end

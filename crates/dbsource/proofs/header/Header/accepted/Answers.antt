use Rattle.std.proofs.Common.{arith}
use Rattle.dbformat.proofs.Accepted.{is_accepted}
use Rattle.dbsource.proofs.header.Header.accepted.Goals as goal

pub geometry_of-geometry-requires-clause-sized : goal.geometry_of-geometry-requires-clause-sized
geometry_of-geometry-requires-clause-sized c = let h = is_accepted c.args.bytes c.args.file_len c.requires.read in omega (arith, h.range.page_size.0)

pub geometry_of-geometry-requires-clause-counted : goal.geometry_of-geometry-requires-clause-counted
geometry_of-geometry-requires-clause-counted c = let h = is_accepted c.args.bytes c.args.file_len c.requires.read in omega (arith, h.range.pages.1)

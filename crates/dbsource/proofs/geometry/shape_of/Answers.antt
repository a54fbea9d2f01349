use Rattle.std.proofs.Common.{arith, sym, ◌∙◌}
use Rattle.dbformat.proofs.Accepted.{is_accepted}
use Rattle.dbsource.proofs.Headers.{no_shape}
use Rattle.dbsource.proofs.geometry.shape_of.Goals as goal

pub returns-then-file_len : goal.returns-then-file_len
returns-then-file_len c = sym (no_shape c.args.bytes.now c.args.file_len c.if-file_len.true)

pub geometry_of-requires-clause-sized : goal.geometry_of-requires-clause-sized
geometry_of-requires-clause-sized c =
    let h = is_accepted c.args.bytes.now c.args.file_len (sym c.refusal_of.ensures ∙ c.in-None.is) in omega (arith, h.range.page_size.0)

pub geometry_of-requires-clause-counted : goal.geometry_of-requires-clause-counted
geometry_of-requires-clause-counted c =
    let h = is_accepted c.args.bytes.now c.args.file_len (sym c.refusal_of.ensures ∙ c.in-None.is) in omega (arith, h.range.pages.1)

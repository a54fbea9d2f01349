use Rattle.dbreport.proofs.Common.{sym, subst, HeaderBytes, err_is, IsOpened}
use Rattle.dbreport.proofs.Openings.{header_refused, memory_refused}
use Rattle.dbreport.proofs.opening.open_in.Goals as goal

pub returns-in_err-header : goal.returns-in_err-header
returns-in_err-header g c =
    rw (err_is c.from_residual.ensures.1)
    (header_refused g.S.Source c.args.source.now c.in_err-header.field-0.0 c.read.new.source c.in_err-header.ensures.opens)

pub returns-in_err-new_in : goal.returns-in_err-new_in
returns-in_err-new_in g c =
    let k = c.in_ok-header.ensures in
    rw (err_is c.from_residual-in_err-new_in.ensures.1) (memory_refused g.S.Source c.args.source.now c.in_ok-header.header c.read.new.source
    (record { opens = k.opens; read = k.read; accepted = k.accepted; range = c.in_err-new_in.ensures.range }))

pub returns : goal.returns
returns g c =
    let k = c.in_ok-header.ensures in
    subst (λ (h : HeaderBytes). IsOpened g.S.Source h c.args.source.now c.read.new.source) (sym c.in_ok-new_in.ensures.header)
    (record { opens = k.opens; read = k.read; accepted = k.accepted; range = c.in_ok-new_in.ensures.range })

pub new_in-requires : goal.new_in-requires
new_in-requires g c = c.requires

use Rattle.dbreport.proofs.Common.{◌≡◌, drop, arith, common_steps, hex_text}
use Rattle.dbreport.proofs.Hexes.{hex_cut}
use Rattle.dbreport.proofs.statistics.hex.append_hex_number.Goals as goal

pub returns-clause-text : goal.returns-clause-text
returns-clause-text g c =
    let text = c.write_hex-start.new.text in
    let cut : drop c.min.result text ≡ hex_text c.args.width c.args.number =
    rw c.min.ensures (hex_cut c.args.width c.args.number c.write_hex-start.result text c.requires.width c.write_hex-start.ensures.some
    c.write_hex-start.array_long c.write_hex-start.ensures.before c.write_hex-start.ensures.written) in
    grind (arith, common_steps)

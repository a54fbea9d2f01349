use Rattle.std.proofs.Common.{◌≡◌, true, false, cond, sym, ap, ◌∙◌, arith}
use Rattle.std.specs.Prelude.{◌==◌}
use Rattle.std.proofs.lemmas.Bool.Decides.{nat_tests}
use Rattle.dblines.proofs.Writing.{of_as}
use Rattle.dbexplain.specs.Below.{line_of_start, place_line, start_line}
use Rattle.dbexplain.proofs.Below.{known_trees}
use Rattle.dbexplain.proofs.owners.Owners.put_own.Goals as goal

pub returns-then-fault-eq0 : goal.returns-then-fault-eq0
returns-then-fault-eq0 g c =
    let f = c.args.fault.now in
    let on : (f.page == 0) ≡ true = grind (arith, nat_tests, c.if-fault-eq0.true) in record {
      all = _;
      wrote = c.put_start_line.ensures;
      is = λ file V h.
          ap (λ tree. line_of_start tree f.item) (known_trees file V c.args.self.now.header.now c.names.result.roots.now.rows c.names.result.encoding h.header
          (ap (λ r. r.rows) c.names.ensures.roots ∙ h.rows) c.names.ensures.encoding)
          ∙ sym (ap (λ b. cond b (start_line file V f.item) (place_line file V f.page)) on);
    }

pub returns-else-fault-eq0 : goal.returns-else-fault-eq0
returns-else-fault-eq0 g c =
    let f = c.args.fault.now in
    let off : (f.page == 0) ≡ false = grind (arith, nat_tests, c.if-fault-eq0.false) in
    of_as (λ file V h. sym (ap (λ b. cond b (start_line file V f.item) (place_line file V f.page)) off)) c.put_page.ensures

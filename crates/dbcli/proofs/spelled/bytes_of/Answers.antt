use Rattle.std.proofs.Common.{arith, ap, subst, sym, ◌+◌, ◌*◌, ◌∙◌, take}
use Rattle.dbcli.specs.Spelled.{SpellsBytes}
use Rattle.dbcli.proofs.Spelling.{spells_digit, spells_more, spells_size}
use Rattle.dbcli.proofs.spelled.bytes_of.Goals as goal

pub returns-then-count-digits-clause-refused : goal.returns-then-count-digits-clause-refused
returns-then-count-digits-clause-refused c = λ bytes few s. let size = spells_size c.args.digits.now bytes s in c.if-count-digits.true (omega arith)

pub returns-then-count-gt16-clause-refused : goal.returns-then-count-gt16-clause-refused
returns-then-count-gt16-clause-refused c = λ bytes few s. let size = spells_size c.args.digits.now bytes s in absurd (omega (arith, c.if-count-gt16.true))

pub returns-in-None-clause-refused : goal.returns-in-None-clause-refused
returns-in-None-clause-refused c = λ bytes few s.
    let at = c.loop-at.at in
    let l = c.loop-at-test.true in
    c.in-None.ensures (spells_digit c.args.digits.now bytes s (2 * at) (omega arith), spells_digit c.args.digits.now bytes s (2 * at + 1) (omega arith))

pub loop-at-preserved : goal.loop-at-preserved
loop-at-preserved c =
    let at = c.loop-at.at in
    let l = c.loop-at-test.true in
    let byte = c.in-Some.ensures in (
      subst (SpellsBytes (take (2 * (at + 1)) c.args.digits.now)) (sym c.push.ensures.items)
          (spells_more c.args.digits.now c.loop-at.bytes.items at c.in-Some.byte c.loop-at.invariant.0 (omega arith) byte.0.0 byte.0.1 byte.1),
      c.push.ensures.len ∙ ap (λ n. n + 1) c.loop-at.invariant.1,
    )

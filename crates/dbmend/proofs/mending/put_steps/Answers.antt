use Rattle.std.proofs.Common.{rules, ◌≡◌, ◌≤◌, ◌+◌, ◌∙◌, ◌++◌, List, [], Ok, Err, ap, append-nil, arith, length, min, refl, subst, sym}
use Rattle.std.proofs.lemmas.List.{length-map}
use Rattle.std.proofs.lemmas.Result.{err_from_is_err_and}
use Rattle.dbmend.specs.Mended.{Fix, left_after}
use Rattle.dbmend.specs.Stepped.{IsAfter}
use Rattle.dbmend.proofs.Steps.{after_more, put_none, put_stopped, put_then, put_weaker}
use Rattle.dbmend.proofs.mending.put_steps.Goals as goal

pub loop-round-init : goal.loop-round-init
loop-round-init g c = put_none g.S.Source g.O.Out tt [] c.args.first.faults 255 0 (c.args.source.now, c.args.out.now)
    (record { are = search (rules, c.new-edits.ensures); still = refl })

pub returns-in_err-step : goal.returns-in_err-step
returns-in_err-step g c =
    let q = err_from_is_err_and c.from_residual.result c.from_residual.ensures.1 in
    let e = c.in_err-step.field-0.0 in
    let t = c.loop-round-test.true in
    let m = c.min-round-end.ensures in
    let l : c.loop-round.round + 1 ≤ min c.args.limit 16 = omega (arith, t, m) in
    rw q.1 (rw q.2 (put_stopped g.S.Source g.O.Out e
    (put_then g.S.Source g.O.Out tt (Err e) [] c.loop-round.edits.items c.args.first.faults c.loop-round.known.faults
    {R = λ fixes. Unit {0}} c.loop-round.invariant c.in_err-step.ensures (λ xs p. p) (λ xs ys p q. tt)) (omega arith) l))

pub returns-in-None : goal.returns-in-None
returns-in-None g c =
    let first = c.args.first.faults in
    let still = c.loop-round.known.faults in
    let t = c.loop-round-test.true in
    let m = c.min-round-end.ensures in
    let l : c.loop-round.round + 1 ≤ min c.args.limit 16 = omega (arith, t, m) in
    put_weaker g.S.Source g.O.Out tt tt
    (put_then g.S.Source g.O.Out tt (Ok tt) [] c.loop-round.edits.items first still {R = λ fixes. still ≡ left_after first fixes}
    c.loop-round.invariant (rw c.in-None.is at c.in_ok-step.ensures) (λ xs p. p)
    (λ xs ys p q. subst (λ (zs : List Fix). still ≡ left_after first (xs ++ zs)) (sym q) (p.still ∙ ap (left_after first) (sym (append-nil xs)))))
    (omega arith) l (λ fixes k. k)

pub loop-round-preserved : goal.loop-round-preserved
loop-round-preserved g c =
    let first = c.args.first.faults in
    let step = c.in-Some.step in
    let h = rw c.in-Some.is at c.in_ok-step.ensures in
    put_then g.S.Source g.O.Out tt (Ok tt) [] c.loop-round.edits.items first c.loop-round.known.faults
    {R = λ fixes. IsAfter [] first fixes c.push.new.self.items c.of-known.result.faults}
    c.loop-round.invariant h.0 (λ xs p. p)
    (λ xs ys p q. after_more [] first xs ys p (record { are = c.push.ensures.items ∙ q.are; still = c.of-known.ensures ∙ q.still }))

pub put_next-requires : goal.put_next-requires
put_next-requires g c = let h = c.requires.fits in (h.known, (h.step, h))

pub returns-then-faults-eq0 : goal.returns-then-faults-eq0
returns-then-faults-eq0 g c =
    let t = c.loop-round-test.true in
    let m = c.min-round-end.ensures in
    let z : c.loop-round.known.faults ≡ 0 = c.if-faults-eq0.true in
    put_weaker g.S.Source g.O.Out tt tt c.loop-round.invariant (omega arith) (omega (arith, t, m)) (λ fixes k. sym z ∙ k.still)

pub push-requires : goal.push-requires
push-requires g c =
    let t = c.loop-round-test.true in
    let m = c.min-round-end.ensures in
    let few = c.loop-round.invariant.few in
    let are = ap length c.loop-round.invariant.of.are in
    let long = length-map c.loop-round.invariant.fixes (λ (f : Fix). f.change) in
    (search rules, omega (arith, t, m, few, are, long))

pub returns : goal.returns
returns g c =
    let ends = c.loop-round.auto.round-end in
    let m = c.min-round-end.ensures in
    put_weaker g.S.Source g.O.Out tt tt c.loop-round.invariant (omega arith) (omega (arith, ends, m)) (λ fixes k. k.still)

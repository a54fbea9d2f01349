use Rattle.std.proofs.Common.{◌<◌, inl, refl, subst, ◌∙◌, arith, IfSome}
use Rattle.dbwalk.proofs.Common.{IsPlace, keeps_same}
use Rattle.dbwalk.proofs.Chaining.ChainTurns.{way_start}
use Rattle.dbwalk.proofs.Reporting.Besides.{beside_reported, turned_on, walk_as, walk_then, walk_reported, walk_unread}
use Rattle.dbwalk.proofs.Reporting.Sinks.{err_is}
use Rattle.dbwalk.proofs.chain.walk_chain.Goals as goal

pub loop-next-init : goal.loop-next-init
loop-next-init g c = record {
  walks = walk_unread (beside_reported (inl refl)) (keeps_same c.args.marks.now) (λ file from d tree h next at. way_start g.K.Sink.takes file from d
      c.args.chain.now c.args.marks.now tree c.args.sink.now c.args.sieve.now c.args.buffer.now h next at);
  size = refl;
  kept = refl;
  place = record { named = c.requires.chain.0; used = record { some = refl; cleared = refl }; counted = omega arith };
}

pub returns-in_err-next-clause-walks : goal.returns-in_err-next-clause-walks
returns-in_err-next-clause-walks g c =
    let q = err_is c.from_residual.ensures.1 in
    walk_as q (walk_then c.loop-next.invariant.size c.loop-next.invariant.walks c.in_err-next.ensures.walks (λ file way turned from d tree h next at.
    rw q ((turned from.visits _ c.args.sink.now c.args.sieve.now tree (way from d tree h next at)).stopped, tt))) (λ file done. done)

pub loop-next-preserved : goal.loop-next-preserved
loop-next-preserved g c = record {
  walks = walk_reported (walk_then c.loop-next.invariant.size c.loop-next.invariant.walks c.in_ok-next.ensures.walks (λ file way turned from d tree h
      next at. turned_on (turned from.visits _ c.args.sink.now c.args.sieve.now tree (way from d tree h next at)) c.in-Some.is)) (inl refl) (λ file way. way);
  size = c.enter_overflow.auto.buffer ∙ c.loop-next.invariant.size;
  kept = c.enter_overflow.ensures.kept ∙ c.loop-next.invariant.kept;
  place = (subst (λ o. IfSome o (λ next. IsPlace next × (next.left < c.loop-next.place.left))) c.in-Some.is c.in_ok-next.ensures.next).0;
}

pub returns-clause-walks : goal.returns-clause-walks
returns-clause-walks g c = walk_reported (walk_then c.loop-next.invariant.size c.loop-next.invariant.walks c.in_ok-next.ensures.walks
    (λ file way turned from d tree h next at.
    (turned from.visits _ c.args.sink.now c.args.sieve.now tree (way from d tree h next at)).ended c.in_default.is)) (inl refl) (λ file done. done)

pub loop-next-smaller : goal.loop-next-smaller
loop-next-smaller g c = (subst (λ o. IfSome o (λ next. IsPlace next × (next.left < c.loop-next.place.left))) c.in-Some.is c.in_ok-next.ensures.next).1

pub enter_overflow-requires : goal.enter_overflow-requires
enter_overflow-requires g c =
    let buffer = c.requires.buffer in
    let same = c.loop-next.invariant.size in
    record {
      place = c.loop-next.invariant.place;
      buffer = record { least = buffer.least; within = rw same buffer.within; most = rw same buffer.most };
    }

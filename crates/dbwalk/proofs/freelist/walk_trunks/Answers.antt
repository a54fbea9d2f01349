use Rattle.std.proofs.Common.{◌≡◌, ◌<◌, ◌∙◌, inl, refl, subst, IfSome}
use Rattle.dbwalk.proofs.Common.{unmarked_pages, Trunk, keeps_same}
use Rattle.dbwalk.proofs.FreeTrunks.{trunks_start}
use Rattle.dbwalk.proofs.Reporting.Sinks.{err_is}
use Rattle.dbwalk.proofs.Reporting.Besides.{beside_reported, turned_on, walk_as, walk_then, walk_reported, walk_unread}
use Rattle.dbwalk.proofs.freelist.walk_trunks.Goals as goal

pub loop-next-init : goal.loop-next-init
loop-next-init g c = record {
  walks = walk_unread (beside_reported (inl refl)) (keeps_same c.args.marks.now) (λ file u from d tree h next at.
      trunks_start g.K.Sink.takes file from d c.args.first (c.args.marks.now, tree) c.args.sink.now h next at);
  trunk = refl;
  size = refl;
}

pub returns-in_err-next : goal.returns-in_err-next
returns-in_err-next g c =
    let q = err_is c.from_residual.ensures.1 in
    record {
      walks = walk_as q (walk_then c.loop-next.invariant.size c.loop-next.invariant.walks c.in_err-next.ensures.walks
          (λ file way turned u from d tree h next at. rw q (turned u _ c.args.sink.now tree (way u from d tree h next at)).stopped)) (λ file done. done);
    }

pub loop-next-preserved : goal.loop-next-preserved
loop-next-preserved g c = record {
  walks = walk_reported (walk_then c.loop-next.invariant.size c.loop-next.invariant.walks c.in_ok-next.ensures.walks (λ file way turned u from d
      tree h next at. turned_on (turned u _ c.args.sink.now tree (way u from d tree h next at)) c.in-Some.is)) (inl refl) (λ file way. way);
  trunk = subst (λ o. IfSome o (λ next. next.mark ≡ Trunk)) c.in-Some.is c.in_ok-next.ensures.trunk;
  size = c.enter_trunk.auto.buffer ∙ c.loop-next.invariant.size;
}

pub enter_trunk-requires : goal.enter_trunk-requires
enter_trunk-requires g c =
    let buffer = c.requires.buffer in
    let same = c.loop-next.invariant.size in
    record { mark = c.loop-next.invariant.trunk; buffer = record { least = buffer.least; within = rw same buffer.within; most = rw same buffer.most } }

pub returns : goal.returns
returns g c = record {
  walks = walk_reported (walk_then c.loop-next.invariant.size c.loop-next.invariant.walks c.in_ok-next.ensures.walks
      (λ file way turned u from d tree h next at. ((turned u _ c.args.sink.now tree (way u from d tree h next at)).ended c.in_default.is).0))
      (inl refl) (λ file done. done);
}

pub loop-next-smaller : goal.loop-next-smaller
loop-next-smaller g c =
    subst (λ o. IfSome o (λ next. unmarked_pages c.enter_trunk.new.marks < unmarked_pages c.loop-next.marks)) c.in-Some.is c.in_ok-next.ensures.less

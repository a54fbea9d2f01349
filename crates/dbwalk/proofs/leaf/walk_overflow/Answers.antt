use Rattle.std.proofs.Common.{◌≤◌, inl, refl, ap, subst, IfSome}
use Rattle.dbwalk.proofs.Common.{most_payload, fed, never, keeps_same}
use Rattle.dbwalk.proofs.Leaves.LeafErrands.{chain_start}
use Rattle.dbwalk.proofs.Underway.Handing.{done_none}
use Rattle.dbwalk.proofs.Chaining.Feedings.{on_ok, feeds_nothing, feeds_chain}
use Rattle.dbwalk.proofs.Reporting.Besides.{beside_reported, walk_sized, walk_unread}
use Rattle.dbwalk.proofs.Pages.Levels.{page_buffer}
use Rattle.dbwalk.proofs.leaf.walk_overflow.Goals as goal

pub returns-in-None-clause-walks : goal.returns-in-None-clause-walks
returns-in-None-clause-walks g c = walk_unread (beside_reported (inl refl)) (keeps_same c.args.marks.now)
    (λ file e from d at row past isat. rw c.in-None.is (
      done_none (fed g.K.Sink.takes) never file from tt (c.args.marks.now, c.args.at.tree.now) c.args.sink.now isat,
      feeds_nothing file from d c.args.at.place.item c.args.sieve.now,
    ))

pub returns-in-Some-clause-walks : goal.returns-in-Some-clause-walks
returns-in-Some-clause-walks g c = walk_sized c.requires.shape.1 c.walk_chain.ensures.walks (λ file h e from d at row past isat.
    let t = c.args.at.tree.now in
    let next = rw c.in-Some.is at past in
    let k = h from _ t (chain_start _ file t.kind t.start t.path.items d c.args.at.place.page c.args.at.place.item c.in-Some.first c.in-Some.left at
    (ap (λ s. s.usable) e) refl c.as_slice.ensures.value refl refl refl refl row) next isat in
    rw c.in-Some.is (
      k.0,
      on_ok c.walk_chain.result k.1 (feeds_chain file from d c.args.at.place.item c.in-Some.first c.in-Some.left c.args.sieve.now c.walk_chain.new.sieve next),
    ))

pub walk_chain-requires : goal.walk_chain-requires
walk_chain-requires g c = record {
  chain = (c.requires.cell.0, subst (λ o. IfSome o (λ o. o.1 ≤ most_payload)) c.in-Some.is c.requires.cell.1);
  buffer = page_buffer refl c.requires.shape.0 c.requires.shape.1;
}

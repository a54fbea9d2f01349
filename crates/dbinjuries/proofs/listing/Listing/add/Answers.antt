use Rattle.std.proofs.Common.{ap, sym, ◌∙◌}
use Rattle.dbinjuries.specs.Listing.{rank}
use Rattle.dbinjuries.specs.Lists.{Held}
use Rattle.dbinjuries.specs.Store.{put_at, put_here, turned_to}
use Rattle.dbinjuries.proofs.Adding.{kept_within}
use Rattle.dbinjuries.proofs.listing.Listing.add.Goals as goal

pub put_kept-requires : goal.put_kept-requires
put_kept-requires g c = kept_within c.args.reported.now c.turn_to.new.self.injuries c.in-Some.slot (sym c.in-Some.ensures)

pub returns-in-Some : goal.returns-in-Some
returns-in-Some g c =
    let reported = c.args.reported.now in
    let here = c.turn_to.new.self in
    let marked = c.note_bytes.new.self in
    c.put_kept.ensures
    ∙ ap (λ o. record here { injuries = put_at o reported here.injuries }) c.in-Some.ensures
    ∙ ap (λ (s : Held). record s { injuries = put_here s.injuries reported })
    (c.turn_to.ensures ∙ ap (λ p. record marked { injuries = turned_to p marked.injuries }) c.rank.ensures
    ∙ ap (λ (s : Held). record s { injuries = turned_to (rank reported.part) s.injuries })
    c.note_bytes.ensures)

pub returns-in-None : goal.returns-in-None
returns-in-None g c =
    let reported = c.args.reported.now in
    let here = c.turn_to.new.self in
    let marked = c.note_bytes.new.self in
    c.put_new.ensures
    ∙ ap (λ o. record here { injuries = put_at o reported here.injuries }) c.in-None.ensures
    ∙ ap (λ (s : Held). record s { injuries = put_here s.injuries reported })
    (c.turn_to.ensures ∙ ap (λ p. record marked { injuries = turned_to p marked.injuries }) c.rank.ensures
    ∙ ap (λ (s : Held). record s { injuries = turned_to (rank reported.part) s.injuries })
    c.note_bytes.ensures)

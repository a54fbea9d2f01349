use Rattle.std.proofs.Common.{◌≡◌, ◌<◌, length, take, set, ap, sym, ◌∙◌, arith}
use Rattle.std.proofs.Common.{get_or-take}
use Rattle.std.proofs.Math.Seq.{take-set-lt}
use Rattle.std.proofs.lemmas.List.{length-take}
use Rattle.dbinjuries.specs.Kept.{injury_added}
use Rattle.dbinjuries.specs.Listing.{changed_at}
use Rattle.dbinjuries.specs.Lists.{Held, held}
use Rattle.dbinjuries.specs.Store.{put_kept}
use Rattle.dbinjuries.proofs.Numbers.{changed-set}
use Rattle.dbinjuries.proofs.listing.Listing.put_kept.Goals as goal

pub returns : goal.returns
returns g c =
    let inside = c.self.inside in
    let items = inside.injuries.items in
    let reported = c.args.reported.now in
    let d = c.index_mut.result.now in
    let l = length-take inside.shown items in
    let size = ap (λ (s : Held). length s.injuries.listed) c.self.view_is in
    let within : c.args.slot < length (take inside.shown items) = omega (arith, size, c.requires) in
    let shown : c.args.slot < inside.shown = omega (arith, l, within) in
    let same : take inside.shown (set items c.args.slot c.add.new.self) ≡ changed_at (λ e. injury_added e reported) c.args.slot (take inside.shown items) =
    take-set-lt inside.shown items c.args.slot c.add.new.self shown
    ∙ ap (set (take inside.shown items) c.args.slot) (c.add.ensures
    ∙ ap (λ e. injury_added e reported) (c.index_mut.ensures.value ∙ sym (get_or-take inside.shown items c.args.slot d shown)))
    ∙ sym (changed-set (λ e. injury_added e reported) c.args.slot (take inside.shown items) d within) in
    ap (λ l. record (held inside) { injuries = record (held inside).injuries { listed = l } }) same
    ∙ ap (λ (s : Held). record s { injuries = put_kept c.args.slot reported s.injuries }) c.self.view_is

use Rattle.std.proofs.Common.{◌≡◌, ◌+◌, ◌-◌, ap, ap₂, ◌∙◌, arith}
use Rattle.dbformat.specs.Starts.{start_at}
use Rattle.dbpicture.specs.Keeping.{blank_by, marked_place}
use Rattle.dbpicture.specs.Owners.{capped_pages, is_lighter, no_shares, owner_by, owner_counted, page_shared, shares_by, shown_owner}
use Rattle.dbpicture.proofs.Steps.{fold_more}
use Rattle.dbpicture.proofs.squares.Squares.shares.Goals as goal

pub loop-page-init : goal.loop-page-init
loop-page-init g c = record {
  shares = λ file V of. (let none : 0 ≡ c.args.first - c.args.first = omega arith in
      c.new-shares.ensures
      ∙ ap (shares_by c.args.self.now.largest.items (marked_place c.args.self.now.marks.now) (start_at V) (blank_by c.args.self.now) c.args.first) none);
  most = omega arith;
}

pub loop-page-preserved : goal.loop-page-preserved
loop-page-preserved g c = record {
  shares = λ file V of. (
      let largest = c.args.self.now.largest.items in
      let place = marked_place c.args.self.now.marks.now in
      let blank = blank_by c.args.self.now in
      let at = c.place_of-place.ensures.mark in
      let is = c.is_blank-blank.ensures in
      let one = page_shared largest place (start_at V) blank in
      c.add.ensures
      ∙ ap₂ (λ o b. owner_counted o b c.loop-page.shares)
      (c.shown_owner-owner.ensures.owner ∙ ap₂ shown_owner is
      (c.owner.ensures.owner ∙ ap₂ (owner_by largest) at (c.start_of-start.ensures file V of.survey of.marks of.trees)))
      (c.is_lighter.ensures ∙ ap₂ is_lighter is at)
      ∙ ap (λ s. one s c.loop-page.page) (c.loop-page.invariant.shares file V of)
      ∙ fold_more one no_shares c.args.first (c.loop-page.page - c.args.first) c.loop-page.page {m = c.loop-page.page + 1 - c.args.first}
      (omega (arith, c.loop-page.auto.page)) (omega (arith, c.loop-page.auto.page)));
  most = omega arith;
}

pub returns : goal.returns
returns g c = λ file V of.
    let end : c.loop-page.page - c.args.first ≡ capped_pages (c.args.last + 1) - c.args.first = omega arith in
    c.loop-page.invariant.shares file V of
    ∙ ap (shares_by c.args.self.now.largest.items (marked_place c.args.self.now.marks.now) (start_at V) (blank_by c.args.self.now) c.args.first) end

use Rattle.std.proofs.Common.{◌≡◌, ap, ap₂, sym, ◌∙◌, eq-eqb}
use Rattle.std.specs.Prelude.{◌==◌, false}
use Rattle.dbpicture.specs.Owners.{first_most, share_of}
use Rattle.dbpicture.specs.Groups.{claims, first_owner, group_pages, group_text}
use Rattle.dbpicture.proofs.FaultBits.{unequal}
use Rattle.dbpicture.proofs.group.GroupSquare.draw.Goals as goal

pub returns-then-share-all : goal.returns-then-share-all
unfolding group_text
returns-then-share-all g c =
    let r = c.args.self.now in
    let first : c.next-first.result ≡ first_owner r = c.next-first.ensures.next
    ∙ ap₂ (λ all hs. first_most (claims r.shares all hs) 17) c.pages-all.ensures c.none.ensures in
    let same = ap (λ n. (share_of r.shares n).pages) (sym first) ∙ ap (λ s. s.pages) (sym c.share.ensures) ∙ c.if-share-all.true ∙ c.pages-all.ensures in
    let all = eq-eqb (share_of r.shares (first_owner r)).pages (group_pages r) same in
    rw all (rw first at c.draw_plain.ensures)

pub returns-else-share-all : goal.returns-else-share-all
unfolding group_text
returns-else-share-all g c =
    let r = c.args.self.now in
    let first : c.next-first.result ≡ first_owner r = c.next-first.ensures.next
    ∙ ap₂ (λ all hs. first_most (claims r.shares all hs) 17) c.pages-all.ensures c.none.ensures in
    let some : ((share_of r.shares (first_owner r)).pages == group_pages r) ≡ false =
    unequal _ _ (λ e. c.if-share-all.false (ap (λ s. s.pages) c.share.ensures ∙ ap (λ n. (share_of r.shares n).pages) first ∙ e ∙ sym c.pages-all.ensures)) in
    rw some (rw (c.divide.ensures, c.pages-all.ensures) at c.draw_mixed.ensures)

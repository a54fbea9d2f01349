use Rattle.std.proofs.Common.{◌≡◌, ℕ, ◌+◌, List, length, get_or, set, add-one, sym, ap, ◌∙◌, arith}
use Rattle.std.proofs.Math.ListN.{length-set}
use Rattle.dbpicture.specs.Groups.{given, next_owner, one_band}
use Rattle.dbpicture.specs.Owners.{capped_pages}
use Rattle.dbpicture.proofs.bands.Bands.divide.Goals as goal

pub loop-init : goal.loop-init
unfolding given
loop-init c = record { given = c.none-bands.ensures; many = ap length c.none-bands.ensures }

pub loop-preserved : goal.loop-preserved
unfolding given
loop-preserved c =
    let shares = c.args.shares.now in
    let all = c.args.all in
    let heights = c.loop.bands.heights in
    let owner = c.next-next.result in
    let more : c.saturating_add.result ≡ capped_pages (get_or heights owner 0 + 1) = omega (arith, c.saturating_add.ensures) in
    record {
      given = ap (λ v. set heights owner v) more ∙ ap (λ o. one_band o heights) c.next-next.ensures.next
          ∙ ap (λ (hs : List ℕ). one_band (next_owner shares all hs) hs) c.loop.invariant.given ∙ ap (given shares all) (sym (add-one c.loop.counter));
      many = length-set heights owner c.saturating_add.result ∙ c.loop.invariant.many;
    }

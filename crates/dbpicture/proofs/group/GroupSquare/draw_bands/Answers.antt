use Rattle.std.proofs.Common.{◌≡◌, ℕ, ◌+◌, List, [], ◌∷◌, get_or, refl, ap, ◌∙◌, arith}
use Rattle.std.specs.List.{flat_map, range_with_len, sum_by}
use Rattle.std.proofs.lemmas.List.Sums.{sum_by-append}
use Rattle.dbsurvey.proofs.Ranges.{range_push}
use Rattle.dblines.proofs.Writing.{wrote_as}
use Rattle.dbpicture.specs.Groups.{band_text, band_top}
use Rattle.dbpicture.specs.declared.bands.Bands.{Bands}
use Rattle.dbpicture.specs.declared.group.GroupSquare.{GroupSquare}
use Rattle.dbpicture.proofs.Steps.{range_more, range_none}
use Rattle.dbpicture.proofs.group.GroupSquare.draw_bands.Goals as goal

abbrev band_at : GroupSquare → Bands → ℕ → List ℕ
band_at r bands number = band_text r number (band_top bands number) (get_or bands.heights number 0)

pub loop-number-init : goal.loop-number-init
loop-number-init g c = record { top = refl; drawn = range_none (band_at c.args.self.now c.args.bands.now) 0 c.args.writer.now refl }

pub loop-number-preserved : goal.loop-number-preserved
loop-number-preserved g c =
    let bands = c.args.bands.now in
    let number = c.loop-number.number in
    let top = c.loop-number.invariant.top in
    let height = c.height-height.ensures in
    let of_owner = λ (owner : ℕ). get_or bands.heights owner 0 in
    let sum = ap (sum_by of_owner) (range_push 0 number) ∙ sum_by-append of_owner (range_with_len 0 number) ((0 + number) ∷ []) in
    let here : of_owner (0 + number) ≡ of_owner number = ap of_owner (let at : 0 + number ≡ number = omega arith in at) in
    record {
      top = omega (arith, top, height, sum, here, c.saturating_add-top.ensures);
      drawn = range_more (band_at c.args.self.now bands) 0 _ number c.loop-number.invariant.drawn (rw (top, height) at c.draw_band.ensures) (omega arith) refl;
    }

pub returns : goal.returns
returns g c =
    let end : c.loop-number.number ≡ 17 = omega arith in
    wrote_as (ap (λ n. flat_map (band_at c.args.self.now c.args.bands.now) (range_with_len 0 n)) end) c.loop-number.invariant.drawn

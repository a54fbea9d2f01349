use Rattle.std.proofs.Common.{◌≡◌, [], ◌<◌, length, map, vec_len, ap, ◌∙◌, arith, sym}
use Rattle.std.proofs.lemmas.List.{take_all}
use Rattle.std.specs.List.{range_with_len}
use Rattle.dbmarks.specs.Marking.{mark_of, marks_of, unpacked}
use Rattle.dbmarks.proofs.Markings.{made_step}
use Rattle.dbmarks.proofs.marks.Marks.new_in.Goals as goal

pub loop-index-preserved : goal.loop-index-preserved
loop-index-preserved g c =
    let k : vec_len c.loop-index.words ≡ length c.loop-index.words.items = c.loop-index.words.ok.0 in
    let lt : c.loop-index.index < length c.loop-index.words.items = omega (arith, c.loop-index.invariant.size) in record {
      size = c.loop-index.invariant.size;
      made = made_step (mark_of c.args.geometry.now []) c.loop-index.words.items c.loop-index.index c.first_word.result lt c.loop-index.invariant.made
          c.first_word.ensures;
    }

pub returns : goal.returns
unfolding marks_of
returns g c =
    let k : vec_len c.loop-index.words ≡ length c.loop-index.words.items = c.loop-index.words.ok.0 in
    let n : c.loop-index.index ≡ c.args.geometry.now.pages = omega (arith, c.loop-index.invariant.size) in
    let m : c.loop-index.index ≡ length c.loop-index.words.items = omega (arith, c.loop-index.invariant.size) in
    ap (map unpacked) (sym (take_all c.loop-index.index c.loop-index.words.items (omega arith)))
    ∙ c.loop-index.invariant.made ∙ ap (λ i. map (mark_of c.args.geometry.now []) (range_with_len 1 i)) n

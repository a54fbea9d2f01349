use Rattle.std.proofs.Common.{◌≡◌, ◌+◌, ◌<◌, ◌++◌, suc, length, map, take, drop, vec_len, ap, ◌∙◌, arith}
use Rattle.dbmarks.specs.Marking.{cleared, unpacked}
use Rattle.dbmarks.proofs.Markings.{map_step}
use Rattle.dbmarks.proofs.marks.Marks.clear.Goals as goal

pub loop-index-preserved : goal.loop-index-preserved
loop-index-preserved g c =
    let k : vec_len c.loop-index.self-inside.words ≡ length c.loop-index.self-inside.words.items = c.loop-index.self-inside.words.ok.0 in
    let lt : c.loop-index.index < length c.loop-index.self-inside.words.items = omega (arith, c.loop-index.invariant.size) in
    let n : suc c.loop-index.index ≡ c.loop-index.index + 1 = omega arith in record {
      size = c.loop-index.invariant.size;
      done = map_step cleared c.args.self.now c.loop-index.self-inside.words.items c.loop-index.index c.cleared_word.result c.index.result.now lt
          c.loop-index.invariant.done
          (c.cleared_word.ensures ∙ ap (λ w. cleared (unpacked w)) c.index.ensures)
          ∙ ap (λ i. map cleared (take i c.args.self.now) ++ drop i c.args.self.now) n;
    }

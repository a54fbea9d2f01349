use Rattle.std.proofs.Common.{◌≡◌, ◌<◌, ◌≤◌, ◌*◌, List, length, sum_by, ap, ◌∙◌, arith, get_or}
use Rattle.std.proofs.lemmas.List.Sums.{sum_by-le, sum_by_more, sum_by_more_le}
use Rattle.dbsource.specs.Changes.{Change}
use Rattle.dbcli.proofs.notes.changed_bytes.Goals as goal

pub loop-change-preserved : goal.loop-change-preserved
loop-change-preserved c =
    let bytes_of = λ (x : Change). length x.bytes in
    let changes = c.args.changes.now in
    let at = c.loop-change.change-index in
    let item = c.change-item.result in
    let same = c.as_slice-change-items.ensures.items in
    let right = c.as_slice-change-items.ensures.right in
    let within : at < length changes = omega (arith, c.loop-change-test.true, ap (λ (cs : List Change). length cs) same) in
    let here : bytes_of item ≡ bytes_of (get_or changes at item) = ap bytes_of (c.change-item.is ∙ ap (λ cs. get_or cs at item) same) in
    let most : sum_by bytes_of changes ≤ length changes * 16 = sum_by-le bytes_of 16 changes (λ i x is. (right.each i x is).few) in
    let more = sum_by_more bytes_of changes at item within in
    let less = sum_by_more_le bytes_of changes at item within in
    omega (arith, c.saturating_add-count.ensures, c.count.ensures, c.loop-change.invariant, here, more, less, most, right.few)

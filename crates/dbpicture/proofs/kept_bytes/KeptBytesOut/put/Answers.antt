use Rattle.std.proofs.Common.{rules, ◌≡◌, ◌+◌, ◌≤◌, ◌++◌, length, take, drop, Some, Result, Ok, Err, ap, subst, ◌∙◌, arith, length-take}
use Rattle.std.specs.Prelude.{IsOk, OnOk}
use Rattle.std.specs.Io.KnownBytes.{Appends}
use Rattle.std.proofs.lemmas.Bool.{false≢true}
use Rattle.std.proofs.lemmas.List.{take-append-drop}
use Rattle.dbsource.specs.Failures.{one_more}
use Rattle.dbsource.specs.Outs.{Holding}
use Rattle.dbpicture.proofs.kept_bytes.KeptBytesOut.put.Goals as goal

on_ok : {A E P : Type 0} (r : Result A E) → IsOk r → OnOk r P → P
on_ok (Ok x) i h = h
on_ok (Err e) i h = absurd (false≢true i)

pub returns : goal.returns
returns c =
    let piece = c.args.piece.now in
    let taken = c.min-taken.result in
    let fits : length c.self.inside.bytes.items + length (take taken piece) ≤ 320 =
    omega (arith, length-take taken piece, c.min-taken.ensures, c.len.ensures.value, c.len.ensures.fits) in
    let more : c.try_extend_from_slice.new.self.items ≡ c.self.inside.bytes.items ++ take taken piece =
    on_ok c.try_extend_from_slice.result (c.try_extend_from_slice.ensures.variant.1 fits) c.try_extend_from_slice.ensures.ok in
    record {
      held = record {
        part = take taken piece;
        rest = drop taken piece;
        whole = take-append-drop taken piece;
        added = subst (λ (s : Holding). Appends s.bytes (Some c.try_extend_from_slice.new.self.items) (take taken piece)) c.self.view_is more;
      };
      count = c.add.ensures ∙ ap (λ (s : Holding). one_more s.failures) c.self.view_is;
    }

pub invariant_of-self-2 : goal.invariant_of-self-2
invariant_of-self-2 c = search rules

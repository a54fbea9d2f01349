use Rattle.std.proofs.Common.{rules, ℕ, ◌+◌, ◌-◌, ◌≤◌, length, take, drop, arith, length-take, length-drop, List}
use Rattle.dbsource.proofs.Puts.{appends_kept, stream_stop, stream_more, keeps_from_nothing}
use Rattle.dbsource.proofs.stream_out.write_whole.Goals as goal

pub loop-at-preserved : goal.loop-at-preserved
loop-at-preserved g c =
    let piece : List ℕ = c.args.piece.now in
    let at : ℕ = c.loop-at.at in
    let bound : c.in-Ok.count ≤ length (take (length piece - at) (drop at piece)) = c.in-Ok.ensures.bound in
    let within : at + c.in-Ok.count ≤ length piece = omega (arith, length-take (length piece - at) (drop at piece), length-drop at piece) in
    record {
      within = within;
      added = stream_more _ _ _ piece at c.in-Ok.count within c.loop-at.invariant.added c.in-Ok.ensures.bytes;
    }

pub returns-in-Ok-eq0-clause-taken : goal.returns-in-Ok-eq0-clause-taken
returns-in-Ok-eq0-clause-taken g c =
    let nothing = keeps_from_nothing _ _ (rw c.in-Ok-eq0.field-0-test at c.in-Ok-eq0.ensures.bytes) in
    appends_kept _ _ _ _ c.loop-at.invariant.added nothing

pub returns-in-Ok-eq0-clause-writes : goal.returns-in-Ok-eq0-clause-writes
returns-in-Ok-eq0-clause-writes g c =
    let nothing = keeps_from_nothing _ _ (rw c.in-Ok-eq0.field-0-test at c.in-Ok-eq0.ensures.bytes) in
    stream_stop _ _ _ c.args.piece.now c.loop-at.at c.loop-at.invariant.added nothing

pub returns-in-Err-clause-taken : goal.returns-in-Err-clause-taken
returns-in-Err-clause-taken g c = appends_kept _ _ _ _ c.loop-at.invariant.added c.in-Err.ensures.bytes

pub returns-in-Err-clause-writes : goal.returns-in-Err-clause-writes
returns-in-Err-clause-writes g c = stream_stop _ _ _ c.args.piece.now c.loop-at.at c.loop-at.invariant.added c.in-Err.ensures.bytes

pub returns-in-Err-clause-whole : goal.returns-in-Err-clause-whole
returns-in-Err-clause-whole g c = search rules

use Rattle.std.proofs.Common.{◌∙◌, ap, refl, sym, subst, Ok, Err}
use Rattle.std.proofs.lemmas.Result.{err_from_is_err_and}
use Rattle.dblog.proofs.Answered.{differs, no_log, rest_failed, rest_none, rest_read, same_number}
use Rattle.dblog.specs.Reading.{ReadsFrames}
use Rattle.dblog.specs.Scanning.{Scanned, Scans}
use Rattle.dblog.specs.Wal.{frame_size, is_header, known_version, version}
use Rattle.dblog.proofs.reading.read_rest.Goals as goal

pub returns-then-not-is_header : goal.returns-then-not-is_header
returns-then-not-is_header g c = rw c.none.ensures (rest_none c.args.header.now c.args.len _ _ c.requires.len refl
    (λ file e. no_log file (ap is_header e ∙ sym c.if-not-is_header.ensures.header)))

pub returns-then-not-has_known_version : goal.returns-then-not-has_known_version
returns-then-not-has_known_version g c = rest_none c.args.header.now c.args.len _ _ c.requires.len refl
    (λ file e. (
      ap is_header e ∙ sym c.if-not-is_header.ensures.header,
      λ v. differs (version c.args.header.now) known_version c.if-not-has_known_version.ensures (sym (ap version e) ∙ v),
    ))

pub returns-in_err-scan : goal.returns-in_err-scan
returns-in_err-scan g c =
    let p = err_from_is_err_and c.from_residual.result c.from_residual.ensures.1 in
    let h = c.args.header.now in
    rw p.1 (rw p.2 (rest_failed {P = λ fs u. Scans h u fs} h c.args.len c.in_err-scan.field-0.0 _ _ c.requires.len
    (subst (λ n. ReadsFrames {X = Scanned} g.S.Source.step (frame_size h) 32 n (Err c.in_err-scan.field-0.0) (g.S.Source.held c.args.log.now)
    (g.S.Source.held c.read_frames.new.log) (λ fs u. Scans h u fs)) c.whole_frames.ensures c.in_err-scan.ensures)))

pub returns : goal.returns
returns g c =
    let h = c.args.header.now in
    rest_read h c.args.len c.finish.result c.in_ok-scan.scan _ _ c.requires.len (sym c.if-not-is_header.ensures.header)
    (same_number (version h) known_version c.if-not-has_known_version.ensures) c.finish.ensures
    (subst (λ n. ReadsFrames {X = Scanned} g.S.Source.step (frame_size h) 32 n (Ok c.in_ok-scan.scan) (g.S.Source.held c.args.log.now)
    (g.S.Source.held c.read_frames.new.log) (λ fs u. Scans h u fs)) c.whole_frames.ensures c.in_ok-scan.ensures)

use Rattle.std.proofs.Common.{◌∙◌, ◌*◌, ◌+◌, Ok, Err, ap, subst, arith}
use Rattle.std.proofs.lemmas.Result.{err_from_is_err_and}
use Rattle.dblog.proofs.Pieces.{no_pieces, nothing_read, piece_failed, piece_read, pieces_read, room_for_piece}
use Rattle.dblog.specs.Reading.{ReadsFrames}
use Rattle.dblog.specs.Scanning.{LooksAt}
use Rattle.dblog.specs.Wal.{frame_size}
use Rattle.dblog.proofs.reading.read_frames.Goals as goal

pub returns-in_err-buffer : goal.returns-in_err-buffer
returns-in_err-buffer g c =
    let p = err_from_is_err_and c.from_residual.result c.from_residual.ensures.1 in
    rw p.1 (rw p.2 (nothing_read (frame_size c.args.header.now) c.args.count (g.S.Source.held c.args.log.now) _))

pub loop-done-init : goal.loop-done-init
loop-done-init g c = (
  omega arith,
  c.in_ok-buffer.ensures.len ∙ ap (λ n. n * c.frame_size-size.result) c.min.ensures,
  no_pieces c.args.header.now (frame_size c.args.header.now) (g.S.Source.held c.args.log.now) c.new-scan.result c.new-scan.ensures,
)

pub read_piece-requires-clause-room : goal.read_piece-requires-clause-room
read_piece-requires-clause-room g c = room_for_piece c.args.count c.min-next.result c.loop-done.invariant.2
    (omega (arith, c.min-next.ensures, c.loop-done-test.true)) c.requires.counted

pub returns-in_err-read_piece : goal.returns-in_err-read_piece
returns-in_err-read_piece g c =
    let p = err_from_is_err_and c.from_residual-in_err-read_piece.result c.from_residual-in_err-read_piece.ensures.1 in
    let h = c.args.header.now in
    let k = subst (λ n. ReadsFrames {X =
    Unit {0}} g.S.Source.step (frame_size h) (32 + c.loop-done.done * n) c.min-next.result (Err c.in_err-read_piece.field-0.0)
    (g.S.Source.held c.loop-done.log) (g.S.Source.held c.read_piece.new.log) (λ fs _. LooksAt h fs c.loop-done.scan c.read_piece.new.scan))
    c.frame_size-size.ensures c.in_err-read_piece.ensures in
    rw p.1 (rw p.2 (piece_failed c.in_err-read_piece.field-0.0 (frame_size h) c.args.count c.loop-done.done c.min-next.result _ _ _ c.loop-done.scan
    (omega (arith, c.min-next.ensures, c.loop-done-test.true)) c.loop-done.invariant.2 k))

pub loop-done-preserved : goal.loop-done-preserved
loop-done-preserved g c =
    let h = c.args.header.now in
    let k = subst (λ n. ReadsFrames {X = Unit {0}} g.S.Source.step (frame_size h) (32 + c.loop-done.done * n) c.min-next.result (Ok (tt {0}))
    (g.S.Source.held c.loop-done.log) (g.S.Source.held c.read_piece.new.log) (λ fs _. LooksAt h fs c.loop-done.scan c.read_piece.new.scan))
    c.frame_size-size.ensures c.in_ok-read_piece.ensures in (
      omega (arith, c.min-next.ensures, c.loop-done-test.true),
      c.loop-done.invariant.1,
      piece_read (tt {0}) (frame_size h) c.loop-done.done c.min-next.result _ _ _ c.loop-done.scan c.read_piece.new.scan c.loop-done.invariant.2 k,
    )

pub returns : goal.returns
returns g c = pieces_read (frame_size c.args.header.now) c.args.count c.loop-done.done _ _ c.loop-done.scan
    (omega (arith, c.loop-done.invariant.0, c.loop-done-test.false)) c.loop-done.invariant.2

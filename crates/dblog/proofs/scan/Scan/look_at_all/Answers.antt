use Rattle.dblog.proofs.FrameRows.{none_so_far, one_frame_more, room_left}
use Rattle.dblog.proofs.scan.Scan.look_at_all.Goals as goal

pub loop-i-init : goal.loop-i-init
loop-i-init g c = none_so_far c.args.header.now c.args.size c.args.count c.args.frames.now c.args.self.now c.requires.whole

pub look_at-requires-clause-room : goal.look_at-requires-clause-room
look_at-requires-clause-room g c = room_left c.loop-i.invariant c.loop-i-test.true c.requires.room

pub loop-i-preserved : goal.loop-i-preserved
loop-i-preserved g c = one_frame_more c.look_at.new.self c.split_at.result.0.now c.split_at.result.1.now c.loop-i.invariant c.loop-i-test.true
    c.split_at.ensures.front c.split_at.ensures.back c.in_ok-look_at.ensures

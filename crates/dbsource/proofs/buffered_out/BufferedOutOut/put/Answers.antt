use Rattle.std.proofs.Common.{rules, ◌≡◌, ◌∙◌, ◌++◌, length, subst}
use Rattle.dbsource.proofs.Beginnings.{begins_nothing}
use Rattle.dbsource.proofs.Gathered.{appends_handed, begins_longer, begins_written, nothing_kept}
use Rattle.dbsource.specs.Gathers.{Gathering, kept_line}
use Rattle.dbsource.specs.Outs.{Begins}
use Rattle.dbsource.proofs.buffered_out.BufferedOutOut.put.Goals as goal
use Rattle.dbsource.proofs.buffered_out.BufferedOutOut.put.Goals.{then-piece-len+else-is_err+else-piece-gt-CAPACITY, else-piece-len}

pub returns-then-is_err-2-clause-grows : goal.returns-then-is_err-2-clause-grows
returns-then-is_err-2-clause-grows g c =
    let rest : c.make_room-handed.new.gathered.items ≡ kept_line c.self.inside.gathered.items (length c.args.piece.now) = search rules in
    let none = rest ∙ nothing_kept c.self.inside.gathered.items (length c.args.piece.now) c.if-piece-gt-CAPACITY.true in
    let all = appends_handed _ _ c.self.inside.gathered.items _ c.make_room-handed.ensures.kept none in
    subst (λ (s : Gathering). Begins s.written (g.W.Write.contents c.write_whole-written.new.writer) (s.gathered ++ c.args.piece.now)) c.self.view_is
    (begins_written c.write_whole-written.result.1 _ _ _ c.self.inside.gathered.items c.args.piece.now all c.write_whole-written.ensures.writes)

pub returns-else-is_err-2-clause-grows : goal.returns-else-is_err-2-clause-grows
returns-else-is_err-2-clause-grows g c =
    let rest : c.make_room-handed.new.gathered.items ≡ kept_line c.self.inside.gathered.items (length c.args.piece.now) = search rules in
    let none = rest ∙ nothing_kept c.self.inside.gathered.items (length c.args.piece.now) c.if-piece-gt-CAPACITY.true in
    let all = appends_handed _ _ c.self.inside.gathered.items _ c.make_room-handed.ensures.kept none in
    subst (λ (s : Gathering). Begins s.written (g.W.Write.contents c.write_whole-written.new.writer) (s.gathered ++ c.args.piece.now)) c.self.view_is
    (begins_written c.write_whole-written.result.1 _ _ _ c.self.inside.gathered.items c.args.piece.now all c.write_whole-written.ensures.writes)

pub returns-clause-grows : goal.returns-clause-grows
returns-clause-grows g c =
    subst (λ (s : Gathering). Begins s.written (g.W.Write.contents c.if-piece-len.self-inside.writer) (s.gathered ++ c.args.piece.now)) c.self.view_is
    (elim c.if-piece-len.branch [
      | then-piece-len+else-is_err+else-piece-gt-CAPACITY w ↦ rw w.self-inside-is
          (begins_longer _ _ c.self.inside.gathered.items c.args.piece.now w.make_room-handed.ensures.begins)
      | else-piece-len w ↦ rw w.self-inside-is (begins_nothing _ _)
    ])

-- What finishing leaves of a source over a source.
use Rattle.std.proofs.Common.{ℕ, List, [], ◌∷◌, inl, inr}
use Rattle.dbsource.specs.declared.out.Out.{Ghosts as OutWords}
use Rattle.dbsource.specs.declared.source.Source.{Ghosts as SourceWords}
use Rattle.dbsource.specs.Changes.{Change}
use Rattle.dbcli.proofs.Mending.{mended_below}
use Rattle.dbcli.specs.Finishing.{Finishes, RunsInside}
use Rattle.dbcli.specs.Tasks.{Does}
use Rattle.dbcli.specs.declared.request.Request.{Request}
use Rattle.dbcli.specs.declared.task.Task.{Task}
use Rattle.dbcli.specs.declared.task.Task.TheVariants.{Run, Mend}

module _ {S W O E : Type 0} (inner : SourceWords S) (below : W → S) (out : OutWords O) (err : OutWords E) where
  -- one that answers what the source below it answers
  abbrev pub over : SourceWords W
  over = record { held = λ w. inner.held (below w); step = inner.step; lengths = inner.lengths }

  -- what is left of it is left of that one
  pub left_below : (asked : Request) (status : ℕ) (s t : W) (o o' : O) (e e' : E) → Finishes over out err [] asked status (s, o, e) (t, o', e')
      → Finishes inner out err [] asked status (below s, o, e) (below t, o', e')
  left_below asked status s t o o' e e' h = record {
    read = record { read = h.read.read; refused = h.read.refused };
    known = h.known;
    failed = record { reads = h.failed.reads; writes = h.failed.writes };
    first = record { whole = h.first.whole; unwritten = h.first.unwritten; tried = h.first.tried };
    second = record { whole = h.second.whole; tried = h.second.tried; quiet = h.second.quiet; line = h.second.line };
  }

  -- and so what is left by what a line asks for
  does_left : (asked : Task) (status : ℕ) (s t : W) (o o' : O) (e e' : E) → Does over out err asked status (s, o, e) (t, o', e')
      → Does inner out err asked status (below s, o, e) (below t, o', e')
  does_left (Run request) status s t o o' e e' h = left_below request status s t o o' e e' h
  does_left (Mend limit) status s t o o' e e' h = record {
    answer = h.answer;
    written = h.written;
    mended = mended_below inner below out limit h.answer s t o h.written h.mended;
    outcome = h.outcome;
    second = h.second;
    handed = h.handed;
    is_status = h.is_status;
    quiet = h.quiet;
    line = h.line;
  }

  -- and by a line
  pub runs_left : (changes : List Change) (asked : Task) (status : ℕ) (s t : W) (o o' : O) (e e' : E)
      → RunsInside over out err changes (Does over out err asked status) status (s, o, e) (t, o', e')
      → RunsInside inner out err changes (Does inner out err asked status) status (below s, o, e) (below t, o', e')
  runs_left [] asked status s t o o' e e' h = does_left asked status s t o o' e e' h
  runs_left (c ∷ changes) asked status s t o o' e e' (inl h) = inl (record {
    len = h.len;
    measured = record { answered = h.measured.answered; told = h.measured.told };
    inside = h.inside;
    ran = does_left asked status s t o o' e e' h.ran;
  })
  runs_left (c ∷ changes) asked status s t o o' e e' (inr (inl h)) = inr (inl (record {
    len = h.len;
    measured = record { answered = h.measured.answered; told = h.measured.told };
    past = h.past;
    unread = h.unread;
    at_3 = h.at_3;
    first = h.first;
    second = h.second;
  }))
  runs_left (c ∷ changes) asked status s t o o' e e' (inr (inr h)) =
      inr (inr (record { unread = h.unread; at_4 = h.at_4; first = h.first; second = h.second }))

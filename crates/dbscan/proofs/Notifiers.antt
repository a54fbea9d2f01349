-- What a notifier hands on with its start, and what it notes.
use Rattle.dbscan.proofs.Common.{◌≡◌, ℕ, Bool, false, inl, inr, List, [], ◌∷◌, map, Result, Ok, Err, refl, sym, ap, subst, ◌∙◌, ◌||◌, IfErr, Moves, MovesBySome}
use Rattle.dbscan.proofs.Common.{is_read_failed, is_write_failed, failures_after, RunError, WriteFailed, Finding, SinkAfter, SinkMoves, SinkState}
use Rattle.dbscan.proofs.Common.{is_schema_row, Notice, found, list_any, Notifier, or_assoc, or-false, asked, asked_both, asked_open, asked_walks, walks_end}
use Rattle.dbscan.specs.Notifiers.{HandsOn, lent_by}

-- ---- what a notifier hands on

module _ {K : Type 0} (receives : K → Notice → K → Type 0) where
  -- all of it: the reporter received the same at the start, and rows of the schema were noted
  pub notifier_moves : (items : List Finding) (s t : Notifier K) → Moves (HandsOn receives) s items t
      → Moves receives s.reporter.now (map (found s.start.now) items) t.reporter.now × (t.start.now ≡ s.start.now)
      × (t.has_rows ≡ (s.has_rows || list_any is_schema_row items))
  notifier_moves [] s t h = (
    ap (λ (w : Notifier K). w.reporter.now) h,
    ap (λ (w : Notifier K). w.start.now) (sym h),
    ap (λ (w : Notifier K). w.has_rows) (sym h) ∙ sym (or-false s.has_rows),
  )
  notifier_moves (i ∷ items) s t h =
      let k = notifier_moves items h.0 t h.2 in (
        (
          h.0.reporter.now,
          h.1.received,
          subst (λ at. Moves receives h.0.reporter.now (map (found at) items) t.reporter.now) h.1.start k.0,
        ),
        k.1 ∙ h.1.start,
        k.2 ∙ ap (λ b. b || list_any is_schema_row items) h.1.has_rows ∙ or_assoc s.has_rows (is_schema_row i) (list_any is_schema_row items),
      )

  -- some of it
  pub notifier_some : (items : List Finding) (s t : Notifier K) → MovesBySome (HandsOn receives) s items t
      → MovesBySome receives s.reporter.now (map (found s.start.now) items) t.reporter.now
  notifier_some [] s t h = ap (λ (w : Notifier K). w.reporter.now) h
  notifier_some (i ∷ items) s t (inl h) = inl (ap (λ (w : Notifier K). w.reporter.now) h)
  notifier_some (i ∷ items) s t (inr h) =
      inr (
        h.0.reporter.now,
        h.1.received,
        subst (λ at. MovesBySome receives h.0.reporter.now (map (found at) items) t.reporter.now) h.1.start (notifier_some items h.0 t h.2),
      )

-- ---- what its reporter borrows, and what failed

abbrev pub first : List ℕ → ℕ
first [] = 0
first (x ∷ xs) = x

abbrev rest : List ℕ → List ℕ
rest [] = []
rest (x ∷ xs) = xs

-- the state of the reporter
abbrev of_reporter : SinkState → SinkState
of_reporter s = record s { lent = rest s.lent }

-- after an answer the notifier hands on to the same reporter, which failed where the notifier did
pub reporter_after : {A K : Type 0} (held : K → SinkState) (r : Result A RunError) (s t : Notifier K)
    → SinkAfter is_write_failed r (lent_by held s) (lent_by held t)
    → (t.reporter.ghost_name ≡ s.reporter.ghost_name) × SinkAfter is_write_failed r (held s.reporter.now) (held t.reporter.now)
reporter_after held (Err WriteFailed) s t h = (ap first h.lent, record { lent = ap rest h.lent; failures = h.failures })
reporter_after held _ s t h = (ap (λ (x : SinkState). first x.lent) h, ap of_reporter h)

-- all was done, and then the reporter was asked
pub asked_after : {r : Result (Unit {0}) RunError} {a b : SinkState} → r ≡ asked b.is_shut → SinkMoves a b → a.is_shut ≡ false
    → SinkAfter is_write_failed r a b
asked_after {r = r} e h o = walks_end r (asked_walks e h) o (asked_open _ e)

pub asked_error : {e : RunError} (shut : Bool) → Err e ≡ asked shut → e ≡ WriteFailed
asked_error {e = e} shut is = asked_both (λ r. IfErr r (λ x. x ≡ WriteFailed)) shut is tt refl

pub asked_ok : (shut : Bool) → Ok tt ≡ asked shut → shut ≡ false
asked_ok shut is = asked_open {r = Ok tt} shut is

-- nothing was read then
pub unread : {A : Type 0} (r : Result A RunError) → IfErr r (λ e. e ≡ WriteFailed) → (n : ℕ) → n ≡ failures_after is_read_failed r n
unread (Ok a) only n = refl
unread (Err e) only n = subst (λ e. n ≡ failures_after {A = Unit {0}} is_read_failed (Err e) n) (sym only) refl

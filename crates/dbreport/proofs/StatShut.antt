-- The reporter of the statistics takes nothing once it is shut.
use Rattle.dbreport.proofs.Common.{◌≡◌, ◌⊎◌, Bool, true, false, inl, inr, List, [], ◌∷◌, sym, ap, subst, ◌∙◌, Moves, Stops, MovesBySome, OutState, Notice}
use Rattle.dbreport.proofs.Common.{CutsStat, ReceivesOpen, ReceivesStat, StatReporter, cases_Bool, false≢true, moves_some, ReceivesBy}

module _ {O E : Type 0} (held : O → OutState) (held' : E → OutState) where
  abbrev all : StatReporter O E → Notice → StatReporter O E → Type 0
  all = ReceivesStat held held'

  abbrev part : StatReporter O E → Notice → StatReporter O E → Type 0
  part = CutsStat held held'

  stays_shut : (n : Notice) (s t : StatReporter O E) → ReceivesOpen held held' s n t → s.is_shut ≡ true → s ≡ t
  stays_shut n s t h e = by_flags t.is_shut (subst (λ b. ReceivesBy held held' b t.is_shut s n t) e h)
    where
      by_flags : (b : Bool) → ReceivesBy held held' true b s n t → s ≡ t
      by_flags true h = h
      by_flags false h = absurd h

  some_shut : (ns : List Notice) (s t : StatReporter O E) → MovesBySome (ReceivesOpen held held') s ns t → s.is_shut ≡ true → s ≡ t
  some_shut [] s t h e = h
  some_shut (n ∷ ns) s t (inl h) e = h
  some_shut (n ∷ ns) s t (inr h) e =
      let one = stays_shut n s h.0 h.1 e in
      one ∙ some_shut ns h.0 t h.2 (ap (λ (x : StatReporter O E). x.is_shut) (sym one) ∙ e)

  opened : (n : Notice) (s t : StatReporter O E) (b : Bool) → ReceivesOpen held held' s n t → s.is_shut ≡ false → t.is_shut ≡ b
      → ReceivesBy held held' false b s n t
  opened n s t b h e f = subst (λ b. ReceivesBy held held' false b s n t) f (subst (λ a. ReceivesBy held held' a t.is_shut s n t) e h)

  -- one that is open at the end took all
  pub all_open : (ns : List Notice) (s t : StatReporter O E) → s.is_shut ≡ false → t.is_shut ≡ false → Moves (ReceivesOpen held held') s ns t → Moves all s ns t
  all_open [] s t a b h = h
  all_open (n ∷ ns) s t a b h = elim (cases_Bool h.0.is_shut) [
    | inl e ↦ absurd (false≢true (sym b ∙ ap (λ (x : StatReporter O E). x.is_shut) (sym (some_shut ns h.0 t (moves_some _ h.0 t ns h.2) e)) ∙ e))
    | inr e ↦ (h.0, opened n s h.0 false h.1 a e, all_open ns h.0 t e b h.2)
  ]

  -- some of them were taken, and perhaps one was cut off
  pub some_open : (ns : List Notice) (s t : StatReporter O E) → s.is_shut ≡ false → MovesBySome (ReceivesOpen held held') s ns t
      → MovesBySome all s ns t ⊎ Stops all part s ns t
  some_open [] s t a h = inl h
  some_open (n ∷ ns) s t a (inl h) = inl (inl h)
  some_open (n ∷ ns) s t a (inr h) = elim (cases_Bool h.0.is_shut) [
    | inl e ↦ inr (inl (subst (λ u. part s n u) (some_shut ns h.0 t h.2 e) (opened n s h.0 true h.1 a e)))
    | inr e ↦ (elim (some_open ns h.0 t e h.2) [
      | inl k ↦ inl (inr (h.0, opened n s h.0 false h.1 a e, k))
      | inr k ↦ inr (inr (h.0, opened n s h.0 false h.1 a e, k))
    ])
  ]

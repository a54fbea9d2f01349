-- What a run read by a reference to a source, it read of that source.
use Rattle.std.proofs.Common.{◌≡◌, ◌∙◌, ℕ, List, [], ◌∷◌, ap, ap₂, inl, inr, None, refl, subst, sym}
use Rattle.dbformat.specs.declared.ByteRange.{ByteRange}
use Rattle.dbsource.specs.Answers.{Answer, Front, Leads, Lengths, Step, Trail, headed_by}
use Rattle.dbsource.specs.Snapshots.{HasRead}
use Rattle.dbsource.specs.Sources.{HasRanges, SourceState}
use Rattle.dbmend.specs.LentSources.{LentLength, LentStep, lent, lent_trail}

same_lent : (n m : ℕ) (s t : Trail) → lent_trail n s ≡ lent_trail m t → (n ≡ m) × (s ≡ t)
same_lent n m s t e =
    let fronts : headed_by n [] None ∷ s.fronts ≡ headed_by m [] None ∷ t.fronts = ap (λ (x : Trail). x.fronts) e in
    let rest : s.fronts ≡ t.fronts = cc in
    (let k : n ≡ m = cc in k, same_parts rest (ap (λ (x : Trail). x.ranges) e))
  where
    same_parts : s.fronts ≡ t.fronts → s.ranges ≡ t.ranges → s ≡ t
    same_parts f r = ap₂ (λ (a : List Front) (b : List ByteRange). let x : Trail = record { fronts = a; ranges = b } in x) f r

-- the answers of the reference are those of the source
lent_leads : (step : Step) (name : ℕ) (old new : Trail) (log : List Answer) → Leads (LentStep step) (lent_trail name old) log new
    → (after : Trail) × (new ≡ lent_trail name after) × Leads step old log after
lent_leads step name old new [] e = (old, e, refl)
lent_leads step name old new (a ∷ log) (mid, s, k) =
    let m = same_lent s.name name s.before old (sym s.was) in
    let here : mid ≡ lent_trail name s.after = s.is ∙ ap (λ n. lent_trail n s.after) m.0 in
    let rest = lent_leads step name s.after new log (subst (λ t. Leads (LentStep step) t log new) here k) in
    (rest.0, rest.1, (s.after, subst (λ t. step t a s.after) m.1 s.moved, rest.2))

pub lent_read : (step : Step) (lengths : Lengths) (P : List ByteRange → Type 0) (Q : List ℕ → List ByteRange → Type 0) (name name' : ℕ) (old new : SourceState)
    → HasRead (LentStep step) (LentLength lengths) P Q (lent name old) (lent name' new) → (name' ≡ name) × HasRead step lengths P Q old new
lent_read step lengths P Q name name' old new h =
    let b = lent_leads step name old.trail (lent_trail name' new.trail) h.log h.leads in
    let m = same_lent name' name new.trail b.0 b.1 in (
      m.0,
      record {
        len = h.len;
        log = h.log;
        leads = subst (λ t. Leads step old.trail h.log t) (sym m.1) b.2;
        told = h.told;
        answered = elim h.answered [
          | inl a ↦ inl (let k = same_lent a.name name a.before old.trail (sym a.was) in subst (λ t. lengths t h.len) k.1 a.length)
          | inr e ↦ inr e
        ];
        holds = h.holds;
        there_is = h.there_is;
        files = h.files;
        tells = h.tells;
        short = h.short;
      },
    )

pub lent_ranges : {step : Step} {P : List ByteRange → Type 0} (name name' : ℕ) (old new : Trail)
    → HasRanges (LentStep step) P (lent_trail name old) (lent_trail name' new) → HasRanges step P old new
lent_ranges {step = step} name name' old new h =
    let b = lent_leads step name old (lent_trail name' new) h.log h.leads in
    let m = same_lent name' name new b.0 b.1 in
    record { log = h.log; leads = subst (λ t. Leads step old h.log t) (sym m.1) b.2; holds = h.holds }

-- What a run of a source with changes read is what it read of the source below it.
use Rattle.std.proofs.Common.{◌≡◌, ℕ, ◌+◌, ◌<◌, ◌≤◌, Bool, true, false, cond, List, [], ◌∷◌, ◌++◌, length, map, take, drop, ◌-◌, refl, sym, ap, ap₂, subst, ◌∙◌}
use Rattle.std.proofs.Common.{arith, Option, Some, None, inl, inr, length-append}
use Rattle.std.specs.Prelude.{IfSome, min, nat_lt, ◌==◌, ◌⊎◌, option_map}
use Rattle.std.proofs.Math.ListN.{drop_of_length-le}
use Rattle.std.proofs.lemmas.Bool.{cases_Bool}
use Rattle.std.proofs.lemmas.Bool.Decides.{nat_tests}
use Rattle.std.proofs.lemmas.List.{length-take, length-drop}
use Rattle.dbformat.specs.FixedPages.{IsInRange}
use Rattle.dbformat.specs.Log.{range, IsPageLog, IsSomeRunLog}
use Rattle.dbformat.specs.declared.ByteRange.{ByteRange}
use Rattle.dbformat.specs.declared.Geometry.{Geometry}
use Rattle.dbsource.specs.Answers.{Answer, Fits, FitsAnswer, Front, IsRangeOf, Leads, Lengths, Step, Trail, asked, changed_by, failed, given}
use Rattle.dbsource.specs.Changes.{Change, changed_from, patched}
use Rattle.dbsource.specs.Headed.{over, over_answer}
use Rattle.dbsource.specs.Patched.{ChangedLength, ChangedStep, changed_answer, changed_trail}
use Rattle.dbsource.specs.Snapshots.{FitsAfterHeader, FitsRun, PatchedFileIsRead}
use Rattle.dbsource.specs.Sources.{HasRanges, SourceState}
use Rattle.dbsource.proofs.Changed.{changed_append, changed_drop, changed_length, changed_range, changed_take}
use Rattle.dbsource.proofs.Overs.{over_range}
use Rattle.dbsource.proofs.Runs.{begin_range, fits_over, over_asked, over_begins, over_length}
use Rattle.dbsource.proofs.Snapshots.{AreWithin, same_head, same_offset, snapshot_of}
use Rattle.dbsource.proofs.Told.{if_told_both}

-- ---- the log of the source below

pub same_changed : (a b : List Change) (o p : Option (List ℕ)) (s t : Trail) → changed_trail a o s ≡ changed_trail b p t → (a ≡ b) × (o ≡ p) × (s ≡ t)
same_changed a b o p s t e =
    let fronts : changed_by a o ∷ s.fronts ≡ changed_by b p ∷ t.fronts = ap (λ (x : Trail). x.fronts) e in
    let first : changed_by a o ≡ changed_by b p = cc in
    let rest : s.fronts ≡ t.fronts = cc in
    (let k : a ≡ b = cc in k, let k : o ≡ p = cc in k, same_parts rest (ap (λ (x : Trail). x.ranges) e))
  where
    same_parts : s.fronts ≡ t.fronts → s.ranges ≡ t.ranges → s ≡ t
    same_parts f r = ap₂ (λ (a : List Front) (b : List ByteRange). let x : Trail = record { fronts = a; ranges = b } in x) f r

-- what it was asked, and what it answered
record Below (step : Step) (changes : List Change) (told : Option (List ℕ)) (old : Trail) (log : List Answer) (new : Trail) : Type 0 where
  pub raw : List Answer
  pub after : Trail
  pub is : new ≡ changed_trail changes told after
  pub leads : Leads step old raw after
  pub given_as : log ≡ map (changed_answer changes) raw
  pub fits : IfSome told (λ file. Fits file raw)

told_any : {P : List ℕ → Type 0} (o : Option (List ℕ)) → ((file : List ℕ) → P file) → IfSome o P
told_any None f = tt
told_any (Some file) f = f file

below : (step : Step) (changes : List Change) (told : Option (List ℕ)) (old new : Trail) (log : List Answer)
    → Leads (ChangedStep step) (changed_trail changes told old) log new → Below step changes told old log new
below step changes told old new [] e =
    record { raw = []; after = old; is = e; leads = refl; given_as = refl; fits = told_any told (λ file. tt) }
below step changes told old new (a ∷ log) (mid, s, k) =
    let m = same_changed changes s.changes told s.told old s.before s.was in
    let here : mid ≡ changed_trail changes told s.after =
    s.is ∙ ap (λ o. changed_trail s.changes o s.after) (sym m.1) ∙ ap (λ c. changed_trail c told s.after) (sym m.0) in
    let rest = below step changes told s.after new log (subst (λ t. Leads (ChangedStep step) t log new) here k) in
    record {
      raw = s.raw ∷ rest.raw;
      after = rest.after;
      is = rest.is;
      leads = (s.after, subst (λ t. step t s.raw s.after) (sym m.2) s.moved, rest.leads);
      given_as = ap (λ x. x ∷ log) (s.given_as ∙ ap (λ c. changed_answer c s.raw) (sym m.0)) ∙ ap (λ l. changed_answer changes s.raw ∷ l) rest.given_as;
      fits = if_told_both told (λ file f g. (f, g)) (subst (λ o. IfSome o (λ file. FitsAnswer file s.raw)) (sym m.1) s.fits) rest.fits;
    }

changed_asked : (changes : List Change) (log : List Answer) → map asked (map (changed_answer changes) log) ≡ map asked log
changed_asked changes [] = refl
changed_asked changes (given o bytes ∷ log) =
    ap₂ (λ n l. range o n ∷ l) (changed_length changes o bytes) (changed_asked changes log)
changed_asked changes (failed r ∷ log) = ap (λ l. r ∷ l) (changed_asked changes log)

none_below : (changes : List Change) (log : List Answer) → map (changed_answer changes) log ≡ [] → log ≡ []
none_below changes [] e = refl
none_below changes (a ∷ log) e = cc

-- the ranges that it was asked for
pub ranges_below : {step : Step} {P : List ByteRange → Type 0} (changes changes' : List Change) (o o' : Option (List ℕ)) (old new : Trail)
    → HasRanges (ChangedStep step) P (changed_trail changes o old) (changed_trail changes' o' new) → HasRanges step P old new
ranges_below {step = step} {P = P} changes changes' o o' old new h =
    let b = below step changes o old (changed_trail changes' o' new) h.log h.leads in
    let m = same_changed changes' changes o' o new b.after b.is in
    record {
      log = b.raw;
      leads = subst (λ t. Leads step old b.raw t) (sym m.2) b.leads;
      holds = subst P (ap (map asked) b.given_as ∙ changed_asked changes b.raw) h.holds;
    }

-- ---- a file that agrees with what was read, with the changes

-- the header's bytes over the beginning of an answer are 100, or all that there are
whole_first : (file : List ℕ) (o : ℕ) (bytes : List ℕ) → IsRangeOf file o (take (length bytes) (take 100 file) ++ drop 100 bytes)
    → (length (take (length bytes) (take 100 file)) ≡ 100) ⊎ (drop 100 bytes ≡ [])
whole_first file o bytes (fits, is) =
    let first = take (length bytes) (take 100 file) in
    let all : length (first ++ drop 100 bytes) ≡ length first + length (drop 100 bytes) = length-append first (drop 100 bytes) in
    let rest : length (drop 100 bytes) ≡ length bytes - 100 = length-drop 100 bytes in
    let fore : length first ≡ min (length bytes) (length (take 100 file)) = length-take (length bytes) (take 100 file) in
    let head : length (take 100 file) ≡ min 100 (length file) = length-take 100 file in
    elim (cases_Bool (nat_lt 100 (length bytes))) [
      | inl l ↦ (let k : 100 < length bytes = grind (arith, nat_tests) in inl (omega arith))
      | inr l ↦ (let k : length bytes ≤ 100 = grind (arith, nat_tests) in inr (drop_of_length-le bytes {i = 100} k))
    ]

changed_nil : (changes : List Change) (place : ℕ) → changed_from changes place [] ≡ []
changed_nil [] place = refl
changed_nil (c ∷ changes) place = changed_nil changes place

-- the header that is put over an answer has the changes too
over_changed : (changes : List Change) (file : List ℕ) (o : ℕ) (bytes : List ℕ) → IsRangeOf file o (over (take 100 file) o bytes)
    → over (take 100 (patched changes file)) o (changed_from changes o bytes) ≡ changed_from changes o (over (take 100 file) o bytes)
over_changed changes file o bytes h = by_offset (o == 0) refl h
  where
    first : List ℕ
    first = take (length bytes) (take 100 file)

    by_offset : (b : Bool) → b ≡ (o == 0) → IsRangeOf file o (cond b (first ++ drop 100 bytes) bytes)
        → cond b (take (length (changed_from changes o bytes)) (take 100 (patched changes file)) ++ drop 100 (changed_from changes o bytes))
        (changed_from changes o bytes)
        ≡ changed_from changes o (cond b (first ++ drop 100 bytes) bytes)
    by_offset false e h = refl
    by_offset true e h =
        let z : o ≡ 0 = grind (arith, nat_tests) in
        ap₂ (λ a b. a ++ b) (ap (λ n. take n (take 100 (patched changes file))) (changed_length changes o bytes)
        ∙ ap (take (length bytes)) (changed_take changes 100 0 file) ∙ changed_take changes (length bytes) 0 (take 100 file)
        ∙ ap (λ p. changed_from changes p first) (sym z)) (changed_drop changes 100 o bytes)
        ∙ elim (whole_first file o bytes h) [
          | inl k ↦ ap (λ n. changed_from changes o first ++ changed_from changes (o + n) (drop 100 bytes)) (sym k)
          | inr k ↦ ap (λ l. changed_from changes o first ++ l) (ap (changed_from changes (o + 100)) k ∙ changed_nil changes (o + 100)
              ∙ sym (ap (changed_from changes (o + length first)) k ∙ changed_nil changes (o + length first)))
        ]
        ∙ sym (changed_append changes o first (drop 100 bytes))

patched_answer : (changes : List Change) (file : List ℕ) (a : Answer) → FitsAnswer file a → FitsAnswer (patched changes file) (changed_answer changes a)
patched_answer changes file (given o bytes) h = changed_range changes file o bytes h
patched_answer changes file (failed r) h = tt

patched_after : (changes : List Change) (file : List ℕ) (log : List Answer) → FitsAfterHeader file log
    → FitsAfterHeader (patched changes file) (map (changed_answer changes) log)
patched_after changes file [] h = tt
patched_after changes file (given o bytes ∷ log) h = (
  subst (IsRangeOf (patched changes file) o) (sym (over_changed changes file o bytes h.0)) (changed_range changes file o (over (take 100 file) o bytes) h.0),
  patched_after changes file log h.1,
)
patched_after changes file (failed r ∷ log) h = (tt, patched_after changes file log h.1)

patched_run : (changes : List Change) (file : List ℕ) (log : List Answer) → FitsRun file log → FitsRun (patched changes file) (map (changed_answer changes) log)
patched_run changes file [] h = tt
patched_run changes file (a ∷ log) h = (patched_answer changes file a h.0, patched_after changes file log h.1)

-- ---- a file that agrees with all of a log agrees with what a run read

after_told : (file : List ℕ) (log : List Answer) → Fits file log → FitsAfterHeader file log
after_told file [] h = tt
after_told file (given o bytes ∷ log) h =
    (subst (IsRangeOf file o) (sym (over_range (take 100 file) file o bytes refl h.0)) h.0, after_told file log h.1)
after_told file (failed r ∷ log) h = (tt, after_told file log h.1)

pub run_told : (file : List ℕ) (log : List Answer) → Fits file log → FitsRun file log
run_told file [] h = tt
run_told file (a ∷ log) h = (h.0, after_told file log h.1)

-- ---- there is a file that agrees

-- what a file agrees with lies in it
lie_within : (changes : List Change) (head file : List ℕ) (log : List Answer) → length head ≡ 100 → 100 ≤ length file
    → FitsAfterHeader file (map (changed_answer changes) log) → AreWithin (length file) (map (over_answer head) log)
lie_within changes head file [] size long h = tt
lie_within changes head file (given o bytes ∷ log) size long h =
    let of_file : length (take 100 file) ≡ 100 = length-take 100 file ∙ omega arith in (
      omega (
        arith,
        h.0.0,
        over_length (take 100 file) (changed_from changes o bytes) o of_file,
        over_length head bytes o size,
        changed_length changes o bytes,
      ),
      lie_within changes head file log size long h.1,
    )
lie_within changes head file (failed r ∷ log) size long h = lie_within changes head file log size long h.1

-- one that begins with this header
beginning_so : (changes : List Change) (head file : List ℕ) (log : List Answer) (g : Geometry) → IsInRange g → IsPageLog g (map asked log)
    → length head ≡ 100 → 100 ≤ length file → FitsAfterHeader file (map (changed_answer changes) log)
    → (f : List ℕ) × (length f ≡ length file) × (take 100 f ≡ head) × FitsAfterHeader f log
beginning_so changes head file log g in_range pages size long h =
    let big : 100 ≤ g.page_size = omega (arith, in_range.page_size.0) in
    let same : map asked (map (over_answer head) log) ≡ map asked log = over_asked head log size in
    let f = snapshot_of g.page_size (length file) head (map (over_answer head) log) pages.pages big long size (same ∙ pages.ranges)
    (λ p i. (pages.readable p i).from_one) (lie_within changes head file log size long h) pages.distinct
    (over_begins head log g.page_size pages.pages size big pages.ranges) in
    (f.0, f.1.length, f.1.begins, fits_over head f.0 log f.1.begins f.1.fits)

there_below : (changes : List Change) (file : List ℕ) (log : List Answer) → IsSomeRunLog (map asked log)
    → (length file < 100 → log ≡ []) → FitsRun file (map (changed_answer changes) log) → (f : List ℕ) × (length f ≡ length file) × FitsRun f log
there_below changes file [] some short h = (file, refl, tt)
there_below changes file (a ∷ log) (g, in_range, inl e) short h = absurd cc
there_below changes file (failed r ∷ log) (g, in_range, inr (rest, e, pages)) short h =
    let long : 100 ≤ length file = by_length (cases_Bool (nat_lt (length file) 100)) in
    let k = same_head _ _ (map asked log) rest e in
    let f = beginning_so changes (take 100 file) file log g in_range (subst (IsPageLog g) (sym k.1) pages) (length-take 100 file ∙ omega arith) long h.1 in
    (f.0, f.1, (tt, f.3))
  where
    by_length : (nat_lt (length file) 100 ≡ true) ⊎ (nat_lt (length file) 100 ≡ false) → 100 ≤ length file
    by_length (inl l) = let k : length file < 100 = grind (arith, nat_tests) in let bad : failed r ∷ log ≡ [] = short k in absurd cc
    by_length (inr l) = grind (arith, nat_tests)
there_below changes file (given o bytes ∷ log) (g, in_range, inr (rest, e, pages)) short h =
    let k = same_head _ _ (map asked log) rest e in
    let m = same_offset o (length bytes) 0 100 k.0 in
    let long : 100 ≤ length file = omega (arith, h.0.0, m.0, m.1, changed_length changes o bytes) in
    let f = beginning_so changes bytes file log g in_range (subst (IsPageLog g) (sym k.1) pages) m.1 long h.1 in (
      f.0,
      f.1,
      (subst (λ n. IsRangeOf f.0 n bytes) (sym m.0) (begin_range bytes f.0 m.1 (sym f.2) (omega (arith, f.1, long))), f.3),
    )

-- ---- what was read

pub patched_file : (step : Step) (lengths : Lengths) (P : List ByteRange → Type 0) (Q : List ℕ → List ByteRange → Type 0) (old new : SourceState)
    → PatchedFileIsRead step lengths P Q old new
patched_file step lengths P Q old new changes changes' some h =
    let b = below step changes old.bytes old.trail (changed_trail changes' new.bytes new.trail) h.log h.leads in
    let m = same_changed changes' changes new.bytes old.bytes new.trail b.after b.is in
    let ranges : map asked h.log ≡ map asked b.raw = ap (map asked) b.given_as ∙ changed_asked changes b.raw in
    let none : h.log ≡ [] → b.raw ≡ [] = λ e. none_below changes b.raw (sym b.given_as ∙ e) in
    let f = there_below changes h.there_is.0 b.raw (subst IsSomeRunLog ranges (some (map asked h.log) h.holds))
    (λ l. none (h.short (subst (λ n. n < 100) h.there_is.1 l))) (subst (FitsRun h.there_is.0) b.given_as h.there_is.2) in
    record {
      len = h.len;
      log = b.raw;
      leads = subst (λ t. Leads step old.trail b.raw t) (sym m.2) b.leads;
      told = m.1;
      answered = elim h.answered [ inl a ↦ inl (of_length a) | inr e ↦ inr (none e.0, e.1) ];
      holds = subst P ranges h.holds;
      there_is = (f.0, f.1 ∙ h.there_is.1, f.2);
      files = λ file l k. subst (Q (patched changes file)) ranges (h.files (patched changes file) (changed_length changes 0 file ∙ l)
          (subst (FitsRun (patched changes file)) (sym b.given_as) (patched_run changes file b.raw k)));
      tells = by_told b.raw old.bytes h.tells b.fits;
      short = λ l. none (h.short l);
    }
  where
    of_length : ChangedLength lengths (changed_trail changes old.bytes old.trail) h.len → lengths old.trail h.len
    of_length a = let m = same_changed changes a.changes old.bytes a.told old.trail a.before a.was in subst (λ t. lengths t h.len) (sym m.2) a.length

    by_told : (raw : List Answer) (o : Option (List ℕ)) → IfSome (option_map (patched changes) o) (λ file. (length file ≡ h.len) × FitsRun file h.log)
        → IfSome o (λ file. Fits file raw) → IfSome o (λ file. (length file ≡ h.len) × FitsRun file raw)
    by_told raw None k f = tt
    by_told raw (Some file) k f = (sym (changed_length changes 0 file) ∙ k.0, run_told file raw f)

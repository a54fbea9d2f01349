-- What a search leaves, by what its calls did; and that `ok` is written of a sound file only.
use Rattle.std.proofs.Common.{◌≡◌, ◌∙◌, ◌<◌, ◌≤◌, ◌-◌, ◌^◌, ℕ, List, [], ◌∷◌, ◌++◌, Result, Ok, Err, Option, None, Some, ap, append_assoc, arith, inl, inr}
use Rattle.std.proofs.Common.{refl, subst, sym}
use Rattle.std.specs.Prelude.{IfSome, flat_map, min}
use Rattle.std.specs.Io.KnownBytes.{Appends}
use Rattle.dbformat.specs.Report.{verdict_of}
use Rattle.dbformat.specs.Sound.{Sound}
use Rattle.dbformat.specs.declared.Refusal.{Refusal}
use Rattle.dbformat.specs.declared.Verdict.{Verdict}
use Rattle.dbsource.specs.Changes.{Change, patched}
use Rattle.dbsource.specs.Errors.{is_read_failed, is_write_failed}
use Rattle.dbsource.specs.Failures.{failures_after, one_more}
use Rattle.dbsource.specs.Outs.{Begins, Puts, Writes}
use Rattle.dbsource.specs.declared.error.RunError.{RunError}
use Rattle.dbsource.specs.declared.error.RunError.TheVariants.{OutOfMemory, ReadFailed, Refused, WriteFailed}
use Rattle.dbsource.specs.declared.out.Out.{Ghosts as OutWords}
use Rattle.dbsource.specs.declared.source.Source.{Ghosts as SourceWords}
use Rattle.dbsource.proofs.Beginnings.{begins_nothing}
use Rattle.dbsource.proofs.Gathered.{begins_longer}
use Rattle.dbwalk.specs.Reporting.{IsReadWriteOrMemory}
use Rattle.dbmend.specs.Deeds.{Deed, Does, DoesAll, HasTried, IsReadOrMemory, looked, tried}
use Rattle.dbmend.specs.Mended.{AreSteps, Fix, Follows, HasMended, IsMended, WritesOkOfSound, changes_of, ended, faults_of, fix_text, left_after, mend_text}
use Rattle.dbmend.specs.Searched.{HasSearched}
use Rattle.dbmend.specs.Stepped.{HasPut}
use Rattle.dbmend.specs.Texts.{end_text, first_text}
use Rattle.dbmend.specs.Trials.{Among}
use Rattle.dbmend.specs.declared.count.Count.{Count}
use Rattle.dbmend.proofs.Steps.{writes_then}

-- ---- errors

-- a beginning of the text, where one of them ended the search
error_begins : (e : RunError) → IsReadWriteOrMemory e → (o n : Option (List ℕ)) (text : List ℕ) → Begins o n text → Writes (ended (Err e)) o n text
error_begins (Refused r) h o n text b = absurd (no_refusal r h)
  where
    no_refusal : (r : Refusal) → IsReadWriteOrMemory (Refused r) → ⊥
    no_refusal r (inl (inl h)) = absurd (let k : Refused r ≡ ReadFailed = h in cc)
    no_refusal r (inl (inr h)) = absurd (let k : Refused r ≡ WriteFailed = h in cc)
    no_refusal r (inr h) = absurd (let k : Refused r ≡ OutOfMemory = h in cc)
error_begins ReadFailed h o n text b = b
error_begins OutOfMemory h o n text b = b
error_begins WriteFailed h o n text b = b

inr_or : {e : RunError} → IsReadOrMemory e → IsReadWriteOrMemory e
inr_or (inl h) = inl (inl h)
inr_or (inr h) = inr h

last_error : (e : RunError) → IsReadOrMemory e → {O : Type 0} (o : O) → Follows (Err e) [] [] (Err e) o o
last_error (Refused r) (inl h) o = absurd (let k : Refused r ≡ ReadFailed = h in cc)
last_error (Refused r) (inr h) o = absurd (let k : Refused r ≡ OutOfMemory = h in cc)
last_error ReadFailed h o = (refl, refl, refl)
last_error OutOfMemory h o = (refl, refl, refl)
last_error WriteFailed h o = (refl, refl, refl)

no_write : (e : RunError) → IsReadOrMemory e → (n : ℕ) → n ≡ failures_after {A = Verdict} is_write_failed (Err e) n
no_write (Refused r) h n = refl
no_write ReadFailed h n = refl
no_write OutOfMemory h n = refl
no_write WriteFailed (inl h) n = absurd (let k : WriteFailed ≡ ReadFailed = h in cc)
no_write WriteFailed (inr h) n = absurd (let k : WriteFailed ≡ OutOfMemory = h in cc)

-- ---- a file that is refused

abbrev most_faults : ℕ
most_faults = 2 ^ 64 - 1

-- each change leaves fewer faults
left_fewer : (before : List Change) (faults : ℕ) (fixes : List Fix) (deeds : List Deed) → AreSteps before faults fixes deeds → left_after faults fixes ≤ faults
left_fewer before faults [] deeds h = omega arith
left_fewer before faults (f ∷ fixes) deeds h =
    let l = left_fewer (before ++ f.change ∷ []) f.count.faults fixes deeds h.1 in
    let m = h.0.trial.fewer in
    omega (arith, l, m)

none_of : (deeds : List Deed) (fixes : List Fix) → AreSteps [] most_faults fixes deeds → most_faults ≤ left_after most_faults fixes → fixes ≡ []
none_of deeds [] h l = refl
none_of deeds (f ∷ fixes) h l =
    let k = left_fewer (f.change ∷ []) f.count.faults fixes deeds h.1 in
    let m = h.0.trial.fewer in
    absurd (omega (arith, k, l, m))

some_fix : (fixes : List Fix) → left_after most_faults fixes < most_faults → fixes ≡ [] → ⊥
some_fix [] l e = omega (arith, l)
some_fix (f ∷ fixes) l e = absurd (let k : f ∷ fixes ≡ [] = e in cc)

some_text : (why : Refusal) (fixes : List Fix) → left_after most_faults fixes < most_faults
    → flat_map fix_text fixes ++ end_text (left_after most_faults fixes) ≡ mend_text (Err (Refused why)) fixes
some_text why [] l = absurd (let k : most_faults < most_faults = l in omega (arith, k))
some_text why (f ∷ fixes) l = refl

begins_refused : (why : Refusal) (fixes : List Fix) (o n : Option (List ℕ)) → Begins o n (flat_map fix_text fixes)
    → Begins o n (mend_text (Err (Refused why)) fixes)
begins_refused why [] o n h = h
begins_refused why (f ∷ fixes) o n h = begins_longer o n (flat_map fix_text (f ∷ fixes)) _ h

module _ {S O : Type 0} (source : SourceWords S) (out : OutWords O) (limit : ℕ) where
  -- the file is not read
  pub mended_unread : (e : RunError) (old new : S) (o : O) → HasTried source [] (Err e) old new → IsReadOrMemory e
      → HasMended source out limit (Err e) (old, o) (new, o)
  mended_unread e old new o h only = record {
    first = Err e;
    deeds = [];
    done = (new, h, refl);
    runs = omega arith;
    fixes = [];
    steps = tt;
    few = omega arith;
    written = error_begins e (inr_or only) (out.held o).bytes (out.held o).bytes [] (begins_nothing (out.held o).bytes []);
    answer = last_error e only o;
    reads = h.reads;
    writes = no_write e only (out.held o).failures;
  }

  -- what a search did after the run without changes
  pub mended_after : (first : Result Count RunError) (r : Result Verdict RunError) (old s : S) (o : O) (new : S × O) → HasTried source [] first old s
      → (source.held s).failures ≡ (source.held old).failures → HasSearched source out limit first r (s, o) new → HasMended source out limit r (old, o) new
  mended_after first r old s o new h same k = record {
    first = first;
    deeds = k.deeds;
    done = (s, h, k.done);
    runs = k.runs;
    fixes = k.fixes;
    steps = k.steps;
    few = k.few;
    written = k.written;
    answer = k.answer;
    reads = k.reads ∙ ap (failures_after is_read_failed r) same;
    writes = k.writes;
  }

  -- the first line cannot be written
  pub searched_unwritten : {A E : Type 0} (x : E) (c : Count) (s : S) (o p : O)
      → Puts {A = A} (Err x) (out.held o) (out.held p) (first_text c.faults) → HasSearched source out limit (Ok c) (Err WriteFailed) (s, o) (s, p)
  searched_unwritten x c s o p put = record {
    deeds = [];
    done = refl;
    runs = omega arith;
    fixes = [];
    steps = tt;
    few = omega arith;
    written = begins_longer (out.held o).bytes (out.held p).bytes (first_text c.faults) _ put.held;
    answer = inl (inr refl);
    reads = refl;
    writes = put.count;
  }

  module _ (c : Count) (s : S) (o p : O) (wrote : Appends (out.held o).bytes (out.held p).bytes (first_text c.faults))
      (unfailed : (out.held p).failures ≡ (out.held o).failures) where
    -- all of it, with its last line or without
    searched_by : {A : Type 0} (q : Result A RunError) (r : Result Verdict RunError) {left : ℕ} {Of : List Fix → Type 0} (m new : S × O)
        → (k : HasPut source out [] c.faults 255 left (min limit 16) q Of (s, p) m) → new.0 ≡ m.0
        → Writes (ended r) (out.held p).bytes (out.held new.1).bytes (flat_map fix_text k.fixes ++ end_text (left_after c.faults k.fixes))
        → Follows (Ok c) k.deeds k.fixes r o new.1 → (source.held new.0).failures ≡ failures_after is_read_failed r (source.held s).failures
        → (out.held new.1).failures ≡ failures_after is_write_failed r (out.held p).failures → HasSearched source out limit (Ok c) r (s, o) new
    searched_by q r m new k same written answer reads writes = record {
      deeds = k.deeds;
      done = subst (λ (x : S). DoesAll source k.deeds s x) (sym same) k.done;
      runs = let l = k.runs in omega (arith, l);
      fixes = k.fixes;
      steps = k.steps;
      few = k.few;
      written = writes_then (ended r) (out.held o).bytes (out.held p).bytes (out.held new.1).bytes (first_text c.faults) _ wrote written;
      answer = answer;
      reads = reads;
      writes = writes ∙ ap (failures_after is_write_failed r) unfailed;
    }

    -- a step failed
    pub searched_stopped : {A : Type 0} (e : RunError) {left : ℕ} {Of : List Fix → Type 0} (new : S × O)
        → HasPut source out {A = A} [] c.faults 255 left (min limit 16) (Err e) Of (s, p) new → HasSearched source out limit (Ok c) (Err e) (s, o) new
    searched_stopped e new k = searched_by (Err e) (Err e) new new k refl
        (error_begins e k.only (out.held p).bytes (out.held new.1).bytes _
        (begins_longer (out.held p).bytes (out.held new.1).bytes (flat_map fix_text k.fixes) _ k.written)) k.only k.reads k.writes

    module _ {A : Type 0} (a : A) (left : ℕ) {still : ℕ} (m : S × O)
        (k : HasPut source out {A = A} [] c.faults 255 still (min limit 16) (Ok a) (λ fixes. left ≡ left_after c.faults fixes) (s, p) m) where
      -- the last line cannot be written
      pub searched_unended : {B E : Type 0} (x : E) (q : O) → Puts {A = B} (Err x) (out.held m.1) (out.held q) (end_text left)
          → HasSearched source out limit (Ok c) (Err WriteFailed) (s, o) (m.0, q)
      searched_unended x q put = searched_by (Ok a) (Err WriteFailed) m (m.0, q) k refl
          (writes_then {A = Unit {0}} {E = Unit {0}} (Err tt) (out.held p).bytes (out.held m.1).bytes (out.held q).bytes (flat_map fix_text k.fixes) _ k.written
          (subst (λ n. Begins (out.held m.1).bytes (out.held q).bytes (end_text n)) k.of put.held))
          (inl (inr refl)) k.reads (put.count ∙ ap one_more k.writes)

      -- all of it
      pub searched_whole : {B E : Type 0} (b : B) (q : O) → Puts {E = E} (Ok b) (out.held m.1) (out.held q) (end_text left)
          → (v : Verdict) → v ≡ verdict_of c.faults → HasSearched source out limit (Ok c) (Ok v) (s, o) (m.0, q)
      searched_whole b q put v is = searched_by (Ok a) (Ok v) m (m.0, q) k refl
          (writes_then {A = Unit {0}} {E = Unit {0}} (Ok tt) (out.held p).bytes (out.held m.1).bytes (out.held q).bytes (flat_map fix_text k.fixes) _ k.written
          (subst (λ n. Appends (out.held m.1).bytes (out.held q).bytes (end_text n)) k.of put.held))
          is k.reads (put.count ∙ k.writes)

  -- ---- a file that is refused

  module _ (why : Refusal) (s : S) (o : O) where
    -- all of it, with its last line or without
    refused_by : {A : Type 0} (q : Result A RunError) (e : RunError) {left : ℕ} {Of : List Fix → Type 0} (m new : S × O)
        → (k : HasPut source out [] most_faults 255 left (min limit 16) q Of (s, o) m) → new.0 ≡ m.0
        → Writes (ended (Err e)) (out.held o).bytes (out.held new.1).bytes (mend_text (Err (Refused why)) k.fixes)
        → Follows (Err (Refused why)) k.deeds k.fixes (Err e) o new.1
        → (source.held new.0).failures ≡ failures_after {A = Verdict} is_read_failed (Err e) (source.held s).failures
        → (out.held new.1).failures ≡ failures_after {A = Verdict} is_write_failed (Err e) (out.held o).failures
        → HasSearched source out limit (Err (Refused why)) (Err e) (s, o) new
    refused_by q e m new k same written answer reads writes = record {
      deeds = k.deeds;
      done = subst (λ (x : S). DoesAll source k.deeds s x) (sym same) k.done;
      runs = let l = k.runs in omega (arith, l);
      fixes = k.fixes;
      steps = k.steps;
      few = k.few;
      written = written;
      answer = answer;
      reads = reads;
      writes = writes;
    }

    -- a step failed
    pub refused_stopped : {A : Type 0} (e : RunError) {left : ℕ} {Of : List Fix → Type 0} (new : S × O)
        → HasPut source out {A = A} [] most_faults 255 left (min limit 16) (Err e) Of (s, o) new
        → HasSearched source out limit (Err (Refused why)) (Err e) (s, o) new
    refused_stopped e new k = refused_by (Err e) e new new k refl
        (error_begins e k.only (out.held o).bytes (out.held new.1).bytes _ (begins_refused why k.fixes (out.held o).bytes (out.held new.1).bytes k.written))
        (inr k.only, k.idle) k.reads k.writes

    module _ {A : Type 0} (a : A) (left : ℕ) {still : ℕ} (m : S × O)
        (k : HasPut source out {A = A} [] most_faults 255 still (min limit 16) (Ok a) (λ fixes. left ≡ left_after most_faults fixes) (s, o) m) where
      -- no change was found with which it is read
      pub refused_still : most_faults ≤ left → HasSearched source out limit (Err (Refused why)) (Err (Refused why)) (s, o) m
      refused_still l =
          let none = none_of k.deeds k.fixes k.steps (subst (λ n. most_faults ≤ n) k.of l) in
          refused_by (Ok a) (Refused why) m m k refl
          (subst (λ (fixes : List Fix). Appends (out.held o).bytes (out.held m.1).bytes (mend_text (Err (Refused why)) fixes)) (sym none)
          (subst (λ (fixes : List Fix). Appends (out.held o).bytes (out.held m.1).bytes (flat_map fix_text fixes)) none k.written))
          (inl refl, k.idle) k.reads k.writes

      -- the last line cannot be written
      pub refused_unended : left < most_faults → {B E : Type 0} (x : E) (q : O) → Puts {A = B} (Err x) (out.held m.1) (out.held q) (end_text left)
          → HasSearched source out limit (Err (Refused why)) (Err WriteFailed) (s, o) (m.0, q)
      refused_unended l x q put = refused_by (Ok a) WriteFailed m (m.0, q) k refl
          (subst (λ (t : List ℕ). Begins (out.held o).bytes (out.held q).bytes t) (some_text why k.fixes (subst (λ n. n < most_faults) k.of l))
          (writes_then {A = Unit {0}} {E = Unit {0}} (Err tt) (out.held o).bytes (out.held m.1).bytes (out.held q).bytes (flat_map fix_text k.fixes) _ k.written
          (subst (λ n. Begins (out.held m.1).bytes (out.held q).bytes (end_text n)) k.of put.held)))
          (inr (inl (inr refl)), λ e. absurd (some_fix k.fixes (subst (λ n. n < most_faults) k.of l) e)) k.reads (put.count ∙ ap one_more k.writes)

      -- all of it
      pub refused_whole : left < most_faults → {B E : Type 0} (b : B) (q : O) → Puts {E = E} (Ok b) (out.held m.1) (out.held q) (end_text left)
          → HasSearched source out limit (Err (Refused why)) (Err (Refused why)) (s, o) (m.0, q)
      refused_whole l b q put = refused_by (Ok a) (Refused why) m (m.0, q) k refl
          (subst (λ (t : List ℕ). Appends (out.held o).bytes (out.held q).bytes t) (some_text why k.fixes (subst (λ n. n < most_faults) k.of l))
          (writes_then {A = Unit {0}} {E = Unit {0}} (Ok tt) (out.held o).bytes (out.held m.1).bytes (out.held q).bytes (flat_map fix_text k.fixes) _ k.written
          (subst (λ n. Appends (out.held m.1).bytes (out.held q).bytes (end_text n)) k.of put.held)))
          (inl refl, λ e. absurd (some_fix k.fixes (subst (λ n. n < most_faults) k.of l) e)) k.reads (put.count ∙ k.writes)

-- ---- `ok`

-- the run with all changes
last_run : (all : List Deed) (before : List Change) (c : Count) (fixes : List Fix) (deeds : List Deed) → ((d : Deed) → Among d deeds → Among d all)
    → AreSteps before c.faults fixes deeds → Among (tried before (Ok c)) all
    → (last : Count) × Among (tried (before ++ changes_of fixes) (Ok last)) all × (last.faults ≡ left_after c.faults fixes)
last_run all before c [] deeds more h run = (c, subst (λ (x : List Change). Among (tried x (Ok c)) all) (common_append before) run, refl)
  where
    common_append : (xs : List Change) → xs ≡ xs ++ []
    common_append [] = refl
    common_append (x ∷ xs) = ap (λ (l : List Change). x ∷ l) (common_append xs)
last_run all before c (f ∷ fixes) deeds more h run =
    let k = last_run all (before ++ f.change ∷ []) f.count fixes deeds more h.1 (more _ h.0.trial.tried.run) in (
      k.0,
      subst (λ (x : List Change). Among (tried x (Ok k.0)) all) (append_assoc before (f.change ∷ []) (changes_of fixes)) k.1,
      k.2,
    )

some_by : {P Q : List ℕ → Type 0} (o : Option (List ℕ)) → ((x : List ℕ) → P x → Q x) → IfSome o P → IfSome o Q
some_by None f h = tt
some_by (Some x) f h = f x h

module _ {S : Type 0} (source : SourceWords S) where
  does_told : (d : Deed) (s t : S) → Does source d s t → (source.held t).bytes ≡ (source.held s).bytes
  does_told (tried changes r) s t h = h.read.told
  does_told (looked a) s t h = h.told

  -- a deed among some, where it was done, and the bytes that the source told then
  record WasDone (d : Deed) (old new : S) : Type 0 where
    before : List Deed
    from : S
    to : S
    after : List Deed
    reached : DoesAll source before old from
    here : Does source d from to
    ends : DoesAll source after to new
    told : (source.held from).bytes ≡ (source.held old).bytes

  among_done : (d : Deed) (deeds : List Deed) (old new : S) → DoesAll source deeds old new → Among d deeds → WasDone d old new
  among_done d [] old new h k = absurd k
  among_done d (e ∷ deeds) old new (mid, h, rest) (inl same) = record {
    before = [];
    from = old;
    to = mid;
    after = deeds;
    reached = refl;
    here = subst (λ (x : Deed). Does source x old mid) same h;
    ends = rest;
    told = refl;
  }
  among_done d (e ∷ deeds) old new (mid, h, rest) (inr k) =
      let b = among_done d deeds mid new rest k in
      record {
        before = e ∷ b.before;
        from = b.from;
        to = b.to;
        after = b.after;
        reached = (mid, h, b.reached);
        here = b.here;
        ends = b.ends;
        told = b.told ∙ does_told e old mid h;
      }

  -- a run that found no fault
  found_sound : (changes : List Change) (c : Count) (old new : S) → WasDone (tried changes (Ok c)) old new → c.faults ≡ 0 → IsMended source changes old new
  found_sound changes c old new d none =
      let h : HasTried source changes (Ok c) d.from d.to = d.here in
      record {
        before = d.before;
        from = d.from;
        to = d.to;
        after = d.after;
        reached = d.reached;
        run = record {
          len = h.read.len;
          log = h.read.log;
          leads = h.read.leads;
          told = h.read.told;
          answered = h.read.answered;
          holds = h.read.holds;
          there_is = h.read.there_is;
          files = λ file long fits. (h.read.files file long fits).1.sound.0 none;
          tells = h.read.tells;
          short = h.read.short;
        };
        ends = d.ends;
        told = subst (λ (o : Option (List ℕ)). IfSome o (λ file. Sound (patched changes file))) d.told
            (some_by (source.held d.from).bytes (λ file fits. (h.read.files file fits.0 fits.1).1.sound.0 none) h.read.tells);
      }

-- the run with all changes of some, after the first of them
last_of : (all : List Deed) (first : Result Count RunError) (fixes : List Fix) (deeds : List Deed) → ((d : Deed) → Among d deeds → Among d all)
    → AreSteps [] (faults_of first) fixes deeds → Among (tried [] first) all → left_after (faults_of first) fixes ≡ 0
    → (last : Count) × Among (tried (changes_of fixes) (Ok last)) all × (last.faults ≡ 0)
last_of all (Ok c) fixes deeds more h run none =
    let k = last_run all [] c fixes deeds more h run in
    (k.0, k.1, k.2 ∙ none)
last_of all (Err e) [] deeds more h run none = absurd (let k : 2 ^ 64 - 1 ≡ 0 = none in omega (arith, k))
last_of all (Err e) (f ∷ fixes) deeds more h run none =
    let k = last_run all (f.change ∷ []) f.count fixes deeds more h.1 (more _ h.0.trial.tried.run) in
    (k.0, k.1, k.2 ∙ none)

module _ {S O : Type 0} (source : SourceWords S) (out : OutWords O) (limit : ℕ) (r : Result Verdict RunError) (old new : S × O) where
  pub writes_ok : HasMended source out limit r old new → WritesOkOfSound source out r old new
  writes_ok h = record {
    first = h.first;
    fixes = h.fixes;
    written = h.written;
    sound = λ none.
        let all = tried [] h.first ∷ h.deeds in
        let k = last_of all h.first h.fixes h.deeds (λ d a. inr a) h.steps (inl refl) none in
        let b = among_done source (tried (changes_of h.fixes) (Ok k.0)) all old.0 new.0 h.done k.1 in
        found_sound source (changes_of h.fixes) k.0 old.0 new.0 b k.2;
  }

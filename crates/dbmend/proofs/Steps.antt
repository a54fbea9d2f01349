-- Changes that are written, one after another.
use Rattle.std.proofs.Common.{◌≡◌, ◌∙◌, ◌+◌, ◌-◌, ◌≤◌, ℕ, List, [], ◌∷◌, ◌++◌, Result, Ok, Err, Option, ap, append_assoc, append-nil, arith, inl, inr, refl}
use Rattle.std.proofs.Common.{subst, sym}
use Rattle.std.specs.Prelude.{flat_map}
use Rattle.std.specs.Io.KnownBytes.{Appends}
use Rattle.std.proofs.lemmas.Grind.{flat_map-append}
use Rattle.std.proofs.lemmas.List.{length-append, map-append}
use Rattle.std.proofs.lemmas.List.Sums.{sum_by-append}
use Rattle.dbsource.specs.Changes.{Change}
use Rattle.dbsource.specs.Errors.{is_read_failed, is_write_failed}
use Rattle.dbsource.specs.Failures.{failures_after}
use Rattle.dbsource.specs.Outs.{Begins, Puts, Writes}
use Rattle.dbsource.specs.declared.error.RunError.{RunError}
use Rattle.dbsource.specs.declared.error.RunError.TheVariants.{OutOfMemory, ReadFailed, Refused, WriteFailed}
use Rattle.dbsource.specs.declared.out.Out.{Ghosts as OutWords}
use Rattle.dbsource.specs.declared.source.Source.{Ghosts as SourceWords}
use Rattle.dbsource.proofs.Beginnings.{begins_nothing}
use Rattle.dbsource.proofs.Puts.{appends_append, appends_nothing}
use Rattle.dbmend.specs.Deeds.{Deed, HasDone, IsReadOrMemory, runs_in, runs_of}
use Rattle.dbmend.specs.Mended.{AreSteps, Fix, changes_of, fix_text, left_after}
use Rattle.dbmend.specs.Stepped.{HasPut, IsAfter}
use Rattle.dbmend.specs.Trials.{IsStep}
use Rattle.dbmend.proofs.Done.{does_append}
use Rattle.dbmend.proofs.Trials.{step_left, step_right}

-- ---- texts

-- a text that was written, and then more
pub writes_then : {A E : Type 0} (r : Result A E) (o m n : Option (List ℕ)) (a b : List ℕ) → Appends o m a → Writes r m n b → Writes r o n (a ++ b)
writes_then (Ok x) o m n a b h k = appends_append o m n a b h k
writes_then (Err e) o m n a b h k = record {
  part = a ++ k.part;
  rest = k.rest;
  whole = append_assoc a k.part k.rest ∙ ap (λ w. a ++ w) k.whole;
  added = appends_append o m n a k.part h k.added;
}

-- ---- steps

pub steps_left : (a b : List Deed) (before : List Change) (faults : ℕ) (fixes : List Fix)
    → AreSteps before faults fixes a → AreSteps before faults fixes (a ++ b)
steps_left a b before faults [] h = tt
steps_left a b before faults (f ∷ fixes) h = (step_left a b h.0, steps_left a b (before ++ f.change ∷ []) f.count.faults fixes h.1)

pub steps_right : (a b : List Deed) (before : List Change) (faults : ℕ) (fixes : List Fix)
    → AreSteps before faults fixes b → AreSteps before faults fixes (a ++ b)
steps_right a b before faults [] h = tt
steps_right a b before faults (f ∷ fixes) h = (step_right a b h.0, steps_right a b (before ++ f.change ∷ []) f.count.faults fixes h.1)

pub steps_append : (deeds : List Deed) (before : List Change) (faults : ℕ) (xs ys : List Fix) → AreSteps before faults xs deeds
    → AreSteps (before ++ changes_of xs) (left_after faults xs) ys deeds → AreSteps before faults (xs ++ ys) deeds
steps_append deeds before faults [] ys h k = subst (λ (c : List Change). AreSteps c faults ys deeds) (append-nil before) k
steps_append deeds before faults (f ∷ xs) ys h k = (
  h.0,
  steps_append deeds (before ++ f.change ∷ []) f.count.faults xs ys h.1
      (subst (λ (c : List Change). AreSteps c (left_after f.count.faults xs) ys deeds) (sym (append_assoc before (f.change ∷ []) (changes_of xs))) k),
)

pub left_append : (faults : ℕ) (xs ys : List Fix) → left_after faults (xs ++ ys) ≡ left_after (left_after faults xs) ys
left_append faults [] ys = refl
left_append faults (f ∷ xs) ys = left_append f.count.faults xs ys

-- after more changes
pub after_more : (before : List Change) (faults : ℕ) (xs ys : List Fix) {changes changes' : List Change} {left left' : ℕ}
    → IsAfter before faults xs changes left → IsAfter changes left ys changes' left' → IsAfter before faults (xs ++ ys) changes' left'
after_more before faults xs ys {changes = changes} {left = left} h k = record {
  are = k.are ∙ ap (λ (c : List Change). c ++ changes_of ys) h.are ∙ append_assoc before (changes_of xs) (changes_of ys)
      ∙ ap (λ (c : List Change). before ++ c) (sym (map-append (λ (f : Fix). f.change) xs ys));
  still = k.still ∙ ap (λ n. left_after n ys) h.still ∙ sym (left_append faults xs ys);
}

nil_left : (xs ys : List Fix) → xs ++ ys ≡ [] → xs ≡ []
nil_left [] ys e = refl
nil_left (x ∷ xs) ys e = absurd (let k : x ∷ (xs ++ ys) ≡ [] = e in cc)

nil_right : (xs ys : List Fix) → xs ++ ys ≡ [] → ys ≡ []
nil_right [] ys e = e
nil_right (x ∷ xs) ys e = absurd (let k : x ∷ (xs ++ ys) ≡ [] = e in cc)

-- ---- what was done

module _ {S O : Type 0} (source : SourceWords S) (out : OutWords O) where
  -- nothing
  pub put_none : {A : Type 0} (a : A) (before : List Change) (faults had most : ℕ) (s : S × O) {Of : List Fix → Type 0} → Of []
      → HasPut source out {A = A} before faults had had most (Ok a) Of s s
  put_none a before faults had most s of = record {
    deeds = [];
    done = refl;
    runs = omega arith;
    fixes = [];
    steps = tt;
    few = omega arith;
    of = of;
    written = appends_nothing (out.held s.1).bytes;
    idle = λ e. refl;
    reads = refl;
    writes = refl;
    only = tt;
  }

  -- one call after another
  pub put_then : {A B : Type 0} (a : A) (r : Result B RunError) (before changes : List Change) (faults still : ℕ)
      {had mid left n k : ℕ} {P Q R : List Fix → Type 0} {old m new : S × O}
      → HasPut source out {A = A} before faults had mid n (Ok a) P old m → HasPut source out changes still mid left k r Q m new
      → ((xs : List Fix) → P xs → IsAfter before faults xs changes still) → ((xs ys : List Fix) → P xs → Q ys → R (xs ++ ys))
      → HasPut source out before faults had left (n + k) r R old new
  put_then a r before changes faults still {old = old} {m = m} {new = new} h k is join =
      let at = is h.fixes h.of in
      let more = subst (λ (c : List Change). AreSteps c (left_after faults h.fixes) k.fixes (h.deeds ++ k.deeds)) at.are
      (subst (λ (f : ℕ). AreSteps changes f k.fixes (h.deeds ++ k.deeds)) at.still (steps_right h.deeds k.deeds changes still k.fixes k.steps)) in
      record {
        deeds = h.deeds ++ k.deeds;
        done = does_append source h.deeds k.deeds old.0 m.0 new.0 h.done k.done;
        runs = let s = sum_by-append runs_of h.deeds k.deeds in let e = h.runs in let f = k.runs in omega (arith, s, e, f);
        fixes = h.fixes ++ k.fixes;
        steps = steps_append (h.deeds ++ k.deeds) before faults h.fixes k.fixes (steps_left h.deeds k.deeds before faults h.fixes h.steps) more;
        few = let l = length-append h.fixes k.fixes in let e = h.few in let f = k.few in omega (arith, l, e, f);
        of = join h.fixes k.fixes h.of k.of;
        written = subst (λ (t : List ℕ). Writes r (out.held old.1).bytes (out.held new.1).bytes t) (sym (flat_map-append fix_text h.fixes k.fixes))
            (writes_then r (out.held old.1).bytes (out.held m.1).bytes (out.held new.1).bytes (flat_map fix_text h.fixes) (flat_map fix_text k.fixes)
            h.written k.written);
        idle = λ e. k.idle (nil_right h.fixes k.fixes e) ∙ h.idle (nil_left h.fixes k.fixes e);
        reads = k.reads ∙ ap (failures_after is_read_failed r) h.reads;
        writes = k.writes ∙ ap (failures_after is_write_failed r) h.writes;
        only = k.only;
      }

  -- the source alone
  pub put_looked : {A B : Type 0} (a : A) (b : B) (before : List Change) (faults had left most : ℕ)
      {P : A → List Deed → Type 0} {s t : S} (o : O) {Of : List Fix → Type 0}
      → HasDone source (Ok a) had left P s t → Of [] → HasPut source out {A = B} before faults had left most (Ok b) Of (s, o) (t, o)
  put_looked a b before faults had left most o h of = record {
    deeds = h.deeds;
    done = h.done;
    runs = h.runs;
    fixes = [];
    steps = tt;
    few = omega arith;
    of = of;
    written = appends_nothing (out.held o).bytes;
    idle = λ e. refl;
    reads = h.reads;
    writes = refl;
    only = tt;
  }

  -- fewer runs left, and more changes that there might have been
  pub put_weaker : {A B : Type 0} (a : A) (b : B) {before : List Change} {faults had left left' n k : ℕ} {P Q : List Fix → Type 0} {old new : S × O}
      → HasPut source out {A = A} before faults had left n (Ok a) P old new → left' ≤ left → n ≤ k → ((fixes : List Fix) → P fixes → Q fixes)
      → HasPut source out {A = B} before faults had left' k (Ok b) Q old new
  put_weaker a b h l m q = record {
    deeds = h.deeds;
    done = h.done;
    runs = let e = h.runs in omega (arith, e, l);
    fixes = h.fixes;
    steps = h.steps;
    few = let e = h.few in omega (arith, e, m);
    of = q h.fixes h.of;
    written = h.written;
    idle = h.idle;
    reads = h.reads;
    writes = h.writes;
    only = tt;
  }

  pub put_stopped : {A B : Type 0} (e : RunError) {before : List Change} {faults had left left' n k : ℕ} {P : List Fix → Type 0} {old new : S × O}
      → HasPut source out {A = A} before faults had left n (Err e) P old new → left' ≤ left → n ≤ k
      → HasPut source out {A = B} before faults had left' k (Err e) (λ fixes. Unit {0}) old new
  put_stopped e h l m = record {
    deeds = h.deeds;
    done = h.done;
    runs = let e = h.runs in omega (arith, e, l);
    fixes = h.fixes;
    steps = h.steps;
    few = let e = h.few in omega (arith, e, m);
    of = tt;
    written = h.written;
    idle = h.idle;
    reads = h.reads;
    writes = h.writes;
    only = h.only;
  }

  -- the source failed, or memory was refused: nothing was written
  pub put_unread : {A B : Type 0} (e : RunError) (before : List Change) (faults had left most : ℕ) {P : A → List Deed → Type 0} {s t : S} (o : O)
      → HasDone source (Err e) had left P s t → HasPut source out {A = B} before faults had left most (Err e) (λ fixes. Unit {0}) (s, o) (t, o)
  put_unread {B = B} e before faults had left most o h = record {
    deeds = h.deeds;
    done = h.done;
    runs = h.runs;
    fixes = [];
    steps = tt;
    few = omega arith;
    of = tt;
    written = begins_nothing (out.held o).bytes [];
    idle = λ e. refl;
    reads = h.reads;
    writes = by_error e h.only (out.held o).failures;
    only = elim h.only [ inl r ↦ inl (inl r) | inr m ↦ inr m ];
  }
    where
      by_error : (e : RunError) → IsReadOrMemory e → (n : ℕ) → n ≡ failures_after {A = B} is_write_failed (Err e) n
      by_error (Refused r) h n = refl
      by_error ReadFailed h n = refl
      by_error OutOfMemory h n = refl
      by_error WriteFailed (inl h) n = absurd (let k : WriteFailed ≡ ReadFailed = h in cc)
      by_error WriteFailed (inr h) n = absurd (let k : WriteFailed ≡ OutOfMemory = h in cc)

  -- one change
  module _ (before : List Change) (faults most tried : ℕ) (f : Fix) (s t : S) (o p : O) {A : Type 0} (a : A) {P : A → List Deed → Type 0}
      (h : HasDone source (Ok a) most 0 P s t)
      (of : (deeds : List Deed) → P a deeds → IsStep before faults f.change f.was f.count deeds × (runs_in deeds ≤ tried) × (tried ≤ most)) where
    one_text : fix_text f ≡ flat_map fix_text (f ∷ [])
    one_text = sym (append-nil (fix_text f))

    pub put_fixed : {B E : Type 0} (b : B) → Puts {E = E} (Ok b) (out.held o) (out.held p) (fix_text f)
        → HasPut source out {A = Unit {0}} before faults most (most - tried) 1 (Ok tt)
        (λ fixes. IsAfter before faults fixes (before ++ f.change ∷ []) f.count.faults)
        (s, o) (t, p)
    put_fixed b put = record {
      deeds = h.deeds;
      done = h.done;
      runs = let k = of h.deeds h.of in let l = k.1 in let m = k.2 in omega (arith, l, m);
      fixes = f ∷ [];
      steps = ((of h.deeds h.of).0, tt);
      few = omega arith;
      of = record { are = refl; still = refl };
      written = subst (λ text. Appends (out.held o).bytes (out.held p).bytes text) one_text put.held;
      idle = λ e. absurd (let k : f ∷ [] ≡ [] = e in cc);
      reads = h.reads;
      writes = put.count;
      only = tt;
    }

    -- its lines cannot be written
    pub put_unfixed : {B E : Type 0} (x : E) → Puts {A = B} (Err x) (out.held o) (out.held p) (fix_text f)
        → HasPut source out {A = Unit {0}} before faults most 0 1 (Err WriteFailed) (λ fixes. Unit {0}) (s, o) (t, p)
    put_unfixed x put = record {
      deeds = h.deeds;
      done = h.done;
      runs = let k = h.runs in omega (arith, k);
      fixes = f ∷ [];
      steps = ((of h.deeds h.of).0, tt);
      few = omega arith;
      of = tt;
      written = subst (λ text. Begins (out.held o).bytes (out.held p).bytes text) one_text put.held;
      idle = λ e. absurd (let k : f ∷ [] ≡ [] = e in cc);
      reads = h.reads;
      writes = put.count;
      only = inl (inr refl);
    }

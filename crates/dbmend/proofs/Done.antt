-- Deeds in a row.
use Rattle.std.proofs.Common.{true, false, ◌≡◌, ◌∙◌, ◌+◌, ℕ, List, [], ◌∷◌, ◌++◌, Result, Ok, Err, ap, arith, inl, inr, refl, subst}
use Rattle.std.specs.Prelude.{◌≤◌, IfOk}
use Rattle.std.proofs.lemmas.List.Sums.{sum_by-append}
use Rattle.dbformat.specs.declared.ByteRange.{ByteRange}
use Rattle.dbsource.specs.Answers.{failed, given}
use Rattle.dbsource.specs.Changes.{Change}
use Rattle.dbformat.specs.declared.Refusal.{Refusal}
use Rattle.dbsource.specs.Errors.{is_read_failed, is_write_failed}
use Rattle.dbsource.specs.Failures.{failures_after}
use Rattle.dbsource.specs.declared.error.RunError.{RunError}
use Rattle.dbsource.specs.declared.error.RunError.TheVariants.{OutOfMemory, ReadFailed, Refused, WriteFailed}
use Rattle.dbsource.specs.declared.source.Source.{Ghosts as SourceWords}
use Rattle.dbmend.specs.Deeds.{Deed, DoesAll, HasDone, HasLooked, HasTried, IsReadOrMemory, looked, runs_in, runs_of, tried}
use Rattle.dbmend.specs.declared.count.Count.{Count}

module _ {S : Type 0} (source : SourceWords S) where
  pub does_append : (a b : List Deed) (old mid new : S) → DoesAll source a old mid → DoesAll source b mid new → DoesAll source (a ++ b) old new
  does_append [] b old mid new h k = subst (λ s. DoesAll source b s new) h k
  does_append (d ∷ a) b old mid new (m, e, h) k = (m, e, does_append a b m mid new h k)

  -- nothing was done, though `most` runs might have been
  pub done_none : {A : Type 0} (a : A) (most : ℕ) (s t : S) {Of : A → List Deed → Type 0} → t ≡ s → Of a [] → HasDone source (Ok a) most 0 Of s t
  done_none a most s t same of =
      record { deeds = []; done = same; runs = omega arith; of = of; reads = ap (λ x. (source.held x).failures) same; only = tt }

  -- an error, and nothing after it
  pub done_error : {A B : Type 0} (e : RunError) {had left : ℕ} {P : A → List Deed → Type 0} {Q : B → List Deed → Type 0} {old new : S}
      → HasDone source (Err e) had left P old new → HasDone source (Err e) had left Q old new
  done_error e h = record { deeds = h.deeds; done = h.done; runs = h.runs; of = tt; reads = h.reads; only = h.only }

  -- one after another
  pub done_then : {A B : Type 0} (a : A) (r : Result B RunError) {had mid left : ℕ} {P : A → List Deed → Type 0} {Q R : B → List Deed → Type 0} {old m new : S}
      → HasDone source (Ok a) had mid P old m → HasDone source r mid left Q m new
      → ((x y : List Deed) → P a x → IfOk r (λ b. Q b y) → IfOk r (λ b. R b (x ++ y)))
      → HasDone source r had left R old new
  done_then a r {old = old} {m = m} {new = new} h k join = record {
    deeds = h.deeds ++ k.deeds;
    done = does_append h.deeds k.deeds old m new h.done k.done;
    runs = let s = sum_by-append runs_of h.deeds k.deeds in let e = h.runs in let f = k.runs in omega (arith, s, e, f);
    of = join h.deeds k.deeds h.of k.of;
    reads = k.reads ∙ ap (failures_after is_read_failed r) h.reads;
    only = k.only;
  }

  -- one after another, with their runs together
  pub done_both : {A B : Type 0} (a : A) (r : Result B RunError) {n k : ℕ} {P : A → List Deed → Type 0} {Q R : B → List Deed → Type 0} {old m new : S}
      → HasDone source (Ok a) n 0 P old m → HasDone source r k 0 Q m new → ((x y : List Deed) → P a x → IfOk r (λ b. Q b y) → IfOk r (λ b. R b (x ++ y)))
      → HasDone source r (n + k) 0 R old new
  done_both a r {old = old} {m = m} {new = new} h k join = record {
    deeds = h.deeds ++ k.deeds;
    done = does_append h.deeds k.deeds old m new h.done k.done;
    runs = let s = sum_by-append runs_of h.deeds k.deeds in let e = h.runs in let f = k.runs in omega (arith, s, e, f);
    of = join h.deeds k.deeds h.of k.of;
    reads = k.reads ∙ ap (failures_after is_read_failed r) h.reads;
    only = k.only;
  }

  -- and nothing after that
  pub done_weaker : {A B : Type 0} (a : A) (b : B) {had left : ℕ} {P : A → List Deed → Type 0} {Q : B → List Deed → Type 0} {old new : S}
      → HasDone source (Ok a) had left P old new → ((x : List Deed) → P a x → Q b x) → HasDone source (Ok b) had left Q old new
  done_weaker a b h q = record { deeds = h.deeds; done = h.done; runs = h.runs; of = q h.deeds h.of; reads = h.reads; only = tt }

  -- and more runs might have been
  pub done_within : {A : Type 0} (r : Result A RunError) {had most : ℕ} {P : A → List Deed → Type 0} {old new : S}
      → HasDone source r had 0 P old new → had ≤ most → HasDone source r most 0 P old new
  done_within r h l = record { deeds = h.deeds; done = h.done; runs = let k = h.runs in omega (arith, k, l); of = h.of; reads = h.reads; only = h.only }

  -- its deeds have no more runs than there might have been
  pub done_counted : {A : Type 0} (a : A) {had : ℕ} {P : A → List Deed → Type 0} {old new : S}
      → HasDone source (Ok a) had 0 P old new → HasDone source (Ok a) had 0 (λ b x. P b x × (runs_in x ≤ had)) old new
  done_counted a h = record { deeds = h.deeds; done = h.done; runs = h.runs; of = (h.of, (let k = h.runs in omega (arith, k))); reads = h.reads; only = tt }

  -- one look
  pub done_look : {A : Type 0} (a : A) (n offset : ℕ) (buf : List ℕ) (s t : S) {Of : A → List Deed → Type 0} → HasLooked source (given offset buf) s t
      → Of a (looked (given offset buf) ∷ []) → HasDone source (Ok a) n n Of s t
  done_look a n offset buf s t h of =
      record { deeds = looked (given offset buf) ∷ []; done = (t, h, refl); runs = omega arith; of = of; reads = h.reads; only = tt }

  -- one that failed
  pub done_unread : {A : Type 0} (n : ℕ) (r : ByteRange) (s t : S) {Of : A → List Deed → Type 0} → HasLooked source (failed r) s t
      → HasDone source (Err ReadFailed) n n Of s t
  done_unread n r s t h =
      record { deeds = looked (failed r) ∷ []; done = (t, h, refl); runs = omega arith; of = tt; reads = h.reads; only = inl refl }

  -- one run, of which this is answered
  pub done_run : {A : Type 0} (a : A) (changes : List Change) (r : Result Count RunError) (s t : S) {Of : A → List Deed → Type 0}
      → HasTried source changes r s t → failures_after is_read_failed r (source.held s).failures ≡ (source.held s).failures
      → Of a (tried changes r ∷ []) → HasDone source (Ok a) 1 0 Of s t
  done_run a changes r s t h same of =
      record { deeds = tried changes r ∷ []; done = (t, h, refl); runs = omega arith; of = of; reads = h.reads ∙ same; only = tt }

  -- one that failed
  pub done_failed : {A : Type 0} (changes : List Change) (e : RunError) (s t : S) {Of : A → List Deed → Type 0}
      → HasTried source changes (Err e) s t → IsReadOrMemory e → HasDone source (Err e) 1 0 Of s t
  done_failed changes e s t h only =
      record { deeds = tried changes (Err e) ∷ []; done = (t, h, refl); runs = omega arith; of = tt; reads = h.reads; only = only }

  -- memory was refused before anything was done
  pub done_refused : {A : Type 0} (n : ℕ) (s t : S) {Of : A → List Deed → Type 0} → t ≡ s → HasDone source (Err OutOfMemory) n n Of s t
  done_refused n s t same =
      record { deeds = []; done = same; runs = omega arith; of = tt; reads = ap (λ x. (source.held x).failures) same; only = inr refl }

-- an error that is no refusal, of a call without an Out
pub read_or_memory : (e : RunError) → is_write_failed e ≡ false → ((r : Refusal) → e ≡ Refused r → ⊥) → IsReadOrMemory e
read_or_memory (Refused r) never other = absurd (other r refl)
read_or_memory ReadFailed never other = inl refl
read_or_memory OutOfMemory never other = inr refl
read_or_memory WriteFailed never other = absurd (let k : true ≡ false = never in cc)

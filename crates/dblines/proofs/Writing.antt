-- What is written, one text after another.
use Rattle.std.proofs.Common.{◌≡◌, ℕ, ◌+◌, ◌<◌, ◌≤◌, Bool, true, false, List, [], ◌∷◌, ◌++◌, length, take, get_or, refl, sym, ap, ap₂, subst, ◌∙◌}
use Rattle.std.proofs.Common.{append-nil, Result, Ok, Err}
use Rattle.std.specs.List.{flat_map}
use Rattle.std.proofs.lemmas.Grind.{flat_map-append}
use Rattle.std.proofs.lemmas.Bool.{false≢true}
use Rattle.std.proofs.lemmas.List.{take_more, take_all}
use Rattle.dbformat.specs.Reference.{Reference}
use Rattle.dbsource.specs.Outs.{OutState, Puts}
use Rattle.dbsource.proofs.Puts.{appends_nothing, puts_then, puts_stop}
use Rattle.dblines.specs.Writing.{Wrote, WroteOf, PutsOf, IsWritten, failure_answer, answer_of}
use Rattle.dblines.specs.declared.writer.Writer.{Writer}

written_then : (f g h : Bool) (o m n : OutState) (a b : List ℕ) → IsWritten f g o m a → IsWritten g h m n b → IsWritten f h o n (a ++ b)
written_then true true h o m n a b p q = (q.0 ∙ p.0, q.1)
written_then true false h o m n a b p q = absurd (false≢true p.1)
written_then false false h o m n a b p q = puts_then (failure_answer h) a b refl p q
written_then false true true o m n a b p q = rw q.0 (puts_stop a b refl refl p)
written_then false true false o m n a b p q = absurd (false≢true q.1)

-- what was written was put, or failed
pub put_written : {A E : Type 0} (r : Result A E) (f g : Bool) (o n : OutState) (a : List ℕ) → f ≡ false → answer_of r ≡ g → IsWritten f g o n a → Puts r o n a
put_written r true g o n a e k h = absurd (false≢true (sym e))
put_written (Ok x) false true o n a e k h = absurd (false≢true k)
put_written (Ok x) false false o n a e k h = record { held = h.held; count = h.count }
put_written (Err x) false true o n a e k h = record { held = h.held; count = h.count }
put_written (Err x) false false o n a e k h = absurd (false≢true (sym k))

-- two things
module _ {O : Type 0} {held : O → OutState} where
  pub wrote_then : {s m t : Writer O} {a b : List ℕ} → Wrote held s a m → Wrote held m b t → Wrote held s (a ++ b) t
  wrote_then {s = s} {m = m} {t = t} {a = a} {b = b} h k = record {
    same_out = k.same_out ∙ h.same_out;
    written = written_then s.has_failed m.has_failed t.has_failed (held s.out.now) (held m.out.now) (held t.out.now) a b h.written k.written;
  }

  -- the same text in other words
  pub wrote_as : {s t : Writer O} {a b : List ℕ} → a ≡ b → Wrote held s a t → Wrote held s b t
  wrote_as {s = s} {t = t} e h = subst (λ text. Wrote held s text t) e h

  -- nothing
  pub wrote_nothing : (s : Writer O) → Wrote held s [] s
  wrote_nothing s = record { same_out = refl; written = by_state s.has_failed (held s.out.now) }
    where
      by_state : (f : Bool) (o : OutState) → IsWritten f f o o []
      by_state true o = (refl, refl)
      by_state false o = record { held = appends_nothing o.bytes; count = refl }

-- the texts of some things, one after another

take_none : {X : Type 0} (xs : List X) → take 0 xs ≡ []
take_none [] = refl
take_none (x ∷ xs) = refl

text_more : {X : Type 0} (f : X → List ℕ) (xs : List X) (i : ℕ) (none : X) → i < length xs
    → flat_map f (take i xs) ++ f (get_or xs i none) ≡ flat_map f (take (i + 1) xs)
text_more f xs i none h =
    ap (λ w. flat_map f (take i xs) ++ w) (sym (append-nil (f (get_or xs i none))))
    ∙ sym (flat_map-append f (take i xs) (get_or xs i none ∷ []))
    ∙ ap (flat_map f) (sym (take_more xs i none h))

module _ {O X : Type 0} {held : O → OutState} (f : X → List ℕ) (xs : List X) where
  pub wrote_none : (s : Writer O) → Wrote held s (flat_map f (take 0 xs)) s
  wrote_none s = wrote_as (ap (flat_map f) (sym (take_none xs))) (wrote_nothing s)

  pub wrote_more : {s m t : Writer O} (i : ℕ) (none : X) → i < length xs → Wrote held s (flat_map f (take i xs)) m
      → Wrote held m (f (get_or xs i none)) t → Wrote held s (flat_map f (take (i + 1) xs)) t
  wrote_more i none l h k = wrote_as (text_more f xs i none l) (wrote_then h k)

  pub wrote_all : {s t : Writer O} (i : ℕ) → length xs ≤ i → Wrote held s (flat_map f (take i xs)) t → Wrote held s (flat_map f xs) t
  wrote_all i l h = wrote_as (ap (flat_map f) (take_all i xs l)) h

-- ---- what is written of a file

module _ {O : Type 0} {held : O → OutState} {Known : List ℕ → List Reference → Type 0} where
  -- whatever the file
  pub of_all : {s t : Writer O} {a : List ℕ} → Wrote held s a t → WroteOf held s Known (λ file V. a) t
  of_all {a = a} h = record { all = a; wrote = h; is = λ file V k. refl }

  -- two texts
  pub of_then : {s m t : Writer O} {a b : List ℕ → List Reference → List ℕ} → WroteOf held s Known a m → WroteOf held m Known b t
      → WroteOf held s Known (λ file V. a file V ++ b file V) t
  of_then h k = record { all = h.all ++ k.all; wrote = wrote_then h.wrote k.wrote; is = λ file V o. ap₂ (λ x y. x ++ y) (h.is file V o) (k.is file V o) }

  -- the same text in other words
  pub of_as : {s t : Writer O} {a b : List ℕ → List Reference → List ℕ} → ((file : List ℕ) (V : List Reference) → Known file V → a file V ≡ b file V)
      → WroteOf held s Known a t → WroteOf held s Known b t
  of_as e h = record { all = h.all; wrote = h.wrote; is = λ file V o. h.is file V o ∙ e file V o }

  -- all was put, or the Out failed
  pub put_of : {A E : Type 0} {r : Result A E} {o : O} {s t : Writer O} {text : List ℕ → List Reference → List ℕ} → s.has_failed ≡ false → s.out.now ≡ o
      → answer_of r ≡ t.has_failed → WroteOf held s Known text t → PutsOf r (held o) (held t.out.now) Known text
  put_of {r = r} fresh from answer h = record {
    all = h.all;
    puts = put_written r _ _ _ _ _ fresh answer (rw (ap held from) at h.wrote.written);
    is = h.is;
  }

-- what is so of each file of which less is known is so of each of which more is
pub of_known : {O : Type 0} {held : O → OutState} {Less More : List ℕ → List Reference → Type 0} {s t : Writer O} {text : List ℕ → List Reference → List ℕ}
    → ((file : List ℕ) (V : List Reference) → More file V → Less file V) → WroteOf held s Less text t → WroteOf held s More text t
of_known less h = record { all = h.all; wrote = h.wrote; is = λ file V k. h.is file V (less file V k) }

-- one more of some things
module _ {O X : Type 0} {held : O → OutState} {Known : List ℕ → List Reference → Type 0} (f : List ℕ → List Reference → X → List ℕ) (xs : List X) where
  pub of_none : (s : Writer O) → WroteOf held s Known (λ file V. flat_map (f file V) (take 0 xs)) s
  of_none s = of_as (λ file V k. ap (flat_map (f file V)) (sym (take_none xs))) (of_all (wrote_nothing s))

  pub of_more : {s m t : Writer O} (i : ℕ) (none : X) → i < length xs → WroteOf held s Known (λ file V. flat_map (f file V) (take i xs)) m
      → WroteOf held m Known (λ file V. f file V (get_or xs i none)) t → WroteOf held s Known (λ file V. flat_map (f file V) (take (i + 1) xs)) t
  of_more i none l h k = of_as (λ file V o. text_more (f file V) xs i none l) (of_then h k)

  pub of_every : {s t : Writer O} (i : ℕ) → length xs ≤ i → WroteOf held s Known (λ file V. flat_map (f file V) (take i xs)) t
      → WroteOf held s Known (λ file V. flat_map (f file V) xs) t
  of_every i l h = of_as (λ file V o. ap (flat_map (f file V)) (take_all i xs l)) h

-- Puts in a row.
use Rattle.std.proofs.Common.{◌≡◌, ℕ, ◌+◌, ◌-◌, ◌≤◌, length, take, drop, arith, List, [], ◌++◌, refl, sym, ◌∙◌, ap, append_assoc, append-nil, Option, None}
use Rattle.std.proofs.Common.{Some, Result, Ok, Err}
use Rattle.std.proofs.lemmas.Grind.{common_steps}
use Rattle.std.proofs.lemmas.List.{take-append-drop}
use Rattle.std.proofs.Math.Seq.{take-add}
use Rattle.std.specs.Io.KnownBytes.{Appends, Keeps}
use Rattle.dbsource.specs.Failures.{one_more}
use Rattle.dbsource.specs.Outs.{Begins, OutState, Puts}

-- what was appended, and then more
pub appends_append : (o m n : Option (List ℕ)) (a b : List ℕ) → Appends o m a → Appends m n b → Appends o n (a ++ b)
appends_append None m n a b h k = tt
appends_append (Some x) None n a b h k = absurd h
appends_append (Some x) (Some y) None a b h k = absurd k
appends_append (Some x) (Some y) (Some z) a b h k = k ∙ (ap (λ w. w ++ b) h) ∙ append_assoc x a b

-- what is left alone stays
pub keeps_same : (o : Option (List ℕ)) → Keeps o o
keeps_same None = tt
keeps_same (Some x) = refl

-- what was appended stays
pub appends_kept : (o m n : Option (List ℕ)) (a : List ℕ) → Appends o m a → Keeps m n → Appends o n a
appends_kept None m n a h k = tt
appends_kept (Some x) None n a h k = absurd h
appends_kept (Some x) (Some y) None a h k = absurd k
appends_kept (Some x) (Some y) (Some z) a h k = k ∙ h

-- what was kept, and then something appended
pub kept_appends : (o m n : Option (List ℕ)) (a : List ℕ) → Keeps o m → Appends m n a → Appends o n a
kept_appends None m n a h k = tt
kept_appends (Some x) None n a h k = absurd h
kept_appends (Some x) (Some y) None a h k = absurd k
kept_appends (Some x) (Some y) (Some z) a h k = k ∙ ap (λ w. w ++ a) h

-- a write of nothing keeps what is held
pub keeps_from_nothing : (o n : Option (List ℕ)) → Appends o n [] → Keeps o n
keeps_from_nothing None n h = tt
keeps_from_nothing (Some x) None h = absurd h
keeps_from_nothing (Some x) (Some y) h = h ∙ append-nil x

pub appends_nothing : (o : Option (List ℕ)) → Appends o o []
appends_nothing None = tt
appends_nothing (Some x) = sym (append-nil x)

-- a put that succeeds, and then others
pub puts_then : {A B E F : Type 0} {s : Result A E} (r : Result B F) {x : A} {o m n : OutState} (a b : List ℕ)
    → s ≡ Ok x → Puts s o m a → Puts r m n b → Puts r o n (a ++ b)
puts_then (Ok u) {o = o} {m = m} {n = n} a b p h k =
    let here : Appends o.bytes m.bytes a = rw p at h.held in
    record { held = appends_append o.bytes m.bytes n.bytes a b here k.held; count = k.count ∙ (rw p at h.count) }
puts_then (Err d) {o = o} {m = m} {n = n} a b p h k =
    let here : Appends o.bytes m.bytes a = rw p at h.held in
    record {
      held = record {
        part = a ++ k.held.part;
        rest = k.held.rest;
        whole = append_assoc a k.held.part k.held.rest ∙ ap (λ w. a ++ w) k.held.whole;
        added = appends_append o.bytes m.bytes n.bytes a k.held.part here k.held.added;
      };
      count = k.count ∙ ap one_more (rw p at h.count);
    }

-- a put that fails, and nothing after it
pub puts_stop : {A B E F : Type 0} {s : Result A E} {r : Result B F} {o n : OutState} (a b : List ℕ) {x : E} {y : F}
    → s ≡ Err x → r ≡ Err y → Puts s o n a → Puts r o n (a ++ b)
puts_stop {o = o} {n = n} a b p q h =
    let here : Begins o.bytes n.bytes a = rw p at h.held in
    rw q (record {
      held = record {
        part = here.part;
        rest = here.rest ++ b;
        whole = sym (append_assoc here.part here.rest b) ∙ ap (λ w. w ++ b) here.whole;
        added = here.added;
      };
      count = rw p at h.count;
    })

-- one more write of a stream
pub stream_more : (o m n : Option (List ℕ)) (piece : List ℕ) (at k : ℕ) → at + k ≤ length piece
    → Appends o m (take at piece) → Appends m n (take k (take (length piece - at) (drop at piece))) → Appends o n (take (at + k) piece)
stream_more o m n piece at k h p q =
    let e : take (length piece - at) (drop at piece) ≡ drop at piece = grind (arith, common_steps) in
    rw take-add (appends_append o m n (take at piece) (take k (drop at piece)) p (rw e at q))

-- the last write of a stream failed, and appended nothing
pub stream_stop : (o m n : Option (List ℕ)) (piece : List ℕ) (at : ℕ)
    → Appends o m (take at piece) → Keeps m n → Begins o n piece
stream_stop o m n piece at p q = record {
  part = take at piece;
  rest = drop at piece;
  whole = take-append-drop at piece;
  added = appends_kept o m n (take at piece) p q;
}

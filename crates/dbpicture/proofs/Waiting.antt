-- Bytes that wait before an Out.
use Rattle.std.proofs.Common.{◌≡◌, ℕ, ◌+◌, ◌<◌, ◌≤◌, List, [], ◌++◌, length, drop, get_or, add-one, drop-cons, refl, sym, ap, ◌∙◌, append_assoc}
use Rattle.std.proofs.Common.{append-nil, Result, Ok, Err}
use Rattle.std.proofs.lemmas.List.{drop_all}
use Rattle.dbsource.specs.Failures.{one_more}
use Rattle.dbsource.specs.Outs.{Begins, OutState, Puts}
use Rattle.dbsource.specs.declared.out.WriteFailed.{WriteFailed}
use Rattle.dbsource.proofs.Puts.{appends_append, puts_then}
use Rattle.dbsource.proofs.Beginnings.{begins_after, begins_more}
use Rattle.dbpicture.specs.Pieces.{piece_text, pieces_text}
use Rattle.dbpicture.specs.Puts.{LeavesWaiting, Takes}
use Rattle.dbpicture.specs.declared.pieces.Piece.{Piece}

-- all of it was put
pub takes_put : {A E : Type 0} (r : Result A E) {o n : OutState} {w b : List ℕ} → Puts r o n (w ++ b) → Takes r o n w [] b
takes_put (Ok x) {w = w} {b = b} h = record {
  held = record { done = w ++ b; whole = append-nil (w ++ b); added = h.held };
  count = h.count;
}
takes_put (Err e) h = record { held = h.held; count = h.count }

more : (done v w a b : List ℕ) → done ++ v ≡ w ++ a → done ++ (v ++ b) ≡ w ++ (a ++ b)
more done v w a b e = sym (append_assoc done v b) ∙ ap (λ l. l ++ b) e ∙ append_assoc w a b

-- some bytes, and then others
pub takes_then : {A B E F : Type 0} {s : Result A E} (r : Result B F) {x : A} {o m n : OutState} {w v u : List ℕ} (a b : List ℕ)
    → s ≡ Ok x → Takes s o m w v a → Takes r m n v u b → Takes r o n w u (a ++ b)
takes_then (Ok y) {o = o} {m = m} {n = n} {w = w} {v = v} {u = u} a b p h k =
    let here : LeavesWaiting o.bytes m.bytes (w ++ a) v = rw p at h.held in
    record {
      held = record {
        done = here.done ++ k.held.done;
        whole = append_assoc here.done k.held.done u ∙ ap (λ l. here.done ++ l) k.held.whole ∙ more here.done v w a b here.whole;
        added = appends_append o.bytes m.bytes n.bytes here.done k.held.done here.added k.held.added;
      };
      count = k.count ∙ (rw p at h.count);
    }
takes_then (Err d) {o = o} {m = m} {n = n} {w = w} {v = v} a b p h k =
    let here : LeavesWaiting o.bytes m.bytes (w ++ a) v = rw p at h.held in
    record {
      held = begins_after o.bytes m.bytes n.bytes here.done (v ++ b) (w ++ (a ++ b)) (more here.done v w a b here.whole) here.added k.held;
      count = k.count ∙ ap one_more (rw p at h.count);
    }

-- some bytes that were not taken whole, and nothing after them
pub takes_stop : {A B E F : Type 0} {s : Result A E} {r : Result B F} {o n : OutState} {w v u : List ℕ} (a b : List ℕ) {x : E} {y : F}
    → s ≡ Err x → r ≡ Err y → Takes s o n w v a → Takes r o n w u (a ++ b)
takes_stop {o = o} {n = n} {w = w} a b p q h =
    let here : Begins o.bytes n.bytes (w ++ a) = rw p at h.held in
    rw q (record {
      held = begins_more o.bytes n.bytes (w ++ a) b (w ++ (a ++ b)) (append_assoc w a b) here;
      count = rw p at h.count;
    })

-- Of a text some was put and some waits; this is the rest.
pub record HasTaken (old now : OutState) (waiting rest whole : List ℕ) : Type 0 where
  pub done : List ℕ
  pub split : done ++ (waiting ++ rest) ≡ whole
  pub put : Puts {E = WriteFailed} (Ok (tt {0})) old now done

pub taken_more : {o m n : OutState} {w v rest whole : List ℕ} {s : Result (Unit {0}) WriteFailed} {x : Unit {0}} (a left : List ℕ)
    → HasTaken o m w rest whole → s ≡ Ok x → Takes s m n w v a → rest ≡ a ++ left → HasTaken o n v left whole
taken_more {o = o} {m = m} {n = n} {w = w} {v = v} {rest = rest} {whole = whole} a left h p k e =
    let here : LeavesWaiting m.bytes n.bytes (w ++ a) v = rw p at k.held in
    record {
      done = h.done ++ here.done;
      split = append_assoc h.done here.done (v ++ left) ∙ ap (λ l. h.done ++ l) (more here.done v w a left here.whole ∙ ap (λ l. w ++ l) (sym e)) ∙ h.split;
      put = record { held = appends_append o.bytes m.bytes n.bytes h.done here.done h.put.held here.added; count = (rw p at k.count) ∙ h.put.count };
    }

pub taken_stop : {o m n : OutState} {w v rest whole : List ℕ} {s r : Result (Unit {0}) WriteFailed} {x y : WriteFailed} (a left : List ℕ)
    → HasTaken o m w rest whole → s ≡ Err x → r ≡ Err y → Takes s m n w v a → rest ≡ a ++ left → Puts r o n whole
taken_stop {o = o} {m = m} {n = n} {w = w} {v = v} {rest = rest} {whole = whole} a left h p q k e =
    let here : Begins m.bytes n.bytes (w ++ a) = rw p at k.held in
    let all : (h.done ++ (w ++ a)) ++ left ≡ whole = append_assoc h.done (w ++ a) left
    ∙ ap (λ l. h.done ++ l) (append_assoc w a left ∙ ap (λ l. w ++ l) (sym e)) ∙ h.split in
    rw q (record {
      held = begins_more o.bytes n.bytes (h.done ++ (w ++ a)) left whole all
          (begins_after o.bytes m.bytes n.bytes h.done (w ++ a) (h.done ++ (w ++ a)) refl h.put.held here);
      count = (rw p at k.count) ∙ ap one_more h.put.count;
    })

-- nothing is left: what waits is the end
pub taken_all : {o m n : OutState} {w rest whole : List ℕ} (r : Result (Unit {0}) WriteFailed)
    → HasTaken o m w rest whole → rest ≡ [] → Puts r m n w → Puts r o n whole
taken_all {w = w} {whole = whole} r h e k =
    let all : h.done ++ w ≡ whole = ap (λ l. h.done ++ l) (sym (append-nil w) ∙ ap (λ l. w ++ l) (sym e)) ∙ h.split in
    rw all at (puts_then r h.done w refl h.put k)

-- what waited was not put whole
pub takes_failed : {A E : Type 0} {r : Result A E} {o n : OutState} {w v b : List ℕ} {y : E} → r ≡ Err y → Puts r o n (w ++ b) → Takes r o n w v b
takes_failed {o = o} {n = n} {w = w} {b = b} q h =
    let here : Begins o.bytes n.bytes (w ++ b) = rw q at h.held in
    rw q (record { held = here; count = rw q at h.count })

-- what is left of pieces, by the next one
pub next_piece : (pieces : List Piece) (i : ℕ) (d : Piece) → i < length pieces
    → pieces_text (drop i pieces) ≡ piece_text (get_or pieces i d) ++ pieces_text (drop (i + 1) pieces)
next_piece pieces i d h = rw (add-one, drop-cons pieces i d h) refl

pub no_piece : (pieces : List Piece) (i : ℕ) → length pieces ≤ i → pieces_text (drop i pieces) ≡ []
no_piece pieces i h = rw (drop_all i pieces h) refl

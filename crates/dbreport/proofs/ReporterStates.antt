-- What a reporter borrows after an answer, and what its Outs count.
use Rattle.dbreport.proofs.Common.{◌≡◌, ℕ, Bool, inl, inr, List, [], ◌∷◌, Err, Result, ap, ◌∙◌, is_write_failed, failures_after, RunError, WriteFailed, one_out}
use Rattle.dbwalk.specs.Reporting.{SinkAfter, SinkState}
use Rattle.dbscan.proofs.Notifiers.{first}

-- the second of some numbers
abbrev pub second : List ℕ → ℕ
second [] = 0
second (x ∷ xs) = first xs

-- it borrows the same
pub lent_same : {A : Type 0} (r : Result A RunError) (s t : SinkState) → SinkAfter is_write_failed r s t → t.lent ≡ s.lent
lent_same (Err WriteFailed) s t h = h.lent
lent_same _ s t h = ap (λ (x : SinkState). x.lent) h

-- if it borrows one Out, this failed once more exactly at a failed write
pub one_failed : {A : Type 0} (r : Result A RunError) (a b m n : ℕ) (e f : Bool) → SinkAfter is_write_failed r (one_out a m e) (one_out b n f) → n
    ≡ failures_after is_write_failed r m
one_failed (Err WriteFailed) a b m n e f h = elim h.failures [ inl k ↦ k.0 | inr k ↦ absurd k.1 ]
one_failed _ a b m n e f h = ap (λ (s : SinkState). first s.failures) h

-- one Out as it was
pub one_same : {a b m n : ℕ} {e f : Bool} → b ≡ a → n ≡ m → f ≡ e → one_out b n f ≡ one_out a m e
one_same {a = a} {n = n} {e = e} {f = f} same count shut =
    ap (λ x. one_out x n f) same ∙ ap (λ x. one_out a x f) count ∙ ap (one_out a _) shut

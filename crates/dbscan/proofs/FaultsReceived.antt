-- What a run makes of a reporter on which only faults have an effect: it takes the faults of the file.
use Rattle.dbscan.proofs.Common.{inl, inr, ℕ, List, [], ◌∷◌, Result, Ok, Err, subst, Moves, MovesBySome, Reference, faults, Survey, Fault, RunError, Reports}
use Rattle.dbscan.proofs.Common.{Notice, received_fault, faults_received, run_notices, some_none}
use Rattle.dbscan.specs.Notices.{ReceivesFaults}
use Rattle.dbscan.proofs.ReceivedFaults.{faults_are_received}

module _ {S : Type 0} (takes : S → Fault → S → Type 0) where
  all_received : (ns : List Notice) (s t : S) → Moves (ReceivesFaults takes) s ns t → Moves takes s (faults_received ns) t
  all_received [] s t h = h
  all_received (received_fault x ∷ ns) s t h = (h.0, h.1, all_received ns h.0 t h.2)
  all_received (_ ∷ ns) s t h = subst (λ m. Moves takes m (faults_received ns) t) h.1 (all_received ns h.0 t h.2)

  some_received : (ns : List Notice) (s t : S) → MovesBySome (ReceivesFaults takes) s ns t → MovesBySome takes s (faults_received ns) t
  some_received [] s t h = h
  some_received (n ∷ ns) s t (inl e) = subst (λ m. MovesBySome takes s (faults_received (n ∷ ns)) m) e (some_none takes s (faults_received (n ∷ ns)))
  some_received (received_fault x ∷ ns) s t (inr h) = inr (h.0, h.1, some_received ns h.0 t h.2)
  some_received (_ ∷ ns) s t (inr h) = subst (λ m. MovesBySome takes m (faults_received ns) t) h.1 (some_received ns h.0 t h.2)

  received_by : {A : Type 0} (r : Result A RunError) (ns : List Notice) (s t : S) → Reports (ReceivesFaults takes) r s ns t
      → Reports takes r s (faults_received ns) t
  received_by (Ok a) ns s t h = all_received ns s t h
  received_by (Err e) ns s t h = some_received ns s t h

  pub faults_received_by : {A : Type 0} (file : List ℕ) (V : List Reference) → Survey file V → (r : Result A RunError) (s t : S)
      → Reports (ReceivesFaults takes) r s (run_notices file V) t → Reports takes r s (faults file V) t
  faults_received_by file V survey r s t h = subst (λ fs. Reports takes r s fs t) (faults_are_received file V survey) (received_by r (run_notices file V) s t h)

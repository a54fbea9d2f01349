-- What a reporter keeps that receives notices, where each fault adds to it, each row is noted, and nothing else changes it.
use Rattle.std.proofs.Common.{◌≡◌, ℕ, inl, inr, List, [], ◌∷◌, ◌++◌, refl, sym, ap, subst, ◌∙◌, append_assoc, append-nil}
use Rattle.std.proofs.lemmas.List.Elements.{filter_map-append}
use Rattle.dbsurvey.specs.Moves.{Moves, MovesBySome}
use Rattle.dbformat.specs.Reference.{Reference}
use Rattle.dbformat.specs.Rows.{StatRow, stat_rows}
use Rattle.dbformat.specs.Survey.{Survey}
use Rattle.dbtrace.specs.declared.TracedFault.{TracedFault}
use Rattle.dbscan.specs.ReceivedRows.{rows_received}
use Rattle.dbscan.specs.Notices.{Notice, received_fault, received_row, ended, marked, run_notices}
use Rattle.dbscan.specs.Placed.{reported_in, reported_of, reported_faults}
use Rattle.dbscan.proofs.ReceivedFaults.{run_received}
use Rattle.dbscan.proofs.ReceivedRows.{run_rows}
use Rattle.dbinjuries.specs.Listed.{IsBeginning}
use Rattle.dbinjuries.specs.Traced.{ReceivesTraced}

-- up to some point is to the end of a beginning
some_moves : {S E : Type 0} {move : S → E → S → Type 0} (es : List E) (s t : S) → MovesBySome move s es t → (xs ys : List E) × (xs ++ ys ≡ es)
    × Moves move s xs t
some_moves [] s t m = ([], [], refl, m)
some_moves (e ∷ es) s t (inl m) = ([], e ∷ es, refl, m)
some_moves (e ∷ es) s t (inr (m, k, n)) = let r = some_moves es m t n in (e ∷ r.0, r.1, ap (λ l. e ∷ l) r.2, (m, k, r.3))

-- By what is so of a reporter that has received some faults and rows.
module _ {K : Type 0} (adds : TracedFault → K → K → Type 0) (notes : StatRow → K → K → Type 0) (Has : List TracedFault → List StatRow → K → Type 0)
    (one : (x : TracedFault) (ts : List TracedFault) (rs : List StatRow) (s t : K) → Has ts rs s → adds x s t → Has (ts ++ x ∷ []) rs t)
    (row : (r : StatRow) (ts : List TracedFault) (rs : List StatRow) (s t : K) → Has ts rs s → notes r s t → Has ts (rs ++ r ∷ []) t) where
  -- notice after notice
  all_received : (ns : List Notice) (ts : List TracedFault) (rs : List StatRow) (s t : K) → Has ts rs s → Moves (ReceivesTraced adds notes) s ns t
      → Has (ts ++ reported_in ns) (rs ++ rows_received ns) t
  all_received [] ts rs s t h m =
      subst (λ ts. Has ts (rs ++ []) t) (sym (append-nil ts)) (subst (λ rs. Has ts rs t) (sym (append-nil rs)) (subst (Has ts rs) m h))
  all_received (received_fault x ∷ ns) ts rs s t h m =
      subst (λ l. Has l (rs ++ rows_received ns) t) (append_assoc ts (x ∷ []) (reported_in ns))
      (all_received ns (ts ++ x ∷ []) rs m.0 t (one x ts rs s m.0 h m.1) m.2)
  all_received (received_row at r ∷ ns) ts rs s t h m =
      subst (λ l. Has (ts ++ reported_in ns) l t) (append_assoc rs (r ∷ []) (rows_received ns))
      (all_received ns ts (rs ++ r ∷ []) m.0 t (row r ts rs s m.0 h m.1) m.2)
  all_received (ended at ∷ ns) ts rs s t h m = all_received ns ts rs m.0 t (subst (Has ts rs) (sym m.1) h) m.2
  all_received (marked g p mark ∷ ns) ts rs s t h m = all_received ns ts rs m.0 t (subst (Has ts rs) (sym m.1) h) m.2

  -- of a file, by one that had received nothing
  module _ (file : List ℕ) (V : List Reference) (survey : Survey file V) (s t : K) (none : Has [] [] s) where
    -- all of it
    pub file_received : Moves (ReceivesTraced adds notes) s (run_notices file V) t → Has (reported_faults file V) (stat_rows file V) t
    file_received m =
        subst (λ ts. Has ts (stat_rows file V) t) (run_received file V survey)
        (subst (λ rs. Has (reported_in (run_notices file V)) rs t) (run_rows file V survey) (all_received (run_notices file V) [] [] s t none m))

    -- a beginning
    pub file_begun : MovesBySome (ReceivesTraced adds notes) s (run_notices file V) t
        → (us : List TracedFault) × IsBeginning us (reported_faults file V) × (rs : List StatRow) × Has us rs t
    file_begun m =
        let k = some_moves (run_notices file V) s t m in (
          reported_in k.0,
          (reported_in k.1, sym (filter_map-append reported_of k.0 k.1) ∙ ap reported_in k.2 ∙ run_received file V survey),
          rows_received k.0,
          all_received k.0 [] [] s t none k.3,
        )

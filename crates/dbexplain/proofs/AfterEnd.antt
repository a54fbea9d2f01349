-- The references to pages after the stated end of a file, fault after fault.
use Rattle.std.proofs.Common.{◌≡◌, ℕ, ◌+◌, ◌/◌, Bool, true, false, cond, List, [], ◌∷◌, refl, ap, ◌∙◌, arith}
use Rattle.std.specs.Prelude.{count_by, fold, length}
use Rattle.dbsurvey.proofs.Lists.{count-append}
use Rattle.dbexplain.proofs.Common.{geometry, counted, Reference, Geometry, TracedFault, reported_faults, references_after_end}
use Rattle.dbscan.specs.Placed.{faults_of}
use Rattle.dbscan.proofs.AllReported.{all_reported}
use Rattle.dbexplain.specs.AfterEnd.{after_end_reported, leads_after_end, none_after_end}
use Rattle.dbexplain.specs.declared.after_end.AfterEnd.{AfterEnd}

module _ (g : Geometry) (len : ℕ) where
  -- the state when this many are counted
  abbrev counting : ℕ → AfterEnd
  counting m = record { last = g.pages; whole = len / g.page_size; references = m }

  -- from such a state on, these faults add as many as lead there
  abbrev CountsOn : List TracedFault → Type 0
  CountsOn ts = (m n : ℕ) → m ≡ counted n
      → (fold after_end_reported (counting m) ts).references ≡ counted (n + count_by (leads_after_end g len) (faults_of ts))

  one_more : (t : TracedFault) (ts : List TracedFault) → CountsOn ts → (m n : ℕ) → m ≡ counted n → (b : Bool) → leads_after_end g len t.fault ≡ b
      → (fold after_end_reported (cond b (counting (counted (m + 1))) (counting m)) ts).references
      ≡ counted (n + count_by (leads_after_end g len) (faults_of (t ∷ ts)))
  one_more t ts on m n e true h =
      let all = count-append (leads_after_end g len) (t.fault ∷ []) (faults_of ts) in
      let one : count_by (leads_after_end g len) (t.fault ∷ []) ≡ 1 = rw h refl in
      let more = count_by (leads_after_end g len) (faults_of ts) in
      let q : n + 1 + more ≡ n + count_by (leads_after_end g len) (faults_of (t ∷ ts)) = omega (arith, all, one) in
      on (counted (m + 1)) (n + 1) (omega (arith, e)) ∙ ap counted q
  one_more t ts on m n e false h =
      let all = count-append (leads_after_end g len) (t.fault ∷ []) (faults_of ts) in
      let none : count_by (leads_after_end g len) (t.fault ∷ []) ≡ 0 = rw h refl in
      let more = count_by (leads_after_end g len) (faults_of ts) in
      let q : n + more ≡ n + count_by (leads_after_end g len) (faults_of (t ∷ ts)) = omega (arith, all, none) in
      on m n e ∙ ap counted q

  counts_on : (ts : List TracedFault) → CountsOn ts
  counts_on [] m n e = e ∙ ap counted (let q : n ≡ n + 0 = omega arith in q)
  counts_on (t ∷ ts) m n e = one_more t ts (counts_on ts) m n e (leads_after_end g len t.fault) refl

-- all of a file were counted, from none on
pub all_counted : (file : List ℕ) (V : List Reference) (first now : AfterEnd) → first ≡ none_after_end (geometry file) (length file)
    → now ≡ fold after_end_reported first (reported_faults file V) → now.references ≡ counted (references_after_end file V)
all_counted file V first now none reported =
    let ts = reported_faults file V in
    let leads = leads_after_end (geometry file) (length file) in
    ap (λ (c : AfterEnd). c.references) (reported ∙ ap (λ c. fold after_end_reported c ts) none)
    ∙ counts_on (geometry file) (length file) ts 0 0 refl
    ∙ ap counted (let q : 0 + count_by leads (faults_of ts) ≡ count_by leads (faults_of ts) = omega arith in q)
    ∙ ap (λ fs. counted (count_by leads fs)) (all_reported file V)

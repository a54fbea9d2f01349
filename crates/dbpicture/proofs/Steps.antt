-- The texts of numbers that follow one another, and one more.
use Rattle.std.proofs.Common.{◌≡◌, ℕ, ◌+◌, List, [], ◌∷◌, ◌++◌, ap, ◌∙◌, append-nil, sym}
use Rattle.std.specs.List.{flat_map, fold, range_with_len}
use Rattle.std.proofs.lemmas.List.Sums.{fold-append}
use Rattle.std.proofs.lemmas.List.Concat.{flat_map-append}
use Rattle.dbsurvey.proofs.Ranges.{range_push}
use Rattle.dbformat.specs.Reference.{Reference}
use Rattle.dbsource.specs.Outs.{OutState}
use Rattle.dblines.specs.Writing.{Wrote, WroteOf}
use Rattle.dblines.specs.declared.writer.Writer.{Writer}
use Rattle.dblines.proofs.Writing.{of_all, of_as, of_then, wrote_as, wrote_nothing, wrote_then}

module _ {X : Type 0} (f : ℕ → List X) (first : ℕ) where
  flat_none : {n : ℕ} → n ≡ 0 → [] ≡ flat_map f (range_with_len first n)
  flat_none e = ap (λ n. flat_map f (range_with_len first n)) (sym e)

  pub flat_more : (n i : ℕ) {m : ℕ} → first + n ≡ i → n + 1 ≡ m → flat_map f (range_with_len first n) ++ f i ≡ flat_map f (range_with_len first m)
  flat_more n i at next =
      ap (λ j. flat_map f (range_with_len first n) ++ f j) (sym at)
      ∙ sym (ap (flat_map f) (range_push first n) ∙ flat_map-append f (range_with_len first n) ((first + n) ∷ [])
      ∙ ap (λ l. flat_map f (range_with_len first n) ++ l) (append-nil (f (first + n))))
      ∙ ap (λ n. flat_map f (range_with_len first n)) next

-- a fold over them
pub fold_more : {X : Type 0} (f : X → ℕ → X) (x : X) (first n i : ℕ) {m : ℕ} → first + n ≡ i → n + 1 ≡ m
    → f (fold f x (range_with_len first n)) i ≡ fold f x (range_with_len first m)
fold_more f x first n i at next =
    ap (f (fold f x (range_with_len first n))) (sym at)
    ∙ sym (ap (fold f x) (range_push first n) ∙ fold-append f x (range_with_len first n) ((first + n) ∷ []))
    ∙ ap (λ n. fold f x (range_with_len first n)) next

-- as they are written
module _ {O : Type 0} {held : O → OutState} (f : ℕ → List ℕ) (first : ℕ) where
  pub range_none : {n : ℕ} (s : Writer O) → n ≡ 0 → Wrote held s (flat_map f (range_with_len first n)) s
  range_none s e = wrote_as (flat_none f first e) (wrote_nothing s)

  pub range_more : {s m t : Writer O} (n i : ℕ) {k : ℕ} → Wrote held s (flat_map f (range_with_len first n)) m → Wrote held m (f i) t
      → first + n ≡ i → n + 1 ≡ k → Wrote held s (flat_map f (range_with_len first k)) t
  range_more n i h one at next = wrote_as (flat_more f first n i at next) (wrote_then h one)

-- and where they are of a file
module _ {O : Type 0} {held : O → OutState} {Known : List ℕ → List Reference → Type 0} (f : List ℕ → List Reference → ℕ → List ℕ) (first : ℕ) where
  pub of_range_none : {n : ℕ} (s : Writer O) → n ≡ 0 → WroteOf held s Known (λ file V. flat_map (f file V) (range_with_len first n)) s
  of_range_none s e = of_as (λ file V k. flat_none (f file V) first e) (of_all (wrote_nothing s))

  pub of_range_more : {s m t : Writer O} (n i : ℕ) {k : ℕ} → WroteOf held s Known (λ file V. flat_map (f file V) (range_with_len first n)) m
      → WroteOf held m Known (λ file V. f file V i) t → first + n ≡ i → n + 1 ≡ k
      → WroteOf held s Known (λ file V. flat_map (f file V) (range_with_len first k)) t
  of_range_more n i h one at next = of_as (λ file V o. flat_more (f file V) first n i at next) (of_then h one)

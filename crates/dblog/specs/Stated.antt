-- What is read of a database and of its journal beside what is used: the size of a page that the one states, and the name that the other has.
use Rattle.std.specs.Prelude.{◌≡◌, ◌⊎◌, ℕ, ◌+◌, ◌-◌, ◌≤◌, List, [], ◌∷◌, length, IfOk, IfSome, IsErr, Option, Result}
use Rattle.std.specs.List.{All}
use Rattle.dbformat.specs.Log.{range}
use Rattle.dbformat.specs.Numbers.{u32_at}
use Rattle.dbsource.specs.Answers.{Lengths, Step}
use Rattle.dbsource.specs.Failures.{is_any}
use Rattle.dbsource.specs.Sources.{Asks, SourceState}
use Rattle.dblog.specs.Journal.{super_name, tail}
use Rattle.dblog.specs.Recovered.{stored_size}

-- What was read of a database: its length, and then the two bytes at 16, if it has them. Told bytes have this length. The answer is the length, and the
-- stored size of each file of this length that agrees.
pub record Measures {E : Type 0} (step : Step) (lengths : Lengths) (r : Result (ℕ × ℕ) E) (old new : SourceState) : Type 0 where
  pub len : ℕ
  pub same : IfSome old.bytes (λ file. length file ≡ len)
  pub asks : Asks step (λ ranges. (ranges ≡ []) ⊎ (ranges ≡ range 16 2 ∷ []))
      (λ file. length file ≡ len → IfOk r (λ x. (x.0 ≡ len) × (x.1 ≡ stored_size file))) is_any r old new
  pub answered : lengths old.trail len ⊎ (IsErr r × (asks.log.log ≡ []))

-- What was read before the tail of a journal of `len` bytes, which states this many bytes: they are the name, or there is none.
abbrev pub ReadsBefore : {E : Type 0} → Step → ℕ → List ℕ → Result (Option (List ℕ)) E → SourceState → SourceState → Type 0
ReadsBefore step len t r old new = Asks step (λ ranges. ranges ≡ range (len - (16 + u32_at 0 t)) (u32_at 0 t) ∷ [])
    (λ file. length file ≡ len → tail file ≡ t → IfOk r (λ name. name ≡ super_name file)) is_any r old new

-- What was read of a journal of `len` bytes: of its last bytes two ranges at most, of 512 bytes at most. The answer is its name, for each file
-- of this length that agrees.
abbrev pub ReadsName : {E : Type 0} → Step → ℕ → Result (Option (List ℕ)) E → SourceState → SourceState → Type 0
ReadsName step len r old new = Asks step (λ ranges. (length ranges ≤ 2) × All (λ x. x.len ≤ 512) ranges)
    (λ file. length file ≡ len → IfOk r (λ name. name ≡ super_name file)) is_any r old new

-- A header as contracts see it.
use Rattle.std.specs.Prelude.{ℕ, List}

-- the first 100 bytes of a file, and how many it has
pub record HeaderBytes : Type 0 where
  pub bytes : List ℕ
  pub file_len : ℕ

-- The bytes of a column that are kept.
use Rattle.std.specs.Prelude.{ℕ, List, ◌++◌, take, drop}

-- the bytes kept so far, and those that are kept of the next ones: `want` after a gap
abbrev pub kept : ℕ → ℕ → List ℕ → List ℕ → List ℕ
kept gap want bytes more = bytes ++ take want (drop gap more)

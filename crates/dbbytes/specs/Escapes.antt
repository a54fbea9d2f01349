-- What is written by its code.
use Rattle.std.specs.Prelude.{ℕ, ◌≤◌, ◌≢◌, Bool, ◌||◌, nat_lt, ◌==◌}

-- a control character, a delete or a backslash
abbrev pub is_escaped : ℕ → Bool
is_escaped c = nat_lt c 32 || (c == 127) || (c == 92)

-- a character of ASCII that is none of these
abbrev pub IsPlainByte : ℕ → Type 0
IsPlainByte b = (32 ≤ b) × (b ≤ 126) × (b ≢ 92)

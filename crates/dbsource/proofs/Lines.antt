-- The line that bytes end in.
use Rattle.std.proofs.Common.{◌≡◌, ◌≢◌, ℕ, zero, suc, ◌+◌, ◌<◌, ◌≤◌, List, [], ◌∷◌, ◌++◌, length, get_or, drop, sym, ap, ◌∙◌, append_assoc, append-nil, arith}
use Rattle.std.specs.Prelude.{fold}
use Rattle.std.proofs.lemmas.Bool.{cond-true, cond-false, eq-eqb, ne_eqb}
use Rattle.dbsource.specs.Gathers.{begun_line, line_with}

-- bytes with no line feed go on with a line
no_feed : (line bytes : List ℕ) → ((k : ℕ) → k < length bytes → get_or bytes k 0 ≢ 10) → fold line_with line bytes ≡ line ++ bytes
no_feed line [] none = sym (append-nil line)
no_feed line (b ∷ bytes) none =
    let here : line_with line b ≡ line ++ b ∷ [] = cond-false _ _ _ (ne_eqb b 10 (none 0 (omega arith))) in
    ap (λ l. fold line_with l bytes) here
    ∙ no_feed (line ++ b ∷ []) bytes (λ k inside. none (suc k) (omega arith))
    ∙ append_assoc line (b ∷ []) bytes

-- bytes with no line feed are a begun line
pub begun_all : (bytes : List ℕ) → ((k : ℕ) → k < length bytes → get_or bytes k 0 ≢ 10) → bytes ≡ begun_line bytes
begun_all bytes none = sym (no_feed [] bytes none)

behind : (line bytes : List ℕ) (i : ℕ) → i < length bytes → get_or bytes i 0 ≡ 10
    → ((k : ℕ) → i < k → k < length bytes → get_or bytes k 0 ≢ 10) → fold line_with line bytes ≡ drop (suc i) bytes
behind line [] i inside here after = absurd (omega arith)
behind line (b ∷ bytes) zero inside here after =
    let ends : line_with line b ≡ [] = cond-true _ _ _ (eq-eqb b 10 here) in
    ap (λ l. fold line_with l bytes) ends ∙ no_feed [] bytes (λ k within. after (suc k) (omega arith) (omega arith))
behind line (b ∷ bytes) (suc i) inside here after =
    behind (line_with line b) bytes i (omega arith) here (λ k past within. after (suc k) (omega arith) (omega arith))

-- after the last line feed a line begins
pub begun_behind : (bytes : List ℕ) (i : ℕ) → i < length bytes → get_or bytes i 0 ≡ 10
    → ((k : ℕ) → i + 1 ≤ k → k < length bytes → get_or bytes k 0 ≢ 10) → drop (i + 1) bytes ≡ begun_line bytes
begun_behind bytes i inside here after =
    ap (λ n. drop n bytes) (let e : i + 1 ≡ suc i = omega arith in e)
    ∙ sym (behind [] bytes i inside here (λ k past within. after k (omega arith) within))

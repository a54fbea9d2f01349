-- Changes that are taken.
use Rattle.std.proofs.Common.{◌≡◌, ℕ, Bool, true, false, cond, List, [], ◌∷◌, ◌++◌, length, Result, Ok, Err}
use Rattle.std.specs.Prelude.{◌==◌, nat_lt, MatchResult}
use Rattle.std.specs.Result.{is_err}
use Rattle.std.specs.List.{list_any}
use Rattle.dbsource.specs.Changes.{Change, change_at, changes_with, overlaps}
use Rattle.dbsource.specs.declared.change.ChangeError.{ChangeError}
use Rattle.dbsource.specs.declared.change.ChangeError.TheVariants.{NoBytes, TooLong, Overlaps, TooMany}

ok_of_two : {X : Type 0} (a b : Bool) (e f : ChangeError) (x y : X) → cond a (Err e) (cond b (Err f) (Ok x)) ≡ Ok y → y ≡ x
ok_of_two true b e f x y h = absurd (let k : Err e ≡ Ok y = h in cc)
ok_of_two false true e f x y h = absurd (let k : Err f ≡ Ok y = h in cc)
ok_of_two false false e f x y h = let k : Ok x ≡ Ok y = h in cc

pub change_taken : (offset : ℕ) (bytes : List ℕ) (c : Change) → change_at offset bytes ≡ Ok c → c ≡ record { offset = offset; bytes = bytes }
change_taken offset bytes c h = ok_of_two (length bytes == 0) (nat_lt 16 (length bytes)) NoBytes TooLong (record { offset = offset; bytes = bytes }) c h

pub change_added : (changes after : List Change) (c : Change) → changes_with changes c ≡ Ok after → after ≡ changes ++ c ∷ []
change_added changes after c h = ok_of_two (length changes == 16) (list_any (overlaps c) changes) TooMany Overlaps (changes ++ c ∷ []) after h

-- a change was added, where no error was answered
pub added_ok : {A : Type 0} (r : Result A ChangeError) (changes after : List Change) (c : Change) → is_err r ≡ false
    → MatchResult r (λ _. changes_with changes c ≡ Ok after) (λ e. changes_with changes c ≡ Err e) → after ≡ changes ++ c ∷ []
added_ok (Ok a) changes after c h k = change_added changes after c k
added_ok (Err e) changes after c h k = absurd (let no : true ≡ false = h in cc)

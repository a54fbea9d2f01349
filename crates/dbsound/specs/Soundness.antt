-- A file is sound exactly where no fault of it is reported: the statements of the contracts.
use Rattle.std.specs.Prelude.{◌≡◌, ◌↔◌, ℕ, List, [], ◌++◌, map, None, Ok}
use Rattle.dbformat.specs.File.{refusal}
use Rattle.dbformat.specs.Lines.{ok_line}
use Rattle.dbformat.specs.Reference.{Reference}
use Rattle.dbformat.specs.Survey.{Survey}
use Rattle.dbformat.specs.Report.{faults, report}
use Rattle.dbformat.specs.Sound.{Sound}
use Rattle.dbformat.specs.declared.Command.{Command}
use Rattle.dbformat.specs.declared.Command.TheVariants.{Check}
use Rattle.dbformat.specs.declared.Verdict.{Verdict}
use Rattle.dbformat.specs.declared.Verdict.TheVariants.{Clean}
use Rattle.dbsound.specs.Below.{use_of}

-- a file is sound exactly where it is read and no fault of it is reported
abbrev pub IsSoundByFaults : List ℕ → Type 0
IsSoundByFaults file = (V : List Reference) → Survey file V → Sound file ↔ ((refusal file ≡ None) × (faults file V ≡ []))

-- and exactly where the answer of a command is that it is clean
abbrev pub IsSoundByAnswer : List ℕ → Type 0
IsSoundByAnswer file = (command : Command) (V : List Reference) → Survey file V → (report command file V).answer ≡ Ok Clean ↔ Sound file

-- the same of the verdict of a file that is read
abbrev pub IsSoundByVerdict : List ℕ → Type 0
IsSoundByVerdict file = (command : Command) (V : List Reference) → Survey file V
    → (v : Verdict) → (report command file V).answer ≡ Ok v → v ≡ Clean ↔ Sound file

-- and exactly where what a check writes of it is the line `ok`
abbrev pub IsSoundByOk : List ℕ → Type 0
IsSoundByOk file = (limit : ℕ) (V : List Reference) → Survey file V → (report (Check limit) file V).out ≡ ok_line ↔ Sound file

-- the survey of a sound file has just the pages of its terms, in their order and with their uses
abbrev pub HasItsUses : List ℕ → Type 0
HasItsUses file = (s : Sound file) → (V : List Reference) → Survey file V → map use_of V ≡ s.schema_uses ++ s.root_uses ++ s.free_uses

-- When a file was changed, by what the system knows of it before and after.
use Rattle.std.specs.Prelude.{◌≡◌, ◌⊎◌}
use Rattle.dbcli.specs.declared.stamp.Stamp.{Stamp}

-- both are of one file
abbrev pub IsSameFile : Stamp → Stamp → Type 0
IsSameFile before after = (before.device ≡ after.device) × (before.inode ≡ after.inode)

-- the file was written between them: it has the time of another write, or another length
abbrev pub IsWritten : Stamp → Stamp → Type 0
IsWritten before after =
    ((before.seconds ≡ after.seconds) × (before.nanoseconds ≡ after.nanoseconds) × (before.len ≡ after.len)) → ⊥

-- one file, which was written
abbrev pub IsChanged : Stamp → Stamp → Type 0
IsChanged before after = IsSameFile before after × IsWritten before after

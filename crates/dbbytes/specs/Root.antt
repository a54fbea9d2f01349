-- Root pages of schema rows.
use Rattle.std.specs.Prelude.{ℕ, Option, Some, None, ℤ, pos, negsuc, if◌then◌else◌}
use Rattle.dbformat.specs.SchemaRow.{root_fits}
use Rattle.dbformat.specs.declared.RowKind.{RowKind}

-- the root page, where a row of this type may have it
abbrev pub fitting_root : RowKind → ℤ → Option ℕ
fitting_root kind (pos root) = if root_fits kind root then Some root else None
fitting_root kind (negsuc n) = None

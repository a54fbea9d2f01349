use Rattle.dbformat.proofs.CodeTables
use Rattle.dbformat.proofs.codes.codes_are_listed.Goals as goal

pub returns : goal.returns
returns c = record { listed = (λ code. CodeTables.listed code, CodeTables.once); apart = λ a b. CodeTables.apart a b }

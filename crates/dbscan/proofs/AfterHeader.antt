-- What a run reads after a header.
use Rattle.dbscan.proofs.Common.{ℕ, List, Step, HeaderBytes, IsHeaderOf, SourceState}
use Rattle.dbformat.specs.declared.ByteRange.{ByteRange}
use Rattle.dbsource.specs.Snapshots.{HasReadAfterHeader}

-- of a file with this header, something weaker
pub after_weaker : {step : Step} {P : List ByteRange → Type 0} (h : HeaderBytes) (T : List ℕ → Type 0) {T' : List ℕ → Type 0} {old new : SourceState}
    → HasReadAfterHeader step P h T old new → ((file : List ℕ) → IsHeaderOf h file → T file → T' file) → HasReadAfterHeader step P h T' old new
after_weaker h T k q = record {
  log = k.log;
  leads = k.leads;
  told = k.told;
  holds = k.holds;
  there_is = k.there_is;
  files = λ file is f. q file is (k.files file is f);
  tells = k.tells;
}

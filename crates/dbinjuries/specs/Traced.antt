-- What a reporter makes of a notice that keeps faults and rows.
use Rattle.std.specs.Prelude.{◌≡◌}
use Rattle.dbformat.specs.Rows.{StatRow}
use Rattle.dbtrace.specs.declared.TracedFault.{TracedFault}
use Rattle.dbscan.specs.Notices.{Notice, received_fault, received_row, ended, marked}

-- A reporter on which only faults and rows have an effect: each fault with its part and its cause.
abbrev pub ReceivesTraced : {K : Type 0} → (TracedFault → K → K → Type 0) → (StatRow → K → K → Type 0) → K → Notice → K → Type 0
ReceivesTraced adds notes s (received_fault x) t = adds x s t
ReceivesTraced adds notes s (received_row at r) t = notes r s t
ReceivesTraced adds notes s (ended at) t = t ≡ s
ReceivesTraced adds notes s (marked g p mark) t = t ≡ s

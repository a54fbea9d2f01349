use Rattle.dbexplain.proofs.SumLaws.{codes_add_up, starts_add_up}
use Rattle.dbexplain.proofs.laws.summary_counts_all_faults.Goals as goal

pub returns-clause-codes : goal.returns-clause-codes
returns-clause-codes c ts = codes_add_up ts

pub returns-clause-starts : goal.returns-clause-starts
returns-clause-starts c file V s = starts_add_up file V s

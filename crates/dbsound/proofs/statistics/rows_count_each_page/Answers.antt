use Rattle.dbsound.proofs.RowCounts.FormRows
use Rattle.dbsound.proofs.statistics.rows_count_each_page.Goals as goal

pub returns-clause-once : goal.returns-clause-once
returns-clause-once c file V s form all = FormRows.counts_each_page file V s form all

pub returns-clause-sizes : goal.returns-clause-sizes
returns-clause-sizes c file read V s form all = FormRows.adds_up file V s form all read

pub returns-clause-at_most : goal.returns-clause-at_most
returns-clause-at_most c file V s form = FormRows.counts_no_page_twice file V s form

use Rattle.std.proofs.Common.{rules}
use Rattle.dbformat.specs.Header.{page_count, whole_pages, stated_pages}
use Rattle.dbsource.proofs.header_words.page_count.Goals as goal

pub returns-then-is_size_valid : goal.returns-then-is_size_valid
unfolding page_count whole_pages stated_pages
returns-then-is_size_valid c = search rules

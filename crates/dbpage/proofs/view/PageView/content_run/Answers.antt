use Rattle.std.proofs.Common.{rules}
use Rattle.dbpage.proofs.view.PageView.content_run.Goals as goal

pub returns : goal.returns
returns c = search rules

use Rattle.dbtrace.proofs.LookBack.{causes_look_back, findings_look_back}
use Rattle.dbtrace.proofs.causes_look_back.Goals as goal

pub returns-clause-causes : goal.returns-clause-causes
returns-clause-causes c file = causes_look_back file

pub returns-clause-findings : goal.returns-clause-findings
returns-clause-findings c file = findings_look_back file

use Rattle.dbmarks.proofs.LateRoots as roots
use Rattle.dbmarks.proofs.marks.marks_give_the_end.Goals as goal

pub returns : goal.returns
returns c = λ file. roots.marks_give_the_end file

use Rattle.dbscan.proofs.AllReported.{all_reported}
use Rattle.dbscan.proofs.PlacedFaults.{starts_reported}
use Rattle.dbscan.proofs.ReceivedFaults.{run_received}
use Rattle.dbscan.proofs.StartsRise.{are_starts, starts_rise}
use Rattle.dbscan.proofs.placed.faults_are_reported_with_their_causes.Goals as goal

pub returns-clause-reported : goal.returns-clause-reported
returns-clause-reported c file V s = starts_reported file V s

pub returns-clause-rising : goal.returns-clause-rising
returns-clause-rising c file V = starts_rise file V

pub returns-clause-received : goal.returns-clause-received
returns-clause-received c file V s = run_received file V s

pub returns-clause-starts : goal.returns-clause-starts
returns-clause-starts c file V = are_starts file V

pub returns-clause-all : goal.returns-clause-all
returns-clause-all c file V = all_reported file V

use Rattle.dbmend.proofs.stepping.tries_of.Goals as goal

pub candidates-requires : goal.candidates-requires
candidates-requires g c = c.requires.fits.findings

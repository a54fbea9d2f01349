use Rattle.std.proofs.Common.{◌≡◌, drop, map}
use Rattle.dbinjuries.specs.Listing.{home_from}
use Rattle.dbinjuries.specs.Store.{home_kept}
use Rattle.dbinjuries.specs.declared.injury.Injury.{Injury}
use Rattle.dbinjuries.proofs.listing.Listing.home.Given as goal

-- it goes where it goes by the injuries from here on
abbrev pub invariant-loop-slot : goal.invariant-loop-slot
invariant-loop-slot g l = home_kept l.reported l.self.injuries ≡ home_from l.reported l.left l.slot
    (drop l.slot (map (λ (e : Injury). e.first) l.self.injuries.listed))

-- A helper of the code: what the fields of a profile stand for.
use Rattle.capacity.specs.Capacities.{Capacities}
use Rattle.capacity.specs.declared.profile.Profile.TheInside.{Inside}

-- the capacities that a profile's fields tell
abbrev pub capacities_of : Inside → Capacities
capacities_of profile =
    record {
      threes = profile.threes;
      fours = profile.fours;
      sixes = profile.sixes;
      eights = profile.eights;
      pilots = profile.pilots;
      comparing = profile.comparing;
      storage = profile.storage;
      splits = profile.splits;
      indicate = profile.indicate;
    }

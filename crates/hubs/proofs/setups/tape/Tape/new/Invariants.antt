use Rattle.std.proofs.Common.{◌≡◌, take}
use Rattle.hubs.specs.SetupsWords.Tapes.{IsCarriageTape, IsTape, HasStops}
use Rattle.hubs.proofs.setups.tape.Tape.new.Given as goal

abbrev pub invariant-loop-channel : goal.invariant-loop-channel
invariant-loop-channel l =
    record {
      lines : l.tape.lines ≡ l.lines;
      first : l.tape.first ≡ l.first;
      overflow : l.tape.overflow ≡ l.overflow;
      is_tape : IsTape l.lines l.first l.overflow (take l.channel-index l.stops);
      has_stops : HasStops l.tape (take l.channel-index l.stops);
      is_form : IsCarriageTape l.tape;
    }

use Rattle.std.proofs.Common.{refl, arith}
use Rattle.hubs.specs.SetupsWords.Fields.{carriage_tape}
use Rattle.hubs.proofs.SetupsWords.StopLemmas.{stops_after, IsCarriageTape-punched}
use Rattle.hubs.proofs.setups.tape.Tape.add_stop.Goals as goal

pub returns-clause-added : goal.returns-clause-added
returns-clause-added c =
    rw (← c.self.view_is) (record {
      lines = refl;
      first = refl;
      overflow = refl;
      stops =
          λ other l.
          stops_after _ _ _ _ other l (omega (arith, c.if-not-is_stop.ensures.0 refl)) (c.punch_row.ensures.punched l);
    })

pub invariant_of-self : goal.invariant_of-self
invariant_of-self c =
    IsCarriageTape-punched (carriage_tape c.self.inside) _ _ _ c.self.invariant (c.if-not-is_stop.ensures.0 refl) c.punch_row.ensures.long
    c.punch_row.ensures.punched

pub returns-clause-form : goal.returns-clause-form
returns-clause-form c = invariant_of-self c

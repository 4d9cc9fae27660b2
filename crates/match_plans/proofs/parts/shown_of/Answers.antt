use Rattle.match_plans.proofs.parts.shown_of.Goals as goal

pub returns-in-Pilot-clause-shown : goal.returns-in-Pilot-clause-shown
returns-in-Pilot-clause-shown c = rw c.in-Pilot.is c.shown_pilots.ensures.shown

pub returns-in-Comparing-clause-shown : goal.returns-in-Comparing-clause-shown
returns-in-Comparing-clause-shown c = rw c.in-Comparing.is c.shown_positions.ensures.shown

pub returns-in-Storage-clause-shown : goal.returns-in-Storage-clause-shown
returns-in-Storage-clause-shown c = rw c.in-Storage.is c.shown_units.ensures.shown

pub returns-in-Split-clause-shown : goal.returns-in-Split-clause-shown
returns-in-Split-clause-shown c = rw c.in-Split.is c.shown_splits.ensures.shown

pub returns-in-Indicate-clause-shown : goal.returns-in-Indicate-clause-shown
returns-in-Indicate-clause-shown c = rw c.in-Indicate.is c.shown_indicates.ensures.shown

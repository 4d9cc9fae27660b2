use Rattle.std.proofs.Common.{refl, false, replicate}
use Rattle.hubs.proofs.SetupsWords.StopLemmas.{blank_rows}
use Rattle.hubs.proofs.setups.tape.no_stops.Goals as goal

pub returns-clause-blank : goal.returns-clause-blank
returns-clause-blank c = blank_rows (replicate 12 (replicate 145 false)) refl

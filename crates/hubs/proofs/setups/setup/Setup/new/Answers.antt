use Rattle.std.proofs.Common.{refl, false, replicate}
use Rattle.std.proofs.lemmas.Bool.{and_right}
use Rattle.hubs.specs.Jacks.{is_jack_in_range, jack_place}
use Rattle.hubs.proofs.SetupsWords.StopLemmas.{blank_row}
use Rattle.hubs.proofs.setups.setup.Setup.new.Goals as goal

pub returns-clause-jacks : goal.returns-clause-jacks
returns-clause-jacks c =
    λ jack. and_right (is_jack_in_range jack) _ (blank_row (replicate 368 false) refl (jack_place jack))

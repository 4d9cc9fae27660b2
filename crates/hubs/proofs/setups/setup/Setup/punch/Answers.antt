use Rattle.std.proofs.Common.{refl}
use Rattle.hubs.proofs.SetupsWords.WiringLemmas.{IsLawfulSetup-same}
use Rattle.hubs.proofs.setups.setup.Setup.punch.Goals as goal

pub invariant_of-self : goal.invariant_of-self
invariant_of-self c = IsLawfulSetup-same _ _ (λ n. refl) c.self.invariant

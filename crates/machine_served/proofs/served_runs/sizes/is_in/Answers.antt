use Rattle.std.proofs.Common.{ap, sym, ◌∙◌, ◌-◌, ℕ, List}
use Rattle.machine_sets.specs.BitSets.Bits.{has_place}
use Rattle.hubs.proofs.HubLemmas.{hub_numbered}
use Rattle.net.specs.HubSets.{has_number}
use Rattle.machine_served.proofs.served_runs.sizes.is_in.Goals as goal

pub returns : goal.returns
returns c =
    let hub = hub_numbered c.args.number c.requires.from c.requires.to in
    record {
      hub = hub.0;
      numbered = hub.1;
      told = ap (has_number c.args.picture.now) hub.1
          ∙ ap (λ (words : List ℕ). has_place words (c.args.number - 1)) (sym c.words.ensures.words) ∙ sym c.has.ensures;
    }

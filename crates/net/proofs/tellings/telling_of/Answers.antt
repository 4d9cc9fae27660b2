use Rattle.std.proofs.Common.{◌∙◌, List, ℕ, subst, sym}
use Rattle.machine_sets.specs.BitSets.Contacts.{ArePlacesApart}
use Rattle.net.specs.HubSets.{has_hub}
use Rattle.net.specs.Tellings.{is_led_at}
use Rattle.net.proofs.TellingLemmas.{AreBranches-none, AreBranches-same, AreOrdersOf-same, no-commons}
use Rattle.net.proofs.tellings.telling_of.Goals as goal

pub returns-then-not-meet : goal.returns-then-not-meet
returns-then-not-meet c =
    let led = c.led_from-led.result in
    record {
      base = AreOrdersOf-same (has_hub led) (is_led_at c.args.rows.now c.args.place) c.of-base.result c.led_from-led.ensures c.of-base.ensures;
      branches = rw c.new-branches.ensures.items
          (AreBranches-none 1041 c.args.rows.now (is_led_at c.args.rows.now c.args.place)
          (λ common hub contact.
          sym (c.led_from-led.ensures common)
          ∙ no-commons c.args.commons.now led.words c.requires.commons
          (subst (λ (words : List ℕ). ArePlacesApart c.args.commons.now words) c.words.ensures.words (c.meet.ensures.apart c.if-not-meet.true))
          common hub contact));
    }

pub returns : goal.returns
returns c =
    let led = c.led_from-led.result in
    record {
      base = AreOrdersOf-same (has_hub led) (is_led_at c.args.rows.now c.args.place) c.of-base.result c.led_from-led.ensures c.of-base.ensures;
      branches =
          AreBranches-same 1041 c.args.rows.now (has_hub led) (is_led_at c.args.rows.now c.args.place) _ c.led_from-led.ensures
          c.in_ok-branches.ensures;
    }

use Rattle.std.proofs.Common.{◌∙◌, ℕ, List, subst, sym}
use Rattle.std.proofs.lemmas.Bool.{not-true}
use Rattle.machine_sets.specs.BitSets.Contacts.{ArePlacesApart}
use Rattle.net.specs.HubSets.{has_hub}
use Rattle.net.specs.Tellings.{is_led_at}
use Rattle.net.proofs.TellingLemmas.{AreOrdersOf-same, no-commons}
use Rattle.net.proofs.tellings.branch_at.Goals as goal

pub returns-clause-orders : goal.returns-clause-orders
returns-clause-orders c =
    AreOrdersOf-same (has_hub c.led_from-led.result) (is_led_at c.args.rows.now c.args.place) c.of.result c.led_from-led.ensures c.of.ensures

pub returns-clause-last : goal.returns-clause-last
returns-clause-last c on common hub contact =
    sym (c.led_from-led.ensures common)
    ∙ no-commons c.args.commons.now c.led_from-led.result.words c.requires.commons
    (subst (λ (words : List ℕ). ArePlacesApart c.args.commons.now words) c.words.ensures.words (c.meet.ensures.apart (not-true _ on)))
    common hub contact

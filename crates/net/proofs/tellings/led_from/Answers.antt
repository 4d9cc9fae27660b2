use Rattle.std.proofs.Common.{◌∙◌, ◌||◌, ap}
use Rattle.std.specs.Prelude.{◌==◌}
use Rattle.machine_sets.proofs.BitSets.PlaceLemmas.{has_place-zeros}
use Rattle.net.specs.declared.contacts.TheConstants.{CONTACTS}
use Rattle.net.proofs.TellingLemmas.{led-found}
use Rattle.net.proofs.tellings.led_from.Goals as goal

pub returns : goal.returns
returns c hub =
    led-found c.args.rows.now c.args.place c.reach_by_rows.ensures.short c.requires.onward _ c.reach_by_rows.new.out _
    (λ p. c.put_where.ensures p ∙ ap (λ b. b || (p == c.args.place)) (has_place-zeros 31 p))
    (c.reach_by_rows.ensures.reached CONTACTS) c.cut_after_hubs.ensures.kept hub

use Rattle.std.proofs.Common.{◌≡◌, drop}
use Rattle.machine_sets.specs.SpreadsWords.Links.{is_led_to}
use Rattle.machine_sets.proofs.spreads.passing.is_led_to.Given as goal

-- the links that are left lead there where all of them do
abbrev pub invariant-loop-link : goal.invariant-loop-link
invariant-loop-link l = is_led_to (drop l.link-index l.links) l.place ≡ is_led_to l.links l.place

-- How a ledger names cycles and counter groups.
use Rattle.std.specs.Prelude.{ℕ, ◌+◌, List, [], ◌++◌, codes, decimal}
use Rattle.hubs.specs.HubText.{group_text}
use Rattle.counters.specs.Counters.{group_of_unit}
use Rattle.net.specs.Cycles.{level_number, ordinal_number}
use Rattle.net.specs.declared.cycle.Cycle.{Cycle}
use Rattle.net.specs.declared.cycle.Cycle.TheVariants.{RunIn, Card, Prog, Head}
use Rattle.explain_ledgers.specs.declared.ledgers.account.Account.{Account}
use Rattle.explain_ledgers.specs.declared.ledgers.account.Account.TheVariants.{One, Coupled}

-- the name of a cycle: of a card cycle with the number of its card, of a program cycle with its level and which of its three cycles it is
abbrev pub cycle_name : Cycle → ℕ → List ℕ
cycle_name RunIn card = codes "RunIn"
cycle_name Card card = codes "Card " ++ decimal card
cycle_name (Prog level ordinal) card = codes "Prog " ++ decimal (level_number level) ++ codes " " ++ decimal (ordinal_number ordinal)
cycle_name (Head heading) card = codes "Head " ++ decimal (ordinal_number heading)

-- of any other cycle the number of the card that was read last
abbrev pub after_text : Cycle → ℕ → List ℕ
after_text RunIn card = []
after_text Card card = []
after_text (Prog level ordinal) card = codes " after card " ++ decimal card
after_text (Head heading) card = codes " after card " ++ decimal card

abbrev pub cycle_text : Cycle → ℕ → List ℕ
cycle_text cycle card = cycle_name cycle card ++ after_text cycle card

-- the group of a place; unit 3 has place 0
abbrev pub place_text : ℕ → List ℕ
place_text place = group_text (group_of_unit (3 + place))

-- the groups of an account, that with the units last
abbrev pub account_text : Account → List ℕ
account_text (One place) = place_text place
account_text (Coupled upper lower) = place_text upper ++ codes " and " ++ place_text lower

-- the hubs of a kind of the groups of an account
abbrev pub hubs_text : List ℕ → Account → List ℕ
hubs_text letters (One place) = letters ++ place_text place
hubs_text letters (Coupled upper lower) = letters ++ place_text upper ++ codes " " ++ letters ++ place_text lower

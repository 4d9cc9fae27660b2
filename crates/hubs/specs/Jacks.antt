-- The jacks of the panel.
use Rattle.std.specs.Prelude.{ℕ, ◌+◌, ◌==◌, Bool, true, false}
use Rattle.hubs.specs.HubTable.Ranges.{is_within}
use Rattle.hubs.specs.declared.jack.Jack.{Jack}
use Rattle.hubs.specs.declared.jack.Jack.TheVariants.{List, Total, Head, Link, Suppress, Symbol}

-- whether two jacks are the same one
abbrev pub is_same_jack : Jack → Jack → Bool
is_same_jack List List = true
is_same_jack (Total one) (Total other) = one == other
is_same_jack (Head one) (Head other) = one == other
is_same_jack (Link one) (Link other) = one == other
is_same_jack (Suppress one) (Suppress other) = one == other
is_same_jack (Symbol one) (Symbol other) = one == other
is_same_jack one other = false

-- whether the panel has the jack: its number, if it bears one, is in range
abbrev pub is_jack_in_range : Jack → Bool
is_jack_in_range List = true
is_jack_in_range (Total level) = is_within level 4
is_jack_in_range (Head heading) = is_within heading 3
is_jack_in_range (Link wheel) = is_within wheel 120
is_jack_in_range (Suppress wheel) = is_within wheel 120
is_jack_in_range (Symbol wheel) = is_within wheel 120

-- the place of a jack in range among the jacks of the panel, 0 to 367: LIST, then TOTAL, HEAD, LINK, SUPPRESS and SYMBOL, each by
-- its numbers
abbrev pub jack_place : Jack → ℕ
jack_place List = 0
jack_place (Total level) = level
jack_place (Head heading) = 4 + heading
jack_place (Link wheel) = 7 + wheel
jack_place (Suppress wheel) = 127 + wheel
jack_place (Symbol wheel) = 247 + wheel

-- Who asks for the wires of a way, where this is known: words for each, and a setup with the wires that it asks for.
use Rattle.std.specs.Prelude.{ℕ, Bool, false, List, [], ◌∷◌, ◌++◌, ◌||◌, String, codes, if◌then◌else◌}
use Rattle.std.specs.List.{flat_map}
use Rattle.std.specs.String.{string_bytes}
use Rattle.std.specs.declared.alloc.Global.{Global}
use Rattle.hubs.specs.declared.hub.Hub.{Hub}
use Rattle.hubs.specs.SetupsWords.Wiring.{Wiring, is_wired}

-- whether a wire of a setup leads from a hub to the first of others
abbrev pub leads_on : Wiring → Hub → List Hub → Bool
leads_on wiring hub [] = false
leads_on wiring hub (next ∷ others) = is_wired wiring hub next

-- whether a setup has a wire of a way, which leads from one of its hubs to the next
abbrev pub has_wire_of : Wiring → List Hub → Bool
has_wire_of wiring [] = false
has_wire_of wiring (hub ∷ others) = leads_on wiring hub others || has_wire_of wiring others

-- a line that names one who asks for wires
abbrev pub asking_line : (words : List ℕ) → List ℕ
asking_line words = codes "  wires: " ++ words ++ codes "\n"

-- what is written of one who asks: such a line where it asks for a wire of the way
abbrev pub asked_line : (words : List ℕ) → Wiring → List Hub → List ℕ
asked_line words wiring way = if has_wire_of wiring way then asking_line words else []

abbrev pub asked_by : List Hub → String Global × Wiring → List ℕ
asked_by way one = asked_line (string_bytes one.0) one.1 way

-- the lines of all who ask for a wire of the way, in their order
abbrev pub asked_lines : List (String Global × Wiring) → List Hub → List ℕ
asked_lines asked way = flat_map (asked_by way) asked

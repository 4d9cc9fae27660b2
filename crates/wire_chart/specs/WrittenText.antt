-- How a setup is written: the first line, the form, its stops by channel and line, its jacks in the order of the panel, its
-- wires by the number of the exit and then that of the entry, and END. In version 2 the rings stand before the wires that couple
-- groups, and these before all others. Single spaces stand between tokens, and each line ends with LF.
use Rattle.std.specs.Prelude.{◌≡◌, ◌↔◌, ◌⊎◌, ℕ, ◌<◌, true, List, [], ◌∷◌, ◌++◌, AllPairs, Contains, Some, Option, codes, decimal, if◌then◌else◌}
use Rattle.std.specs.List.{flat_map}
use Rattle.hubs.specs.Carries.{is_one_group}
use Rattle.hubs.specs.HubText.{group_text, hub_text}
use Rattle.hubs.specs.Hubs.{carry_into, carry_out_of}
use Rattle.hubs.specs.Jacks.{jack_place}
use Rattle.hubs.specs.SetupsWords.Tapes.{CarriageTape, has_stop}
use Rattle.hubs.specs.SetupsWords.Wires.{IsWireBefore}
use Rattle.hubs.specs.SetupsWords.Wiring.{Wiring, HasWire, HasJack}
use Rattle.hubs.specs.declared.hub.Group.{Group}
use Rattle.hubs.specs.declared.hub.Hub.{Hub}
use Rattle.hubs.specs.declared.jack.Jack.{Jack}
use Rattle.hubs.specs.declared.jack.Jack.TheVariants as jacks
use Rattle.wire_chart.specs.declared.form.WireForm.{WireForm}
use Rattle.wire_chart.specs.declared.form.WireForm.TheVariants.{Ring, Couple, Plain}
use Rattle.wiring_text.specs.WiringText.{version_text}
use Rattle.wiring_text.specs.declared.statement.Version.{Version}
use Rattle.wiring_text.specs.declared.statement.Version.TheVariants.{First, Second}

-- a word after a space
abbrev pub spaced : List ℕ → List ℕ
spaced word = 32 ∷ word

-- the words after JACK
abbrev pub jack_text : Jack → List ℕ
jack_text jacks.List = codes "LIST"
jack_text (jacks.Total level) = codes "TOTAL" ++ spaced (decimal level)
jack_text (jacks.Head heading) = codes "HEAD" ++ spaced (decimal heading)
jack_text (jacks.Link wheel) = codes "LINK" ++ spaced (decimal wheel)
jack_text (jacks.Suppress wheel) = codes "SUPPRESS" ++ spaced (decimal wheel)
jack_text (jacks.Symbol wheel) = codes "SYMBOL" ++ spaced (decimal wheel)

-- the lines, without their LF
abbrev pub form_line : CarriageTape → List ℕ
form_line form = codes "FORM" ++ spaced (decimal form.lines) ++ spaced (decimal form.first) ++ spaced (decimal form.overflow)

abbrev pub stop_line : ℕ × ℕ → List ℕ
stop_line stop = codes "STOP" ++ spaced (decimal stop.0) ++ spaced (decimal stop.1)

abbrev pub jack_line : Jack → List ℕ
jack_line jack = codes "JACK" ++ spaced (jack_text jack)

abbrev pub plain_line : Hub × Hub → List ℕ
plain_line wire = codes "WIRE" ++ spaced (hub_text wire.0) ++ spaced (hub_text wire.1)

-- the wire that makes a ring of a counter group, and the wire that couples two
abbrev pub ring_line : Group → List ℕ
ring_line group = codes "RING" ++ spaced (group_text group)

abbrev pub couple_line : Group → Group → List ℕ
couple_line from to = codes "COUPLE" ++ spaced (decimal from.number) ++ spaced (decimal to.number)

-- the form of a wire's line: in version 2 a carry wire is a ring, or couples two groups
abbrev pub carry_form : Option Group → Option Group → WireForm
carry_form (Some from) (Some to) = if is_one_group from to then Ring else Couple
carry_form from to = Plain

abbrev pub wire_form : Version → Hub × Hub → WireForm
wire_form First wire = Plain
wire_form Second wire = carry_form (carry_out_of wire.0) (carry_into wire.1)

-- the line of a wire
abbrev pub carry_line : Option Group → Option Group → Hub × Hub → List ℕ
carry_line (Some from) (Some to) wire = if is_one_group from to then ring_line from else couple_line from to
carry_line from to wire = plain_line wire

abbrev pub wire_line : Version → Hub × Hub → List ℕ
wire_line First wire = plain_line wire
wire_line Second wire = carry_line (carry_out_of wire.0) (carry_into wire.1) wire

-- the first line
abbrev pub title_line : Version → List ℕ
title_line version = codes "WIRING407" ++ spaced (version_text version)

-- a line with its LF
abbrev pub ended : List ℕ → List ℕ
ended line = line ++ 10 ∷ []

-- one stop stands before another: by channel, then by line
abbrev pub IsStopBefore : ℕ × ℕ → ℕ × ℕ → Type 0
IsStopBefore one other = (one.0 < other.0) ⊎ ((one.0 ≡ other.0) × (one.1 < other.1))

-- one jack stands before another
abbrev pub IsJackBefore : Jack → Jack → Type 0
IsJackBefore one other = jack_place one < jack_place other

-- the order of the forms: rings, wires that couple groups, all others
abbrev pub form_place : WireForm → ℕ
form_place Ring = 0
form_place Couple = 1
form_place Plain = 2

-- one wire's line stands before another's
abbrev pub IsLineBefore : Version → Hub × Hub → Hub × Hub → Type 0
IsLineBefore version one other =
    (form_place (wire_form version one) < form_place (wire_form version other))
    ⊎ ((wire_form version one ≡ wire_form version other) × IsWireBefore one other)

-- the lines of stops, jacks and wires
abbrev pub parts_text : Version → List (ℕ × ℕ) → List Jack → List (Hub × Hub) → List ℕ
parts_text version stops jacks wires =
    flat_map (λ stop. ended (stop_line stop)) stops
    ++ flat_map (λ jack. ended (jack_line jack)) jacks
    ++ flat_map (λ wire. ended (wire_line version wire)) wires

-- The lines of a setup in a version: exactly its stops, jacks and wires, each kind in its order.
pub record ArePartsOf (version : Version) (wiring : Wiring) (text : List ℕ) : Type 0 where
  pub stops : List (ℕ × ℕ)
  pub jacks : List Jack
  pub wires : List (Hub × Hub)
  pub all_stops : (channel line : ℕ) → (has_stop wiring.tape channel line ≡ true) ↔ Contains stops (channel, line)
  pub all_jacks : (jack : Jack) → HasJack wiring jack ↔ Contains jacks jack
  pub all_wires : (exit entry : Hub) → HasWire wiring exit entry ↔ Contains wires (exit, entry)
  pub stops_in_order : AllPairs IsStopBefore stops
  pub jacks_in_order : AllPairs IsJackBefore jacks
  pub wires_in_order : AllPairs (IsLineBefore version) wires
  pub spelled : text ≡ parts_text version stops jacks wires

-- The text of a setup in a version: the first line, the form, the lines of the setup, and END.
pub record IsWrittenIn (version : Version) (wiring : Wiring) (text : List ℕ) : Type 0 where
  pub parts : List ℕ
  pub are : ArePartsOf version wiring parts
  pub spelled : text ≡ ended (title_line version) ++ ended (form_line wiring.tape) ++ parts ++ ended (codes "END")

-- a wire of the setup couples two counter groups
pub record JoinsGroups (wiring : Wiring) : Type 0 where
  pub exit : Hub
  pub entry : Hub
  pub there : HasWire wiring exit entry
  pub couples : wire_form Second (exit, entry) ≡ Couple

-- The text of a setup: in version 2 where it joins groups, else in version 1.
pub record IsWritten (wiring : Wiring) (text : List ℕ) : Type 0 where
  pub version : Version
  pub second : (version ≡ Second) ↔ JoinsGroups wiring
  pub written : IsWrittenIn version wiring text

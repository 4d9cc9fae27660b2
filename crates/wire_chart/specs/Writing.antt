-- Writing a setup part by part: what a text gains by lines, one for each thing that is so. These are steps between the code
-- and WrittenText, which says what a whole text is.
use Rattle.std.specs.Prelude.{◌≡◌, ◌↔◌, ℕ, ◌<◌, List, ◌++◌, AllPairs, Contains}
use Rattle.std.specs.List.{flat_map}
use Rattle.hubs.specs.Jacks.{jack_place}
use Rattle.hubs.specs.SetupsWords.Tapes.{CarriageTape, IsStopOf}
use Rattle.hubs.specs.SetupsWords.Wiring.{Wiring, HasJack}
use Rattle.hubs.specs.declared.hub.Hub.{Hub}
use Rattle.hubs.specs.declared.jack.Jack.{Jack}
use Rattle.wire_chart.specs.declared.form.WireForm.{WireForm}
use Rattle.wiring_text.specs.declared.statement.Version.{Version}
use Rattle.wire_chart.specs.WrittenText.{ended, stop_line, jack_line, wire_form, wire_line, IsStopBefore, IsJackBefore, IsLineBefore}

-- new is old with a line after for each thing that is so, in order
pub record GainsLines {A : Type 0} (Is : A → Type 0) (Before : A → A → Type 0) (line_of : A → List ℕ) (old new : List ℕ)
    : Type 0 where
  pub things : List A
  pub all : (thing : A) → Is thing ↔ Contains things thing
  pub in_order : AllPairs Before things
  pub gained : new ≡ old ++ flat_map (λ thing. ended (line_of thing)) things

-- the same for stops and jacks
abbrev pub GainsStops : (ℕ × ℕ → Type 0) → List ℕ → List ℕ → Type 0
GainsStops Is old new = GainsLines Is IsStopBefore stop_line old new

abbrev pub GainsJacks : (Jack → Type 0) → List ℕ → List ℕ → Type 0
GainsJacks Is old new = GainsLines Is IsJackBefore jack_line old new

-- for wires, those of a form, and all
abbrev pub IsOfForm : Version → WireForm → (Hub × Hub → Type 0) → Hub × Hub → Type 0
IsOfForm version form Is wire = Is wire × (wire_form version wire ≡ form)

abbrev pub GainsWires : Version → WireForm → (Hub × Hub → Type 0) → List ℕ → List ℕ → Type 0
GainsWires version form Is old new = GainsLines (IsOfForm version form Is) (IsLineBefore version) (wire_line version) old new

abbrev pub GainsAllWires : Version → (Hub × Hub → Type 0) → List ℕ → List ℕ → Type 0
GainsAllWires version Is old new = GainsLines Is (IsLineBefore version) (wire_line version) old new

-- a stop of the form at this channel and line
pub record IsStopAt (form : CarriageTape) (channel line : ℕ) (stop : ℕ × ℕ) : Type 0 where
  pub there : IsStopOf form stop
  pub channel_is : stop.0 ≡ channel
  pub line_is : stop.1 ≡ line

-- a stop of the form in this channel, at a line below this one
pub record IsStopAbove (form : CarriageTape) (channel line : ℕ) (stop : ℕ × ℕ) : Type 0 where
  pub there : IsStopOf form stop
  pub channel_is : stop.0 ≡ channel
  pub line_below : stop.1 < line

-- a stop of the form in this channel
pub record IsStopIn (form : CarriageTape) (channel : ℕ) (stop : ℕ × ℕ) : Type 0 where
  pub there : IsStopOf form stop
  pub channel_is : stop.0 ≡ channel

-- a stop of the form in a lower channel
pub record IsStopBelow (form : CarriageTape) (channel : ℕ) (stop : ℕ × ℕ) : Type 0 where
  pub there : IsStopOf form stop
  pub channel_below : stop.0 < channel

-- a plugged jack at this place of the panel
pub record IsJackAt (wiring : Wiring) (place : ℕ) (jack : Jack) : Type 0 where
  pub there : HasJack wiring jack
  pub place_is : jack_place jack ≡ place

-- a plugged jack at a lower place
pub record IsJackBelow (wiring : Wiring) (place : ℕ) (jack : Jack) : Type 0 where
  pub there : HasJack wiring jack
  pub place_below : jack_place jack < place

-- this wire
abbrev pub IsWire : Hub × Hub → Hub × Hub → Type 0
IsWire one wire = wire ≡ one

-- The lines of a text that is written, and what each of them says.
use Rattle.std.proofs.Common.{◌≡◌, ℕ, ◌≤◌, List, [], ◌∷◌, ◌++◌, length, true, arith}
use Rattle.std.specs.Prelude.{map}
use Rattle.std.specs.List.{All, AllByRecursion, Contains, list_all}
use Rattle.std.proofs.lemmas.List.Elements.{All-cons, All-nil}
use Rattle.hubs.specs.Jacks.{is_jack_in_range}
use Rattle.hubs.specs.SetupsWords.Tapes.{IsStop}
use Rattle.hubs.specs.SetupsWords.Wiring.{Wiring, HasWire}
use Rattle.hubs.specs.declared.hub.Hub.{Hub}
use Rattle.hubs.specs.declared.jack.Jack.{Jack}
use Rattle.wiring_text.specs.HubNames.{name_of}
use Rattle.wire_chart.specs.Laws.{IsSetup}
use Rattle.wiring_text.specs.WiringText.{SaysLines, said_line}
use Rattle.wire_chart.specs.WrittenText.{IsWrittenIn, stop_line, wire_line}
use Rattle.wiring_text.specs.declared.statement.Statement.{Statement}
use Rattle.wiring_text.specs.declared.statement.Statement.TheVariants.{Stop, Wire}
use Rattle.wire_chart.proofs.JackGains.{plugged_in_range}
use Rattle.hubs.proofs.SetupsWords.Ordered.{contains_first, contains_more}
use Rattle.wire_chart.proofs.WrittenBytes.{is_inner}
use Rattle.wire_chart.proofs.WrittenSaid.{IsSaidLine, stop_said, wire_said}
use Rattle.wiring_text.specs.declared.statement.Version.{Version}

-- what the lines of stops, jacks and wires say
abbrev pub stop_statement : ℕ × ℕ → Statement
stop_statement stop = Stop stop.0 stop.1

abbrev pub wire_statement : Hub × Hub → Statement
wire_statement wire = Wire (name_of wire.0) (name_of wire.1)

-- the lines of things that each say something
pub lines_said : {A : Type 0} (version : Version) (line_of : A → List ℕ) (statement_of : A → Statement) (things : List A) (lines : List (List ℕ))
    (said : List Statement)
    → ((a : A) → Contains things a → IsSaidLine version (line_of a) (statement_of a)) → SaysLines version lines said
    → SaysLines version (map line_of things ++ lines) (map statement_of things ++ said)
lines_said version line_of statement_of [] lines said each says = says
lines_said version line_of statement_of (a ∷ things) lines said each says =
    said_line (each a (contains_first a things)).said
    (lines_said version line_of statement_of things lines said (λ b has. each b (contains_more a things b has)) says)

pub lines_inner : {A : Type 0} (version : Version) (line_of : A → List ℕ) (statement_of : A → Statement) (things : List A)
    → ((a : A) → Contains things a → IsSaidLine version (line_of a) (statement_of a))
    → AllByRecursion (λ a. list_all is_inner (line_of a) ≡ true) things
lines_inner version line_of statement_of [] each = tt
lines_inner version line_of statement_of (a ∷ things) each = (
  (each a (contains_first a things)).inner,
  lines_inner version line_of statement_of things (λ b has. each b (contains_more a things b has)),
)

pub lines_short : {A : Type 0} (version : Version) (line_of : A → List ℕ) (statement_of : A → Statement) (things : List A)
    → ((a : A) → Contains things a → IsSaidLine version (line_of a) (statement_of a))
    → All (λ line. length line ≤ 60) (map line_of things)
lines_short version line_of statement_of [] each = All-nil (λ line. length line ≤ 60)
lines_short version line_of statement_of (a ∷ things) each =
    All-cons (λ line. length line ≤ 60) (line_of a) (map line_of things) (each a (contains_first a things)).short
    (lines_short version line_of statement_of things (λ b has. each b (contains_more a things b has)))

-- what stands in a text that is written
pub record IsText (version : Version) (wiring : Wiring) (text : List ℕ) : Type 0 where
  pub setup : IsSetup wiring
  pub written : IsWrittenIn version wiring text

pub each_stop : (version : Version) (wiring : Wiring) (text : List ℕ) → (is : IsText version wiring text) → (stop : ℕ × ℕ)
    → Contains is.written.are.stops stop → IsStop wiring.tape.lines stop.0 stop.1
each_stop version wiring text is stop has = is.setup.form.stops stop.0 stop.1 ((is.written.are.all_stops stop.0 stop.1).1 has)

pub stops_said : (version : Version) (wiring : Wiring) (text : List ℕ) → (is : IsText version wiring text) → (stop : ℕ × ℕ)
    → Contains is.written.are.stops stop → IsSaidLine version (stop_line stop) (stop_statement stop)
stops_said version wiring text is stop has =
    let at : IsStop wiring.tape.lines stop.0 stop.1 = each_stop version wiring text is stop has in
    let lines_to : wiring.tape.lines ≤ 144 = is.setup.form.formed.lines_to in
    stop_said version stop.0 stop.1 at.channel_from at.channel_to (omega (arith, at.line_to))

pub each_jack : (version : Version) (wiring : Wiring) (text : List ℕ) → (is : IsText version wiring text) → (jack : Jack)
    → Contains is.written.are.jacks jack → is_jack_in_range jack ≡ true
each_jack version wiring text is jack has = plugged_in_range wiring jack ((is.written.are.all_jacks jack).1 has)

pub each_wire : (version : Version) (wiring : Wiring) (text : List ℕ) → (is : IsText version wiring text) → (wire : Hub × Hub)
    → Contains is.written.are.wires wire → HasWire wiring wire.0 wire.1
each_wire version wiring text is wire has = (is.written.are.all_wires wire.0 wire.1).1 has

pub wires_said : (version : Version) (wiring : Wiring) (text : List ℕ) → (is : IsText version wiring text) → (wire : Hub × Hub)
    → Contains is.written.are.wires wire → IsSaidLine version (wire_line version wire) (wire_statement wire)
wires_said version wiring text is wire has =
    let there = each_wire version wiring text is wire has in
    let lawful = is.setup.wires.leads wire.0 wire.1 there in
    wire_said version wire.0 wire.1 there.number there.to there.numbered there.entry_numbered lawful.0 lawful.1
    (is.setup.wires.carries.alone wire.0 wire.1 there)

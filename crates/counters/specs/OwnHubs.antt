-- Groups keep to their own hubs.
use Rattle.std.proofs.Common.{◌≡◌, ◌∙◌, refl, sym, ap, ℕ, ◌+◌, ◌≤◌, ◌&&◌, ◌||◌, Bool, true, false, List, [], ◌∷◌, length, arith, if◌then◌else◌}
use Rattle.std.specs.Prelude.{◌==◌}
use Rattle.std.proofs.lemmas.Bool.{false≢true, and_parts}
use Rattle.std.proofs.lemmas.Bool.Decides.{nat_tests}
use Rattle.card_code.specs.Rows.{row_number}
use Rattle.hubs.specs.declared.hub.Group.{Group}
use Rattle.hubs.specs.declared.hub.Hub.{Hub}
use Rattle.hubs.specs.declared.hub.Hub.TheVariants.{GX, CO, BAN, BAT, GE, PL, MI, RO, BT, CI}
use Rattle.net.proofs.Rows.{is_hub-same}
use Rattle.net.specs.Cycles.{is_closing}
use Rattle.net.specs.HubSets.{is_hub}
use Rattle.net.specs.Panel.{owner_of, reader_of, unit_of}
use Rattle.net.specs.Units.{KeepsToItsOwn}
use Rattle.net.specs.declared.cycle.Cycle.{Cycle}
use Rattle.net.specs.declared.cycle.Point.{Point}
use Rattle.net.specs.declared.cycle.Point.TheVariants.{C, Row, K}
use Rattle.counters.specs.Counters.{Counter, all_taken, counter_closes, counter_emits, counter_number, counter_sensed, shows, taken, takes, wheels_in}
use Rattle.counters.specs.Kinds.{counter_kind}
use Rattle.counters.specs.Wheels.{all_nines, carries_out}
use Rattle.counters.specs.declared.controls.Controls.{Controls}

-- an exit that shows a digit is the group's own
shown-own : (name : Group) (given : ℕ) (digits : List ℕ) (hub : Hub) → shows name given digits hub ≡ true → owner_of hub ≡ unit_of name
shown-own name given [] hub shown = absurd (false≢true shown)
shown-own name given (d ∷ below) hub shown =
    by (d == given) (is_hub (GX name (length below + 1)) hub) refl shown (shown-own name given below hub)
  where
    by : (a b : Bool) → is_hub (GX name (length below + 1)) hub ≡ b → ((a && b) || shows name given below hub) ≡ true
        → (shows name given below hub ≡ true → owner_of hub ≡ unit_of name) → owner_of hub ≡ unit_of name
    by true true is e rest = ap owner_of (sym (is_hub-same (GX name (length below + 1)) hub is))
    by true false is e rest = rest e
    by false b is e rest = rest e

emits-own : (counter : Counter) (cycle : Cycle) (point : Point) (hub : Hub)
    → counter_emits counter cycle point hub ≡ true → owner_of hub ≡ counter_number counter
emits-own counter cycle C hub e = absurd (false≢true e)
emits-own counter cycle (Row row) hub e =
    shown-own counter.name (row_number row) counter.digits hub
    (and_parts counter.controls.read_out (shows counter.name (row_number row) counter.digits hub) e).1
emits-own counter cycle K hub e =
    ap owner_of (sym (is_hub-same (CO counter.name) hub (and_parts (carries_out (wheels_in counter) false) (is_hub (CO counter.name) hub) e).1))

own_balance : (one other : ℕ) (a b : Bool) → (((one == other) && a) && b) ≡ true → one ≡ other
own_balance one other a b e = grind (arith, nat_tests, e)

own_carry : (one other : ℕ) (a b : Bool) → (a && ((one == other) && b)) ≡ true → one ≡ other
own_carry one other a b e = grind (arith, nat_tests, e)

closes-own : (counter : Counter) (cycle : Cycle) (point : Point) (hub : Hub)
    → counter_closes counter cycle point hub ≡ true → owner_of hub ≡ counter_number counter
closes-own counter cycle point (BAN group position) e = own_balance (unit_of group) (counter_number counter) _ _ e
closes-own counter cycle point (BAT group position) e = own_balance (unit_of group) (counter_number counter) _ _ e
closes-own counter cycle point (CO group) e =
    own_carry (unit_of group) (counter_number counter) (is_closing point) (all_nines (wheels_in counter)) e
closes-own counter cycle point hub e = absurd (false≢true e)

-- controls by their tests
abbrev controls_made : Bool → Bool → Bool → Bool → Controls
controls_made plus minus read_out test = record { plus = plus; minus = minus; read_out = read_out; test = test }

-- two tests that agree on the positions of a group enter the same digits
pub all_taken-same :
    (row : ℕ) (one other : ℕ → Bool) (entered : List ℕ) (width : ℕ) → length entered ≤ width
    → ((position : ℕ) → 1 ≤ position → position ≤ width → one position ≡ other position)
    → all_taken row one entered ≡ all_taken row other entered
all_taken-same row one other [] width long same = refl
all_taken-same row one other (x ∷ below) width long same =
    ap (λ b. taken row b x ∷ all_taken row one below) (same (length below + 1) (omega arith) (omega (arith, long)))
    ∙ ap (λ xs. taken row (other (length below + 1)) x ∷ xs) (all_taken-same row one other below width (omega (arith, long)) same)

sensed-own : (counter : Counter) (cycle : Cycle) (point : Point) (one other : Hub → Bool)
    → ((hub : Hub) → reader_of hub ≡ counter_number counter → one hub ≡ other hub)
    → counter_sensed counter cycle point one ≡ counter_sensed counter cycle point other
sensed-own counter cycle C one other same =
    let name = counter.name in
    ap (λ k. record counter { controls = k })
    (ap (λ b. controls_made b (one (MI name)) (one (RO name)) (one (BT name))) (same (PL name) refl)
    ∙ ap (λ b. controls_made (other (PL name)) b (one (RO name)) (one (BT name))) (same (MI name) refl)
    ∙ ap (λ b. controls_made (other (PL name)) (other (MI name)) b (one (BT name))) (same (RO name) refl)
    ∙ ap (λ b. controls_made (other (PL name)) (other (MI name)) (other (RO name)) b) (same (BT name) refl))
sensed-own counter cycle (Row row) one other same =
    ap (λ xs. record counter { entered = if takes counter.controls (row_number row) then xs else counter.entered })
    (all_taken-same (row_number row) (λ position. one (GE counter.name position)) (λ position. other (GE counter.name position))
    counter.entered (length counter.entered) (omega arith) (λ position from to. same (GE counter.name position) refl))
sensed-own counter cycle K one other same = ap (λ b. record counter { carry = b }) (same (CI counter.name) refl)

number-kept : (counter : Counter) (cycle : Cycle) (point : Point) (picture : Hub → Bool)
    → counter_number (counter_sensed counter cycle point picture) ≡ counter_number counter
number-kept counter cycle C picture = refl
number-kept counter cycle (Row row) picture = refl
number-kept counter cycle K picture = refl

pub counters_keep : KeepsToItsOwn counter_kind
counters_keep = record {
  emits_own = emits-own;
  closes_own = closes-own;
  senses_own = sensed-own;
  keeps_number = number-kept;
  ends_with_number = λ state cycle. refl;
}

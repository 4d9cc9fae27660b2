-- A cycle of a group, by what is asked of it.
use Rattle.std.proofs.Common.{◌≡◌, ◌∙◌, refl, ap, ℕ, ◌+◌, ◌-◌, ◌*◌, ◌%◌, ◌^◌, ◌<◌, nat_le, Bool, true, false, arith, if◌then◌else◌}
use Rattle.std.proofs.lemmas.Bool.Decides.{nat_tests}
use Rattle.std.proofs.Math.Nat.{mod-eq_of_lt}
use Rattle.hubs.specs.declared.hub.Group.{Group}
use Rattle.hubs.specs.declared.hub.Hub.{Hub}
use Rattle.hubs.specs.declared.hub.Hub.TheVariants.{MI, RO}
use Rattle.net.specs.Cycles.{points}
use Rattle.net.specs.WholeCycles.{after_points}
use Rattle.net.specs.declared.cycle.Cycle.{Cycle}
use Rattle.net.specs.declared.cycle.Point.{Point}
use Rattle.net.specs.declared.cycle.Point.TheVariants.{C}
use Rattle.counters.specs.Counters.{Counter, controls_of, counter_sensed, top_is_nine}
use Rattle.counters.specs.Numbers.{added_number, left_number, number, start_number}
use Rattle.counters.specs.WholeCycles.{ComesRound, after_cycle, digits_given}
use Rattle.counters.specs.declared.controls.Controls.{Controls}
use Rattle.counters.proofs.EarliestRows.{earliest-entered, points-stay}
use Rattle.counters.proofs.Staying.{counters-stay}
use Rattle.proof_cycles.specs.TotalsWords.CounterCycles.Acts.{Act, Held, IsControlled, act_controls, controls_with, held_by, latch_after, number_after}
use Rattle.proof_cycles.specs.TotalsWords.CounterCycles.Acts.Act.{Minus, Plus, Show, Still, Test, Turn}
use Rattle.proof_cycles.specs.TotalsWords.CounterCycles.Laws.{GroupsDoWhatIsAsked, HasDone, IsBetweenCycles}
use Rattle.proof_cycles.proofs.TotalsWords.CounterCycles.DigitLemmas.{number-within, power-some}
use Rattle.proof_cycles.proofs.TotalsWords.CounterCycles.EntryLemmas.{given-number}
use Rattle.proof_cycles.proofs.TotalsWords.CounterCycles.TopLemmas.{tops}

-- the controls that are impulsed for what is asked
pub controls_of-act : (name : Group) (controls : Controls) (pictures : Point → Hub → Bool) → IsControlled name controls pictures
    → controls_of name (pictures C) ≡ controls
controls_of-act name controls pictures are =
    ap (λ b. controls_with b (pictures C (MI name)) (pictures C (RO name)) (controls_of name (pictures C)).test) are.plus
    ∙ ap (λ b. controls_with controls.plus b (pictures C (RO name)) (controls_of name (pictures C)).test) are.minus
    ∙ ap (λ b. controls_with controls.plus controls.minus b (controls_of name (pictures C)).test) are.read_out
    ∙ ap (λ b. controls_with controls.plus controls.minus controls.read_out b) are.test

-- What is left where nothing is added.
pub left-still : (is_ring : Bool) (power n : ℕ) → n < power → left_number is_ring power (n + 0) ≡ n
left-still true power n small =
    let over : nat_le power (n + 0) ≡ false = grind (arith, nat_tests, small) in
    let same : n + 0 ≡ n = omega arith in
    ap (λ b. if b then n + 0 - (power - 1) else n + 0) over ∙ same
left-still false power n small =
    let same : n + 0 ≡ n = omega arith in
    ap (λ k. k % power) same ∙ mod-eq_of_lt small

-- what is held, by number and latch
abbrev pub held_with : ℕ → Bool → Held
held_with number latch = record { number = number; latch = latch }

-- the latch after what is asked, by the number after it
pub latch-after : (act : Act) (is_ring : Bool) (power : ℕ) (held : Held)
    → (if (act_controls act).test then nat_le (9 * power) (10 * number_after is_ring power act held.number) else held.latch)
    ≡ latch_after power act held
latch-after Still is_ring power held = refl
latch-after other is_ring power held = refl

-- A group goes through a cycle under the controls of what is asked, by what its number becomes.
done-by : (is_ring : Bool) (act : Act) (counter : Counter) (cycle : Cycle) (pictures : Point → Hub → Bool)
    → IsBetweenCycles counter → IsControlled counter.name (act_controls act) pictures → ComesRound is_ring counter cycle pictures
    → left_number is_ring (10 ^ counter.name.width)
    (start_number (act_controls act) (number counter.digits)
    + added_number (act_controls act) (10 ^ counter.name.width) (number (digits_given counter.name pictures)))
    ≡ number_after is_ring (10 ^ counter.name.width) act (number counter.digits)
    → HasDone is_ring act counter (after_cycle cycle pictures counter)
done-by is_ring act counter cycle pictures ready controlled round becomes =
    let power = 10 ^ counter.name.width in
    let turned = after_cycle cycle pictures counter in
    let stays = counters-stay.ended (after_points counter_sensed cycle pictures points counter) cycle
    (points-stay cycle pictures points counter ready.is_counter) in
    let after = number_after is_ring power act (number counter.digits) in
    let is_number : number turned.digits ≡ after
    = (earliest-entered counter cycle pictures ready.is_counter ready.entered).number is_ring round
    ∙ ap (λ k. left_number is_ring power
    (start_number k (number counter.digits) + added_number k power (number (digits_given counter.name pictures))))
    (controls_of-act counter.name (act_controls act) pictures controlled)
    ∙ becomes in
    let is_latch : turned.latch ≡ latch_after power act (held_by counter)
    = ap (λ b. if b then top_is_nine turned.digits else counter.latch) controlled.test
    ∙ ap (λ b. if (act_controls act).test then b else counter.latch) (tops turned stays ∙ ap (λ n. nat_le (9 * power) (10 * n)) is_number)
    ∙ latch-after act is_ring power (held_by counter) in
    record {
      held = ap (λ n. held_with n turned.latch) is_number ∙ ap (held_with after) is_latch;
      ready = record { is_counter = stays; entered = refl };
      name = refl;
      controls = refl;
    }

-- what is entered, as a sum after nothing
pub after-nothing : (is_ring : Bool) (power n : ℕ) → left_number is_ring power (0 + n) ≡ left_number is_ring power n
after-nothing is_ring power n = let same : 0 + n ≡ n = omega arith in ap (left_number is_ring power) same

pub acts-done : GroupsDoWhatIsAsked
acts-done is_ring Still counter cycle pictures ready fits asks round =
    done-by is_ring Still counter cycle pictures ready asks.controls round
    (left-still is_ring (10 ^ counter.name.width) (number counter.digits) (number-within counter ready.is_counter))
acts-done is_ring Test counter cycle pictures ready fits asks round =
    done-by is_ring Test counter cycle pictures ready asks.controls round
    (left-still is_ring (10 ^ counter.name.width) (number counter.digits) (number-within counter ready.is_counter))
acts-done is_ring Turn counter cycle pictures ready fits asks round =
    let n = number counter.digits in
    let power = 10 ^ counter.name.width in
    done-by is_ring Turn counter cycle pictures ready asks.controls round
    (ap (λ m. left_number is_ring power (0 + (power - 1 - m)))
    (given-number counter.name n pictures (number-within counter ready.is_counter) asks.entered)
    ∙ after-nothing is_ring power (power - 1 - n))
acts-done is_ring Show counter cycle pictures ready fits asks round =
    done-by is_ring Show counter cycle pictures ready asks.controls round
    (left-still is_ring (10 ^ counter.name.width) 0 (power-some counter.name.width))
acts-done is_ring (Plus n) counter cycle pictures ready fits asks round =
    done-by is_ring (Plus n) counter cycle pictures ready asks.controls round
    (ap (λ m. left_number is_ring (10 ^ counter.name.width) (number counter.digits + m))
    (given-number counter.name n pictures fits asks.entered))
acts-done is_ring (Minus n) counter cycle pictures ready fits asks round =
    let power = 10 ^ counter.name.width in
    done-by is_ring (Minus n) counter cycle pictures ready asks.controls round
    (ap (λ m. left_number is_ring power (number counter.digits + (power - 1 - m)))
    (given-number counter.name n pictures fits asks.entered))

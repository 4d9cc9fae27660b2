-- Groups that are wired to themselves alone turn by themselves.
use Rattle.std.proofs.Common.{◌≡◌, ◌∙◌, refl, sym, ap, subst, ℕ, zero, suc, ◌+◌, ◌-◌, ◌<◌, ◌==◌, Bool, true, List, [], ◌∷◌, length, get_or, map, Contains, Some, arith, if◌then◌else◌}
use Rattle.std.proofs.lemmas.Bool.{and_parts, false≢true}
use Rattle.std.proofs.lemmas.Bool.Decides.{nat_tests}
use Rattle.std.proofs.lemmas.List.FromFn.{get_or-range_with_len}
use Rattle.counters.specs.Counters.{Counter, counter_number, counter_of, counter_ended, top_is_nine, wheels_in}
use Rattle.counters.specs.Rings.{IsFedAlone}
use Rattle.counters.specs.Wheels.{carries_in, turned}
use Rattle.counters.specs.WholeCycles as counters
use Rattle.counters.specs.WholeCycles.{ComesRound}
use Rattle.hubs.specs.SetupsWords.Wiring.{LeadsToEntries, Wiring, is_wired}
use Rattle.hubs.specs.Hubs.{carry_into, carry_out_of, is_exit_hub}
use Rattle.hubs.specs.declared.hub.Group.{Group}
use Rattle.hubs.specs.declared.hub.Hub.{Hub}
use Rattle.hubs.specs.declared.hub.Hub.TheVariants.{CI, CO}
use Rattle.net.specs.Panel.{unit_of}
use Rattle.net.specs.declared.cycle.Cycle.{Cycle}
use Rattle.net.specs.declared.cycle.Point.TheVariants.{K}
use Rattle.machine.specs.Machine.{MachineState, group_units}
use Rattle.proof_cycles.specs.WholeCycles.Between.{IsBetween, IsIdle}
use Rattle.proof_cycles.specs.WholeCycles.Carries.{CarriesLeadToCarries, is_carry}
use Rattle.proof_cycles.specs.WholeCycles.Rings.{JoinsNoGroups, RingsTurnByThemselves, after_turning, is_same_group}
use Rattle.proof_cycles.specs.WholeCycles.Units.{group_at}
use Rattle.proof_cycles.specs.WholeCycles.WholeCycles.{before_closing}
use Rattle.proof_cycles.proofs.WholeCycles.Carries.{carries-apart, carries-come}
use Rattle.proof_cycles.proofs.WholeCycles.Places.{as_many, told_at}

-- a group of a machine is that of its name
pub group-own : (machine : MachineState) → IsBetween machine → (counter : Counter) → Contains machine.groups counter
    → counter ≡ group_at machine counter.name
group-own machine between counter (k, within, is) =
    let many : length machine.groups ≡ 32 = as_many counter_number machine.groups group_units between.ordered in
    let unit : unit_of counter.name ≡ 3 + k =
    ap (λ (c : Counter). counter_number c) (sym is) ∙ told_at counter_number machine.groups group_units k counter between.ordered within
    ∙ get_or-range_with_len 3 32 k 0 (omega (arith, within, many)) in
    let place : unit_of counter.name - 3 ≡ k = omega (arith, unit) in
    sym (ap (λ j. get_or machine.groups j (counter_of counter.name)) place
    ∙ same machine.groups k counter (counter_of counter.name) within is)
  where
    same : (list : List Counter) (k : ℕ) (x d : Counter) → k < length list → get_or list k x ≡ x → get_or list k d ≡ x
    same [] k x d within is = absurd (omega (arith, within))
    same (y ∷ list) zero x d within is = is
    same (y ∷ list) (suc k) x d within is = same list k x d (omega (arith, within)) is

-- where the carries of an exit and of an entry are of one group
same_carry : (one other : Group) → is_same_group (Some one) (Some other) ≡ true → one ≡ other
same_carry one other is = by (and_parts (one.width == other.width) (one.number == other.number) is)
  where
    same : (a b : ℕ) → (a == b) ≡ true → a ≡ b
    same a b e = grind (arith, nat_tests, e)

    by : ((one.width == other.width) ≡ true) × ((one.number == other.number) ≡ true) → one ≡ other
    by both = λ i. record { width = same one.width other.width both.0 i; number = same one.number other.number both.1 i }

fed_alone : (wiring : Wiring) → JoinsNoGroups wiring → (name : Group) → IsFedAlone wiring name name
fed_alone wiring joins name exit wire = by exit (joins exit (CI name) wire)
  where
    by : (hub : Hub) → is_same_group (carry_out_of hub) (Some name) ≡ true → hub ≡ CO name
    by (CO group) is = ap CO (same_carry group name is)
    by other is = absurd (false≢true is)

carries_lead : (wiring : Wiring) → LeadsToEntries wiring → JoinsNoGroups wiring → CarriesLeadToCarries wiring
carries_lead wiring leads joins exit entry wire = by exit entry (leads exit entry wire).0 (joins exit entry wire)
  where
    into : (group : Group) (entry : Hub) → is_same_group (Some group) (carry_into entry) ≡ true → is_carry entry ≡ true
    into group (CI name) is = refl
    into group other is = absurd (false≢true is)

    by : (exit entry : Hub) → is_exit_hub exit ≡ true → is_same_group (carry_out_of exit) (carry_into entry) ≡ true
        → is_carry exit ≡ true → is_carry entry ≡ true
    by (CO group) entry out is carry = into group entry is
    by (CI group) entry out is carry = absurd (false≢true out)
    by other entry out is carry = absurd (false≢true carry)

-- maps that are the same of each thing of a list
map-same : {X Y : Type 0} (one other : X → Y) (xs : List X) → ((x : X) → Contains xs x → one x ≡ other x) → map one xs ≡ map other xs
map-same one other [] same = refl
map-same one other (x ∷ xs) same =
    let here = same x (0, omega arith, refl) in
    let others = map-same one other xs (λ y has. same y (suc has.0, omega (arith, has.1), has.2)) in
    λ i. here i ∷ others i

-- a group whose wheels turn with a carry or without
abbrev turned_by : Cycle → Counter → Bool → Counter
turned_by cycle before carry = record (counter_ended before cycle) {
  digits = turned (wheels_in before) carry;
  latch = if before.controls.test then top_is_nine (turned (wheels_in before) carry) else before.latch;
}

pub rings-turn : RingsTurnByThemselves
rings-turn wiring cycle old new whole leads joins between = record {
  groups =
      whole.groups
      ∙ map-same (counters.after_cycle cycle whole.pictures)
      (λ group. after_turning (is_wired wiring (CO group.name) (CI group.name)) cycle whole.pictures group) old.groups each;
  others = carries-apart wiring old whole.pictures cycle (carries_lead wiring leads joins) whole.closing;
}
  where
    each : (group : Counter) → Contains old.groups group
        → counters.after_cycle cycle whole.pictures group
        ≡ after_turning (is_wired wiring (CO group.name) (CI group.name)) cycle whole.pictures group
    each group listed =
        let own = group-own old between group listed in
        let idle : IsIdle group = subst (λ (c : Counter). IsIdle c) listed.2 (between.groups listed.0 group listed.1) in
        let before = before_closing cycle whole.pictures group in
        let wheels = wheels_in before in
        let carry : whole.pictures K (CI group.name) ≡ carries_in (is_wired wiring (CO group.name) (CI group.name)) wheels =
        subst (λ (c : Counter). ComesRound (is_wired wiring (CO group.name) (CI group.name)) c cycle whole.pictures) (sym own)
        (carries-come.single wiring cycle old new group.name whole between leads
        (record { width = idle.lawful.width; number = idle.lawful.named }) (fed_alone wiring joins group.name)) in
        ap (turned_by cycle before) carry

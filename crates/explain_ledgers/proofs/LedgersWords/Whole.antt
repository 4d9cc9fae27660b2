-- Ledgers of whole runs.
use Rattle.std.proofs.Common.{zero, suc, replicate, ◌≡◌, ◌∙◌, sym, ap, subst, refl, ℕ, ◌+◌, ◌*◌, ◌^◌, ◌<◌, List, [], ◌∷◌, length, map, get_or, arith}
use Rattle.std.proofs.lemmas.List.{get_or-map, length-map}
use Rattle.std.proofs.lemmas.List.FromFn.{get_or-range_with_len}
use Rattle.std.proofs.lemmas.List.Sums.{sum_by-cons}
use Rattle.std.proofs.lemmas.List.Elements.{All-append, All-head, All-nil, All-tail}
use Rattle.std.specs.List.{All}
use Rattle.std.specs.Prelude.{sum_by}
use Rattle.hubs.specs.SetupsWords.Wiring.{Wiring}
use Rattle.hubs.specs.declared.hub.Group.{Group}
use Rattle.net.specs.declared.cycle.Cycle.{Cycle}
use Rattle.net.specs.declared.cycle.Cycle.TheVariants.{RunIn, Card, Prog, Head}
use Rattle.counters.specs.Counters.{Counter, counter_at_start, counter_ended, width_of}
use Rattle.counters.specs.Laws.{IsCounter, carry_number}
use Rattle.counters.specs.Numbers.{number}
use Rattle.counters.proofs.Staying.{counters-stay}
use Rattle.machine.specs.Machine.{MachineState, ended, group_units}
use Rattle.machine.specs.Runs.{cards_moved, run_at_start}
use Rattle.explain_ledgers.specs.LedgersWords.Entries.{entries_gained, entries_left, entry_of, is_added, is_cleared, ledger_after, movement_of_one}
use Rattle.explain_ledgers.specs.LedgersWords.Ledgers.{Along, Chain, ComesTo, EntriesAreSums, Goes, IsLedger, IsSum, IsUnturned, LedgersAreSums, LedgersTellNumbers, at_start, begun, card_in, change_start, group_at, more, number_added, on, power_at, ready}
use Rattle.explain_ledgers.specs.declared.ledgers.account.Account.TheVariants.{One}
use Rattle.explain_ledgers.specs.declared.ledgers.entry.Change.{Change}
use Rattle.explain_ledgers.specs.declared.ledgers.entry.Change.TheVariants.{Plus, Minus, Turned, Carry, Apart}
use Rattle.explain_ledgers.specs.declared.ledgers.entry.Entry.{Entry}
use Rattle.explain_ledgers.proofs.LedgersWords.Sums.{chain-on, entry-sum}
use Rattle.explain_ledgers.proofs.LedgersWords.Places.{comes-to, gained-all, left-all}
use Rattle.explain_ledgers.proofs.LedgersWords.Points.{StandsAt, reached-stands}

-- What holds of a group between cycles.
pub record Holds (place : ℕ) (machine : MachineState) : Type 0 where
  pub many : length machine.groups ≡ 32
  pub lawful : IsCounter (group_at machine place)
  pub empty : (group_at machine place).entered ≡ replicate (group_at machine place).name.width 0
  pub power : 10 ^ (group_at machine place).name.width ≡ power_at place

-- What holds of its ledger.
record Told (place : ℕ) (machine : MachineState) (entries : List Entry) : Type 0 where
  chain : Chain 0 entries (number (group_at machine place).digits)
  sums : All (IsSum (power_at place)) entries

start-groups : (wiring : Wiring) (deck : List (List ℕ)) → (run_at_start wiring deck).machine.groups ≡ map counter_at_start group_units
start-groups wiring [] = refl
start-groups wiring (card ∷ cards) = refl

pub start-group : (wiring : Wiring) (deck : List (List ℕ)) (place : ℕ) → place < 32
    → group_at (run_at_start wiring deck).machine place ≡ counter_at_start (3 + place)
start-group wiring deck place low =
    ap (λ (gs : List Counter). get_or gs place (counter_at_start 3)) (start-groups wiring deck)
    ∙ get_or-map counter_at_start group_units place 0 (counter_at_start 3) low
    ∙ ap counter_at_start (get_or-range_with_len 3 32 place 0 low)

-- at the start
holds-at-start : (wiring : Wiring) (deck : List (List ℕ)) (place : ℕ) → place < 32 → Holds place (run_at_start wiring deck).machine
holds-at-start wiring deck place low =
    let here = start-group wiring deck place low in
    record {
      many = ap length (start-groups wiring deck);
      lawful = subst IsCounter (sym here) (counters-stay.start (3 + place) (omega arith) (omega (arith, low)));
      empty = subst (λ (g : Counter). g.entered ≡ replicate g.name.width 0) (sym here) refl;
      power = ap (λ (g : Counter). 10 ^ g.name.width) here;
    }

pub ready-groups : (cycle : Cycle) (along : Along) → (ready cycle along).groups ≡ along.run.machine.groups
ready-groups RunIn along = refl
ready-groups Card along = by along.run.hopper
  where
    by : (hopper : List (List ℕ)) → (cards_moved along.run.machine hopper).machine.groups ≡ along.run.machine.groups
    by [] = refl
    by (card ∷ cards) = refl
ready-groups (Prog level ordinal) along = refl
ready-groups (Head heading) along = refl

-- A group behind the points of a cycle, and at its end.
pub record InCycle (place : ℕ) (cycle : Cycle) (before behind : MachineState) : Type 0 where
  pub many : length behind.groups ≡ 32
  pub lawful : IsCounter (group_at behind place)
  pub same : group_at (ended behind cycle) place ≡ counter_ended (group_at behind place) cycle
  pub name : (group_at behind place).name ≡ (group_at before place).name
  pub digits : (group_at behind place).digits ≡ (group_at before place).digits
  pub latch : (group_at behind place).latch ≡ (group_at before place).latch

pub in-cycle : (wiring : Wiring) (cycle : Cycle) (place : ℕ) (along : Along) (behind : MachineState) → place < 32
    → Holds place along.run.machine → Goes wiring cycle along behind → InCycle place cycle along.run.machine behind
in-cycle wiring cycle place along behind low holds goes =
    let same_groups = ready-groups cycle along in
    let many : length (ready cycle along).groups ≡ 32 = ap length same_groups ∙ holds.many in
    let same : group_at (ready cycle along) place ≡ group_at along.run.machine place =
    ap (λ (gs : List Counter). get_or gs place (counter_at_start 3)) same_groups in
    let at : StandsAt place (ready cycle along) behind =
    reached-stands wiring cycle 14 place (ready cycle along) behind (subst (λ (n : ℕ). place < n) (sym many) low)
    (subst IsCounter (sym same) holds.lawful) goes.reached in
    record {
      many = at.many ∙ many;
      lawful = at.stands.lawful;
      same =
          get_or-map (λ (g : Counter). counter_ended g cycle) behind.groups place (counter_at_start 3) (counter_at_start 3)
          (subst (λ (n : ℕ). place < n) (sym (at.many ∙ many)) low);
      name = at.stands.name ∙ ap (λ (g : Counter). g.name) same;
      digits = at.stands.digits ∙ ap (λ (g : Counter). g.digits) same;
      latch = at.stands.latch ∙ ap (λ (g : Counter). g.latch) same;
    }

-- behind a cycle
holds-on : (wiring : Wiring) (cycle : Cycle) (place : ℕ) (along : Along) (behind : MachineState) → place < 32
    → Holds place along.run.machine → Goes wiring cycle along behind → Holds place (ended behind cycle)
holds-on wiring cycle place along behind low holds goes =
    let here = in-cycle wiring cycle place along behind low holds goes in
    record {
      many = length-map behind.groups (λ (g : Counter). counter_ended g cycle) ∙ here.many;
      lawful = subst IsCounter (sym here.same) (counters-stay.ended (group_at behind place) cycle here.lawful);
      empty = subst (λ (g : Counter). g.entered ≡ replicate g.name.width 0) (sym here.same) refl;
      power =
          ap (λ (g : Counter). 10 ^ g.name.width) here.same ∙ ap (λ (n : Group). 10 ^ n.width) here.name ∙ holds.power;
    }

pub holds : (wiring : Wiring) (deck : List (List ℕ)) (place : ℕ) {along : Along} → place < 32 → ComesTo wiring deck along
    → Holds place along.run.machine
holds wiring deck place low at_start = holds-at-start wiring deck place low
holds wiring deck place low (on cycle before behind comes goes) =
    holds-on wiring cycle place before behind low (holds wiring deck place low comes) goes

pub number-zeros : (n : ℕ) → number (replicate n 0) ≡ 0
number-zeros zero = refl
number-zeros (suc n) = let less = number-zeros n in omega (arith, less)

told-on : (wiring : Wiring) (cycle : Cycle) (place : ℕ) (along : Along) (entries : List Entry) (behind : MachineState) → place < 32
    → Holds place along.run.machine → Told place along.run.machine entries → Goes wiring cycle along behind
    → Told place (ended behind cycle)
    (ledger_after cycle (card_in cycle along.card) along.passed (movement_of_one (group_at behind place) cycle) entries)
told-on wiring cycle place along entries behind low holds told goes =
    let here = in-cycle wiring cycle place along behind low holds goes in
    let group : Counter = group_at behind place in
    let moved = movement_of_one group cycle in
    let power : 10 ^ group.name.width ≡ power_at place = ap (λ (n : Group). 10 ^ n.width) here.name ∙ holds.power in
    record {
      chain =
          subst (λ (g : Counter). Chain 0 (ledger_after cycle (card_in cycle along.card) along.passed moved entries) (number g.digits))
          (sym here.same)
          (chain-on group cycle (card_in cycle along.card) along.passed entries here.lawful
          (subst (λ (ds : List ℕ). Chain 0 entries (number ds)) (sym here.digits) told.chain));
      sums =
          All-append (IsSum (power_at place)) (entries_left moved entries)
          (entries_gained cycle (card_in cycle along.card) along.passed moved)
          (left-all (IsSum (power_at place)) (is_cleared moved) entries told.sums)
          (gained-all (IsSum (power_at place)) (is_added moved) (entry_of cycle (card_in cycle along.card) along.passed moved)
          (entry-sum group cycle (card_in cycle along.card) along.passed (power_at place) here.lawful power));
    }

told : (wiring : Wiring) (deck : List (List ℕ)) (place : ℕ) (along : Along) (entries : List Entry) → place < 32
    → IsLedger wiring deck (One place) along entries → Told place along.run.machine entries
told wiring deck place along entries low begun = record {
  chain = ap (λ (g : Counter). number g.digits) (start-group wiring deck place low) ∙ number-zeros (width_of (3 + place));
  sums = All-nil (IsSum (power_at place));
}
told wiring deck place along entries low (more cycle before old behind ledger goes) =
    told-on wiring cycle place before old behind low (holds wiring deck place low (comes-to wiring deck (One place) ledger))
    (told wiring deck place before old low ledger) goes

-- numbers are told
pub ledgers-tell : LedgersTellNumbers
ledgers-tell wiring deck place along entries low ledger = (told wiring deck place along entries low ledger).chain

pub entries-sums : EntriesAreSums
entries-sums wiring deck place along entries low ledger = (told wiring deck place along entries low ledger).sums

start-unturned : (change : Change) (before : ℕ) → (change ≡ Turned → ⊥) → change_start change before ≡ before
start-unturned Plus before is = refl
start-unturned Minus before is = refl
start-unturned Turned before is = absurd (is refl)
start-unturned Carry before is = refl
start-unturned Apart before is = refl

-- a chain of sums is a sum
chain-sum : (power from to : ℕ) (entries : List Entry) → Chain from entries to → All (IsSum power) entries → All IsUnturned entries
    → (carries : ℕ) × (to + carries * power ≡ from + sum_by (number_added power) entries)
chain-sum power from to [] chain sums unturned = (0, omega (arith, chain))
chain-sum power from to (entry ∷ entries) chain sums unturned =
    let one : IsSum power entry = All-head (IsSum power) entry entries sums in
    let start = start-unturned entry.change entry.before (All-head IsUnturned entry entries unturned) in
    let rest =
    chain-sum power entry.after to entries chain.1 (All-tail (IsSum power) entry entries sums) (All-tail IsUnturned entry entries unturned) in
    let carried : ℕ = carry_number one.carried in
    let sum = one.sum in let before = chain.0 in let others = rest.1 in (
      rest.0 + carried,
      both rest.0 carried entry.after (change_start entry.change entry.before) entry.before (number_added power entry)
          (sum_by (number_added power) entries) sum start before others
          ∙ ap (λ (n : ℕ). from + n) (sym (sum_by-cons (number_added power) entry entries)),
    )
  where
    both : (carries carried after start before added others : ℕ) → after + carried * power ≡ start + added → start ≡ before → before ≡ from
        → to + carries * power ≡ after + others → to + (carries + carried) * power ≡ from + (added + others)
    both carries carried after start before added others sum is_start is_before rest = grind (arith, sum, is_start, is_before, rest)

pub ledgers-sums : LedgersAreSums
ledgers-sums wiring deck place along entries low ledger unturned =
    let all = told wiring deck place along entries low ledger in
    let sum = chain-sum (power_at place) 0 (number (group_at along.run.machine place).digits) entries all.chain all.sums unturned in
    (sum.0, let is = sum.1 in omega (arith, is))

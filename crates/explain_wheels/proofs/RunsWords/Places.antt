-- Places of a run, each told by how many cycles are over.
use Rattle.std.proofs.Common.{◌≡◌, ◌∙◌, sym, ap, subst, refl, ℕ, ◌+◌, ◌*◌, ◌<◌, ◌≤◌, List, [], ◌∷◌, Option, Some, None, is_some, Bool, true, false, arith, length, eqb}
use Rattle.std.proofs.lemmas.Bool.{false≢true}
use Rattle.std.proofs.lemmas.Bool.Decides.{nat_tests}
use Rattle.hubs.specs.SetupsWords.Wiring.{Wiring}
use Rattle.net.specs.declared.cycle.Cycle.{Cycle}
use Rattle.net.specs.declared.cycle.Cycle.TheVariants.{RunIn, Card, Prog, Head}
use Rattle.machine.specs.Cycles.{Reached}
use Rattle.machine.specs.Ends.{EndsCycle}
use Rattle.machine.specs.Machine.{MachineState, ended}
use Rattle.machine.specs.Runs.{cycle_due}
use Rattle.machine.proofs.FewCycles.{IsSupplied, ahead, ahead-falls, still-supplied}
use Rattle.machine.proofs.Keeps.{CycleRun-ends}
use Rattle.machine.proofs.OneOutcome.{Reached-one}
use Rattle.explain_wheels.specs.RunsWords.{Along, ComesTo, Goes, HasCycle, along_after, along_at_start, at_start, card_in, on, ready}

due-of : Cycle → Option Cycle → Cycle
due-of other None = other
due-of other (Some cycle) = cycle

due-same : (cycle other : Cycle) → Some cycle ≡ Some other → cycle ≡ other
unfolding due-of
due-same cycle other same = ap (λ (o : Option Cycle). due-of cycle o) same

-- a cycle goes one way
pub goes-one : (wiring : Wiring) (cycle other : Cycle) (along : Along) (behind other_behind : MachineState)
    → Goes wiring cycle along behind → Goes wiring other along other_behind → (cycle ≡ other) × (behind ≡ other_behind)
goes-one wiring cycle other along behind other_behind first second =
    let same : cycle ≡ other = due-same cycle other (sym first.due ∙ second.due) in (
      same,
      Reached-one wiring cycle 14 (ready cycle along) behind other_behind first.reached
          (subst (λ (c : Cycle). Reached wiring c 14 (ready c along) other_behind) (sym same) second.reached),
    )

-- of a run there is one place behind so many cycles
pub places-one : (wiring : Wiring) (deck : List (List ℕ)) {here there : Along} → ComesTo wiring deck here → ComesTo wiring deck there
    → here.passed ≡ there.passed → here ≡ there
places-one wiring deck at_start at_start same = refl
places-one wiring deck at_start (on cycle along behind comes goes) same = absurd (omega (arith, same))
places-one wiring deck (on cycle along behind comes goes) at_start same = absurd (omega (arith, same))
places-one wiring deck (on cycle along behind comes goes) (on other also also_behind also_comes also_goes) same =
    let place : along ≡ also = places-one wiring deck comes also_comes (omega (arith, same)) in
    let one =
    goes-one wiring cycle other also behind also_behind (subst (λ (a : Along). Goes wiring cycle a behind) place goes) also_goes in
    ap (λ (a : Along). along_after cycle behind a) place
    ∙ ap (λ (c : Cycle). along_after c behind also) one.0
    ∙ ap (λ (m : MachineState). along_after other m also) one.1

pub none-due : (cycle : Cycle) (due : Option Cycle) → due ≡ Some cycle → due ≡ None → ⊥
none-due cycle due some none = false≢true (sym (ap is_some none) ∙ ap is_some some)

-- Where a run comes to a later place, a cycle is due.
pub later-due : (wiring : Wiring) (deck : List (List ℕ)) {here there : Along} → ComesTo wiring deck here → ComesTo wiring deck there
    → here.passed < there.passed → cycle_due here.run.machine ≡ None → ⊥
later-due wiring deck here_comes at_start less none = absurd (omega (arith, less))
later-due wiring deck {here = here} here_comes (on cycle along behind comes goes) less none =
    by (λ low. later-due wiring deck here_comes comes low none) (eqb here.passed along.passed) refl
  where
    by : (here.passed < along.passed → ⊥) → (b : Bool) → eqb here.passed along.passed ≡ b → ⊥
    by earlier true is =
        let same : here ≡ along = places-one wiring deck here_comes comes (grind (arith, nat_tests, is)) in
        none-due cycle (cycle_due along.run.machine) goes.due (sym (ap (λ (a : Along). cycle_due a.run.machine) same) ∙ none)
    by earlier false is = earlier (grind (arith, nat_tests, is, less))

-- a run that has a cycle behind so many others has one due at that place, and before it
pub still-due : (wiring : Wiring) (deck : List (List ℕ)) (along : Along) (count : ℕ) → ComesTo wiring deck along
    → HasCycle wiring deck count → along.passed ≤ count → cycle_due along.run.machine ≡ None → ⊥
still-due wiring deck along count comes has within none =
    by (eqb along.passed has.along.passed) refl
  where
    by : (b : Bool) → eqb along.passed has.along.passed ≡ b → ⊥
    by true is =
        let same : along ≡ has.along = places-one wiring deck comes has.comes (grind (arith, nat_tests, is)) in
        none-due has.cycle (cycle_due has.along.run.machine) has.goes.due (sym (ap (λ (a : Along). cycle_due a.run.machine) same) ∙ none)
    by false is =
        let counted = has.counted in later-due wiring deck comes has.comes (grind (arith, nat_tests, is, within, counted)) none

-- What is known of how far a run is.
pub record IsWithin (deck : List (List ℕ)) (along : Along) : Type 0 where
  pub supplied : IsSupplied along.run.machine
  pub few : along.passed + ahead along.run ≤ 28 * length deck + 1
  pub card : along.card ≤ along.passed

start-within : (wiring : Wiring) (deck : List (List ℕ)) → IsWithin deck (along_at_start wiring deck)
start-within wiring [] = record { supplied = λ none. refl; few = omega arith; card = omega arith }
start-within wiring (card ∷ cards) = record { supplied = λ none. refl; few = omega arith; card = omega arith }

pub card_in-next : (cycle : Cycle) (card : ℕ) → card_in cycle card ≤ card + 1
card_in-next RunIn card = omega arith
card_in-next Card card = omega arith
card_in-next (Prog level ordinal) card = omega arith
card_in-next (Head heading) card = omega arith

ends-of : (wiring : Wiring) (cycle : Cycle) (along : Along) (behind : MachineState) → Goes wiring cycle along behind
    → EndsCycle cycle (ready cycle along) (ended behind cycle)
ends-of wiring cycle along behind goes =
    (CycleRun-ends wiring cycle (ready cycle along) (ended behind cycle)
    (record { at_end = behind; reached = goes.reached; is_new = refl })).order

-- each cycle leaves less to follow
pub goes-falls : (wiring : Wiring) (deck : List (List ℕ)) (cycle : Cycle) (along : Along) (behind : MachineState) → IsWithin deck along
    → Goes wiring cycle along behind → ahead (along_after cycle behind along).run < ahead along.run
goes-falls wiring deck cycle along behind within goes =
    ahead-falls cycle along.run (ended behind cycle) within.supplied goes.due (ends-of wiring cycle along behind goes)

pub comes-within : (wiring : Wiring) (deck : List (List ℕ)) {along : Along} → ComesTo wiring deck along → IsWithin deck along
comes-within wiring deck at_start = start-within wiring deck
comes-within wiring deck (on cycle along behind comes goes) =
    let within = comes-within wiring deck comes in
    let falls = goes-falls wiring deck cycle along behind within goes in
    record {
      supplied =
          still-supplied cycle along.run (ended behind cycle) within.supplied goes.due (ends-of wiring cycle along behind goes);
      few = let few = within.few in omega (arith, few, falls);
      card = let card = within.card in let next = card_in-next cycle along.card in omega (arith, card, next);
    }

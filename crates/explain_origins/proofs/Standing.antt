-- The cards in the machine along a run.
use Rattle.std.proofs.Common.{zero, suc, ◌≡◌, ◌∙◌, ap, subst, refl, ℕ, List, [], ◌∷◌, arith, drop}
use Rattle.std.specs.Prelude.{slice_get}
use Rattle.hubs.specs.SetupsWords.Wiring.{Wiring}
use Rattle.net.specs.declared.cycle.Cycle.{Cycle}
use Rattle.net.specs.declared.cycle.Cycle.TheVariants.{RunIn, Card, Prog, Head}
use Rattle.machine.specs.Cycles.{Reached}
use Rattle.machine.specs.Machine.{MachineState}
use Rattle.machine.specs.Runs.{InRun, cards_moved, made_ready, run_at_start}
use Rattle.explain_ledgers.specs.LedgersWords.Ledgers.{Along, ComesTo, Goes, at_start, card_in, on, ready}
use Rattle.stations.specs.Stations.{StationCards}
use Rattle.explain_origins.specs.Cards.{CardsAreNumbered, CardsStand}

-- a run in which so many cards were read: the cards at the stations, and the rest of the deck in the hopper
record Feeding (deck : List (List ℕ)) (card : ℕ) (run : InRun) : Type 0 where
  stand : CardsStand deck card run.machine
  hopper : run.hopper ≡ drop (suc card) deck

-- the cards move on: the first of those that are left, and the others
moved-first : (machine : MachineState) (deck : List (List ℕ)) (card : ℕ)
    → (cards_moved machine (drop card deck)).machine.stations.first ≡ slice_get deck card
moved-first machine [] zero = refl
moved-first machine [] (suc card) = refl
moved-first machine (one ∷ deck) zero = refl
moved-first machine (one ∷ deck) (suc card) = moved-first machine deck card

moved-hopper : (machine : MachineState) (deck : List (List ℕ)) (card : ℕ)
    → (cards_moved machine (drop card deck)).hopper ≡ drop (suc card) deck
moved-hopper machine [] zero = refl
moved-hopper machine [] (suc card) = refl
moved-hopper machine (one ∷ deck) zero = refl
moved-hopper machine (one ∷ deck) (suc card) = moved-hopper machine deck card

moved-second : (machine : MachineState) (hopper : List (List ℕ))
    → (cards_moved machine hopper).machine.stations.second ≡ machine.stations.first
moved-second machine [] = refl
moved-second machine (one ∷ hopper) = refl

-- before any cycle
feeds-start : (wiring : Wiring) (deck : List (List ℕ)) → Feeding deck 0 (run_at_start wiring deck)
feeds-start wiring [] = record { stand = record { second = refl; first = refl }; hopper = refl }
feeds-start wiring (one ∷ deck) = record { stand = record { second = refl; first = refl }; hopper = refl }

-- a card cycle reads one card more
feeds-card : (deck : List (List ℕ)) (card : ℕ) (run : InRun) → Feeding deck card run
    → Feeding deck (suc card) (cards_moved run.machine run.hopper)
feeds-card deck card run feeding = record {
  stand = record {
    second = moved-second run.machine run.hopper ∙ feeding.stand.first;
    first =
        ap (λ (h : List (List ℕ)). (cards_moved run.machine h).machine.stations.first) feeding.hopper
        ∙ moved-first run.machine deck (suc card);
  };
  hopper =
      ap (λ (h : List (List ℕ)). (cards_moved run.machine h).hopper) feeding.hopper ∙ moved-hopper run.machine deck (suc card);
}

-- before the points of a cycle
feeds-ready : (deck : List (List ℕ)) (cycle : Cycle) (along : Along) → Feeding deck along.card along.run
    → Feeding deck (card_in cycle along.card) (made_ready cycle along.run)
feeds-ready deck RunIn along feeding = feeding
feeds-ready deck Card along feeding =
    subst (λ (n : ℕ). Feeding deck n (made_ready Card along.run)) (omega arith) (feeds-card deck along.card along.run feeding)
feeds-ready deck (Prog level ordinal) along feeding = feeding
feeds-ready deck (Head heading) along feeding = feeding

-- the cards stay through the points
pub points-stations : (wiring : Wiring) (cycle : Cycle) (points : ℕ) (old now : MachineState) → Reached wiring cycle points old now
    → now.stations ≡ old.stations
unfolding Reached
points-stations wiring cycle zero old now is = ap (λ (m : MachineState). m.stations) is
points-stations wiring cycle (suc points) old now (mid, before, step) =
    ap (λ (m : MachineState). m.stations) step.is_new ∙ points-stations wiring cycle points old mid before

stands-behind : (wiring : Wiring) (deck : List (List ℕ)) (cycle : Cycle) (along : Along) (behind : MachineState)
    → Feeding deck along.card along.run → Goes wiring cycle along behind → CardsStand deck (card_in cycle along.card) behind
stands-behind wiring deck cycle along behind feeding goes =
    let here = (feeds-ready deck cycle along feeding).stand in
    let same = points-stations wiring cycle 14 (ready cycle along) behind goes.reached in
    record {
      second = ap (λ (s : StationCards). s.second) same ∙ here.second;
      first = ap (λ (s : StationCards). s.first) same ∙ here.first;
    }

feeds : (wiring : Wiring) (deck : List (List ℕ)) {along : Along} → ComesTo wiring deck along → Feeding deck along.card along.run
feeds wiring deck at_start = feeds-start wiring deck
feeds wiring deck (on cycle along behind comes goes) =
    let before = feeds wiring deck comes in
    let here = stands-behind wiring deck cycle along behind before goes in
    record {
      stand = record { second = here.second; first = here.first };
      hopper = (feeds-ready deck cycle along before).hopper;
    }

pub cards-numbered : CardsAreNumbered
cards-numbered wiring deck passed has = stands-behind wiring deck has.cycle has.along has.behind (feeds wiring deck has.comes) has.goes

-- The pilots, with all rows of a cycle at once, and at its end.
use Rattle.std.proofs.Common.{◌≡◌, ◌∙◌, refl, ap, ℕ, ◌+◌, ◌-◌, ◌≤◌, Bool, true, false, List, drop, Some, arith}
use Rattle.std.proofs.lemmas.Bool.Decides.{nat_tests}
use Rattle.card_code.specs.declared.row.Row.TheVariants.{Eleven}
use Rattle.hubs.specs.HubTable.Ranges.{is_within}
use Rattle.hubs.specs.Hubs.{number_of}
use Rattle.hubs.specs.declared.hub.Hub.{Hub}
use Rattle.hubs.specs.declared.hub.Hub.TheVariants.{PIX}
use Rattle.net.proofs.SetLemmas.{set-read}
use Rattle.net.specs.HubRows.{has_at}
use Rattle.net.specs.RowSets.{after_rows, pictures_of}
use Rattle.net.specs.declared.cycle.Cycle.{Cycle}
use Rattle.net.specs.declared.cycle.Cycle.TheVariants.{RunIn, Card, Prog, Head}
use Rattle.net.specs.declared.cycle.Point.{Point}
use Rattle.net.specs.declared.cycle.Point.TheVariants.{Row}
use Rattle.selectors.specs.Numbered.{tests_to}
use Rattle.selectors.proofs.NumberedLemmas.{tests-same}
use Rattle.selectors.specs.Pilots.{PilotStates, moves_pilots, no_pilots, pickups, pilots_ended, pilots_sensed}

-- the pickups that are read are those of the point of row 11
pub pickups-read : (sets read : List ℕ) → read ≡ drop 1604 sets
    → tests_to 16 (λ pilot. has_at read (pilot - 1) 10) ≡ pickups (pictures_of sets (Row Eleven))
pickups-read sets read is =
    tests-same 16 (λ pilot. has_at read (pilot - 1) 10) (λ pilot. pictures_of sets (Row Eleven) (PIX pilot))
    (λ n low high.
    ap (λ (rs : List ℕ). has_at rs (n - 1) 10) is ∙ set-read sets (PIX n) 1605 (n - 1) 10 (omega arith) (numbered n low high))
  where
    numbered : (n : ℕ) → 1 ≤ n → n ≤ 16 → number_of (PIX n) ≡ Some (1605 + (n - 1))
    numbered n low high =
        let within : is_within n 16 ≡ true = grind (arith, nat_tests, low, high) in
        let number : 1604 + n ≡ 1605 + (n - 1) = omega (arith, low) in
        rw within (ap (λ (m : ℕ). Some m) number)

-- the pilots after the rows of a cycle that moves them, and of another one
pub rows-moving : (cycle : Cycle) (pictures : Point → Hub → Bool) (pilots : PilotStates) → moves_pilots cycle ≡ true
    → ◌≡◌ {A = PilotStates} (record pilots { picked_up = pickups (pictures (Row Eleven)) }) (after_rows pilots_sensed cycle pictures pilots)
rows-moving RunIn pictures pilots moves = refl
rows-moving Card pictures pilots moves = refl
rows-moving (Prog level ordinal) pictures pilots moves = cc
rows-moving (Head heading) pictures pilots moves = cc

pub rows-resting : (cycle : Cycle) (pictures : Point → Hub → Bool) (pilots : PilotStates) → moves_pilots cycle ≡ false
    → pilots ≡ after_rows pilots_sensed cycle pictures pilots
rows-resting RunIn pictures pilots rests = cc
rows-resting Card pictures pilots rests = cc
rows-resting (Prog level ordinal) pictures pilots rests = refl
rows-resting (Head heading) pictures pilots rests = refl

-- the pilots after the end of a cycle that moves them
pub ended-moving : (pilots : PilotStates) (cycle : Cycle) → moves_pilots cycle ≡ true
    → ◌≡◌ {A = PilotStates} (record { transferred = pilots.picked_up; picked_up = no_pilots }) (pilots_ended pilots cycle)
ended-moving pilots cycle moves = rw moves refl

-- Steps of the loop that lists faults.
use Rattle.std.proofs.Common.{◌≡◌, ◌≢◌, ℕ, suc, ◌+◌, ◌-◌, ◌<◌, ◌≤◌, List, [], ◌∷◌, ◌++◌, Some, None, sym, ◌∙◌, arith, append_assoc, append-nil, subst}
use Rattle.fault_slips.specs.LineMarks.Emptied.{emptied}
use Rattle.hubs.specs.SetupsWords.Wiring.{Wiring}
use Rattle.wiring_text.specs.WiringFaults.{HasWiringFault}
use Rattle.wiring_text.specs.WiringText.{ReadsAs}
use Rattle.wiring_text.specs.declared.fault.WiringFault.{WiringFault}
use Rattle.fault_wiring_slips.specs.Faulty.{AreFaults, enough, reads, last, next, line_behind}

-- the faults so far and those of what is left are those of the text
abbrev pub ListsSoFar : List ℕ → List ℕ → List WiringFault → ℕ → Type 0
ListsSoFar text rest faults count =
    (others : List WiringFault) (good : List ℕ) → AreFaults (500 - count) rest others good → AreFaults 500 text (faults ++ others) good

-- the number of faults that are left, before one of them
left_over : (count : ℕ) → count < 500 → suc (500 - (count + 1)) ≡ 500 - count
left_over count more = omega (arith, more)

-- one fault more
pub ListsSoFar-more : (text rest : List ℕ) (faults : List WiringFault) (fault : WiringFault) (count line : ℕ) → count < 500
    → HasWiringFault rest fault → line_behind fault ≡ Some line → ListsSoFar text rest faults count
    → ListsSoFar text (emptied line rest) (faults ++ fault ∷ []) (count + 1)
ListsSoFar-more text rest faults fault count line more has behind so_far others good are =
    subst (λ (all : List WiringFault). AreFaults 500 text all good) (sym (append_assoc faults (fault ∷ []) others))
    (so_far (fault ∷ others) good
    (subst (λ (n : ℕ). AreFaults n rest (fault ∷ others) good) (left_over count more) (next has behind are)))

-- the last fault
pub ListsSoFar-last : (text rest : List ℕ) (faults : List WiringFault) (fault : WiringFault) (count : ℕ) → count < 500
    → HasWiringFault rest fault → line_behind fault ≡ None → ListsSoFar text rest faults count
    → AreFaults 500 text (faults ++ fault ∷ []) rest
ListsSoFar-last text rest faults fault count more has behind so_far =
    so_far (fault ∷ []) rest (subst (λ (n : ℕ). AreFaults n rest (fault ∷ []) rest) (left_over count more) (last has behind))

-- no fault more
pub ListsSoFar-none : (text rest : List ℕ) (faults : List WiringFault) (count : ℕ) → count < 500 → (wiring : Wiring) × ReadsAs rest wiring
    → ListsSoFar text rest faults count → AreFaults 500 text faults rest
ListsSoFar-none text rest faults count more (wiring, are) so_far =
    subst (λ (all : List WiringFault). AreFaults 500 text all rest) (append-nil faults)
    (so_far [] rest (subst (λ (n : ℕ). AreFaults n rest [] rest) (left_over count more) (reads wiring are)))

-- enough faults
pub ListsSoFar-all : (text rest : List ℕ) (faults : List WiringFault) (count : ℕ) → 500 ≤ count → ListsSoFar text rest faults count
    → AreFaults 500 text faults rest
ListsSoFar-all text rest faults count all so_far =
    let zero_left : 0 ≡ 500 - count = omega (arith, all) in
    subst (λ (each : List WiringFault). AreFaults 500 text each rest) (append-nil faults)
    (so_far [] rest (subst (λ (n : ℕ). AreFaults n rest [] rest) zero_left enough))

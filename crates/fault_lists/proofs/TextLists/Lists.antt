-- What a list of the faults of a wiring chart comes to.
use Rattle.std.proofs.Common.{◌≡◌, ℕ, ◌<◌, ◌≤◌, get_or, length, List, [], ◌∷◌, Option, Result, Ok, Err, OnOk, inl, inr, codes, refl, subst, arith}
use Rattle.std.specs.Io.KnownBytes.{Appends}
use Rattle.fault_lines.specs.declared.faults.fault.Fault.{Fault}
use Rattle.hubs.specs.SetupsWords.Wiring.{Wiring}
use Rattle.fault_wiring_slips.specs.Faulty.{AreFaults, enough, reads, last, next}
use Rattle.wiring_text.specs.WiringFaults.{HasWiringFault}
use Rattle.wiring_text.specs.WiringText.{ReadsAs}
use Rattle.wiring_text.specs.declared.fault.WiringFault.{WiringFault}
use Rattle.fault_lists.specs.TextLists.Endings.{AnswersWired, EndsWiring, ListsFaults}

-- a text of which no fault is listed reads
none_listed : {count : ℕ} {text good : List ℕ} → AreFaults count text [] good → 0 < count → (wiring : Wiring) × ReadsAs text wiring
none_listed enough more = absurd (omega (arith, more))
none_listed (reads wiring are) more = (wiring, are)

-- the first fault that is listed is the fault of the text
first_listed : {count : ℕ} {text good : List ℕ} {first : WiringFault} {others : List WiringFault} → AreFaults count text (first ∷ others) good
    → HasWiringFault text first
first_listed (last has behind) = has
first_listed (next has behind are) = has

answers : (text good : List ℕ) (old new : Option (List ℕ)) → AreFaults 500 text [] good → Appends old new (codes "ok\n") → AnswersWired text old new
answers text good old new are written =
    let read = none_listed are (omega arith) in
    record { wiring = read.0; reads = read.1; written = written }

-- a list that is shorter than one
pub none_there : {A : Type 0} (list : List A) → length list < 1 → list ≡ []
none_there [] short = refl
none_there (first ∷ others) short = absurd (omega (arith, short))

-- no fault is listed
pub wired_ok : {U : Type 0} (answer : Result U Fault) (text good : List ℕ) (faults : List WiringFault) (old new : Option (List ℕ))
    → AreFaults 500 text faults good → faults ≡ [] → OnOk answer (Appends old new (codes "ok\n")) → OnOk answer (AnswersWired text old new)
wired_ok (Ok done) text good faults old new are none written =
    answers text good old new (subst (λ (all : List WiringFault). AreFaults 500 text all good) none are) written
wired_ok (Err fault) text good faults old new are none written = tt

ends : (text good : List ℕ) (first : WiringFault) (others : List WiringFault) (old new : Option (List ℕ)) (fault : Fault)
    → AreFaults 500 text (first ∷ others) good → ListsFaults text good (first ∷ others) first old new fault → EndsWiring text old new fault
ends text good first others old new fault are (inl off) = inr off
ends text good first others old new fault are (inr (is, written)) =
    inl (record {
      first = first;
      others = others;
      good = good;
      are = are;
      at_fault = first_listed are;
      is_told = is;
      written = written;
    })

-- some are
pub wired_ends : (text good : List ℕ) (faults : List WiringFault) (default : WiringFault) (old new : Option (List ℕ)) (fault : Fault)
    → 1 ≤ length faults → AreFaults 500 text faults good → ListsFaults text good faults (get_or faults 0 default) old new fault
    → EndsWiring text old new fault
wired_ends text good [] default old new fault some are listed = absurd (omega (arith, some))
wired_ends text good (first ∷ others) default old new fault some are listed = ends text good first others old new fault are listed

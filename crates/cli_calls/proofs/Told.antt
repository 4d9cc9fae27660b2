-- What is told of a check.
use Rattle.std.proofs.Common.{◌≡◌, ◌≢◌, ◌&&◌, ℕ, Bool, true, false, List, Option, Result, Ok, Err, OnOk, IfErr, inl, inr, sym, ◌∙◌, arith}
use Rattle.cli_decks.specs.CheckCalls.Telling.{heads_list}
use Rattle.cli_calls.specs.Ends.{DoneOrStopped, IsToldOnce}
use Rattle.fault_lines.specs.FaultsWords.Lines.{IsTold}
use Rattle.fault_lines.specs.FaultsWords.Status.{status_of}
use Rattle.fault_lines.specs.declared.faults.fault.Fault.{Fault}
use Rattle.fault_lines.specs.declared.faults.fault.Fault.TheVariants as fault

-- no fault has the status of what is done
told_isnt_done : (told : Fault) → status_of told ≢ 0
told_isnt_done (fault.Whole number) = λ done. omega (arith, done)
told_isnt_done (fault.Line number line) = λ done. omega (arith, done)
told_isnt_done (fault.Cause number line cause) = λ done. omega (arith, done)
told_isnt_done (fault.Card number card) = λ done. omega (arith, done)
told_isnt_done (fault.Column number card column) = λ done. omega (arith, done)
told_isnt_done (fault.Counters number width wanted there) = λ done. omega (arith, done)
told_isnt_done (fault.Capacity number wanted there) = λ done. omega (arith, done)
told_isnt_done (fault.Indicate number level wanted there) = λ done. omega (arith, done)
told_isnt_done (fault.Total number level name card) = λ done. omega (arith, done)
told_isnt_done (fault.Unknown word) = λ done. omega (arith, done)
told_isnt_done (fault.File path) = λ done. omega (arith, done)
told_isnt_done (fault.Unread card) = λ done. omega (arith, done)
told_isnt_done fault.Write = λ done. omega (arith, done)
told_isnt_done fault.Memory = λ done. omega (arith, done)

-- a check ends as it is told of
pub checked : {U : Type 0} (answer : Result U Fault) (status : ℕ) (shows_both is_told : Bool) (before after : Option (List ℕ))
    (Fine Untold : Type 0) (Stopped : Fault → Type 0) → OnOk answer Fine → IfErr answer Stopped → OnOk answer ((status ≡ 0) × Untold)
    → IfErr answer (λ told. status ≡ status_of told)
    → IfErr answer (λ told. (shows_both && heads_list told) ≡ false → IsTold told is_told before after)
    → IfErr answer (λ told. (shows_both && heads_list told) ≡ true → (is_told ≡ true) × Untold)
    → DoneOrStopped status (Fine × Untold)
    ((told : Fault) × (status ≡ status_of told) × Stopped told × IsToldOnce told shows_both is_told before after Untold)
checked (Ok answer) status shows_both is_told before after Fine Untold Stopped fine stopped done refused told once =
    record { done = λ _. (fine, done.1); stopped = inl done.0 }
checked (Err met) status shows_both is_told before after Fine Untold Stopped fine stopped done refused told once =
    record {
      done = λ is. absurd (told_isnt_done met (sym refused ∙ is));
      stopped = inr (met, refused, stopped, record { told_of = told; listed = once });
    }

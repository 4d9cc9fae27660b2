-- The fault of a text as it is told, and what was read.
use Rattle.std.proofs.Common.{◌≡◌, ◌≢◌, ◌∙◌, ap, sym, subst, arith, refl, ℕ, List, [], Option, None, Some, unwrap_or, IfSome}
use Rattle.card_code.specs.Deck.{HasDeckFault}
use Rattle.card_code.specs.declared.deck.DeckFault.{DeckFault}
use Rattle.card_code.specs.declared.deck.DeckFault.TheVariants as deck
use Rattle.fault_lines.specs.FaultsWords.Status.{status_of}
use Rattle.fault_lines.specs.FaultsWords.ToldFaults.{deck_told}
use Rattle.fault_lines.specs.declared.faults.fault.Fault.{Fault}
use Rattle.fault_lines.specs.declared.faults.fault.Fault.TheVariants as fault
use Rattle.fault_lines.specs.ProgramIo.Refusals.{RefusesDeck}

pub deck_refused : (text : List ℕ) (cause : DeckFault) (told : Fault) → (cause ≢ deck.Memory → HasDeckFault text cause)
    → told ≡ deck_told cause → told ≢ fault.Memory → RefusesDeck text told
deck_refused text cause told has named not_memory =
    record { cause = cause; at_fault = has (λ is. not_memory (named ∙ ap deck_told is)); named = named }

pub refusal_is_not_memory : (told : Fault) → status_of told ≡ 3 → told ≢ fault.Memory
refusal_is_not_memory told three is =
    let five : status_of told ≡ 5 = ap status_of is in
    omega (arith, three, five)

-- where no deck is read, the known one, or none, stands for it
pub is_known : (deck : Option (List ℕ)) → IfSome deck (λ known. unwrap_or deck [] ≡ known)
is_known None = tt
is_known (Some known) = refl

-- what was read is what stands in memory
pub read_is_known : (deck : Option (List ℕ)) (read items : List ℕ) → read ≡ items → IfSome deck (λ known. items ≡ known)
    → IfSome deck (λ known. read ≡ known)
read_is_known deck read items same is = subst (λ (bytes : List ℕ). IfSome deck (λ known. bytes ≡ known)) (sym same) is

-- The fault of a text as it is told, and what a setup and a service give, as what their texts give.
use Rattle.std.proofs.Common.{◌≡◌, ◌≢◌, ◌∙◌, ◌⊎◌, inl, inr, ap, refl, ℕ, List, Result, Ok, Err, IfOk}
use Rattle.std.specs.Prelude.{IfErr}
use Rattle.card_code.specs.Lines.{lines_of}
use Rattle.fault_lines.proofs.FaultsWords.Statuses.{wiring_status}
use Rattle.fault_lines.specs.FaultsWords.Status.{status_of}
use Rattle.fault_lines.specs.FaultsWords.ToldFaults.{wiring_told}
use Rattle.fault_lines.specs.declared.faults.fault.Fault.{Fault}
use Rattle.fault_lines.specs.declared.faults.fault.Fault.TheVariants as fault
use Rattle.cli_commands.specs.CommandsWords.UnitOrders.OrdersText.{HasOrdersFault, SayOrders}
use Rattle.cli_commands.specs.declared.commands.orders.fault.OrdersFault.{OrdersFault}
use Rattle.cli_commands.specs.declared.commands.orders.fault.OrdersFault.TheVariants as orders
use Rattle.fault_lines.proofs.ProgramIo.Stopping.{deck_refusal, named_status}
use Rattle.fault_lines.specs.ProgramIo.Refusals.{RefusesDeck}
use Rattle.cli_commands.specs.CommandsWords.ServedReplays.Answers.{IsReplayByOrders, IsServedOn}
use Rattle.cli_commands.specs.CommandsWords.ServedReplays.Refusals.{RefusesByOrders, RefusesOrders, lists, orders_told, punches, wires}
use Rattle.machine_served.specs.declared.served_runs.counts.Counts.{Counts}
use Rattle.hubs.specs.SetupsWords.Wiring.{Wiring}
use Rattle.wiring_text.specs.WiringFaults.{HasWiringFault}
use Rattle.wiring_text.specs.WiringText.{ReadsAs}
use Rattle.wiring_text.specs.declared.fault.WiringFault.{WiringFault}
use Rattle.wiring_text.specs.declared.fault.WiringFault.TheVariants as wiring

pub wiring_refused : (text punched lines : List ℕ) (cause : WiringFault) (told : Fault) → (cause ≢ wiring.Memory → HasWiringFault text cause)
    → told ≡ wiring_told cause → told ≢ fault.Memory → RefusesByOrders text lines punched told
wiring_refused text punched lines cause told has named not_memory =
    wires (record { cause = cause; at_fault = has (λ is. not_memory (named ∙ ap wiring_told is)); named = named })

pub orders_refused : (text : List ℕ) (cause : OrdersFault) (told : Fault)
    → (cause ≢ orders.Memory → HasOrdersFault (lines_of text) cause) → (told ≡ fault.Memory) ⊎ (told ≡ orders_told cause)
    → told ≢ fault.Memory → RefusesOrders text told
orders_refused text cause told has (inl is) not_memory = absurd (not_memory is)
orders_refused text cause told has (inr named) not_memory =
    record { cause = cause; at_fault = has (λ is. not_memory (named ∙ ap orders_told is)); named = named }

-- what is told of orders has the status of refused input
orders_status : (cause : OrdersFault) → orders_told cause ≢ fault.Memory → status_of (orders_told cause) ≡ 3
orders_status (orders.NotAnOrder line) not_memory = refl
orders_status orders.NoOrders not_memory = refl
orders_status orders.Memory not_memory = absurd (not_memory refl)

pub refusal_status : (text lines deck : List ℕ) (told : Fault) → RefusesByOrders text lines deck told → told ≢ fault.Memory
    → status_of told ≡ 3
refusal_status text lines deck told (wires refuses) = named_status wiring_told wiring_status refuses.cause told refuses.named
refusal_status text lines deck told (lists of reads refuses) = named_status orders_told orders_status refuses.cause told refuses.named
refusal_status text lines deck told (punches of reads service says refuses) = deck_refusal deck told refuses

-- what a setup and a service print, the texts print that say them
module _ {X : Type 0} (result : Result X Fault) (text lines deck : List ℕ) (of : Wiring) (service : List (List ℕ)) (reads : ReadsAs text of)
    (says : SayOrders (lines_of lines) service) where
  pub served_of_texts : (pages : X → List ℕ) (counts : X → Counts)
      → IfOk result (λ answer. IsServedOn of service deck (pages answer) (counts answer))
      → IfOk result (λ answer. IsReplayByOrders text lines deck (pages answer) (counts answer))
  served_of_texts pages counts = by result
    where
      by : (any : Result X Fault) → IfOk any (λ answer. IsServedOn of service deck (pages answer) (counts answer))
          → IfOk any (λ answer. IsReplayByOrders text lines deck (pages answer) (counts answer))
      by (Ok answer) is = record { wiring = of; reads = reads; service = service; says = says; served = is }
      by (Err _) is = tt

  pub refused_of_texts : IfErr result (λ told. told ≢ fault.Memory → RefusesDeck deck told)
      → IfErr result (λ told. told ≢ fault.Memory → RefusesByOrders text lines deck told)
  refused_of_texts = by result
    where
      by : (any : Result X Fault) → IfErr any (λ told. told ≢ fault.Memory → RefusesDeck deck told)
          → IfErr any (λ told. told ≢ fault.Memory → RefusesByOrders text lines deck told)
      by (Ok _) refuses = tt
      by (Err _) refuses = λ not_memory. punches of reads service says (refuses not_memory)

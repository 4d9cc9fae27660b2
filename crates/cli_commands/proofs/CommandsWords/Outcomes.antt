-- What the parts of a command answer, gathered.
use Rattle.std.proofs.Common.{◌≡◌, ◌≢◌, ◌∙◌, ◌⊎◌, inl, inr, ap, sym, subst, refl, ℕ, List, [], Option, Result, Ok, Err, unwrap_or, IfSome}
use Rattle.std.specs.Prelude.{IfErr, OnOk, codes}
use Rattle.std.specs.Io.KnownBytes.{Appends}
use Rattle.wiring_text.specs.WiringFaults as wiring_faults
use Rattle.wiring_text.specs.declared.fault.WiringFault.{WiringFault}
use Rattle.wiring_text.specs.declared.fault.WiringFault.TheVariants as wiring
use Rattle.cli_commands.proofs.CommandsWords.Refusing.{wiring_refused}
use Rattle.fault_lines.proofs.ProgramIo.Refusing.{is_known, read_is_known, refusal_is_not_memory}
use Rattle.fault_lines.specs.ProgramIo.Commands.{word_of}
use Rattle.fault_lines.specs.ProgramIo.Fronts.{WritesFront}
use Rattle.cli_commands.specs.CommandsWords.Answers.{Answers, Compiles, IsUpgradeOf, IsWiringChartOf, PrintAlike}
use Rattle.cli_commands.specs.CommandsWords.Refusals.{Refuses, RefusesReplay}
use Rattle.fault_lines.specs.FaultsWords.ToldFaults.{wiring_told}
use Rattle.cli_commands.specs.CommandsWords.CommandEnds.{IsDone, IsRefused, PrintsReplay}
use Rattle.fault_lines.specs.FaultsWords.Status.{status_of}
use Rattle.fault_lines.specs.declared.program_io.command.Command.{Command}
use Rattle.fault_lines.specs.declared.program_io.command.Command.TheVariants as command
use Rattle.fault_lines.specs.declared.faults.fault.Fault.{Fault}
use Rattle.fault_lines.specs.declared.faults.fault.Fault.TheVariants as fault

-- the answer on the deck in memory is written
pub done : {X E : Type 0} (result : Result X E) (command : Command) (text read items answer bytes : List ℕ) (deck old new : Option (List ℕ))
    → read ≡ items → IfSome deck (λ known. items ≡ known) → Answers command text read answer → bytes ≡ answer
    → OnOk result (Appends old new bytes) → OnOk result (IsDone command text deck old new)
done (Ok _) command text read items answer bytes deck old new same is_deck answers is_answer written =
    record {
      read = read;
      is_deck = read_is_known deck read items same is_deck;
      answer = answer;
      answers = answers;
      written = subst (λ (put : List ℕ). Appends old new put) is_answer written;
    }
done (Err _) command text read items answer bytes deck old new same is_deck answers is_answer written = tt

-- no deck is read: whatever it is, the answer is written
pub check_written : (text : List ℕ) (old new : Option (List ℕ)) → Compiles text → Appends old new (codes "ok\n") → (deck : Option (List ℕ))
    → IsDone command.Check text deck old new
check_written text old new compiles written deck =
    record { read = unwrap_or deck []; is_deck = is_known deck; answer = codes "ok\n"; answers = (compiles, refl); written = written }

pub check_done : {X E : Type 0} (result : Result X E) (text : List ℕ) (old new : Option (List ℕ)) → Compiles text
    → OnOk result (Appends old new (codes "ok\n")) → OnOk result ((deck : Option (List ℕ)) → IsDone command.Check text deck old new)
check_done (Ok _) text old new compiles written = check_written text old new compiles written
check_done (Err _) text old new compiles written = tt

pub wire_written : (text answer bytes : List ℕ) (old new : Option (List ℕ)) → IsWiringChartOf text answer → bytes ≡ answer
    → Appends old new bytes → (deck : Option (List ℕ)) → IsDone command.Wire text deck old new
wire_written text answer bytes old new is is_answer written deck =
    record {
      read = unwrap_or deck [];
      is_deck = is_known deck;
      answer = answer;
      answers = is;
      written = subst (λ (put : List ℕ). Appends old new put) is_answer written;
    }

pub wire_done : {X E : Type 0} (result : Result X E) (text answer bytes : List ℕ) (old new : Option (List ℕ)) → IsWiringChartOf text answer
    → bytes ≡ answer → OnOk result (Appends old new bytes) → OnOk result ((deck : Option (List ℕ)) → IsDone command.Wire text deck old new)
wire_done (Ok _) text answer bytes old new is is_answer written = wire_written text answer bytes old new is is_answer written
wire_done (Err _) text answer bytes old new is is_answer written = tt

pub upgrade_written : (text answer bytes : List ℕ) (old new : Option (List ℕ)) → IsUpgradeOf text answer → PrintAlike text answer
    → bytes ≡ answer → Appends old new bytes → (deck : Option (List ℕ)) → IsDone command.Upgrade text deck old new
upgrade_written text answer bytes old new is alike is_answer written deck =
    record {
      read = unwrap_or deck [];
      is_deck = is_known deck;
      answer = answer;
      answers = (is, alike);
      written = subst (λ (put : List ℕ). Appends old new put) is_answer written;
    }

pub upgrade_done : {X E : Type 0} (result : Result X E) (text answer bytes : List ℕ) (old new : Option (List ℕ)) → IsUpgradeOf text answer
    → PrintAlike text answer → bytes ≡ answer → OnOk result (Appends old new bytes)
    → OnOk result ((deck : Option (List ℕ)) → IsDone command.Upgrade text deck old new)
upgrade_done (Ok _) text answer bytes old new is alike is_answer written =
    upgrade_written text answer bytes old new is alike is_answer written
upgrade_done (Err _) text answer bytes old new is alike is_answer written = tt

-- where no deck is read, the texts are refused whatever it is
pub refused_for_any : (command : Command) (text : List ℕ) (met told : Fault)
    → ((read : List ℕ) → met ≢ fault.Memory → Refuses command text read met) → told ≡ met → status_of told ≡ 3
    → (deck : Option (List ℕ)) → IsRefused command text deck told
refused_for_any command text met told refuses same three deck =
    subst (λ (fault : Fault). IsRefused command text deck fault) (sym same)
    (record {
      read = unwrap_or deck [];
      is_deck = is_known deck;
      refuses = refuses (unwrap_or deck []) (refusal_is_not_memory met (ap status_of (sym same) ∙ three));
    })

-- the deck in memory is what was read
pub refused : (command : Command) (text read items : List ℕ) (deck : Option (List ℕ)) (met told : Fault) → read ≡ items
    → IfSome deck (λ known. items ≡ known) → (met ≢ fault.Memory → Refuses command text read met) → told ≡ met → status_of told ≡ 3
    → IsRefused command text deck told
refused command text read items deck met told same_read is_deck refuses same three =
    subst (λ (fault : Fault). IsRefused command text deck fault) (sym same)
    (record {
      read = read;
      is_deck = read_is_known deck read items same_read is_deck;
      refuses = refuses (refusal_is_not_memory met (ap status_of (sym same) ∙ three));
    })

-- a fault of the wiring chart, whatever the deck is that can't be read
pub wiring_refused_for_any : (text : List ℕ) (deck : Option (List ℕ)) (cause : WiringFault) (told : Fault)
    → (cause ≢ wiring.Memory → wiring_faults.HasWiringFault text cause) → told ≡ wiring_told cause → status_of told ≡ 3
    → IsRefused command.Replay text deck told
wiring_refused_for_any text deck cause told has named three =
    record {
      read = unwrap_or deck [];
      is_deck = is_known deck;
      refuses = wiring_refused text (unwrap_or deck []) cause told has named (refusal_is_not_memory told three);
    }

-- what holds for any deck holds for this one
pub done_for_deck : {X E : Type 0} (result : Result X E) (command unread : Command) (text : List ℕ) (deck old new : Option (List ℕ))
    → command ≡ unread → OnOk result ((any : Option (List ℕ)) → IsDone unread text any old new)
    → OnOk result (IsDone command text deck old new)
done_for_deck (Ok _) command unread text deck old new same of_any =
    subst (λ (of : Command). IsDone of text deck old new) (sym same) (of_any deck)
done_for_deck (Err _) command unread text deck old new same of_any = tt

-- what holds of the front of a command's answer holds of the command that it is
pub front_by : (given known : Command) (text : List ℕ) (deck old new : Option (List ℕ)) (Nothing : Type 0) → given ≡ known
    → Nothing ⊎ WritesFront (IsDone known text deck) old new → Nothing ⊎ WritesFront (IsDone given text deck) old new
front_by given known text deck old new Nothing same front =
    subst (λ (of : Command). Nothing ⊎ WritesFront (IsDone of text deck) old new) (sym same) front

pub front_for_deck : (given known : Command) (text : List ℕ) (deck old new : Option (List ℕ)) (Nothing : Type 0) → given ≡ known
    → Nothing ⊎ ((any : Option (List ℕ)) → WritesFront (IsDone known text any) old new) → Nothing ⊎ WritesFront (IsDone given text deck) old new
front_for_deck given known text deck old new Nothing same (inl none) = inl none
front_for_deck given known text deck old new Nothing same (inr front) =
    front_by given known text deck old new Nothing same (inr (front deck))

-- and of the command that a word names
pub front_by_word : (deck : Option (List ℕ)) {text : List ℕ} {old new : Option (List ℕ)} {Nothing : Type 0} (word : List ℕ) (known : Command)
    → word ≡ word_of known → Nothing ⊎ WritesFront (IsDone known text deck) old new
    → Nothing ⊎ ((named : Command) × (word ≡ word_of named) × WritesFront (IsDone named text deck) old new)
front_by_word deck word known is (inl none) = inl none
front_by_word deck word known is (inr front) = inr (known, is, front)

pub refused_for_deck : {X : Type 0} (result : Result X Fault) (command unread : Command) (text : List ℕ) (deck : Option (List ℕ)) (Q : Type 0)
    → command ≡ unread
    → IfErr result (λ told. status_of told ≡ 3 → ((any : Option (List ℕ)) → IsRefused unread text any told) × Q)
    → IfErr result (λ told. status_of told ≡ 3 → IsRefused command text deck told × Q)
refused_for_deck (Ok _) command unread text deck Q same of_any = tt
refused_for_deck (Err told) command unread text deck Q same of_any = λ three. (
  subst (λ (of : Command). IsRefused of text deck told) (sym same) ((of_any three).0 deck),
  (of_any three).1,
)

-- the pages of a replay are what it answers
pub replay_written : (text read items : List ℕ) (deck old new : Option (List ℕ)) → read ≡ items → IfSome deck (λ known. items ≡ known)
    → PrintsReplay text read old new → IsDone command.Replay text deck old new
replay_written text read items deck old new same is_deck prints =
    record {
      read = read;
      is_deck = read_is_known deck read items same is_deck;
      answer = prints.answer;
      answers = prints.pages;
      written = prints.written;
    }

pub replay_done : {X E : Type 0} (result : Result X E) (text read items : List ℕ) (deck old new : Option (List ℕ)) → read ≡ items
    → IfSome deck (λ known. items ≡ known) → OnOk result (PrintsReplay text read old new) → OnOk result (IsDone command.Replay text deck old new)
replay_done (Ok _) text read items deck old new same is_deck prints = replay_written text read items deck old new same is_deck prints
replay_done (Err _) text read items deck old new same is_deck prints = tt

-- and the texts that it refuses are those that were read
pub replay_refused : {X : Type 0} (result : Result X Fault) (text read items : List ℕ) (deck : Option (List ℕ)) (Q : Type 0) → read ≡ items
    → IfSome deck (λ known. items ≡ known) → IfErr result (λ told. status_of told ≡ 3 → RefusesReplay text read told × Q)
    → IfErr result (λ told. status_of told ≡ 3 → IsRefused command.Replay text deck told × Q)
replay_refused (Ok _) text read items deck Q same is_deck refuses = tt
replay_refused (Err told) text read items deck Q same is_deck refuses = λ three. (
  record { read = read; is_deck = read_is_known deck read items same is_deck; refuses = (refuses three).0 },
  (refuses three).1,
)

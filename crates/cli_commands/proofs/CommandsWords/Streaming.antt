-- What a run that comes card by card prints and tells.
use Rattle.std.proofs.Common.{◌≡◌, ◌≢◌, ◌∙◌, ◌⊎◌, ◌≤◌, inl, inr, ap, sym, subst, refl, arith, ℕ, Bool, List, Option, Some, Result, Ok, Err, IfSome}
use Rattle.std.proofs.KnownBytes.{Appends-kept}
use Rattle.std.specs.Prelude.{IfErr, MatchResult, OnOk, ⊤}
use Rattle.std.specs.Io.KnownBytes.{Appends, Keeps}
use Rattle.report_streams.specs.declared.card_lines.fault.ReadFault.TheVariants as read
use Rattle.cli_commands.proofs.CommandsWords.RunEnds.{line_of, run_device, run_ends_status, run_memory}
use Rattle.fault_lines.proofs.ProgramIo.Stopping.{stopped_status, told_of_device, told_of_memory}
use Rattle.cli_commands.specs.CommandsWords.Answers.{CompilesAs, HasWiring}
use Rattle.fault_lines.specs.ProgramIo.Commands.{word_of}
use Rattle.fault_lines.specs.ProgramIo.Stops.{Stops, deck_unread, memory_wanting, output_unwritten, texts_refused}
use Rattle.cli_commands.specs.CommandsWords.Refusals.{RefusesChart}
use Rattle.cli_commands.specs.CommandsWords.Streamed.{EndsRun, HasFailed, HasRefused, HasRunWhole, HasServed, IsToldOf, StopsInRun, chart_refused, chart_unread, run_stopped}
use Rattle.fault_lines.specs.declared.program_io.command.Command.{Command}
use Rattle.fault_lines.specs.declared.program_io.command.Command.TheVariants as command
use Rattle.compile407.specs.Compilation.{Compilation}
use Rattle.fault_lines.proofs.FaultsWords.Statuses.{memory_or_not}
use Rattle.fault_lines.specs.FaultsWords.Lines.{IsTold}
use Rattle.fault_lines.specs.FaultsWords.Status.{status_of}
use Rattle.fault_lines.specs.declared.faults.deck.RunFault.TheVariants as deck
use Rattle.fault_lines.specs.declared.faults.fault.Fault.{Fault}
use Rattle.fault_lines.specs.declared.faults.fault.Fault.TheVariants as fault
use Rattle.report_runs.specs.Runs.{HasRun, HasStopped, RunsToEnd, StopsShort}
use Rattle.report_runs.specs.declared.fault.StreamCause.TheVariants as cause
use Rattle.report_runs.specs.declared.fault.StreamFault.{StreamFault}

-- the report of all bytes of the reader
pub run_whole : (compiled : Compilation) (text : List ℕ) → CompilesAs text compiled → (reader old new : Option (List ℕ)) (count : ℕ)
    → ((bytes : List ℕ) → reader ≡ Some bytes → (written : List ℕ) × HasRun compiled.chart bytes count written × Appends old new written)
    → HasRunWhole text reader old new
run_whole compiled text compiles reader old new count run = record {
  compiled = compiled;
  compiles = compiles;
  whole = λ known is.
      let ran = run known is in
      record {
        read = known;
        is_deck = subst (λ (bytes : Option (List ℕ)). IfSome bytes (λ all. known ≡ all)) (sym is) refl;
        answer = ran.0;
        answers = record {
          compiled = compiled;
          compiles = compiles;
          cards = ran.1.cards;
          punched = ran.1.deck;
          runnable = record { deck = ran.1.valid; fits = ran.1.fit };
          reported = ran.1.report;
        };
        written = ran.2;
      };
}

-- What was written until a run stopped stays: what the stopped run left is kept, and stands after what the writer held. What it left of the
-- deck is what the reader has left.
pub stopped_in_run : (compiled : Compilation) (text : List ℕ) → CompilesAs text compiled
    → (reader source rest left lent middle kept old new : Option (List ℕ)) (stopped : StreamFault) (told : Fault) → IsToldOf stopped.cause told
    → source ≡ reader → rest ≡ left → StopsShort compiled.chart source rest lent middle stopped → Keeps middle kept
    → ((written : List ℕ) → Appends lent kept written → Appends old new written) → StopsInRun text reader left old new told
stopped_in_run compiled text compiles reader source rest left lent middle kept old new stopped told named same is_left stops keeps back = record {
  compiled = compiled;
  compiles = compiles;
  fault = stopped;
  named = named;
  stopped = record {
    written = stops.written;
    gained = back stops.written (Appends-kept lent middle kept stops.written stops.gained keeps);
    counted = stops.counted;
    stopped = λ known is.
        subst (λ (of : Option (List ℕ)). HasStopped compiled.chart known of stopped.cause stops.written) is_left
        (stops.stopped known (same ∙ is));
  };
}

-- the chart was refused, or memory was wanting for it
pub ends_by_chart : (text : List ℕ) (reader left old new : Option (List ℕ)) (met told : Fault) (Unprinted : Type 0)
    → (met ≢ fault.Memory → RefusesChart text met) → told ≡ met → Unprinted → EndsRun text reader left old new told Unprinted
ends_by_chart text reader left old new met told Unprinted refuses same unprinted = by (memory_or_not met)
  where
    by : (met ≡ fault.Memory) ⊎ (met ≢ fault.Memory) → EndsRun text reader left old new told Unprinted
    by (inl is) = chart_unread (same ∙ is) unprinted
    by (inr not_memory) = chart_refused (subst (RefusesChart text) (sym same) (refuses not_memory)) unprinted

-- a run whose texts are refused
pub refused_run : (text : List ℕ) (reader left old new : Option (List ℕ)) (told : Fault) (Unprinted : Type 0)
    → EndsRun text reader left old new told Unprinted → status_of told ≡ 3
    → (RefusesChart text told × Unprinted) ⊎ StopsInRun text reader left old new told
refused_run text reader left old new told Unprinted (chart_refused refuses unprinted) three = inl (refuses, unprinted)
refused_run text reader left old new told Unprinted (chart_unread is unprinted) three = absurd (omega (arith, ap status_of is, three))
refused_run text reader left old new told Unprinted (run_stopped stops) three = inr stops

-- whatever the reader has left
module _ (text : List ℕ) (reader left old new : Option (List ℕ)) (Unprinted : Type 0) where
  left_then : {told : Fault} → (RefusesChart text told × Unprinted) ⊎ StopsInRun text reader left old new told
      → HasRefused command.Run text reader old new told Unprinted
  left_then (inl refuses) = inl refuses
  left_then (inr stops) = inr (left, stops)

  pub run_refused : {X : Type 0} (result : Result X Fault) → IfErr result (λ told. EndsRun text reader left old new told Unprinted)
      → IfErr result (λ told. status_of told ≡ 3 → HasRefused command.Run text reader old new told Unprinted)
  run_refused (Ok _) ends = tt
  run_refused (Err told) ends = λ three. left_then (refused_run text reader left old new told Unprinted ends three)

  pub run_failed : {X : Type 0} (result : Result X Fault) → IfErr result (λ told. EndsRun text reader left old new told Unprinted)
      → IfErr result (λ told. (rest : Option (List ℕ)) × EndsRun text reader rest old new told Unprinted)
  run_failed (Ok _) ends = tt
  run_failed (Err told) ends = (left, ends)

-- what holds of a command holds of the one that it is
pub served_by : {X E : Type 0} (result : Result X E) (given known : Command) (text : List ℕ) (reader old new : Option (List ℕ))
    → given ≡ known → OnOk result (HasServed known text reader old new) → OnOk result (HasServed given text reader old new)
served_by (Ok _) given known text reader old new same served =
    subst (λ (of : Command). HasServed of text reader old new) (sym same) served
served_by (Err _) given known text reader old new same served = tt

pub refused_by : {X : Type 0} (result : Result X Fault) (given known : Command) (text : List ℕ) (reader old new : Option (List ℕ))
    (Unprinted : Type 0) → given ≡ known
    → IfErr result (λ told. status_of told ≡ 3 → HasRefused known text reader old new told Unprinted)
    → IfErr result (λ told. status_of told ≡ 3 → HasRefused given text reader old new told Unprinted)
refused_by (Ok _) given known text reader old new Unprinted same has = tt
refused_by (Err told) given known text reader old new Unprinted same has = λ three.
    subst (λ (of : Command). HasRefused of text reader old new told Unprinted) (sym same) (has three)

pub failed_by : {X : Type 0} (result : Result X Fault) (given known : Command) (text : List ℕ) (reader old new : Option (List ℕ))
    (unreadable : Fault) (Unprinted : Type 0) → given ≡ known
    → IfErr result (λ told. HasFailed known text reader old new told unreadable Unprinted)
    → IfErr result (λ told. HasFailed given text reader old new told unreadable Unprinted)
failed_by (Ok _) given known text reader old new unreadable Unprinted same has = tt
failed_by (Err told) given known text reader old new unreadable Unprinted same has =
    subst (λ (of : Command). HasFailed of text reader old new told unreadable Unprinted) (sym same) has

-- which line is told by the status of what stopped a command
module _ (text : List ℕ) (reader old new : Option (List ℕ)) (told unreadable : Fault) (Unprinted : Type 0) (status : ℕ) (is_told : Bool)
    (before after : Option (List ℕ)) (is_status : status ≡ status_of told) (line : IsTold told is_told before after)
    (path : status_of unreadable ≡ 4) where
  abbrev Device : Command → Type 0
  Device known = (Unprinted × (known ≡ command.Replay) × HasWiring text × IsTold unreadable is_told before after)
      ⊎ IsTold fault.Write is_told before after
      ⊎ ((known ≡ command.Run) × ((card : ℕ) × IsTold (fault.Unread card) is_told before after))

  -- of a command that reads no deck the output is told
  output_device : (known : Command) → status ≡ 4 → Stops told fault.Write Unprinted → Device known
  output_device known four stops =
      by (told_of_device told fault.Write Unprinted status is_told before after stops is_status line refl ⊤ (λ _. tt) four)
    where
      by : (Unprinted × ⊤ × IsTold fault.Write is_told before after) ⊎ IsTold fault.Write is_told before after → Device known
      by (inl both) = inr (inl both.2)
      by (inr told_of_it) = inr (inl told_of_it)

  -- of a replay its deck too, where the wiring chart reads
  replay_device : status ≡ 4 → Stops told unreadable Unprinted → (told ≡ unreadable → HasWiring text) → Device command.Replay
  replay_device four (texts_refused three unprinted) reads = absurd (omega (arith, is_status, three, four))
  replay_device four (deck_unread is unprinted) reads = inl (unprinted, refl, reads is, line_of told is_told before after line unreadable is)
  replay_device four (output_unwritten is) reads = inr (inl (line_of told is_told before after line fault.Write is))
  replay_device four (memory_wanting is) reads = absurd (omega (arith, is_status, ap status_of is, four))

  of_run_device : IsTold fault.Write is_told before after ⊎ ((card : ℕ) × IsTold (fault.Unread card) is_told before after)
      → Device command.Run
  of_run_device (inl written) = inr (inl written)
  of_run_device (inr unread_card) = inr (inr (refl, unread_card))

  pub told_of_device_by : (known : Command) → HasFailed known text reader old new told unreadable Unprinted → status ≡ 4 → Device known
  told_of_device_by command.Run has four = of_run_device (run_device told status is_told before after is_status line has.1 four)
  told_of_device_by command.Check has four = output_device command.Check four has
  told_of_device_by command.Wire has four = output_device command.Wire four has
  told_of_device_by command.Replay has four = replay_device four has.0 has.1
  told_of_device_by command.Upgrade has four = output_device command.Upgrade four has

  pub told_of_memory_by : (known : Command) → HasFailed known text reader old new told unreadable Unprinted → status ≡ 5
      → IsTold fault.Memory is_told before after
  told_of_memory_by command.Run has five = run_memory told status is_told before after is_status line has.1 five
  told_of_memory_by command.Check has five =
      told_of_memory told fault.Write Unprinted status is_told before after has is_status line refl five
  told_of_memory_by command.Wire has five =
      told_of_memory told fault.Write Unprinted status is_told before after has is_status line refl five
  told_of_memory_by command.Replay has five =
      told_of_memory told unreadable Unprinted status is_told before after has.0 is_status line path five
  told_of_memory_by command.Upgrade has five =
      told_of_memory told fault.Write Unprinted status is_told before after has is_status line refl five

  pub told_status_by : (known : Command) → HasFailed known text reader old new told unreadable Unprinted → 3 ≤ status × status ≤ 5
  told_status_by command.Run has = run_ends_status told status is_told before after is_status line has.1
  told_status_by command.Check has = stopped_status told fault.Write Unprinted status is_told before after has is_status line refl
  told_status_by command.Wire has = stopped_status told fault.Write Unprinted status is_told before after has is_status line refl
  told_status_by command.Replay has = stopped_status told unreadable Unprinted status is_told before after has.0 is_status line path
  told_status_by command.Upgrade has = stopped_status told fault.Write Unprinted status is_told before after has is_status line refl

-- what is told of a device by the word of a command
pub device_by_word : {Unprinted Wired Written : Type 0} {Unread : ℕ → Type 0} {Read : Type 0} (word : List ℕ) (known : Command)
    → word ≡ word_of known
    → (Unprinted × (known ≡ command.Replay) × Wired × Read) ⊎ Written ⊎ ((known ≡ command.Run) × ((card : ℕ) × Unread card))
    → (Unprinted × (word ≡ word_of command.Replay) × Wired × Read) ⊎ Written ⊎ ((word ≡ word_of command.Run) × ((card : ℕ) × Unread card))
device_by_word word known is (inl replay) = inl (replay.0, is ∙ ap word_of replay.1, replay.2, replay.3)
device_by_word word known is (inr (inl written)) = inr (inl written)
device_by_word word known is (inr (inr run)) = inr (inr (is ∙ ap word_of run.0, run.1))

-- what a call that is told for both outcomes has done
pub of_either_ok : {X E : Type 0} (Ends : X → Type 0) (Stops : E → Type 0) (result : Result X E) (value : X) → result ≡ Ok value
    → MatchResult result Ends Stops → Ends value
of_either_ok {X = X} {E = E} Ends Stops result value is holds = subst (λ (answer : Result X E). MatchResult answer Ends Stops) is holds

-- the same where it stopped
pub of_either_err : {X E : Type 0} (Ends : X → Type 0) (Stops : E → Type 0) (result : Result X E) (error : E) → result ≡ Err error
    → MatchResult result Ends Stops → Stops error
of_either_err {X = X} {E = E} Ends Stops result error is holds = subst (λ (answer : Result X E). MatchResult answer Ends Stops) is holds

-- what a run by a chart has done is done by the chart that it is
pub run_by : {chart : _} (compiled : Compilation) (result : Result ℕ StreamFault) (reader left lent held : Option (List ℕ))
    → chart ≡ compiled.chart → MatchResult result (RunsToEnd chart reader left lent held) (StopsShort chart reader left lent held)
    → MatchResult result (RunsToEnd compiled.chart reader left lent held) (StopsShort compiled.chart reader left lent held)
run_by compiled result reader left lent held is =
    subst (λ of. MatchResult result (RunsToEnd of reader left lent held) (StopsShort of reader left lent held)) is

-- A writer that was lent shows, once it is back, what its lender left of it: what was appended while it was lent stands after what it held.
pub handed_back : {W N : Type 0} (contents : W → Option (List ℕ)) (written : List ℕ) {name last : N} {old lent left now : W}
    (final : (state : W) × (name ≡ last → state ≡ now))
    → name ≡ last → lent ≡ old → now ≡ left → Appends (contents lent) (contents left) written → Appends (contents old) (contents final.0) written
handed_back {W = W} contents written {old = old} {lent = lent} {left = left} final is same stays holds =
    subst (λ (state : W). Appends (contents old) (contents state) written) (sym (final.1 is ∙ stays))
    (subst (λ (state : W). Appends (contents state) (contents left) written) same holds)

-- What was lent is, once it is back, as its lender left it.
pub is_back : {W N : Type 0} {name last : N} {left now : W} (final : (state : W) × (name ≡ last → state ≡ now)) → name ≡ last → now ≡ left
    → left ≡ final.0
is_back final is stays = sym (final.1 is ∙ stays)

-- What is answered over a deck, by what was found of its cards.
use Rattle.std.proofs.Common.{◌≡◌, ◌≢◌, ℕ, List, Result, Ok, Err, IfOk, subst, sym}
use Rattle.std.specs.Prelude.{IfErr}
use Rattle.card_code.specs.Deck.{Deck}
use Rattle.compile407.specs.Compilation.{Compilation}
use Rattle.fault_lines.specs.declared.faults.fault.Fault.{Fault}
use Rattle.fault_lines.specs.declared.faults.fault.Fault.TheVariants as fault
use Rattle.cli_matching.specs.Apart.{IsAlikeText, IsOtherwiseText}
use Rattle.cli_matching.specs.Found.{IsWiredText}
use Rattle.cli_matching.specs.Helper.{IsDeckText}
use Rattle.cli_matching.specs.declared.outcome.Outcome.{Outcome}
use Rattle.cli_matching.specs.declared.outcome.Outcome.TheVariants as outcome
use Rattle.cli_matching.specs.declared.match_decks.lines.LinePlace.{LinePlace}
use Rattle.cli_matching.specs.declared.match_texts.counts.Counts.{Counts}
use Rattle.fault_lines.specs.ProgramIo.Refusals.{RefusesDeck}
use Rattle.hubs.specs.SetupsWords.Wiring.{Wiring}
use Rattle.wire_chart.specs.Below.wiring_text.declared.statement.Version.{Version}

pub answered_over : {X : Type 0} (result : Result X Fault) (found : X → Outcome) (text : X → List ℕ) (wiring deck : List ℕ)
    (cards items : List (List ℕ)) (version : Version) (compiled : Compilation) (setup : Wiring) → cards ≡ items → Deck deck items
    → IfOk result (λ answer. (any : List ℕ) → Deck any cards → IsDeckText wiring any version compiled setup (found answer) (text answer))
    → IfOk result (λ answer. IsDeckText wiring deck version compiled setup (found answer) (text answer))
answered_over (Ok answer) found text wiring deck cards items version compiled setup same punched is =
    is deck (subst (Deck deck) (sym same) punched)
answered_over (Err _) found text wiring deck cards items version compiled setup same punched is = tt

pub memory_refuses_deck : {X : Type 0} (result : Result X Fault) (deck : List ℕ) → IfErr result (λ told. told ≡ fault.Memory)
    → IfErr result (λ told. told ≢ fault.Memory → RefusesDeck deck told)
memory_refuses_deck (Ok _) deck memory = tt
memory_refuses_deck (Err _) deck memory = λ other. absurd (other memory)

-- which text it is, by the outcome
module _ (wiring deck : List ℕ) (version : Version) (compiled : Compilation) (setup : Wiring) (found : Outcome) (text : List ℕ)
    (told : IsDeckText wiring deck version compiled setup found text) where
  pub wired_over : found ≡ outcome.Wired → IsWiredText compiled setup text
  wired_over is = subst (λ (its : Outcome). IsDeckText wiring deck version compiled setup its text) is told

  pub unwired_over : (counts : Counts) → found ≡ outcome.Unwired counts → IsAlikeText wiring deck counts version compiled setup text
  unwired_over counts is = subst (λ (its : Outcome). IsDeckText wiring deck version compiled setup its text) is told

  pub otherwise_over : (place : LinePlace) → found ≡ outcome.PrintsOtherwise place → IsOtherwiseText wiring deck place version compiled setup text
  otherwise_over place is = subst (λ (its : Outcome). IsDeckText wiring deck version compiled setup its text) is told

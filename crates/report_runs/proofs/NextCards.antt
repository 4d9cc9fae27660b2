-- The next card of a deck, and what is told in its place.
use Rattle.std.proofs.Common.{◌≡◌, ◌∙◌, refl, sym, ap, subst, arith, ℕ, ◌+◌, ◌<◌, ◌≤◌, List, [], ◌∷◌, ◌++◌, Option, Some, None, IfNone, IfSome, length, append_assoc, append-nil}
use Rattle.std.proofs.lemmas.List.Elements.{AllZip-push}
use Rattle.std.specs.Io.KnownBytes.{Keeps}
use Rattle.std.specs.List.{AllZip}
use Rattle.card_code.specs.Deck.{Deck, IsCardOf}
use Rattle.card_code.specs.Lines.{lines_of}
use Rattle.card_code.specs.MostCards.{most_cards}
use Rattle.report_streams.proofs.CardLines.Next.{left_of, still_known}
use Rattle.report_streams.specs.CardLines.Front.{IsPart}
use Rattle.report_streams.specs.CardLines.Reading.{GivesCard, Reading, still_to_come}
use Rattle.report_streams.specs.declared.card_lines.fault.ReadFault.{ReadFault}
use Rattle.report_streams.specs.declared.card_lines.fault.ReadFault.TheVariants as read
use Rattle.chart_lines.specs.ChartsWords.Chart.{Chart}
use Rattle.chart_rules.specs.ValidCard.{IsFirstInvalid}
use Rattle.chart_rules.specs.declared.card.CardFault.{CardFault}
use Rattle.chart_line_rules.specs.FieldRules.Fields.{fields_of}
use Rattle.report_runs.specs.Causes.{IsInvalidNext}
use Rattle.report_runs.specs.HelperStanding.{HasToCome, ReadsOn}
use Rattle.report_runs.specs.Reading.{HasRead, HasReadUpTo}
use Rattle.report_runs.specs.declared.fault.StreamCause.{StreamCause}
use Rattle.report_runs.specs.declared.fault.StreamCause.TheVariants as cause

-- a card more was read
pub reads_more : {S : Type 0} (left : S → Option (List ℕ)) (text : List ℕ) (cards : List (List ℕ)) (old new : Reading S) (card : List ℕ)
    → ((rest : List ℕ) → still_to_come left old ≡ Some rest → GivesCard old.given rest card (still_to_come left new))
    → HasToCome left text cards old → HasToCome left text (cards ++ card ∷ []) new
reads_more left text cards old new card gives come =
    let gave = gives come.rest come.is_left in
    let read = come.is_read in
    record {
      rest = gave.rest;
      is_left = gave.left;
      is_read = record {
        front = read.front ++ gave.front;
        parts = read.parts ∙ ap (λ t. read.front ++ t) gave.parts ∙ sym (append_assoc read.front gave.front gave.rest);
        lines = read.lines ++ gave.line ∷ [];
        cut = read.cut ∙ ap (λ l. read.lines ++ l) gave.cut ∙ sym (append_assoc read.lines (gave.line ∷ []) (lines_of gave.rest));
        each = AllZip-push IsCardOf read.lines cards gave.line card read.each gave.punched;
      };
    }

-- no line is left
pub reads_all : {S : Type 0} (left : S → Option (List ℕ)) (text : List ℕ) (cards : List (List ℕ)) (old : Reading S) → length cards ≤ most_cards
    → ((rest : List ℕ) → still_to_come left old ≡ Some rest → lines_of rest ≡ []) → HasToCome left text cards old → Deck text cards
reads_all left text cards old few none come =
    let read = come.is_read in
    record {
      few = few;
      each = subst (λ l. AllZip IsCardOf l cards)
          (sym (read.cut ∙ ap (λ l. read.lines ++ l) (none come.rest come.is_left) ∙ append-nil read.lines)) read.each;
    }

-- the reading goes on with what was found
pub reads_on : {S : Type 0} (left : S → Option (List ℕ)) (text : List ℕ) (cards : List (List ℕ)) (old new : Reading S) (found : Option (List ℕ))
    → length cards ≤ most_cards
    → IfSome found (λ card. (rest : List ℕ) → still_to_come left old ≡ Some rest → GivesCard old.given rest card (still_to_come left new))
    → IfNone found ((rest : List ℕ) → still_to_come left old ≡ Some rest → lines_of rest ≡ [])
    → HasToCome left text cards old → ReadsOn left text cards new found
reads_on left text cards old new None few gives none come = reads_all left text cards old few none come
reads_on left text cards old new (Some card) few gives none come = reads_more left text cards old new card gives come

-- the text still to come stays
stays : {S : Type 0} (left : S → Option (List ℕ)) (text : List ℕ) (cards : List (List ℕ)) (old new : Reading S)
    → Keeps (still_to_come left old) (still_to_come left new) → HasToCome left text cards old → HasToCome left text cards new
stays left text cards old new kept come = record {
  rest = come.rest;
  is_left = still_known (still_to_come left old) (still_to_come left new) come.rest kept come.is_left;
  is_read = come.is_read;
}

-- beyond the cards that were read is what is held
up_to_held : {S : Type 0} (left : S → Option (List ℕ)) (text : List ℕ) (cards : List (List ℕ)) (reading : Reading S) (met : StreamCause)
    → ((line : ℕ) → met ≡ cause.Card (read.Read line) → IsPart reading.held) → HasToCome left text cards reading
    → HasReadUpTo text cards met (left reading.source)
up_to_held left text cards reading met part come =
    let parts = left_of reading.held come.rest (left reading.source) come.is_left in
    record {
      beyond = reading.held;
      rest = parts.0;
      is_left = parts.1;
      is_read = subst (HasRead text cards) parts.2 come.is_read;
      part = part;
    }

no_read : (line : ℕ) → cause.Write ≡ cause.Card (read.Read line) → ⊥
no_read line is = cc

pub up_to : {S : Type 0} (left : S → Option (List ℕ)) (text : List ℕ) (cards : List (List ℕ)) (reading : Reading S)
    → HasToCome left text cards reading → HasReadUpTo text cards cause.Write (left reading.source)
up_to left text cards reading come = up_to_held left text cards reading cause.Write (λ line is. absurd (no_read line is)) come

-- the same of another cause, that is no failed read
pub up_to_other : (text : List ℕ) (cards : List (List ℕ)) (one other : StreamCause) (left : Option (List ℕ))
    → ((line : ℕ) → other ≡ cause.Card (read.Read line) → ⊥) → HasReadUpTo text cards one left → HasReadUpTo text cards other left
up_to_other text cards one other left none up = record {
  beyond = up.beyond;
  rest = up.rest;
  is_left = up.is_left;
  is_read = up.is_read;
  part = λ line is. absurd (none line is);
}

pub no_invalid_read : {fault : CardFault} {number : ℕ} (line : ℕ) → cause.Invalid fault number ≡ cause.Card (read.Read line) → ⊥
no_invalid_read {fault} {number} line is = cc

-- where a card is found its line is beyond the others too
pub found_up_to : {S : Type 0} (left : S → Option (List ℕ)) (text : List ℕ) (cards : List (List ℕ)) (old new : Reading S) (found : Option (List ℕ))
    → IfSome found (λ card. (rest : List ℕ) → still_to_come left old ≡ Some rest → GivesCard old.given rest card (still_to_come left new))
    → IfNone found (Keeps (still_to_come left old) (still_to_come left new))
    → HasToCome left text cards old → HasReadUpTo text cards cause.Write (left new.source)
found_up_to left text cards old new None gives kept come = up_to left text cards new (stays left text cards old new kept come)
found_up_to left text cards old new (Some card) gives kept come =
    let gave = gives come.rest come.is_left in
    let parts = left_of new.held gave.rest (left new.source) gave.left in
    record {
      beyond = gave.front ++ new.held;
      rest = parts.0;
      is_left = parts.1;
      is_read = subst (HasRead text cards)
          (gave.parts ∙ ap (λ t. gave.front ++ t) parts.2 ∙ sym (append_assoc gave.front new.held parts.0)) come.is_read;
      part = λ line is. absurd (no_read line is);
    }

-- where none is, what is held, in which no whole line is where a read failed
abbrev fault_in : StreamCause → ReadFault
fault_in (cause.Card fault) = fault
fault_in (cause.Invalid fault number) = read.Failed
fault_in (cause.Misfit misfit) = read.Failed
fault_in cause.Write = read.Failed
fault_in cause.Memory = read.Failed

pub fault_up_to : {S : Type 0} (left : S → Option (List ℕ)) (text : List ℕ) (cards : List (List ℕ)) (old new : Reading S) (fault : ReadFault)
    → Keeps (still_to_come left old) (still_to_come left new) → ((line : ℕ) → fault ≡ read.Read line → IsPart new.held)
    → HasToCome left text cards old → HasReadUpTo text cards (cause.Card fault) (left new.source)
fault_up_to left text cards old new fault kept part come =
    up_to_held left text cards new (cause.Card fault) (λ line is. part line (ap fault_in is)) (stays left text cards old new kept come)

-- the card that was read is not valid
pub invalid_next : {S : Type 0} (left : S → Option (List ℕ)) (chart : Chart) (text : List ℕ) (cards : List (List ℕ)) (new : Reading S)
    (found : Option (List ℕ)) (card : List ℕ) (fault : CardFault) (number : ℕ) → length cards ≡ number → number < most_cards
    → found ≡ Some card → IsFirstInvalid (fields_of chart.lines) card fault → ReadsOn left text cards new found
    → IsInvalidNext chart text cards fault (number + 1)
invalid_next left chart text cards new found card fault number counted few is first reads =
    let come : HasToCome left text (cards ++ card ∷ []) new = subst (λ f. ReadsOn left text cards new f) is reads in
    record {
      card = card;
      rest = come.rest;
      is_read = come.is_read;
      is_next = ap (λ n. n + 1) (sym counted);
      few = omega (arith, few);
      is_first = first;
    }

-- nothing comes after all lines of a text
no_lines : lines_of [] ≡ []
unfolding lines_of
no_lines = refl

pub read_all : (text : List ℕ) (cards : List (List ℕ)) → Deck text cards → HasRead text cards []
read_all text cards deck = record {
  front = text;
  parts = sym (append-nil text);
  lines = lines_of text;
  cut = sym (append-nil (lines_of text)) ∙ ap (λ l. lines_of text ++ l) (sym no_lines);
  each = deck.each;
}

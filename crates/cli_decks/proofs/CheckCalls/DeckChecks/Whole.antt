-- How a check begins, and what it has told where it has ended.
use Rattle.std.proofs.Common.{◌≡◌, ◌≤◌, ◌⊎◌, length, inl, refl, sym, ap, subst, ℕ, List, [], ◌∷◌, ◌++◌, Option, Some, None, IfSome, Result, Ok, Err, OnOk, IfErr, take, slice_get, arith, is_some, ◌∙◌}
use Rattle.std.proofs.KnownBytes.{Appends-nil, Appends-trans}
use Rattle.std.proofs.lemmas.Bool.{false≢true}
use Rattle.std.specs.Io.KnownBytes.{Appends}
use Rattle.std.specs.List.{AllZip}
use Rattle.card_code.specs.Deck.{IsCardOf}
use Rattle.card_code.specs.Lines.{lines_of}
use Rattle.card_code.specs.MostCards.{most_cards}
use Rattle.chart_lines.specs.ChartsWords.Chart.{Chart}
use Rattle.cli_decks.proofs.CheckCalls.DeckChecks.Silent.{as_many, fit_all, left_empty, silent}
use Rattle.cli_decks.proofs.CheckCalls.DeckChecks.Steps.{each}
use Rattle.cli_decks.specs.CheckCalls.DeckChecks.Endings.{EndsCheck, IsFine, IsToWrite, WritesFine, fine, front, listed, unwritten}
use Rattle.cli_decks.specs.CheckCalls.DeckChecks.Fine.{fine_told, fine_words}
use Rattle.cli_decks.specs.CheckCalls.DeckChecks.HelperStanding.{AreEdges, BreaksOff, HasEnded, IsAt, Stands}
use Rattle.cli_decks.specs.CheckCalls.DeckChecks.Listings as listings
use Rattle.cli_decks.specs.CheckCalls.DeckChecks.Listings.{IsListing, lines_told, totals_told}
use Rattle.cli_decks.specs.declared.check_calls.deck_checks.standing.Standing.{Standing}
use Rattle.fault_lines.specs.declared.faults.fault.Fault.{Fault}
use Rattle.fault_lines.specs.declared.faults.fault.Fault.TheVariants as fault
use Rattle.std.specs.Prelude.{⊤}

-- nothing was read, and nothing is told
pub begins : (chart : Chart) (deck was : Option (List ℕ)) (standing : Standing) (first : Option Fault) → IsAt chart.lines (Some []) standing
    → standing.count ≡ 0 → first ≡ None → Stands chart deck was deck was standing first
begins chart deck was standing first at none is = record {
  lines = [];
  so_far = Some [];
  told = [];
  lists = listings.none;
  at = at;
  counted = none;
  few = omega arith;
  read = unread deck;
  written = Appends-nil was;
  is_first = is;
}
  where
    unread : (known : Option (List ℕ)) → IfSome known (λ text. (rest : List ℕ) × (known ≡ Some rest) × (lines_of text ≡ [] ++ lines_of rest))
    unread None = tt
    unread (Some text) = (text, refl, refl)

-- the first fault of the listing is told
pub ends_told : (chart : Chart) (deck was holds : Option (List ℕ)) (standing : Standing) (first : Option Fault) (told : Fault)
    → HasEnded chart deck was holds standing first → first ≡ Some told → EndsCheck chart deck was holds told
ends_told chart deck was holds standing first told ended is = of ended.told ended.listing ended.written (sym ended.is_first ∙ is)
  where
    fault_in : Option Fault → Fault
    fault_in None = told
    fault_in (Some fault) = fault

    of : (all : List Fault) → IfSome deck (λ text. IsListing chart text all) → Appends was holds (lines_told all) → slice_get all 0 ≡ Some told
        → EndsCheck chart deck was holds told
    of [] listing written same = absurd (false≢true (ap is_some same))
    of (fault ∷ later) listing written same =
        let is : fault ≡ told = ap fault_in same in
        listed later (subst (λ f. IfSome deck (λ text. IsListing chart text (f ∷ later))) is listing)
        (subst (λ f. Appends was holds (lines_told (f ∷ later))) is written)

-- Nothing is told, and nothing is written: the deck has good cards alone, and which there are is known.
record HasNothing (chart : Chart) (deck was holds : Option (List ℕ)) (standing : Standing) : Type 0 where
  cards : List (List ℕ)
  edges : AreEdges cards standing
  fine : IfSome deck (λ text. IsFine chart text cards)
  written : Appends was holds []

both : {P Q R : List ℕ → Type 0} (deck : Option (List ℕ)) → ((text : List ℕ) → P text → Q text → R text) → IfSome deck P → IfSome deck Q
    → IfSome deck R
both None of one other = tt
both (Some text) of one other = of text one other

none_told : (chart : Chart) (deck was holds : Option (List ℕ)) (standing : Standing) (first : Option Fault)
    → HasEnded chart deck was holds standing first → first ≡ None → HasNothing chart deck was holds standing
none_told chart deck was holds standing first ended is = of ended.told refl (sym ended.is_first ∙ is)
  where
    of : (all : List Fault) → ended.told ≡ all → slice_get ended.told 0 ≡ None → HasNothing chart deck was holds standing
    of [] empty same =
        let parts = left_empty ended.before (totals_told chart ended.so_far None) (sym ended.all ∙ empty) in
        let known = silent ended.lists parts.0 in
        record {
          cards = known.cards;
          edges = ended.edges known.cards known.are;
          fine = both {R = λ text. IsFine chart text known.cards} deck
              (λ text listing read. record {
                listing = subst (IsListing chart text) empty listing;
                deck = record {
                  few = subst (λ n. n ≤ most_cards) (sym (as_many ended.lines known.cards known.each)) ended.few;
                  each = subst (λ (ls : List (List ℕ)). AllZip IsCardOf ls known.cards) (sym read) known.each;
                };
                valid = known.valid;
                fit = fit_all chart known.cards known.fit (subst (λ s. totals_told chart s None ≡ []) known.are parts.1);
              }) ended.listing ended.read;
          written = subst (λ (t : List Fault). Appends was holds (lines_told t)) empty ended.written;
        }
    of (fault ∷ later) some same =
        absurd (false≢true (sym (ap is_some (ap (λ (t : List Fault). slice_get t 0) (sym some) ∙ same))))

-- what is told of the cards
words_same : (cards : List (List ℕ)) (standing : Standing) → AreEdges cards standing
    → fine_words standing.count standing.first standing.last ≡ fine_told cards
words_same cards standing edges =
    ap (λ n. fine_words n standing.first standing.last) edges.count
    ∙ ap (λ f. fine_words (length cards) f standing.last) edges.first
    ∙ ap (fine_words (length cards) (slice_get cards 0)) edges.last

-- then that is written
module _ (chart : Chart) (deck was holds new : Option (List ℕ)) (standing : Standing) (first : Option Fault)
    (ended : HasEnded chart deck was holds standing first) (none : first ≡ None) where
  pub fine_written : {E : Type 0} (result : Result Unit E)
      → OnOk result (Appends holds new (fine_words standing.count standing.first standing.last)) → OnOk result (WritesFine chart deck was new)
  fine_written (Ok x) taken =
      let found = none_told chart deck was holds standing first ended none in record {
        cards = found.cards;
        fine = found.fine;
        written = subst (Appends was new) (words_same found.cards standing found.edges)
            (Appends-trans was holds new [] (fine_words standing.count standing.first standing.last) found.written taken);
      }
  fine_written (Err e) taken = tt

  pub fine_broken : (result : Result Unit Fault)
      → IfErr result (λ told. BreaksOff (fine_words standing.count standing.first standing.last) holds new told)
      → IfErr result (λ told. EndsCheck chart deck was new told)
  fine_broken (Ok x) breaks = tt
  fine_broken (Err told) breaks =
      let found = none_told chart deck was holds standing first ended none in
      let words = fine_words standing.count standing.first standing.last in
      unwritten words breaks.count
      (each {Q = λ text. IsToWrite chart text words} deck
      (λ text is. fine found.cards is (words_same found.cards standing found.edges)) found.fine)
      breaks.within
      (Appends-trans was holds new [] (take breaks.count words) found.written breaks.taken)
      breaks.named

-- nothing of some bytes is written
pub none_taken : (bytes : List ℕ) (old : Option (List ℕ)) (told : Fault) → (told ≡ fault.Memory) ⊎ (told ≡ fault.Write)
    → BreaksOff bytes old old told
none_taken bytes old told named = record { count = 0; within = omega arith; taken = Appends-nil old; named = named }

-- nothing could be begun
pub not_begun : (chart : Chart) (deck was : Option (List ℕ)) → EndsCheck chart deck was was fault.Memory
not_begun chart deck was =
    unwritten [] 0
    (each {P = λ text. ⊤} {Q = λ text. IsToWrite chart text []} deck
    (λ text known. front 0 text [] (record { lines = []; cut = refl; counted = refl; so_far = Some []; lists = listings.none }) refl)
    (whatever deck))
    (omega arith) (Appends-nil was) (inl refl)
  where
    whatever : (known : Option (List ℕ)) → IfSome known (λ text. ⊤)
    whatever None = tt
    whatever (Some text) = tt

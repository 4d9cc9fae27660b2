-- The misfit at which a run stops is the first of the whole deck.
use Rattle.std.proofs.Common.{◌≡◌, ◌∙◌, refl, sym, ap, subst, ℕ, ◌≤◌, List, [], ◌∷◌, ◌++◌, Option, Some, None, append_assoc, append-nil, length, slice_get}
use Rattle.std.proofs.lemmas.List.Elements.{length_all_zip}
use Rattle.std.specs.List.{AllZip}
use Rattle.std.specs.Prelude.{option_to_list}
use Rattle.card_code.proofs.Faults.{Deck-same}
use Rattle.card_code.specs.Deck.{Deck, IsCardOf}
use Rattle.card_code.specs.Lines.{lines_of}
use Rattle.card_code.specs.MostCards.{most_cards}
use Rattle.chart_lines.specs.ChartsWords.Chart.{Chart}
use Rattle.report_definition.proofs.FollowedDecks.FitSoFar.{first_told}
use Rattle.report_definition.specs.FollowedDecks.FitSoFar.{misfits_of_last}
use Rattle.report_misfits.specs.ToldMisfits.{told}
use Rattle.report_misfits.specs.declared.misfit.Misfit.{Misfit as Found}
use Rattle.report_definition.specs.Misfits.{first_of, misfits}
use Rattle.report_runs.specs.Laws.{MisfitsAreTheDecks}
use Rattle.report_runs.specs.Reading.{HasRead}

-- what belongs to the later ones of some lines
later_zip : {X Y : Type 0} (R : X → Y → Type 0) (one other : List X) (all : List Y) → AllZip R (one ++ other) all
    → (more : List Y) × AllZip R other more
later_zip R [] other all each = (all, each)
later_zip R (x ∷ one) other [] each = absurd each
later_zip R (x ∷ one) other (y ∷ all) each = later_zip R one other all each.1

both_zip : {X Y : Type 0} (R : X → Y → Type 0) (one other : List X) (some more : List Y) → AllZip R one some → AllZip R other more
    → AllZip R (one ++ other) (some ++ more)
both_zip R [] other [] more each rest = rest
both_zip R [] other (y ∷ some) more each rest = absurd each
both_zip R (x ∷ one) other [] more each rest = absurd each
both_zip R (x ∷ one) other (y ∷ some) more each rest = (each.0, both_zip R one other some more each.1 rest)

-- the cards that were read are the first of the deck
goes_on : (text : List ℕ) (cards : List (List ℕ)) (rest : List ℕ) (all : List (List ℕ)) → HasRead text cards rest → Deck text all
    → (more : List (List ℕ)) × (all ≡ cards ++ more)
goes_on text cards rest all read deck =
    let later = later_zip IsCardOf read.lines (lines_of rest) all (subst (λ l. AllZip IsCardOf l all) read.cut deck.each) in
    let each : AllZip IsCardOf (lines_of text) (cards ++ later.0) =
    subst (λ l. AllZip IsCardOf l (cards ++ later.0)) (sym read.cut)
    (both_zip IsCardOf read.lines (lines_of rest) cards later.0 read.each later.1) in
    let many : length all ≡ length (cards ++ later.0) =
    sym (length_all_zip IsCardOf (lines_of text) all deck.each)
    ∙ length_all_zip IsCardOf (lines_of text) (cards ++ later.0) each in
    (later.0, Deck-same text all (cards ++ later.0) deck (record { few = subst (λ n. n ≤ most_cards) many deck.few; each = each }))

-- with the next card, or at the end of the deck, the first misfit is known
of_next : (chart : Chart) (text : List ℕ) (card : List ℕ) (others all more : List (List ℕ)) (next : Option (List ℕ)) (misfit : Found)
    → ((later : List (List ℕ)) → first_of (misfits_of_last chart.lines card others (slice_get later 0)) ≡ Some (told misfit)
    → first_of (misfits chart.lines (card ∷ (others ++ later))) ≡ Some (told misfit))
    → all ≡ ((card ∷ others) ++ option_to_list next) ++ more → (next ≡ None → all ≡ card ∷ others)
    → first_of (misfits_of_last chart.lines card others next) ≡ Some (told misfit)
    → first_of (misfits chart.lines all) ≡ Some (told misfit)
of_next chart text card others all more None misfit tells are ended first =
    ap (λ l. first_of (misfits chart.lines l)) (ended refl ∙ ap (λ l. card ∷ l) (sym (append-nil others))) ∙ tells [] first
of_next chart text card others all more (Some next) misfit tells are ended first =
    ap (λ l. first_of (misfits chart.lines l)) (are ∙ append_assoc (card ∷ others) (next ∷ []) more) ∙ tells (next ∷ more) first

pub misfits_are_the_decks : MisfitsAreTheDecks
misfits_are_the_decks chart text cards rest misfit all read first deck =
    let found = goes_on text cards rest all read deck in
    of_next chart text first.card first.others all found.0 first.next misfit
    (λ later is. (first_told chart.lines first.card first.others later (told misfit) first.fit is).0)
    (found.1 ∙ ap (λ l. l ++ found.0) first.are)
    (λ none. Deck-same text all (first.card ∷ first.others) deck (first.ended none))
    first.is_first

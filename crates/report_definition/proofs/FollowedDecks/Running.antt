-- A machine that goes by cards prints the report of every deck.
use Rattle.std.proofs.Common.{◌≡◌, ◌∙◌, sym, ap, subst, ℕ, suc, ◌+◌, ◌*◌, ◌^◌, ◌≤◌, ◌<◌, List, [], ◌∷◌, ◌++◌, Option, Some, None, length, arith}
use Rattle.std.specs.List.{All}
use Rattle.std.proofs.lemmas.Grind.{flat_map-append}
use Rattle.std.proofs.lemmas.List.Elements.{All-head, All-tail}
use Rattle.page_text.specs.declared.placed_lines.placed_line.PlacedLine.{PlacedLine}
use Rattle.chart_lines.specs.declared.charts.chart.Line.{Line}
use Rattle.report_definition.specs.Breaks.{ended_after, no_cards, taking, cleared, chunk_of, flat}
use Rattle.report_definition.specs.Places.{before_all, placed}
use Rattle.report_definition.specs.Report.{body_of, report_lines}
use Rattle.report_definition.specs.Misfits.{Misfit, misfits, first_of}
use Rattle.report_definition.specs.Totals.{Fits}
use Rattle.report_definition.proofs.Fitting.{fit_without_misfits}
use Rattle.report_definition.proofs.OutlineByCards.{deck_by_cards}
use Rattle.report_definition.specs.FollowedDecks.Alike.{AlikeWith}
use Rattle.report_definition.specs.FollowedDecks.CardMisfits.{FitFrom, FirstFit}
use Rattle.report_definition.specs.FollowedDecks.FitBefore.{FitBefore}
use Rattle.report_definition.specs.FollowedDecks.Left.{bodies_of}
use Rattle.report_definition.specs.FollowedDecks.Runner.{Runner, GoesByCards, Runs, HasFedCards}
use Rattle.report_definition.specs.FollowedDecks.Stands.{Stand, at_first, card_bodies, stand_after, bodies_before, stand_before, last_of, report_before}
use Rattle.report_definition.proofs.FollowedDecks.Alike.{alike-after, alike-first}
use Rattle.report_definition.proofs.FollowedDecks.Begins.{reports_begin}
use Rattle.report_definition.proofs.FollowedDecks.FirstMisfits.{fit_before_first}
use Rattle.report_definition.proofs.FollowedDecks.FitBefore.{fit_before_misfits}
use Rattle.report_definition.proofs.FollowedDecks.Pages.{after-most, card_bodies-few}
use Rattle.report_definition.proofs.FollowedDecks.Places.{placed-append}

-- a card leaves room for the pages of the cards after it
room-after : (lines : List Line) (stand : Stand) (card : List ℕ) (next : Option (List ℕ)) (count : ℕ)
    → stand.left.page + 5 * suc count < 2 ^ 32 → (stand_after lines stand card next).left.page + 5 * count < 2 ^ 32
room-after lines stand card next count room =
    let most = after-most lines stand.left (card_bodies lines stand card next) in
    let few = card_bodies-few lines stand card next in
    omega (arith, room, most, few)

-- From a state in which a card waits on, a run places the lines of that card and of the cards after it.
runs_from : {S : Type 0} (runner : Runner S) → GoesByCards runner → (stand : Stand) (card : List ℕ) (cards : List (List ℕ))
    (old : S) (placed_lines : List PlacedLine) → All runner.Reads (card ∷ cards)
    → stand.left.page + 5 * suc (length cards) < 2 ^ 32 → AlikeWith runner.chart.lines stand.so_far card
    → FitFrom runner.chart.lines stand.so_far card cards (suc (length cards)) → runner.Follows stand card old
    → Runs runner old cards placed_lines
    → placed_lines
    ≡ placed runner.chart.lines stand.left
    (bodies_of runner.chart.lines (flat runner.chart.lines stand.so_far stand.opens card cards))
runs_from runner goes stand card [] old placed_lines reads room alike fit follows (new, feed) =
    (goes.goes stand card None old new placed_lines (All-head runner.Reads card [] reads) tt (omega (arith, room)) alike fit follows feed).0
runs_from runner goes stand card (next ∷ cards) old placed_lines reads room alike fit follows
    (new, first, others, feed, run, is) =
    let lines = runner.chart.lines in
    let ended = ended_after lines card (Some next) in
    let after = stand_after lines stand card (Some next) in
    let later = All-tail runner.Reads card (next ∷ cards) reads in
    let one = goes.goes stand card (Some next) old new first (All-head runner.Reads card (next ∷ cards) reads)
    (All-head runner.Reads next cards later) (omega (arith, room)) alike fit.0 follows feed in
    let more = runs_from runner goes after next cards new others later
    (room-after lines stand card (Some next) (suc (length cards)) room) (alike-after lines stand card next alike) fit.1 one.1 run in
    let rest = flat lines after.so_far after.opens next cards in
    is
    ∙ (λ i. one.0 i ++ more i)
    ∙ sym (placed-append lines stand.left (card_bodies lines stand card (Some next)) (bodies_of lines rest))
    ∙ sym (ap (placed lines stand.left) (flat_map-append (body_of lines) (chunk_of stand.opens stand.so_far card ended) rest))

-- From a state in which a card waits on, feeds of cards place the lines before the last of them, which then waits.
fed_from : {S : Type 0} (runner : Runner S) → GoesByCards runner → (stand : Stand) (card : List ℕ) (cards : List (List ℕ))
    (old new : S) (placed_lines : List PlacedLine) → All runner.Reads (card ∷ cards)
    → stand.left.page + 5 * length cards < 2 ^ 32 → AlikeWith runner.chart.lines stand.so_far card
    → FitFrom runner.chart.lines stand.so_far card cards (length cards)
    → runner.Follows stand card old → HasFedCards runner old cards new placed_lines
    → (placed_lines ≡ placed runner.chart.lines stand.left (bodies_before runner.chart.lines stand card cards))
    × runner.Follows (stand_before runner.chart.lines stand card cards) (last_of card cards) new
fed_from runner goes stand card [] old new placed_lines reads room alike fit follows fed =
    (fed.1, subst (runner.Follows stand card) (sym fed.0) follows)
fed_from runner goes stand card (next ∷ cards) old new placed_lines reads room alike fit follows
    (mid, first, others, feed, fed, is) =
    let lines = runner.chart.lines in
    let after = stand_after lines stand card (Some next) in
    let later = All-tail runner.Reads card (next ∷ cards) reads in
    let one = goes.goes stand card (Some next) old mid first (All-head runner.Reads card (next ∷ cards) reads)
    (All-head runner.Reads next cards later) (omega (arith, room)) alike fit.0 follows feed in
    let more = fed_from runner goes after next cards mid new others later
    (room-after lines stand card (Some next) (length cards) room) (alike-after lines stand card next alike) fit.1 one.1 fed in (
      is
          ∙ (λ i. one.0 i ++ more.0 i)
          ∙ sym (placed-append lines stand.left (card_bodies lines stand card (Some next)) (bodies_before lines after next cards)),
      more.1,
    )

-- A machine that goes by cards prints the report of every deck that fits.
pub runs_follow_decks : {S : Type 0} (runner : Runner S) → GoesByCards runner → (cards : List (List ℕ))
    (placed_lines : List PlacedLine) → All runner.Reads cards → length cards ≤ 999999 → Fits runner.chart.lines cards
    → Runs runner runner.start cards placed_lines → placed_lines ≡ report_lines runner.chart cards
runs_follow_decks runner goes [] placed_lines reads long fits (new, feed) = goes.ends new placed_lines feed
runs_follow_decks runner goes (card ∷ cards) placed_lines reads long fits (new, first, others, feed, run, is) =
    let lines = runner.chart.lines in
    let begun = goes.starts card new first (All-head runner.Reads card cards reads) feed in
    let fit = (fit_before_first lines (card ∷ cards) (suc (length cards))).1
    (λ misfit some.
    absurd (no_misfit (misfits lines (card ∷ cards)) misfit ((fit_without_misfits lines (card ∷ cards)).0 fits) some)) in
    is
    ∙ ap (λ l. l ++ others) begun.0
    ∙ runs_from runner goes at_first card cards new others reads (omega (arith, long)) (alike-first runner.chart.lines card) fit begun.1 run
    ∙ sym (ap (λ outline. placed lines before_all (bodies_of lines outline)) (deck_by_cards lines (card ∷ cards)))
  where
    no_misfit : (all : List Misfit) (misfit : Misfit) → all ≡ [] → first_of all ≡ Some misfit → ⊥
    no_misfit [] misfit none some = cc
    no_misfit (one ∷ more) misfit none some = cc

-- A machine that goes by cards, fed some cards, has placed the lines before the last of them, and stands where the report does.
pub feeds_follow_decks : {S : Type 0} (runner : Runner S) → GoesByCards runner → (card : List ℕ) (cards : List (List ℕ))
    (new : S) (placed_lines : List PlacedLine) → All runner.Reads (card ∷ cards) → length (card ∷ cards) ≤ 999999
    → FirstFit runner.chart.lines (card ∷ cards) (length cards) → HasFedCards runner runner.start (card ∷ cards) new placed_lines
    → (placed_lines ≡ placed runner.chart.lines before_all (bodies_before runner.chart.lines at_first card cards))
    × runner.Follows (stand_before runner.chart.lines at_first card cards) (last_of card cards) new
feeds_follow_decks runner goes card cards new placed_lines reads long fit (mid, first, others, feed, fed, is) =
    let begun = goes.starts card mid first (All-head runner.Reads card cards reads) feed in
    let more = fed_from runner goes at_first card cards mid new others reads (omega (arith, long)) (alike-first runner.chart.lines card) fit begun.1 fed in
    (is ∙ ap (λ l. l ++ others) begun.0 ∙ more.0, more.1)

-- groups that fit before a card fit whatever comes after it
fit-before : (lines : List Line) (so_far : ℕ → List (List ℕ)) (card : List ℕ) (cards after : List (List ℕ))
    → FitFrom lines so_far card (cards ++ after) (length cards) → FitFrom lines so_far card cards (length cards)
fit-before lines so_far card [] after fit = tt
fit-before lines so_far card (next ∷ cards) after fit =
    let ended = ended_after lines card (Some next) in
    (fit.0, fit-before lines (cleared ended (taking card so_far)) next cards after fit.1)

-- Up to a card that the first totals fit before, a machine that goes by cards has placed the lines of the report that stand before it.
pub feeds_begin_reports : {S : Type 0} (runner : Runner S) → GoesByCards runner → (card : List ℕ)
    (cards later : List (List ℕ)) (new : S) (placed_lines : List PlacedLine) → All runner.Reads (card ∷ cards)
    → length (card ∷ cards) ≤ 999999 → FitBefore runner.chart.lines (card ∷ (cards ++ later)) (length cards)
    → HasFedCards runner runner.start (card ∷ cards) new placed_lines
    → placed_lines ≡ report_before runner.chart (card ∷ (cards ++ later)) (length cards)
feeds_begin_reports runner goes card cards later new placed_lines reads long fits fed =
    let lines = runner.chart.lines in
    let deck = card ∷ (cards ++ later) in
    let fit = fit-before lines no_cards card cards later
    ((fit_before_first lines deck (length cards)).1 ((fit_before_misfits lines deck (length cards)).0 fits)) in
    (feeds_follow_decks runner goes card cards new placed_lines reads long fit fed).0
    ∙ sym (reports_begin runner.chart card cards later).0

-- Cards, one after another.
use Rattle.std.proofs.Common.{◌≡◌, ◌∙◌, sym, ap, ℕ, suc, ◌≤◌, ◌+◌, ◌<◌, List, [], ◌∷◌, ◌++◌, append-nil, append_assoc, Option, Some, length, drop, get_or, arith}
use Rattle.std.proofs.Math.ListN.{drop_of_length-le}
use Rattle.std.proofs.Math.Seq.{drop-cons}
use Rattle.chart_lines.specs.declared.charts.chart.Line.{Line}
use Rattle.cli_decks.specs.DeckNotes.KeyReturns.HelperKept.{Goes, Walks}
use Rattle.cli_decks.specs.DeckNotes.KeyReturns.Returns.{broken_before, earlier_with, returns, returns_from, stood, told_of}
use Rattle.cli_decks.specs.declared.deck_notes.key_returns.returns.Return.{Return}
use Rattle.cli_decks.specs.declared.deck_notes.key_returns.returns.Walk.{Walk}

-- the cards from a place on
drop_at : (cards : List (List ℕ)) (place : ℕ) (card : List ℕ) → place < length cards → card ≡ get_or cards place card
    → drop place cards ≡ card ∷ drop (place + 1) cards
drop_at cards place card within at =
    let next : suc place ≡ place + 1 = omega arith in
    drop-cons cards place card within ∙ ap (λ (n : ℕ). get_or cards place card ∷ drop n cards) next
    ∙ ap (λ (c : List ℕ). c ∷ drop (place + 1) cards) (sym at)

-- one card more
pub walks_on : (lines : List Line) (cards : List (List ℕ)) (place : ℕ) (card : List ℕ) (old new : Walk) → place < length cards
    → card ≡ get_or cards place card → Walks lines cards place old → Goes lines card (place + 1) old new → Walks lines cards (place + 1) new
walks_on lines cards place card old new within at walks goes =
    let broken = broken_before lines old.last card in
    let told = told_of broken (place + 1) (stood lines walks.earlier broken card) in
    let later = returns_from lines (earlier_with walks.earlier broken card (place + 1)) (Some card) (place + 1 + 1) (drop (place + 1) cards) in
    record {
      earlier = earlier_with walks.earlier broken card (place + 1);
      kept = goes.kept walks.earlier walks.kept;
      goes_on =
          ap (λ (list : List Return). list
          ++ returns_from lines (earlier_with walks.earlier broken card (place + 1)) new.last (place + 1 + 1) (drop (place + 1) cards))
          (goes.listed walks.earlier walks.kept)
          ∙ ap (λ (last : Option (List ℕ)). (old.list.items ++ told)
          ++ returns_from lines (earlier_with walks.earlier broken card (place + 1)) last (place + 1 + 1) (drop (place + 1) cards)) goes.last
          ∙ append_assoc old.list.items told later
          ∙ sym (ap (λ (rest : List (List ℕ)). old.list.items ++ returns_from lines walks.earlier old.last (place + 1) rest)
          (drop_at cards place card within at))
          ∙ walks.goes_on;
    }

-- none is left
pub walked : (lines : List Line) (cards : List (List ℕ)) (place : ℕ) (walk : Walk) → length cards ≤ place → Walks lines cards place walk
    → walk.list.items ≡ returns lines cards
walked lines cards place walk all walks =
    let none : drop place cards ≡ [] = drop_of_length-le cards all in
    sym (append-nil walk.list.items)
    ∙ sym (ap (λ (rest : List (List ℕ)). walk.list.items ++ returns_from lines walks.earlier walk.last (place + 1) rest) none)
    ∙ walks.goes_on

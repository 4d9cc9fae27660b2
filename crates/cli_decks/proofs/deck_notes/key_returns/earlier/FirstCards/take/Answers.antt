use Rattle.std.proofs.Common.{◌≡◌, ◌∙◌, ap, sym, ℕ, List, [], ◌∷◌, nat_eq, is_some, Some}
use Rattle.std.specs.Cmp.Lexicographic.{pointwise}
use Rattle.std.specs.Map.{lookup}
use Rattle.chart_lines.specs.ChartsWords.Levels.{control_number}
use Rattle.indexmap.proofs.CallerLemmas.{insert_entry-new}
use Rattle.cli_decks.specs.DeckNotes.KeyReturns.HelperKept.{AreFirst}
use Rattle.cli_decks.specs.DeckNotes.KeyReturns.Returns.{Numbered, stood_among}
use Rattle.cli_decks.proofs.DeckNotes.KeyReturns.Kept.{kept_added, kept_there, lookup-append}
use Rattle.cli_decks.proofs.deck_notes.key_returns.earlier.FirstCards.take.Goals as goal

-- the number that is kept of the key, where there is one
found : (c : goal.After-drop-key) → (cards : Numbered) → AreFirst c.args.chart.now.lines (control_number c.args.level) cards c.args.self.now
    → stood_among c.args.chart.now.lines (control_number c.args.level) c.args.card.now cards ≡ Some c.in-Some.first
found c cards are =
    let own = ap (λ (q : List ℕ). lookup (λ key. pointwise nat_eq q key.items) c.args.self.now.numbers.entries) c.as_slice.ensures.value in
    sym (are c.args.card.now c.in_ok-key.key.items c.in_ok-key.ensures) ∙ sym own ∙ sym c.get.ensures.value ∙ sym c.copied.ensures ∙ c.in-Some.is

pub returns-in-Some-clause-stood : goal.returns-in-Some-clause-stood
returns-in-Some-clause-stood c = λ cards are. sym (found c cards are)

pub returns-in-Some-clause-kept : goal.returns-in-Some-clause-kept
returns-in-Some-clause-kept c = λ cards are.
    kept_there c.args.chart.now.lines (control_number c.args.level) c.args.card.now c.in_ok-key.key.items c.args.number cards c.in_ok-key.ensures
    c.args.self.now are (ap is_some (found c cards are))

pub returns-clause-stood : goal.returns-clause-stood
returns-clause-stood c = λ cards are.
    let absent = ap (λ (q : List ℕ). lookup (λ key. pointwise nat_eq q key.items) c.args.self.now.numbers.entries) (sym c.as_slice.ensures.value)
    ∙ sym c.get.ensures.value ∙ sym c.copied.ensures ∙ c.in_default.is in
    sym (sym (are c.args.card.now c.in_ok-key.key.items c.in_ok-key.ensures) ∙ absent)

pub returns-clause-kept : goal.returns-clause-kept
returns-clause-kept c = λ cards are.
    let absent = ap (λ (q : List ℕ). lookup (λ key. pointwise nat_eq q key.items) c.args.self.now.numbers.entries) (sym c.as_slice.ensures.value)
    ∙ sym c.get.ensures.value ∙ sym c.copied.ensures ∙ c.in_default.is in
    let put = c.in_ok-insert.ensures.entries
    ∙ insert_entry-new _ c.args.self.now.numbers c.in_ok-key.key c.args.number absent in
    kept_added c.args.chart.now.lines (control_number c.args.level) c.args.card.now c.in_ok-key.key.items c.args.number cards c.in_ok-key.ensures
    c.args.self.now (record { numbers = c.insert.new.self }) are
    (λ sets.
    ap (lookup (λ its. pointwise nat_eq sets its.items)) put
    ∙ lookup-append (λ its. pointwise nat_eq sets its.items) c.args.self.now.numbers.entries ((c.in_ok-key.key, c.args.number) ∷ []))

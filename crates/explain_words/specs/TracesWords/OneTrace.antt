-- A deck has one trace on a panel.
use Rattle.std.specs.Prelude.{◌≡◌, ℕ, List}
use Rattle.hubs.specs.SetupsWords.Wiring.{Wiring}
use Rattle.explain_words.specs.TracesWords.Traces.{IsTrace}

-- two traces of a deck on a panel are the same
abbrev pub TracesAreOne : Type 0
TracesAreOne =
    (wiring : Wiring) (deck : List (List ℕ)) (one other : List ℕ) → IsTrace wiring deck one → IsTrace wiring deck other → one ≡ other

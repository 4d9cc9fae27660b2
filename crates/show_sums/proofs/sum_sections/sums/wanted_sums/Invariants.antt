use Rattle.std.specs.Prelude.{ℕ, List, All, take}
use Rattle.explain_words.specs.declared.explanation_text.text.ToldWheel.{ToldWheel}
use Rattle.hubs.specs.SetupsWords.Wiring.{Wiring}
use Rattle.show_sums.specs.SumSections.Sums.{IsExplained}
use Rattle.show_sums.specs.SumSections.WantedSums.{AreWantedFor}
use Rattle.show_sums.proofs.sum_sections.sums.wanted_sums.Given as goal

-- the sums behind the wheels so far
abbrev pub invariant-loop-one : goal.invariant-loop-one
invariant-loop-one l =
    (wiring : Wiring) (deck : List (List ℕ)) → All (λ (one : ToldWheel). IsExplained wiring deck one.why) l.told
    → AreWantedFor wiring l.totals deck (take l.one-index l.told) l.wanted.items

-- How much is missing and extra, by what is found of a setup.
use Rattle.std.specs.Prelude.{◌≡◌, ℕ, ◌+◌, Option, Some, None}
use Rattle.match_panels.specs.DifferencesWords.Differences.{HasSize}
use Rattle.match_panels.specs.DifferencesWords.PanelProgress.Forms.{forms}
use Rattle.cli_matching.specs.declared.match_texts.counts.Counts.{Counts}
use Rattle.match_panels.specs.declared.matching.answer.Matching.{Matching}
use Rattle.match_panels.specs.declared.matching.answer.Matching.TheVariants.{Differs, Matched}
use Rattle.hubs.specs.SetupsWords.Wiring.{Wiring}

-- the wires, jacks and stops of two differences, and one more of each where their forms differ
pub record CountsDifferences (missing extra : Wiring) (counts : Counts) : Type 0 where
  pub missing_parts : ℕ
  pub extra_parts : ℕ
  pub missing_size : HasSize missing missing_parts
  pub extra_size : HasSize extra extra_parts
  pub all_missing : counts.missing ≡ missing_parts + forms missing.tape extra.tape
  pub all_extra : counts.extra ≡ extra_parts + forms missing.tape extra.tape

-- nothing of a setup that is wired for the chart
abbrev pub AreCountsOf : Matching → Counts → Type 0
AreCountsOf (Matched plan) counts = (counts.missing ≡ 0) × (counts.extra ≡ 0)
AreCountsOf (Differs plan missing extra) counts = CountsDifferences missing extra counts

-- the counts of what was found: none where the setup is wired for the chart, and only there
abbrev pub TellsCounts : Matching → Option Counts → Type 0
TellsCounts (Matched plan) None = Unit {0}
TellsCounts (Matched plan) (Some counts) = ⊥
TellsCounts (Differs plan missing extra) None = ⊥
TellsCounts (Differs plan missing extra) (Some counts) = CountsDifferences missing extra counts

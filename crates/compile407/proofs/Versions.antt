-- Charts of both versions that say the same compile alike, run alike and report alike: all that is said of them but their being
-- lawful is said of their lines.
use Rattle.std.proofs.Common.{refl}
use Rattle.chart_rules.proofs.Versions as rules
use Rattle.chart_rules.specs.ValidCard.{IsValidCard}
use Rattle.compile407.specs.Versions.{VersionsCompileAlike, VersionsRunAlike, VersionsReportAlike}

pub versions_compile_alike : VersionsCompileAlike
versions_compile_alike lines coupled end plan setup marked =
    let alike = rules.versions_are_lawful_alike lines coupled end marked in (
      λ is. record {
        sound = record { lawful = alike.0 is.sound.lawful; rising = is.sound.rising; literals = is.sound.literals };
        fits = is.fits;
        planned = is.planned;
        serves = is.serves;
        wired = is.wired;
      },
      λ is. record {
        sound = record { lawful = alike.1 is.sound.lawful; rising = is.sound.rising; literals = is.sound.literals };
        fits = is.fits;
        planned = is.planned;
        serves = is.serves;
        wired = is.wired;
      },
    )

pub versions_run_alike : VersionsRunAlike
unfolding IsValidCard
versions_run_alike lines coupled end cards = (
  λ is. record { deck = record { valid = is.deck.valid; long = is.deck.long }; fits = is.fits },
  λ is. record { deck = record { valid = is.deck.valid; long = is.deck.long }; fits = is.fits },
)

pub versions_report_alike : VersionsReportAlike
versions_report_alike lines coupled end cards = refl

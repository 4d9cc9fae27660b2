-- Lines of a wiring chart, told one after another.
use Rattle.std.proofs.Common.{◌≡◌, ◌∙◌, sym, subst, ap, ℕ, ◌+◌, Bool, true, false, List, [], ◌∷◌, ◌++◌, None, append-nil, append_assoc, codes, decimal}
use Rattle.match_panels.specs.DifferencesWords.Differences.{HasSize, IsDifference}
use Rattle.match_panels.specs.DifferencesWords.PanelProgress.ExtraLines.{AreToldLines, IsExtra, alone, is_all_extra}
use Rattle.match_panels.specs.DifferencesWords.PanelProgress.ExtraLines.AreToldLines.{next, none}
use Rattle.match_panels.specs.DifferencesWords.PanelProgress.ExtraLines.IsToldLine.{is_asked_for, is_extra, says_nothing}
use Rattle.match_panels.specs.DifferencesWords.PanelProgress.Helper.{GainsTold, GoesOn, SaysAlone}
use Rattle.hubs.specs.SetupsWords.Wiring.{Wiring}
use Rattle.wire_chart.specs.Parts.{GainsParts}
use Rattle.wiring_text.specs.WiringText.{ReadsAs}
use Rattle.wiring_text.specs.declared.statement.Version.{Version}

-- whether all is too much
pub extra_known : (one extra left : Wiring) (size asked_for : ℕ) (is : Bool) → HasSize one size → IsDifference one extra left
    → HasSize left asked_for → is ≡ is_all_extra size asked_for → IsExtra one extra is
extra_known one extra left size asked_for is has_size is_left left_size so = record {
  size = size;
  has_size = has_size;
  left = left;
  is_left = is_left;
  asked_for = asked_for;
  left_size = left_size;
  so = so;
}

module _ (version : Version) (extra : Wiring) (number : ℕ) (line : List ℕ) where
  -- of one line
  pub nothing_said : (text : List ℕ) → SaysAlone version line None → GainsTold version extra number line text text
  nothing_said text silent = record { told = []; is_told = says_nothing silent; gained = sym (append-nil text) }

  pub asked_for : (one : Wiring) (is : Bool) (text : List ℕ) → ReadsAs (alone version line) one → IsExtra one extra is → is ≡ false
      → GainsTold version extra number line text text
  asked_for one is text reads extra_is not_so = record {
    told = [];
    is_told = is_asked_for one reads (subst (IsExtra one extra) not_so extra_is);
    gained = sym (append-nil text);
  }

  pub told_extra : (one : Wiring) (is : Bool) (old headed new : List ℕ) → ReadsAs (alone version line) one → IsExtra one extra is → is ≡ true
      → headed ≡ old ++ (codes "line " ++ decimal number ++ codes ": ") → GainsParts version one headed new
      → GainsTold version extra number line old new
  told_extra one is old headed new reads extra_is so begun gains = record {
    told = codes "line " ++ decimal number ++ codes ": " ++ gains.parts;
    is_told = is_extra one reads (subst (IsExtra one extra) so extra_is) gains.parts gains.are;
    gained = gains.gained
        ∙ ap (λ (front : List ℕ). front ++ gains.parts) begun
        ∙ append_assoc old (codes "line " ++ decimal number ++ codes ": ") gains.parts;
  }

module _ (version : Version) (extra : Wiring) (all : List (List ℕ)) where
  -- of none
  pub begins : (written : List ℕ) → written ≡ [] → GoesOn version extra 0 all all written
  begins written empty = λ others told.
      subst (λ (front : List ℕ). AreToldLines version extra 1 all (front ++ others)) (sym empty) told

  -- of one more
  pub goes_on : (number : ℕ) (line : List ℕ) (rest after : List (List ℕ)) (old new : List ℕ) → GoesOn version extra number rest all old
      → rest ≡ line ∷ after → GainsTold version extra (number + 1) line old new → GoesOn version extra (number + 1) after all new
  goes_on number line rest after old new before cut gains = λ others told.
      subst (AreToldLines version extra 1 all) (sym (append_assoc old gains.told others) ∙ ap (λ (front : List ℕ). front ++ others) (sym gains.gained))
      (before (gains.told ++ others)
      (subst (λ (lines : List (List ℕ)). AreToldLines version extra (number + 1) lines (gains.told ++ others)) (sym cut)
      (next (number + 1) line after gains.told others gains.is_told told)))

  -- of all
  pub ends : (number : ℕ) (rest : List (List ℕ)) (written : List ℕ) → GoesOn version extra number rest all written → rest ≡ []
      → AreToldLines version extra 1 all written
  ends number rest written before empty =
      subst (AreToldLines version extra 1 all) (append-nil written)
      (before [] (subst (λ (lines : List (List ℕ)). AreToldLines version extra (number + 1) lines []) (sym empty) (none (number + 1))))

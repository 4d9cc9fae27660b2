-- Lines of a wiring chart that are extra, numbered one after another.
use Rattle.std.proofs.Common.{◌≡◌, ◌∙◌, sym, subst, ap, refl, ℕ, ◌+◌, List, [], ◌∷◌, ◌++◌, append-nil, append_assoc}
use Rattle.card_code.specs.Lines.{lines_of}
use Rattle.match_panels.specs.DifferencesWords.PanelProgress.ExtraLines.{AreToldLines}
use Rattle.match_panels.specs.DifferencesWords.PanelProgress.Forms.{form_beside}
use Rattle.cli_matching.specs.MatchTexts.ExtraNumbers.{AreExtraNumbers, NumbersExtra, number_if}
use Rattle.cli_matching.specs.MatchTexts.ExtraNumbers.AreExtraNumbers.{next, none}
use Rattle.hubs.specs.SetupsWords.Tapes.{CarriageTape}
use Rattle.hubs.specs.SetupsWords.Wiring.{Wiring}
use Rattle.wire_chart.specs.Below.wiring_text.declared.statement.Version.{Version}

-- a number, if anything is told
pub number_none : (number : ℕ) (told old : List ℕ) → told ≡ [] → old ≡ old ++ number_if number told
number_none number told old empty = sym (append-nil old) ∙ ap (λ (text : List ℕ). old ++ number_if number text) (sym empty)

pub number_added : (number : ℕ) (told old new : List ℕ) → (told ≡ [] → ⊥) → new ≡ old ++ number ∷ [] → new ≡ old ++ number_if number told
number_added number [] old new some added = absurd (some refl)
number_added number (byte ∷ bytes) old new some added = added

-- what was numbered of the lines up to a number, and what is of the others, is what is numbered of all
abbrev pub GoesOn : Version → Wiring → (number : ℕ) → (rest all : List (List ℕ)) → (numbered : List ℕ) → Type 0
GoesOn version extra number rest all numbered =
    (others : List ℕ) → AreExtraNumbers version extra (number + 1) rest others → AreExtraNumbers version extra 1 all (numbered ++ others)

module _ (version : Version) (extra : Wiring) (all : List (List ℕ)) where
  -- of none
  pub begins : (numbered : List ℕ) → numbered ≡ [] → GoesOn version extra 0 all all numbered
  begins numbered empty = λ others are.
      subst (λ (front : List ℕ). AreExtraNumbers version extra 1 all (front ++ others)) (sym empty) are

  -- of one more
  pub goes_on : (number : ℕ) (line : List ℕ) (rest after : List (List ℕ)) (told old new : List ℕ) → GoesOn version extra number rest all old
      → rest ≡ line ∷ after → AreToldLines version extra 1 (lines_of line) told → new ≡ old ++ number_if (number + 1) told
      → GoesOn version extra (number + 1) after all new
  goes_on number line rest after told old new before cut is gained = λ others are.
      subst (AreExtraNumbers version extra 1 all)
      (sym (append_assoc old (number_if (number + 1) told) others) ∙ ap (λ (front : List ℕ). front ++ others) (sym gained))
      (before (number_if (number + 1) told ++ others)
      (subst (λ (lines : List (List ℕ)). AreExtraNumbers version extra (number + 1) lines (number_if (number + 1) told ++ others)) (sym cut)
      (next (number + 1) line after told others is are)))

  -- of all
  pub ends : (number : ℕ) (rest : List (List ℕ)) (numbered : List ℕ) → GoesOn version extra number rest all numbered → rest ≡ []
      → AreExtraNumbers version extra 1 all numbered
  ends number rest numbered before empty =
      subst (AreExtraNumbers version extra 1 all) (append-nil numbered)
      (before [] (subst (λ (lines : List (List ℕ)). AreExtraNumbers version extra (number + 1) lines []) (sym empty) (none (number + 1))))

-- the form, and the lines
pub extra_numbered : (version : Version) (missing extra : Wiring) (its wanted : CarriageTape) (wiring bare form begun headed others numbers : List ℕ)
    → its ≡ extra.tape → wanted ≡ missing.tape → bare ≡ [] → form ≡ bare ++ form_beside its wanted → begun ≡ []
    → headed ≡ begun ++ number_if 2 form → AreExtraNumbers version extra 1 (lines_of wiring) others → numbers ≡ headed ++ others
    → NumbersExtra version missing.tape extra wiring numbers
extra_numbered version missing extra its wanted wiring bare form begun headed others numbers is_its is_wanted empty formed also second are last =
    record {
      others = others;
      are = are;
      listed = last
          ∙ ap (λ (front : List ℕ). front ++ others)
          (second ∙ ap (λ (front : List ℕ). front ++ number_if 2 form) also
          ∙ ap (λ (body : List ℕ). number_if 2 body) (formed ∙ ap (λ (front : List ℕ). front ++ form_beside its wanted) empty
          ∙ ap (λ (t : CarriageTape). form_beside t wanted) is_its ∙ ap (λ (t : CarriageTape). form_beside extra.tape t) is_wanted));
    }

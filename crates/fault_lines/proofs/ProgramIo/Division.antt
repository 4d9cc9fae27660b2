-- Dividing a text after its first line END, line by line.
use Rattle.std.proofs.Common.{◌≡◌, ◌≢◌, ℕ, ◌+◌, ◌<◌, List, [], ◌∷◌, ◌++◌, length, take, drop, get_or, ap, sym, ◌∙◌, arith, suc, subst, take-append-drop, append_assoc}
use Rattle.std.proofs.Math.Seq.{drop-cons, take-add}
use Rattle.std.proofs.lemmas.List.{get_or-take, drop-drop, length-take-le}
use Rattle.fault_lines.specs.ProgramIo.Input.{HasNoLineFeed, IsEndPiece, IsDivided, unended, end_line, other_line}

-- as the text after these bytes is divided, so is the whole
abbrev pub DividesAfter : List ℕ → ℕ → Type 0
DividesAfter text taken =
    (chart deck : List ℕ) → IsDivided (drop taken text) chart deck → IsDivided text (take taken text ++ chart) deck

pub nothing_taken : (text : List ℕ) → DividesAfter text 0
nothing_taken text chart deck is = is

-- no LF is left
pub all_chart : (text : List ℕ) (taken : ℕ) → DividesAfter text taken → HasNoLineFeed (drop taken text) → IsDivided text text []
all_chart text taken after none =
    subst (λ (chart : List ℕ). IsDivided text chart []) (take-append-drop taken text) (after _ _ (unended _ none))

-- a line with its LF, and what is after it
module _ (text rest : List ℕ) (taken size : ℕ) (is_rest : rest ≡ drop taken text) (within : size < length rest)
    (found : get_or rest size 0 ≡ 10) (before : (k : ℕ) → k < size → get_or rest k 0 ≢ 10) where
  from_line_feed : drop size rest ≡ 10 ∷ drop (taken + (size + 1)) text
  from_line_feed =
      let one_more : suc size ≡ size + 1 = omega arith in
      drop-cons rest size 0 within ∙ ap (λ b. b ∷ drop (suc size) rest) found ∙ ap (λ n. 10 ∷ drop n rest) one_more
      ∙ ap (λ (t : List ℕ). 10 ∷ drop (size + 1) t) is_rest ∙ ap (λ (t : List ℕ). 10 ∷ t) (drop-drop (size + 1) taken text)

  cut : rest ≡ take size rest ++ 10 ∷ drop (taken + (size + 1)) text
  cut = sym (take-append-drop size rest) ∙ ap (λ t. take size rest ++ t) from_line_feed

  no_line_feed : HasNoLineFeed (take size rest)
  no_line_feed place below is =
      let fits : place < size = omega (arith, below, within, length-take-le size rest (omega (arith, within))) in
      before place fits (sym (get_or-take size rest place 0 fits) ∙ is)

  gathered : take (taken + (size + 1)) text ≡ take taken text ++ (take size rest ++ 10 ∷ [])
  gathered =
      take-add taken (size + 1) text ∙ ap (λ t. take taken text ++ take (size + 1) t) (sym is_rest)
      ∙ ap (λ t. take taken text ++ t) (take-add size 1 rest ∙ ap (λ t. take size rest ++ take 1 t) from_line_feed)

  pub chart_ends : DividesAfter text taken → IsEndPiece (take size rest)
      → IsDivided text (take (taken + (size + 1)) text) (drop (taken + (size + 1)) text)
  chart_ends after end =
      let deck = drop (taken + (size + 1)) text in
      let divided : IsDivided (drop taken text) (take size rest ++ 10 ∷ []) deck =
      subst (λ (t : List ℕ). IsDivided t (take size rest ++ 10 ∷ []) deck) (sym cut ∙ is_rest)
      (end_line _ _ no_line_feed end) in
      subst (λ (c : List ℕ). IsDivided text c deck) (sym gathered) (after _ _ divided)

  pub chart_goes_on : DividesAfter text taken → (IsEndPiece (take size rest) → ⊥) → DividesAfter text (taken + (size + 1))
  chart_goes_on after other chart deck is =
      let divided : IsDivided (drop taken text) (take size rest ++ 10 ∷ chart) deck =
      subst (λ (t : List ℕ). IsDivided t (take size rest ++ 10 ∷ chart) deck) (sym cut ∙ is_rest)
      (other_line _ _ _ _ no_line_feed other is) in
      let regrouped =
      append_assoc (take taken text) (take size rest ++ 10 ∷ []) chart
      ∙ ap (λ t. take taken text ++ t) (append_assoc (take size rest) (10 ∷ []) chart) in
      subst (λ (c : List ℕ). IsDivided text c deck) (sym (ap (λ (t : List ℕ). t ++ chart) gathered ∙ regrouped))
      (after _ _ divided)

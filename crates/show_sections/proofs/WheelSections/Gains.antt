-- What is told, wheel by wheel and line by line.
use Rattle.std.proofs.Common.{zero, suc, ◌≡◌, ◌∙◌, ap, sym, subst, refl, arith, Bool, true, false, ℕ, ◌+◌, ◌<◌, ◌≤◌, ◌==◌, List, [], ◌∷◌, ◌++◌, append_assoc, append-nil, flat_map, get_or, length, take}
use Rattle.std.specs.Prelude.{String, if◌then◌else◌, map}
use Rattle.std.specs.List.{range_with_len}
use Rattle.std.specs.String.{string_bytes}
use Rattle.std.specs.declared.alloc.Global.{Global}
use Rattle.std.proofs.lemmas.Bool.{eqb-true, eq-eqb}
use Rattle.std.proofs.lemmas.List.{map-append, take_all, take_more}
use Rattle.std.proofs.lemmas.List.Elements.{All-append, All-cons, All-nil}
use Rattle.page_text.specs.declared.placed_lines.placed_line.PlacedLine.{PlacedLine}
use Rattle.hubs.specs.SetupsWords.Wiring.{Wiring}
use Rattle.explain_wheels.specs.ExplanationsWords.Explanations.{ExplainsBy, character_on}
use Rattle.explain_wheels.specs.declared.explanations.explanation.Explanation.{Explanation}
use Rattle.explain_words.specs.ExplanationText.ExplanationTexts.{IsTextOf, text_of}
use Rattle.explain_wheels.specs.declared.explanations.found.FoundLine.{FoundLine}
use Rattle.explain_wheels.specs.ExplanationsWords.Pages.{AreFoundLines, IsFoundLine}
use Rattle.machine.specs.declared.kept.KeptPoint.{KeptPoint}
use Rattle.show_drawings.proofs.MarkupWords.Pieces.{numbers_more}
use Rattle.show_sections.specs.WheelSections.Helper.{GainsTold, IsToldOf}
use Rattle.show_sections.specs.WheelSections.ToldWheels.{AreTold, IsTold, WheelPlace, place_of, printed_by, printed_on, printed_places}
use Rattle.explain_words.specs.declared.explanation_text.text.ToldWheel.{ToldWheel}

flat_map_last : {A B : Type 0} (word : A → List B) (things : List A) (thing : A)
    → flat_map word things ++ word thing ≡ flat_map word (things ++ thing ∷ [])
flat_map_last word [] thing = sym (append-nil (word thing))
flat_map_last {A} {B} word (first ∷ others) thing =
    append_assoc (word first) (flat_map word others) (word thing)
    ∙ ap (λ (l : List B). word first ++ l) (flat_map_last word others thing)

module _ (wiring : Wiring) (asked : List (String Global × Wiring)) (deck : List (List ℕ)) where
  -- nothing is told of no wheel
  pub told_none : (old : List ToldWheel) → GainsTold wiring asked deck [] old old
  told_none old = record {
    told = [];
    are = record { places_are = refl; each = All-nil (IsTold wiring asked deck) };
    gained = sym (append-nil old);
  }

  -- what is told of one wheel
  pub told_one : (placed : PlacedLine) (wheel : ℕ) (told : ToldWheel) (old new : List ToldWheel)
      → IsToldOf wiring asked deck placed wheel told → new ≡ old ++ told ∷ []
      → GainsTold wiring asked deck (record { page = placed.page; line = placed.line; wheel = wheel } ∷ []) old new
  told_one placed wheel told old new is pushed = record {
    told = told ∷ [];
    are = record {
      places_are =
          ap (λ (p : ℕ). record { page = p; line = told.why.line.line; wheel = told.why.wheel } ∷ []) is.right.at_page
          ∙ ap (λ (n : ℕ). record { page = placed.page; line = n; wheel = told.why.wheel } ∷ []) is.right.at_line
          ∙ ap (λ (w : ℕ). record { page = placed.page; line = placed.line; wheel = w } ∷ []) is.right.at_wheel;
      each = All-cons (IsTold wiring asked deck) told [] (told_there placed wheel told is) (All-nil (IsTold wiring asked deck));
    };
    gained = pushed;
  }
    where
      told_there : (placed : PlacedLine) (wheel : ℕ) (told : ToldWheel) → IsToldOf wiring asked deck placed wheel told
          → IsTold wiring asked deck told
      told_there placed wheel told is =
          let text = string_bytes told.words in
          subst (λ (w : ℕ). IsTextOf wiring asked deck told.why.line.page told.why.line.line w told.why text) (sym is.right.at_wheel)
          (subst (λ (l : ℕ). IsTextOf wiring asked deck told.why.line.page l wheel told.why text) (sym is.right.at_line)
          (subst (λ (p : ℕ). IsTextOf wiring asked deck p placed.line wheel told.why text) (sym is.right.at_page) is))

  -- what is told of further wheels
  pub told_more : (places others : List WheelPlace) (old mid new : List ToldWheel) → GainsTold wiring asked deck places old mid
      → GainsTold wiring asked deck others mid new → GainsTold wiring asked deck (places ++ others) old new
  told_more places others old mid new first next = record {
    told = first.told ++ next.told;
    are = record {
      places_are =
          map-append place_of first.told next.told ∙ ap (λ (l : List WheelPlace). l ++ map place_of next.told) first.are.places_are
          ∙ ap (λ (l : List WheelPlace). places ++ l) next.are.places_are;
      each = All-append (IsTold wiring asked deck) first.told next.told first.are.each next.are.each;
    };
    gained = next.gained ∙ ap (λ (l : List ToldWheel). l ++ next.told) first.gained ∙ append_assoc old first.told next.told;
  }

  -- a wheel that is blank, and one that is not
  pub wheel_blank : (placed : PlacedLine) (wheel : ℕ) (old : List ToldWheel) → character_on placed wheel ≡ 32
      → GainsTold wiring asked deck (printed_by placed wheel) old old
  wheel_blank placed wheel old is =
      subst (λ (l : List WheelPlace). GainsTold wiring asked deck l old old)
      (sym (ap (λ (b : Bool). if b then [] else record { page = placed.page; line = placed.line; wheel = wheel } ∷ [])
      (eq-eqb (character_on placed wheel) 32 is))) (told_none old)

  pub wheel_printed : (placed : PlacedLine) (wheel : ℕ) (told : ToldWheel) (old new : List ToldWheel)
      → (character_on placed wheel ≡ 32 → ⊥) → IsToldOf wiring asked deck placed wheel told → new ≡ old ++ told ∷ []
      → GainsTold wiring asked deck (printed_by placed wheel) old new
  wheel_printed placed wheel told old new is right pushed =
      subst (λ (l : List WheelPlace). GainsTold wiring asked deck l old new)
      (sym (ap (λ (b : Bool). if b then [] else record { page = placed.page; line = placed.line; wheel = wheel } ∷ [])
      (unequal (character_on placed wheel == 32) refl))) (told_one placed wheel told old new right pushed)
    where
      unequal : (b : Bool) → (character_on placed wheel == 32) ≡ b → (character_on placed wheel == 32) ≡ false
      unequal false e = e
      unequal true e = absurd (is (eqb-true (character_on placed wheel) 32 e))

  -- one wheel more of a line
  pub wheels_more : (placed : PlacedLine) (count : ℕ) (old mid new : List ToldWheel)
      → GainsTold wiring asked deck (flat_map (printed_by placed) (range_with_len 1 count)) old mid
      → GainsTold wiring asked deck (printed_by placed (count + 1)) mid new
      → GainsTold wiring asked deck (flat_map (printed_by placed) (range_with_len 1 (count + 1))) old new
  wheels_more placed count old mid new before one =
      subst (λ (l : List WheelPlace). GainsTold wiring asked deck l old new)
      (last_of (range_with_len 1 count) (count + 1)
      ∙ ap (λ (l : List ℕ). flat_map (printed_by placed) l)
      (sym (numbers_more 1 count ∙ ap (λ (n : ℕ). range_with_len 1 count ++ n ∷ []) (omega arith))))
      (told_more (flat_map (printed_by placed) (range_with_len 1 count)) (printed_by placed (count + 1)) old mid new before one)
    where
      last_of : (wheels : List ℕ) (wheel : ℕ)
          → flat_map (printed_by placed) wheels ++ printed_by placed wheel ≡ flat_map (printed_by placed) (wheels ++ wheel ∷ [])
      last_of wheels wheel = flat_map_last (printed_by placed) wheels wheel

  -- one line more
  pub lines_more : (lines : List PlacedLine) (place : ℕ) (d : PlacedLine) (old mid new : List ToldWheel) → place < length lines
      → GainsTold wiring asked deck (printed_places (take place lines)) old mid
      → GainsTold wiring asked deck (printed_on (get_or lines place d)) mid new
      → GainsTold wiring asked deck (printed_places (take (place + 1) lines)) old new
  lines_more lines place d old mid new less before one =
      subst (λ (l : List WheelPlace). GainsTold wiring asked deck l old new)
      (flat_map_last printed_on (take place lines) (get_or lines place d)
      ∙ ap (λ (l : List PlacedLine). printed_places l) (sym (take_more lines place d less)))
      (told_more (printed_places (take place lines)) (printed_on (get_or lines place d)) old mid new before one)

  -- what a list has that had nothing
  told_alone : (places : List WheelPlace) (told : List ToldWheel) → GainsTold wiring asked deck places [] told
      → AreTold wiring asked deck places told
  told_alone places told gains = subst (λ (l : List ToldWheel). AreTold wiring asked deck places l) (sym gains.gained) gains.are

  -- what is told of all lines
  pub told_of_all : (lines : List PlacedLine) (place : ℕ) (told : List ToldWheel) → length lines ≤ place
      → GainsTold wiring asked deck (printed_places (take place lines)) [] told → AreTold wiring asked deck (printed_places lines) told
  told_of_all lines place told all gains =
      told_alone (printed_places lines) told
      (subst (λ (l : List PlacedLine). GainsTold wiring asked deck (printed_places l) [] told) (take_all place lines all) gains)

-- an explanation of a wheel of the line that was found, where that is the one that stands there
pub worded_there : (wiring : Wiring) (asked : List (String Global × Wiring)) (deck : List (List ℕ)) (found : FoundLine)
    (page line wheel : ℕ) (told : Explanation) (text : List ℕ) → found.kept.line.page ≡ page → found.kept.line.line ≡ line
    → ExplainsBy found.kept.points wiring deck found.kept.line.page found.kept.line.line wheel told
    → text ≡ text_of wiring found.kept.points asked told → IsTextOf wiring asked deck page line wheel told text
worded_there wiring asked deck found page line wheel told text at_page at_line explains spelled =
    subst (λ (l : ℕ). IsTextOf wiring asked deck page l wheel told text) at_line
    (subst (λ (p : ℕ). IsTextOf wiring asked deck p found.kept.line.line wheel told text) at_page (record {
      right = explains.is;
      spelled = spelled ∙ ap (λ (points : List KeptPoint). text_of wiring points asked told) (sym explains.by);
    }))

-- the cycles of lines are as many as the lines
pub found_long : (wiring : Wiring) (deck : List (List ℕ)) (lines : List PlacedLine) (found : List FoundLine)
    → AreFoundLines wiring deck lines found → length found ≡ length lines
found_long wiring deck [] [] are = refl
found_long wiring deck [] (one ∷ found) are = absurd are
found_long wiring deck (line ∷ lines) [] are = absurd are
found_long wiring deck (line ∷ lines) (one ∷ found) are = ap suc (found_long wiring deck lines found are.1)

-- each is that of its line
found_there : (wiring : Wiring) (deck : List (List ℕ)) (lines : List PlacedLine) (found : List FoundLine) (place : ℕ)
    (d : PlacedLine) (e : FoundLine) → AreFoundLines wiring deck lines found → place < length lines
    → IsFoundLine wiring deck (get_or lines place d) (get_or found place e)
found_there wiring deck [] found place d e are less = absurd (omega (arith, less))
found_there wiring deck (line ∷ lines) [] place d e are less = absurd are
found_there wiring deck (line ∷ lines) (one ∷ found) zero d e are less = are.0
found_there wiring deck (line ∷ lines) (one ∷ found) (suc place) d e are less =
    found_there wiring deck lines found place d e are.1 (omega (arith, less))

pub found_is : (wiring : Wiring) (deck : List (List ℕ)) (lines : List PlacedLine) (found : List FoundLine) (place : ℕ)
    (d : PlacedLine) (one : FoundLine) → AreFoundLines wiring deck lines found → place < length lines → one ≡ get_or found place one
    → IsFoundLine wiring deck (get_or lines place d) one
found_is wiring deck lines found place d one are less is =
    subst (λ (f : FoundLine). IsFoundLine wiring deck (get_or lines place d) f) (sym is)
    (found_there wiring deck lines found place d one are less)

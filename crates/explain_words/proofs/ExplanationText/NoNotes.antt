-- No note reads as a line that names who asks for wires: no hub's name begins with a w.
use Rattle.std.proofs.Common.{◌≡◌, ◌∙◌, sym, ap, arith, append_assoc, ℕ, List, ◌++◌, codes, get_or}
use Rattle.hubs.specs.HubTable.HubTable.{row_of}
use Rattle.hubs.specs.declared.hub_table.letters.Letters.{Letters}
use Rattle.hubs.specs.declared.hub_table.letters.Letters.TheVariants.{FR, SR, CX, GX, CO, BAN, BAT, PIN, PIT, SX, IX, CSD, CSZ, EM, CC, PX, HX, CA, CB, GE, PL, MI, RO, BT, CI, BAC, PIC, PIX, SE, SI, SO, IE, CSE, W, ST, SP, SK, RS}
use Rattle.hubs.specs.Hubs.{letters_of, numbers_of}
use Rattle.explain_words.specs.ExplanationText.Laws.{NoNoteAsksForWires}
use Rattle.hubs.specs.HubText.{hub_text, numbers_text}
use Rattle.hubs.specs.declared.hub.Hub.{Hub}
use Rattle.explain_words.specs.ExplanationText.Asked.{asking_line}
use Rattle.explain_words.specs.ExplanationText.Notes.{exit_words, reason_words}
use Rattle.explain_words.specs.ExplanationText.Text.{row_at}

first : (letters : Letters) (rest : List ℕ) → get_or ((row_of letters).spelled ++ rest) 0 0 ≡ 119 → ⊥
first FR rest is = omega (arith, is)
first SR rest is = omega (arith, is)
first CX rest is = omega (arith, is)
first GX rest is = omega (arith, is)
first CO rest is = omega (arith, is)
first BAN rest is = omega (arith, is)
first BAT rest is = omega (arith, is)
first PIN rest is = omega (arith, is)
first PIT rest is = omega (arith, is)
first SX rest is = omega (arith, is)
first IX rest is = omega (arith, is)
first CSD rest is = omega (arith, is)
first CSZ rest is = omega (arith, is)
first EM rest is = omega (arith, is)
first CC rest is = omega (arith, is)
first PX rest is = omega (arith, is)
first HX rest is = omega (arith, is)
first CA rest is = omega (arith, is)
first CB rest is = omega (arith, is)
first GE rest is = omega (arith, is)
first PL rest is = omega (arith, is)
first MI rest is = omega (arith, is)
first RO rest is = omega (arith, is)
first BT rest is = omega (arith, is)
first CI rest is = omega (arith, is)
first BAC rest is = omega (arith, is)
first PIC rest is = omega (arith, is)
first PIX rest is = omega (arith, is)
first SE rest is = omega (arith, is)
first SI rest is = omega (arith, is)
first SO rest is = omega (arith, is)
first IE rest is = omega (arith, is)
first CSE rest is = omega (arith, is)
first W rest is = omega (arith, is)
first ST rest is = omega (arith, is)
first SP rest is = omega (arith, is)
first SK rest is = omega (arith, is)
first RS rest is = omega (arith, is)

-- a note begins with the name of a hub
named : (hub : Hub) (words others : List ℕ) → codes "  " ++ (hub_text hub ++ words) ++ codes "\n" ≡ asking_line others → ⊥
named hub words others is =
    let letters = letters_of hub in
    let numbers = numbers_text (numbers_of hub) in
    let spelled = (row_of letters).spelled in
    let front : (spelled ++ numbers) ++ words ≡ spelled ++ (numbers ++ words) = append_assoc spelled numbers words in
    let whole : ((spelled ++ numbers) ++ words) ++ codes "\n" ≡ spelled ++ ((numbers ++ words) ++ codes "\n") =
    ap (λ (l : List ℕ). l ++ codes "\n") front ∙ append_assoc spelled (numbers ++ words) (codes "\n") in
    first letters ((numbers ++ words) ++ codes "\n")
    (ap (λ (l : List ℕ). get_or l 0 0) (sym whole) ∙ ap (λ (l : List ℕ). get_or l 2 0) is)

in_turn : (a b c d : List ℕ) → ((a ++ b) ++ c) ++ d ≡ a ++ ((b ++ c) ++ d)
in_turn a b c d = ap (λ (l : List ℕ). l ++ d) (append_assoc a b c) ∙ append_assoc a (b ++ c) d

pub no_note : NoNoteAsksForWires
no_note = record {
  exits = λ words card cycle points place exit is. named exit (exit_words card cycle points (row_at place) exit) words is;
  contacts = λ words common exit is.
      let reason = reason_words exit in
      named common ((codes " => " ++ hub_text exit) ++ reason) words
      (ap (λ (l : List ℕ). (codes "  " ++ l) ++ codes "\n") (sym (in_turn (hub_text common) (codes " => ") (hub_text exit) reason)) ∙ is);
}

-- The lines of a text that is written, and what they say.
use Rattle.std.proofs.Common.{◌≡◌, ℕ, ◌≤◌, List, [], ◌∷◌, ◌++◌, refl, sym, ap, ◌∙◌, subst, arith, append_assoc, codes, decimal}
use Rattle.std.specs.Prelude.{map}
use Rattle.std.specs.List.{flat_map}
use Rattle.card_code.specs.Lines.{lines_of}
use Rattle.hubs.specs.SetupsWords.Tapes.{CarriageTape, IsFormed}
use Rattle.hubs.specs.SetupsWords.Wiring.{Wiring}
use Rattle.hubs.specs.declared.hub.Hub.{Hub}
use Rattle.hubs.specs.declared.jack.Jack.{Jack}
use Rattle.wiring_text.specs.WiringText.{IsFormLine, SaysLines, end_line, version_text}
use Rattle.wiring_text.specs.declared.statement.FormNumbers.{FormNumbers}
use Rattle.wire_chart.specs.WrittenText.{ArePartsOf, title_line, ended, form_line, stop_line, jack_line, wire_line}
use Rattle.wiring_text.specs.declared.statement.Statement.{Statement}
use Rattle.wiring_text.specs.declared.statement.Statement.TheVariants.{Plug}
use Rattle.wire_chart.proofs.WrittenBytes.{IsWord, IsWrittenLine, words_line, line_of_words, ended_line, ended_lines, no_lines}
use Rattle.wire_chart.proofs.WrittenSaid.{jack_said}
use Rattle.wire_chart.proofs.WrittenWords.{number_written, number_word}
use Rattle.std.proofs.Common.{append-nil}
use Rattle.wire_chart.proofs.WrittenLines.{IsText, stop_statement, wire_statement, lines_said, lines_inner, stops_said, each_jack, wires_said}
use Rattle.wiring_text.specs.declared.statement.Version.{Version}
use Rattle.wiring_text.specs.declared.statement.Version.TheVariants.{First, Second}

-- the line of the form
abbrev pub form_numbers : CarriageTape → FormNumbers
form_numbers form = record { lines = form.lines; first = form.first; overflow = form.overflow }

three_words : (word a b c : List ℕ)
    → word ++ (32 ∷ a) ++ (32 ∷ b) ++ (32 ∷ c) ≡ word ++ words_line (a ∷ b ∷ c ∷ [])
three_words word a b c = simp (append_assoc, append-nil)

pub form_written : (form : CarriageTape) → IsFormed form.lines form.first form.overflow
    → IsWrittenLine (form_line form) (codes "FORM" ∷ decimal form.lines ∷ decimal form.first ∷ decimal form.overflow ∷ [])
form_written form formed =
    let tokens : List (List ℕ) = decimal form.lines ∷ decimal form.first ∷ decimal form.overflow ∷ [] in
    let to : form.lines ≤ 144 = formed.lines_to in
    subst (λ (l : List ℕ). IsWrittenLine l (codes "FORM" ∷ tokens))
    (sym (three_words (codes "FORM") (decimal form.lines) (decimal form.first) (decimal form.overflow)))
    (line_of_words (codes "FORM") tokens (record { some = omega arith; few = omega arith; high = refl }) (omega arith) (
      number_word form.lines (omega arith),
      (
        number_word form.first (omega (arith, formed.first_to)),
        (number_word form.overflow (omega (arith, formed.overflow_to)), tt),
      ),
    )
    (omega arith))

pub form_is : (form : CarriageTape) → IsFormed form.lines form.first form.overflow → IsFormLine (form_line form) (form_numbers form)
form_is form formed =
    let to : form.lines ≤ 144 = formed.lines_to in
    record {
      size = decimal form.lines;
      top = decimal form.first;
      bottom = decimal form.overflow;
      divided = (form_written form formed).divided;
      lines = number_written form.lines (omega arith);
      first = number_written form.first (omega (arith, formed.first_to));
      overflow = number_written form.overflow (omega (arith, formed.overflow_to));
    }

-- the first line and the last
title_words : (version : Version) → IsWord (version_text version)
    → IsWrittenLine (codes "WIRING407" ++ words_line (version_text version ∷ [])) (codes "WIRING407" ∷ version_text version ∷ [])
title_words version is =
    line_of_words (codes "WIRING407") (version_text version ∷ [])
    (record { some = omega arith; few = omega arith; high = refl }) (omega arith) (is, tt) (omega arith)

pub first_written : (version : Version) → IsWrittenLine (title_line version) (codes "WIRING407" ∷ version_text version ∷ [])
first_written First = title_words First (record { some = omega arith; few = omega arith; high = refl })
first_written Second = title_words Second (record { some = omega arith; few = omega arith; high = refl })

pub end_written : IsWrittenLine (codes "END") (codes "END" ∷ [])
end_written =
    line_of_words (codes "END") [] (record { some = omega arith; few = omega arith; high = refl }) (omega arith) tt (omega arith)

-- the lines after the form, and what they say
abbrev pub lines_after : Version → List (ℕ × ℕ) → List Jack → List (Hub × Hub) → List (List ℕ)
lines_after version stops jacks wires =
    map stop_line stops ++ (map jack_line jacks ++ (map (wire_line version) wires ++ (codes "END" ∷ [])))

abbrev pub statements_of : List (ℕ × ℕ) → List Jack → List (Hub × Hub) → List Statement
statements_of stops jacks wires = map stop_statement stops ++ (map Plug jacks ++ (map wire_statement wires ++ []))

regroup : (a b c d e f : List ℕ) → a ++ b ++ (c ++ d ++ e) ++ f ≡ a ++ (b ++ (c ++ (d ++ (e ++ f))))
regroup a b c d e f = simp append_assoc

-- the lines of the text
pub text_lines : (version : Version) (wiring : Wiring) (text : List ℕ) → (is : IsText version wiring text) → lines_of text
    ≡ title_line version ∷ form_line wiring.tape ∷ lines_after version is.written.are.stops is.written.are.jacks is.written.are.wires
text_lines version wiring text is =
    let w : ArePartsOf version wiring is.written.parts = is.written.are in
    let stops : List ℕ = flat_map (λ stop. ended (stop_line stop)) w.stops in
    let jacks : List ℕ = flat_map (λ jack. ended (jack_line jack)) w.jacks in
    let wires : List ℕ = flat_map (λ wire. ended (wire_line version wire)) w.wires in
    let end : List ℕ = ended (codes "END") in
    ap lines_of (is.written.spelled
    ∙ ap (λ (parts : List ℕ). ended (title_line version) ++ ended (form_line wiring.tape) ++ parts ++ end) w.spelled
    ∙ regroup (ended (title_line version)) (ended (form_line wiring.tape)) stops jacks wires end)
    ∙ ended_line (title_line version) (ended (form_line wiring.tape) ++ (stops ++ (jacks ++ (wires ++ end)))) (first_written version).inner
    ∙ ap (λ (ls : List (List ℕ)). title_line version ∷ ls)
    (ended_line (form_line wiring.tape) (stops ++ (jacks ++ (wires ++ end))) (form_written wiring.tape is.setup.form.formed).inner
    ∙ ap (λ (ls : List (List ℕ)). form_line wiring.tape ∷ ls)
    (ended_lines stop_line w.stops (jacks ++ (wires ++ end)) (lines_inner version stop_line stop_statement w.stops (stops_said version wiring text is))
    ∙ ap (λ (ls : List (List ℕ)). map stop_line w.stops ++ ls)
    (ended_lines jack_line w.jacks (wires ++ end)
    (lines_inner version jack_line Plug w.jacks (λ jack has. jack_said version jack (each_jack version wiring text is jack has)))
    ∙ ap (λ (ls : List (List ℕ)). map jack_line w.jacks ++ ls)
    (ended_lines (wire_line version) w.wires end (lines_inner version (wire_line version) wire_statement w.wires (wires_said version wiring text is))
    ∙ ap (λ (ls : List (List ℕ)). map (wire_line version) w.wires ++ ls)
    (ended_line (codes "END") [] refl ∙ ap (λ (ls : List (List ℕ)). codes "END" ∷ ls) no_lines)))))

pub text_said : (version : Version) (wiring : Wiring) (text : List ℕ) → (is : IsText version wiring text)
    → SaysLines version (lines_after version is.written.are.stops is.written.are.jacks is.written.are.wires)
    (statements_of is.written.are.stops is.written.are.jacks is.written.are.wires)
text_said version wiring text is =
    let w : ArePartsOf version wiring is.written.parts = is.written.are in
    lines_said version stop_line stop_statement w.stops _ _ (stops_said version wiring text is)
    (lines_said version jack_line Plug w.jacks _ _ (λ jack has. jack_said version jack (each_jack version wiring text is jack has))
    (lines_said version (wire_line version) wire_statement w.wires _ _ (wires_said version wiring text is)
    (end_line end_written.divided tt)))

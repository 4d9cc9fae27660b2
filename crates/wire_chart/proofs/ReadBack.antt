-- What is written of a setup reads as that setup.
use Rattle.std.proofs.Common.{arith, slice_index_or, ◌≡◌, ◌≢◌, ◌⊎◌, inl, inr, ℕ, List, [], ◌++◌, true, None, refl, sym, ap, ◌∙◌, subst}
use Rattle.std.specs.Prelude.{map}
use Rattle.std.specs.List.{All, AllPairs, Contains}
use Rattle.std.proofs.lemmas.Option.{same_Some}
use Rattle.std.proofs.lemmas.List.Elements.{All-append, All-nil, Contains-get_or, Contains-append_left, Contains-append_right, Contains-append_cases}
use Rattle.hubs.specs.SetupsWords.Tapes.{IsStop, has_stop}
use Rattle.hubs.specs.SetupsWords.Wiring.{Wiring, HasWire, HasJack}
use Rattle.hubs.specs.declared.hub.Hub.{Hub}
use Rattle.hubs.specs.declared.jack.Jack.{Jack}
use Rattle.hubs.proofs.HubLemmas.{hub_named-own}
use Rattle.wiring_text.specs.HubNames.{name_of, hub_of}
use Rattle.wire_chart.specs.Laws.{IsSetup}
use Rattle.hubs.specs.Carries.{do_wires_agree}
use Rattle.wiring_text.specs.Statements.{do_hubs_agree, do_statements_agree, statement_fault}
use Rattle.wiring_text.specs.WiringText.{IsSetupOf, ReadsAs}
use Rattle.wire_chart.specs.WrittenText.{ArePartsOf, IsWrittenIn, title_line, form_line, IsStopBefore, IsJackBefore, IsLineBefore}
use Rattle.wiring_text.specs.declared.statement.Statement.{Statement}
use Rattle.wiring_text.specs.declared.statement.Statement.TheVariants.{Stop, Plug, Wire}
use Rattle.hubs.proofs.SetupsWords.Ordered.{pairs_none, pairs_append, contains_none}
use Rattle.wire_chart.proofs.Ordered.{contains_mapped, contains_unmapped, pairs_mapped}
use Rattle.wire_chart.proofs.OneText.{stops_one_way, jacks_one_way, lines_one_way}
use Rattle.wire_chart.proofs.WrittenSaid.{stop_fits, wire_fits}
use Rattle.wire_chart.proofs.Ordered.{IsOneWay, all_mapped}
use Rattle.wire_chart.proofs.WrittenLines.{IsText, stop_statement, wire_statement, each_stop, each_wire}
use Rattle.wire_chart.proofs.TextLines.{form_numbers, form_is, first_written, lines_after, statements_of, text_lines, text_said}
use Rattle.wire_chart.proofs.TextSize.{not_large}
use Rattle.wiring_text.specs.declared.statement.Version.{Version}

-- nothing is said twice
distinct : {A : Type 0} (R : A → A → Type 0) (f : A → Statement) → IsOneWay R → ((x y : A) → f x ≡ f y → x ≡ y)
    → (x y : A) → R x y → f x ≢ f y
distinct {A} R f one_way same x y before e =
    let twice : R x x = subst (λ (z : A). R x z) (sym (same x y e)) before in
    one_way x x twice twice

same_stop : (one other : ℕ × ℕ) → stop_statement one ≡ stop_statement other → one ≡ other
same_stop one other e =
    let c : one.0 ≡ other.0 = cc in
    let l : one.1 ≡ other.1 = cc in
    ap (λ (a : ℕ). let s : ℕ × ℕ = (a, one.1) in s) c ∙ ap (λ (b : ℕ). let s : ℕ × ℕ = (other.0, b) in s) l

same_jack : (one other : Jack) → Plug one ≡ Plug other → one ≡ other
same_jack one other e = cc

same_hub : (one other : Hub) → name_of one ≡ name_of other → one ≡ other
same_hub one other e =
    same_Some one other (sym (hub_named-own one) ∙ ap hub_of e ∙ hub_named-own other)

same_wire : (one other : Hub × Hub) → wire_statement one ≡ wire_statement other → one ≡ other
same_wire one other e =
    let from : name_of one.0 ≡ name_of other.0 = cc in
    let to : name_of one.1 ≡ name_of other.1 = cc in
    ap (λ (a : Hub). let w : Hub × Hub = (a, one.1) in w) (same_hub one.0 other.0 from)
    ∙ ap (λ (b : Hub). let w : Hub × Hub = (other.0, b) in w) (same_hub one.1 other.1 to)

-- what stands among the statements
record IsStopStatement (stops : List (ℕ × ℕ)) (statement : Statement) : Type 0 where
  stop : ℕ × ℕ
  there : Contains stops stop
  said : statement ≡ stop_statement stop

record IsPlugStatement (jacks : List Jack) (statement : Statement) : Type 0 where
  jack : Jack
  there : Contains jacks jack
  said : statement ≡ Plug jack

record IsWireStatement (wires : List (Hub × Hub)) (statement : Statement) : Type 0 where
  wire : Hub × Hub
  there : Contains wires wire
  said : statement ≡ wire_statement wire

as_stop : (stops : List (ℕ × ℕ)) (statement : Statement) → Contains (map stop_statement stops) statement
    → IsStopStatement stops statement
as_stop stops statement has =
    let found = contains_unmapped stop_statement stops statement has in
    record { stop = found.0; there = found.1; said = found.2 }

as_plug : (jacks : List Jack) (statement : Statement) → Contains (map Plug jacks) statement → IsPlugStatement jacks statement
as_plug jacks statement has =
    let found = contains_unmapped Plug jacks statement has in
    record { jack = found.0; there = found.1; said = found.2 }

as_wire : (wires : List (Hub × Hub)) (statement : Statement) → Contains (map wire_statement wires ++ []) statement
    → IsWireStatement wires statement
as_wire wires statement has =
    elim (Contains-append_cases (map wire_statement wires) [] statement has) [
      | inl h ↦
          let found = contains_unmapped wire_statement wires statement h in
          record { wire = found.0; there = found.1; said = found.2 }
      | inr h ↦ absurd (contains_none statement h)
    ]

as_other : (jacks : List Jack) (wires : List (Hub × Hub)) (statement : Statement)
    → Contains (map Plug jacks ++ (map wire_statement wires ++ [])) statement
    → IsPlugStatement jacks statement ⊎ IsWireStatement wires statement
as_other jacks wires statement has =
    elim (Contains-append_cases (map Plug jacks) (map wire_statement wires ++ []) statement has)
    [ inl h ↦ inl (as_plug jacks statement h) | inr h ↦ inr (as_wire wires statement h) ]

as_one : (stops : List (ℕ × ℕ)) (jacks : List Jack) (wires : List (Hub × Hub)) (statement : Statement)
    → Contains (statements_of stops jacks wires) statement
    → IsStopStatement stops statement ⊎ (IsPlugStatement jacks statement ⊎ IsWireStatement wires statement)
as_one stops jacks wires statement has =
    elim (Contains-append_cases (map stop_statement stops) (map Plug jacks ++ (map wire_statement wires ++ [])) statement has)
    [ inl h ↦ inl (as_stop stops statement h) | inr h ↦ inr (as_other jacks wires statement h) ]

stop_no_plug : (channel line : ℕ) (jack : Jack) → Stop channel line ≡ Plug jack → ⊥
stop_no_plug channel line jack e = cc

stop_no_wire : (channel line : ℕ) (wire : Hub × Hub) → Stop channel line ≡ wire_statement wire → ⊥
stop_no_wire channel line wire e = cc

plug_no_wire : (jack : Jack) (wire : Hub × Hub) → Plug jack ≡ wire_statement wire → ⊥
plug_no_wire jack wire e = cc

abbrev AreApart : Statement → Statement → Type 0
AreApart one other = one ≢ other

said_once : (version : Version) (wiring : Wiring) (text : List ℕ) → (is : IsText version wiring text)
    → AllPairs AreApart (statements_of is.written.are.stops is.written.are.jacks is.written.are.wires)
said_once version wiring text is =
    let w : ArePartsOf version wiring is.written.parts = is.written.are in
    pairs_append AreApart (map stop_statement w.stops) (map Plug w.jacks ++ (map wire_statement w.wires ++ []))
    (pairs_mapped IsStopBefore AreApart stop_statement w.stops (distinct IsStopBefore stop_statement stops_one_way same_stop)
    w.stops_in_order)
    (pairs_append AreApart (map Plug w.jacks) (map wire_statement w.wires ++ [])
    (pairs_mapped IsJackBefore AreApart Plug w.jacks (distinct IsJackBefore Plug jacks_one_way same_jack) w.jacks_in_order)
    (pairs_append AreApart (map wire_statement w.wires) []
    (pairs_mapped (IsLineBefore version) AreApart wire_statement w.wires
    (distinct (IsLineBefore version) wire_statement (lines_one_way version) same_wire) w.wires_in_order)
    (pairs_none AreApart)
    (λ one other has also. absurd (contains_none other also)))
    (λ one other has also e.
    let plug : IsPlugStatement w.jacks one = as_plug w.jacks one has in
    let wire : IsWireStatement w.wires other = as_wire w.wires other also in
    plug_no_wire plug.jack wire.wire (sym plug.said ∙ e ∙ wire.said)))
    (λ one other has also e.
    let stop : IsStopStatement w.stops one = as_stop w.stops one has in
    elim (as_other w.jacks w.wires other also) [
      | inl plug ↦ stop_no_plug stop.stop.0 stop.stop.1 plug.jack (sym stop.said ∙ e ∙ plug.said)
      | inr wire ↦ stop_no_wire stop.stop.0 stop.stop.1 wire.wire (sym stop.said ∙ e ∙ wire.said)
    ])

-- every statement fits
all_fit : (version : Version) (wiring : Wiring) (text : List ℕ) → (is : IsText version wiring text)
    → All (λ statement. statement_fault wiring.tape.lines statement ≡ None)
    (statements_of is.written.are.stops is.written.are.jacks is.written.are.wires)
all_fit version wiring text is =
    let w : ArePartsOf version wiring is.written.parts = is.written.are in
    let fits : Statement → Type 0 = λ statement. statement_fault wiring.tape.lines statement ≡ None in
    All-append (λ statement. statement_fault wiring.tape.lines statement ≡ None) (map stop_statement w.stops)
    (map Plug w.jacks ++ (map wire_statement w.wires ++ []))
    (all_mapped (λ statement. statement_fault wiring.tape.lines statement ≡ None) stop_statement w.stops (λ stop has.
    let at : IsStop wiring.tape.lines stop.0 stop.1 = each_stop version wiring text is stop has in
    stop_fits wiring.tape.lines stop.0 stop.1 at.line_from at.line_to))
    (All-append (λ statement. statement_fault wiring.tape.lines statement ≡ None) (map Plug w.jacks)
    (map wire_statement w.wires ++ [])
    (all_mapped (λ statement. statement_fault wiring.tape.lines statement ≡ None) Plug w.jacks (λ jack has. refl))
    (All-append (λ statement. statement_fault wiring.tape.lines statement ≡ None) (map wire_statement w.wires) []
    (all_mapped (λ statement. statement_fault wiring.tape.lines statement ≡ None) wire_statement w.wires (λ wire has.
    let there : HasWire wiring wire.0 wire.1 = each_wire version wiring text is wire has in
    let lawful = is.setup.wires.leads wire.0 wire.1 there in
    wire_fits wiring.tape.lines wire.0 wire.1 lawful.0 lawful.1 (is.setup.wires.carries.alone wire.0 wire.1 there)))
    (All-nil (λ statement. statement_fault wiring.tape.lines statement ≡ None))))

-- each two statements agree
all_together : (version : Version) (wiring : Wiring) (text : List ℕ) → (is : IsText version wiring text)
    → AllPairs (λ one other. do_statements_agree one other ≡ true)
    (statements_of is.written.are.stops is.written.are.jacks is.written.are.wires)
all_together version wiring text is =
    λ i j d before within.
    agree (slice_index_or said i d) (slice_index_or said j d)
    (as_one w.stops w.jacks w.wires (slice_index_or said i d) (Contains-get_or said i d (omega (arith, before, within))))
    (as_one w.stops w.jacks w.wires (slice_index_or said j d) (Contains-get_or said j d within))
  where
    w : ArePartsOf version wiring is.written.parts
    w = is.written.are

    said : List Statement
    said = statements_of is.written.are.stops is.written.are.jacks is.written.are.wires

    named : (exit entry other next : Hub) → do_wires_agree exit entry other next ≡ true
        → do_statements_agree (wire_statement (exit, entry)) (wire_statement (other, next)) ≡ true
    named exit entry other next agrees =
        (λ i. do_hubs_agree (hub_named-own exit i) (hub_named-own entry i) (hub_named-own other i) (hub_named-own next i)) ∙ agrees

    agree : (one other : Statement)
        → IsStopStatement is.written.are.stops one ⊎ (IsPlugStatement is.written.are.jacks one ⊎ IsWireStatement is.written.are.wires one)
        → IsStopStatement is.written.are.stops other ⊎ (IsPlugStatement is.written.are.jacks other ⊎ IsWireStatement is.written.are.wires other)
        → do_statements_agree one other ≡ true
    agree one other (inl stop) its = ap (λ s. do_statements_agree s other) stop.said
    agree one other (inr (inl plug)) its = ap (λ s. do_statements_agree s other) plug.said
    agree one other (inr (inr wire)) (inl stop) =
        (λ i. do_statements_agree (wire.said i) (stop.said i))
    agree one other (inr (inr wire)) (inr (inl plug)) =
        (λ i. do_statements_agree (wire.said i) (plug.said i))
    agree one other (inr (inr wire)) (inr (inr next)) =
        (λ i. do_statements_agree (wire.said i) (next.said i))
        ∙ named wire.wire.0 wire.wire.1 next.wire.0 next.wire.1
        (is.setup.wires.carries.together wire.wire.0 wire.wire.1 next.wire.0 next.wire.1
        (each_wire version wiring text is wire.wire wire.there) (each_wire version wiring text is next.wire next.there))

-- what is said is the setup
setup_is : (version : Version) (wiring : Wiring) (text : List ℕ) → (is : IsText version wiring text)
    → IsSetupOf (form_numbers wiring.tape) (statements_of is.written.are.stops is.written.are.jacks is.written.are.wires) wiring
setup_is version wiring text is =
    let w : ArePartsOf version wiring is.written.parts = is.written.are in
    let others : List Statement = map Plug w.jacks ++ (map wire_statement w.wires ++ []) in
    record {
      lines = refl;
      first = refl;
      overflow = refl;
      stops = λ channel line. (
        λ h. Contains-append_left (map stop_statement w.stops) others (Stop channel line)
            (contains_mapped stop_statement w.stops (channel, line) ((w.all_stops channel line).0 h)),
        λ has. elim (as_one w.stops w.jacks w.wires (Stop channel line) has) [
          | inl stop ↦ stop_there wiring text is channel line stop.stop (same_stop (channel, line) stop.stop stop.said) stop.there
          | inr other ↦ elim other [
            | inl plug ↦ absurd (stop_no_plug channel line plug.jack plug.said)
            | inr wire ↦ absurd (stop_no_wire channel line wire.wire wire.said)
          ]
        ],
      );
      jacks = λ jack. (
        λ h. Contains-append_right (map stop_statement w.stops) others (Plug jack)
            (Contains-append_left (map Plug w.jacks) (map wire_statement w.wires ++ []) (Plug jack)
            (contains_mapped Plug w.jacks jack ((w.all_jacks jack).0 h))),
        λ has. elim (as_one w.stops w.jacks w.wires (Plug jack) has) [
          | inl stop ↦ absurd (stop_no_plug stop.stop.0 stop.stop.1 jack (sym stop.said))
          | inr other ↦ elim other [
            | inl plug ↦ jack_there wiring text is jack plug.jack (same_jack jack plug.jack plug.said) plug.there
            | inr wire ↦ absurd (plug_no_wire jack wire.wire wire.said)
          ]
        ],
      );
      wires = λ exit entry. (
        λ h. Contains-append_right (map stop_statement w.stops) others (Wire (name_of exit) (name_of entry))
            (Contains-append_right (map Plug w.jacks) (map wire_statement w.wires ++ []) (Wire (name_of exit) (name_of entry))
            (Contains-append_left (map wire_statement w.wires) [] (Wire (name_of exit) (name_of entry))
            (contains_mapped wire_statement w.wires (exit, entry) ((w.all_wires exit entry).0 h)))),
        λ has. elim (as_one w.stops w.jacks w.wires (Wire (name_of exit) (name_of entry)) has) [
          | inl stop ↦ absurd (stop_no_wire stop.stop.0 stop.stop.1 (exit, entry) (sym stop.said))
          | inr other ↦ elim other [
            | inl plug ↦ absurd (plug_no_wire plug.jack (exit, entry) (sym plug.said))
            | inr wire ↦ wire_there wiring text is exit entry wire.wire (same_wire (exit, entry) wire.wire wire.said)
                wire.there
          ]
        ],
      );
    }
  where
    stop_there : (wiring : Wiring) (text : List ℕ) → (is : IsText version wiring text) → (channel line : ℕ) (stop : ℕ × ℕ)
        → (channel, line) ≡ stop → Contains is.written.are.stops stop → has_stop wiring.tape channel line ≡ true
    stop_there wiring text is channel line stop e has =
        (is.written.are.all_stops channel line).1 (subst (λ (s : ℕ × ℕ). Contains is.written.are.stops s) (sym e) has)

    jack_there : (wiring : Wiring) (text : List ℕ) → (is : IsText version wiring text) → (jack other : Jack) → jack ≡ other
        → Contains is.written.are.jacks other → HasJack wiring jack
    jack_there wiring text is jack other e has =
        (is.written.are.all_jacks jack).1 (subst (λ (j : Jack). Contains is.written.are.jacks j) (sym e) has)

    wire_there : (wiring : Wiring) (text : List ℕ) → (is : IsText version wiring text) → (exit entry : Hub) (wire : Hub × Hub)
        → (exit, entry) ≡ wire → Contains is.written.are.wires wire → HasWire wiring exit entry
    wire_there wiring text is exit entry wire e has =
        (is.written.are.all_wires exit entry).1 (subst (λ (w : Hub × Hub). Contains is.written.are.wires w) (sym e) has)

-- What is written of a setup in a version reads as that setup.
pub read_back : (version : Version) (wiring : Wiring) (text : List ℕ) → IsSetup wiring → IsWrittenIn version wiring text → ReadsAs text wiring
read_back version wiring text setup written =
    let is : IsText version wiring text = record { setup = setup; written = written } in
    record {
      form = form_numbers wiring.tape;
      statements = statements_of written.are.stops written.are.jacks written.are.wires;
      chart = record {
        reads = record {
          size = not_large version wiring text is;
          version = version;
          first = title_line version;
          second = form_line wiring.tape;
          others = lines_after version written.are.stops written.are.jacks written.are.wires;
          lines = text_lines version wiring text is;
          begun = (first_written version).divided;
          formed = form_is wiring.tape setup.form.formed;
          said = text_said version wiring text is;
        };
        formed = setup.form.formed;
        once = said_once version wiring text is;
        fit = all_fit version wiring text is;
        together = all_together version wiring text is;
      };
      setup = setup_is version wiring text is;
    }

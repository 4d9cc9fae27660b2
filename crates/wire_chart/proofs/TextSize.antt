-- A text that is written is not too large.
use Rattle.std.proofs.Common.{◌≡◌, ◌==◌, ◌⊎◌, ◌∙◌, refl, Bool, true, false, None, inl, inr, ℕ, ◌+◌, ◌*◌, ◌<◌, ◌≤◌, List, [], ◌∷◌, ◌++◌, length, Some, sym, ap, subst, arith, length-append, codes, slice_index_or}
use Rattle.std.specs.Prelude.{map}
use Rattle.std.specs.List.{All, Contains}
use Rattle.std.proofs.lemmas.List.{length-map}
use Rattle.std.proofs.lemmas.List.Elements.{All-append, All-cons, All-nil}
use Rattle.card_code.specs.Lines.{lines_of}
use Rattle.hubs.specs.Hubs.{carry_into, carry_out_of, number_of}
use Rattle.hubs.specs.Carries.{are_alike, do_groups_agree, do_wires_agree, is_one_group}
use Rattle.hubs.proofs.SetupsWords.CarryWires.{one-same}
use Rattle.std.proofs.lemmas.Bool.{and_from, and_parts, eq-eqb, false≢true}
use Rattle.std.proofs.lemmas.Option.{none-some, same_Some}
use Rattle.hubs.specs.Jacks.{jack_place}
use Rattle.hubs.specs.SetupsWords.Tapes.{IsStop}
use Rattle.hubs.specs.SetupsWords.Wiring.{Wiring, HasWire}
use Rattle.hubs.specs.declared.hub.Group.{Group}
use Rattle.hubs.specs.declared.hub.Hub.{Hub}
use Rattle.hubs.specs.declared.jack.Jack.{Jack}
use Rattle.wiring_text.specs.WiringText.{IsTooLarge}
use Rattle.hubs.specs.SetupsWords.Wires.{IsHubBefore}
use Rattle.wire_chart.specs.WrittenText.{ArePartsOf, carry_form, form_place, title_line, wire_form, form_line, stop_line, jack_line, wire_line, IsStopBefore, IsJackBefore, IsLineBefore}
use Rattle.wiring_text.specs.declared.statement.Statement.TheVariants.{Plug}
use Rattle.wire_chart.proofs.HubRanges.{exit_number, entry_number}
use Rattle.wire_chart.proofs.JackGains.{place_within}
use Rattle.wire_chart.proofs.Ordered.{few_by_key}
use Rattle.wire_chart.proofs.WrittenSaid.{entry_is, jack_said}
use Rattle.std.specs.Prelude.{unwrap_or}
use Rattle.std.proofs.Common.{Option}
use Rattle.wire_chart.proofs.WrittenLines.{IsText, stop_statement, wire_statement, lines_short, each_stop, stops_said, each_jack, each_wire, wires_said}
use Rattle.wire_chart.proofs.TextLines.{form_written, first_written, end_written, lines_after, text_lines}
use Rattle.wiring_text.specs.declared.statement.Version.{Version}
use Rattle.wiring_text.specs.declared.statement.Version.TheVariants.{First, Second}
use Rattle.wire_chart.specs.declared.form.WireForm.{WireForm}
use Rattle.wire_chart.specs.declared.form.WireForm.TheVariants.{Ring, Couple, Plain}

-- how many stops, jacks and wires there are at most
stops_few : (version : Version) (wiring : Wiring) (text : List ℕ) → (is : IsText version wiring text) → length is.written.are.stops ≤ 2400
stops_few version wiring text is =
    few_by_key IsStopBefore (λ (stop : ℕ × ℕ). 200 * stop.0 + stop.1) 2400 is.written.are.stops
    (λ stop has.
    let at : IsStop wiring.tape.lines stop.0 stop.1 = each_stop version wiring text is stop has in
    let to : wiring.tape.lines ≤ 144 = is.setup.form.formed.lines_to in
    omega (arith, at.channel_to, at.line_to))
    (λ one other has also before.
    let at : IsStop wiring.tape.lines one.0 one.1 = each_stop version wiring text is one has in
    let to : wiring.tape.lines ≤ 144 = is.setup.form.formed.lines_to in
    elim before [ inl h ↦ omega (arith, at.line_to) | inr h ↦ omega (arith, h.0, h.1) ])
    is.written.are.stops_in_order

jacks_few : (version : Version) (wiring : Wiring) (text : List ℕ) → (is : IsText version wiring text) → length is.written.are.jacks ≤ 368
jacks_few version wiring text is =
    few_by_key IsJackBefore jack_place 368 is.written.are.jacks
    (λ jack has. place_within jack (each_jack version wiring text is jack has))
    (λ one other has also before. before)
    is.written.are.jacks_in_order

abbrev hub_key : Hub → ℕ
hub_key hub = unwrap_or (number_of hub) 0

key_is : (hub : Hub) (n : ℕ) → number_of hub ≡ Some n → hub_key hub ≡ n
key_is hub n e = ap (λ (o : Option ℕ). unwrap_or o 0) e

before_keys : (one other : Hub) → IsHubBefore one other → hub_key one < hub_key other
before_keys one other h =
    let e : hub_key one ≡ h.number = key_is one h.number h.numbered in
    let f : hub_key other ≡ h.other_number = key_is other h.other_number h.other_numbered in
    let below : h.number < h.other_number = h.before in
    subst (λ (n : ℕ). n < hub_key other) (sym e) (subst (λ (n : ℕ). h.number < n) (sym f) below)

record HasKeys (wire : Hub × Hub) : Type 0 where
  exit_from : 1 ≤ hub_key wire.0
  exit_to : hub_key wire.0 ≤ 1040
  entry_from : 1041 ≤ hub_key wire.1
  entry_to : hub_key wire.1 ≤ 1936

wire_keys : (version : Version) (wiring : Wiring) (text : List ℕ) → (is : IsText version wiring text) → (wire : Hub × Hub) → Contains is.written.are.wires wire
    → HasKeys wire
wire_keys version wiring text is wire has =
    let there : HasWire wiring wire.0 wire.1 = each_wire version wiring text is wire has in
    let lawful = is.setup.wires.leads wire.0 wire.1 there in
    let exit = exit_number wire.0 there.number there.numbered lawful.0 in
    let entry = entry_number wire.1 there.to there.entry_numbered lawful.1 in
    let e = sym (key_is wire.0 there.number there.numbered) in
    let f = sym (key_is wire.1 there.to there.entry_numbered) in
    record {
      exit_from = subst (λ (n : ℕ). 1 ≤ n) e exit.0;
      exit_to = subst (λ (n : ℕ). n ≤ 1040) e exit.1;
      entry_from = subst (λ (n : ℕ). 1041 ≤ n) f entry.0;
      entry_to = subst (λ (n : ℕ). n ≤ 1936) f entry.1;
    }

pair_below : (a b c d : ℕ) → a < c → b ≤ 1936 → 1041 ≤ d → 896 * a + b < 896 * c + d
pair_below a b c d h k l = omega arith

pair_same : (a b c d : ℕ) → a ≡ c → b < d → 896 * a + b < 896 * c + d
pair_same a b c d h k = omega arith

key_under : (a b : ℕ) → a ≤ 1040 → b ≤ 1936 → 896 * a + b < 933777
key_under a b h k = omega arith

-- A key for each wire's line: a carry exit leads to one entry at most, so that its number is enough.
abbrev key_by : WireForm → ℕ → ℕ → ℕ
key_by Ring exit entry = exit
key_by Couple exit entry = 2000 + exit
key_by Plain exit entry = 4000 + (896 * exit + entry)

abbrev wire_key : Version → Hub × Hub → ℕ
wire_key version wire = key_by (wire_form version wire) (hub_key wire.0) (hub_key wire.1)

key_low : (form : WireForm) (a b : ℕ) → a ≤ 1040 → b ≤ 1936 → key_by form a b < 937777
key_low Ring a b h k = omega arith
key_low Couple a b h k = omega arith
key_low Plain a b h k = omega arith

-- keys of two forms
forms_rise : (form next : WireForm) (a b c d : ℕ) → form_place form < form_place next → a ≤ 1040 → b ≤ 1936
    → key_by form a b < key_by next c d
forms_rise Ring Couple a b c d h k l = omega arith
forms_rise Ring Plain a b c d h k l = omega arith
forms_rise Couple Plain a b c d h k l = omega arith
forms_rise Ring Ring a b c d h k l = absurd (omega (arith, h))
forms_rise Couple Couple a b c d h k l = absurd (omega (arith, h))
forms_rise Couple Ring a b c d h k l = absurd (omega (arith, h))
forms_rise Plain Ring a b c d h k l = absurd (omega (arith, h))
forms_rise Plain Couple a b c d h k l = absurd (omega (arith, h))
forms_rise Plain Plain a b c d h k l = absurd (omega (arith, h))

-- keys of two exits
exits_rise : (form : WireForm) (a b c d : ℕ) → a < c → b ≤ 1936 → 1041 ≤ d → key_by form a b < key_by form c d
exits_rise Ring a b c d h k l = h
exits_rise Couple a b c d h k l = omega (arith, h)
exits_rise Plain a b c d h k l = omega (arith, pair_below a b c d h k l)

-- keys of two entries of an exit, which no carry exit has
entries_rise : (form : WireForm) (a b c d : ℕ) → form ≡ Plain → a ≡ c → b < d → key_by form a b < key_by form c d
entries_rise form a b c d plain h k =
    subst (λ (f : WireForm). key_by f a b < key_by f c d) (sym plain) (by a b c d h k)
  where
    by : (a b c d : ℕ) → a ≡ c → b < d → 4000 + (896 * a + b) < 4000 + (896 * c + d)
    by a b c d h k = omega (arith, pair_same a b c d h k)

-- a carry exit leads to one entry
one_entry : (from to other next : Option Group) → do_groups_agree from to other next ≡ true → from ≡ other
    → carry_form from to ≡ carry_form other next → (carry_form from to ≡ Plain) ⊎ (to ≡ next)
one_entry None to other next agrees same form = inl refl
one_entry (Some g) None other next agrees same form = inl refl
one_entry (Some g) (Some h) None next agrees same form = absurd (none-some g (sym same))
one_entry (Some g) (Some h) (Some j) None agrees same form = inl form
one_entry (Some g) (Some h) (Some j) (Some k) agrees same form =
    inr (ap (λ (x : Group). let o : Option Group = Some x in o) (one-same h k
    (alike (is_one_group g j) (is_one_group h k) (one_is g j (same_Some g j same))
    (and_parts (are_alike (is_one_group g j) (is_one_group h k)) (are_alike (is_one_group h j) (is_one_group g k)) agrees).0)))
  where
    alike : (b c : Bool) → b ≡ true → are_alike b c ≡ true → c ≡ true
    alike true c e f = f
    alike false c e f = absurd (false≢true e)

    one_is : (one other : Group) → one ≡ other → is_one_group one other ≡ true
    one_is one other e =
        and_from (one.width == other.width) (one.number == other.number) (eq-eqb one.width other.width (ap (λ g. g.width) e))
        (eq-eqb one.number other.number (ap (λ g. g.number) e))

into_is : (entry next : Hub) (group : Group) → carry_into entry ≡ Some group → carry_into next ≡ Some group → entry ≡ next
into_is entry next group e f = entry_is entry group e ∙ sym (entry_is next group f)

same_into : (entry next : Hub) (o : Option Group) → carry_into entry ≡ o → carry_into entry ≡ carry_into next
    → (o ≡ None) ⊎ (entry ≡ next)
same_into entry next None e f = inl refl
same_into entry next (Some group) e f = inr (into_is entry next group e (sym f ∙ e))

plain_to : (from to : Option Group) → to ≡ None → carry_form from to ≡ Plain
plain_to from None e = by from
  where
    by : (from : Option Group) → carry_form from None ≡ Plain
    by None = refl
    by (Some g) = refl
plain_to from (Some h) e = absurd (none-some h (sym e))

-- so two wires of one exit, whose lines have one form, are no carry's
plain_twice : (version : Version) (exit other entry next : Hub) → exit ≡ other → do_wires_agree exit entry other next ≡ true
    → wire_form version (exit, entry) ≡ wire_form version (other, next) → (entry ≡ next → ⊥)
    → wire_form version (exit, entry) ≡ Plain
plain_twice First exit other entry next same agrees form apart = refl
plain_twice Second exit other entry next same agrees form apart =
    elim (one_entry (carry_out_of exit) (carry_into entry) (carry_out_of other) (carry_into next) agrees (ap carry_out_of same) form) [
      | inl plain ↦ plain
      | inr into ↦ elim (same_into entry next (carry_into entry) refl into) [
        | inl none ↦ plain_to (carry_out_of exit) (carry_into entry) none
        | inr one ↦ absurd (apart one)
      ]
    ]

hub_apart : (one other : Hub) → IsHubBefore one other → one ≡ other → ⊥
hub_apart one other before same =
    let below : hub_key one < hub_key other = before_keys one other before in
    omega (arith, below, ap (λ (hub : Hub). hub_key hub) same)

wires_few : (version : Version) (wiring : Wiring) (text : List ℕ) → (is : IsText version wiring text)
    → length is.written.are.wires ≤ 937777
wires_few version wiring text is =
    few_by_key (IsLineBefore version) (wire_key version) 937777 is.written.are.wires
    (λ wire has.
    let keys : HasKeys wire = wire_keys version wiring text is wire has in
    key_low (wire_form version wire) (hub_key wire.0) (hub_key wire.1) keys.exit_to keys.entry_to)
    (λ one other has also before.
    let keys : HasKeys one = wire_keys version wiring text is one has in
    let other_keys : HasKeys other = wire_keys version wiring text is other also in
    elim before [
      | inl h ↦ forms_rise (wire_form version one) (wire_form version other) (hub_key one.0) (hub_key one.1) (hub_key other.0)
          (hub_key other.1) h keys.exit_to keys.entry_to
      | inr h ↦ subst (λ (f : WireForm). wire_key version one < key_by f (hub_key other.0) (hub_key other.1)) h.0
          (elim h.1 [
            | inl exits ↦ exits_rise (wire_form version one) (hub_key one.0) (hub_key one.1) (hub_key other.0) (hub_key other.1)
                (before_keys one.0 other.0 exits) keys.entry_to other_keys.entry_from
            | inr entries ↦ entries_rise (wire_form version one) (hub_key one.0) (hub_key one.1) (hub_key other.0) (hub_key other.1)
                (plain_twice version one.0 other.0 one.1 other.1 entries.0
                (is.setup.wires.carries.together one.0 one.1 other.0 other.1 (each_wire version wiring text is one has)
                (each_wire version wiring text is other also))
                h.0 (hub_apart one.1 other.1 entries.1))
                (ap (λ (hub : Hub). hub_key hub) entries.0) (before_keys one.1 other.1 entries.1)
          ])
    ])
    is.written.are.wires_in_order

-- the text is not too large
no_more : (lines : List (List ℕ)) → length lines ≤ 1000000 → All (λ line. length line ≤ 60) lines → IsTooLarge lines → ⊥
no_more lines few short (inl h) = omega (arith, few, h)
no_more lines few short (inr h) =
    let at : length (slice_index_or lines h.0 h.1) ≤ 60 = short h.0 h.1 h.2 in
    let same : length (slice_index_or lines h.0 h.1) ≡ length h.1 = ap length h.3 in
    omega (arith, at, same, h.4)

text_short : (version : Version) (wiring : Wiring) (text : List ℕ) → (is : IsText version wiring text) → All (λ line. length line ≤ 60)
    (title_line version ∷ form_line wiring.tape ∷ lines_after version is.written.are.stops is.written.are.jacks is.written.are.wires)
text_short version wiring text is =
    let w : ArePartsOf version wiring is.written.parts = is.written.are in
    let last : List (List ℕ) = codes "END" ∷ [] in
    All-cons (λ line. length line ≤ 60) (title_line version)
    (form_line wiring.tape ∷ lines_after version w.stops w.jacks w.wires) (first_written version).short
    (All-cons (λ line. length line ≤ 60) (form_line wiring.tape) (lines_after version w.stops w.jacks w.wires)
    (form_written wiring.tape is.setup.form.formed).short
    (All-append (λ line. length line ≤ 60) (map stop_line w.stops) (map jack_line w.jacks ++ (map (wire_line version) w.wires ++ last))
    (lines_short version stop_line stop_statement w.stops (stops_said version wiring text is))
    (All-append (λ line. length line ≤ 60) (map jack_line w.jacks) (map (wire_line version) w.wires ++ last)
    (lines_short version jack_line Plug w.jacks (λ jack has. jack_said version jack (each_jack version wiring text is jack has)))
    (All-append (λ line. length line ≤ 60) (map (wire_line version) w.wires) last
    (lines_short version (wire_line version) wire_statement w.wires (wires_said version wiring text is))
    (All-cons (λ line. length line ≤ 60) (codes "END") [] end_written.short (All-nil (λ line. length line ≤ 60)))))))

after_length : (version : Version) (stops : List (ℕ × ℕ)) (jacks : List Jack) (wires : List (Hub × Hub))
    → length (lines_after version stops jacks wires) ≡ length stops + length jacks + length wires + 1
after_length version stops jacks wires =
    omega (
      arith,
      length-append (map stop_line stops) (map jack_line jacks ++ (map (wire_line version) wires ++ (codes "END" ∷ []))),
      length-append (map jack_line jacks) (map (wire_line version) wires ++ (codes "END" ∷ [])),
      length-append (map (wire_line version) wires) (codes "END" ∷ []),
      length-map stops stop_line,
      length-map jacks jack_line,
      length-map wires (wire_line version),
    )

pub not_large : (version : Version) (wiring : Wiring) (text : List ℕ) → (is : IsText version wiring text) → IsTooLarge (lines_of text) → ⊥
not_large version wiring text is large =
    let lines : List (List ℕ) =
    title_line version ∷ form_line wiring.tape ∷ lines_after version is.written.are.stops is.written.are.jacks is.written.are.wires in
    no_more lines
    (few (length is.written.are.stops) (length is.written.are.jacks) (length is.written.are.wires)
    (lines_after version is.written.are.stops is.written.are.jacks is.written.are.wires)
    (after_length version is.written.are.stops is.written.are.jacks is.written.are.wires)
    (stops_few version wiring text is) (jacks_few version wiring text is) (wires_few version wiring text is))
    (text_short version wiring text is)
    (subst (λ (ls : List (List ℕ)). IsTooLarge ls) (text_lines version wiring text is) large)
  where
    few : (a b c : ℕ) (lines : List (List ℕ)) → length lines ≡ a + b + c + 1 → a ≤ 2400 → b ≤ 368 → c ≤ 937777
        → length (title_line version ∷ form_line wiring.tape ∷ lines) ≤ 1000000
    few a b c lines e h k l = omega (arith, e, h, k, l)

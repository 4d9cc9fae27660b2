-- What written lines say.
use Rattle.std.proofs.Common.{◌≡◌, ◌≢◌, ◌==◌, ◌&&◌, ◌||◌, not, cond, Bool, false, ℕ, ◌<◌, ◌≤◌, List, [], ◌∷◌, ◌++◌, length, true, Option, Some, None, refl, sym, ap, ◌∙◌, subst, arith, leb, append-nil, append_assoc, codes, decimal}
use Rattle.std.specs.List.{list_all, AllByRecursion}
use Rattle.std.proofs.lemmas.Bool.{and_parts, both_ways, eq-eqb, eqb-true, false≢true, leb-true, le-leb, and_from}
use Rattle.std.proofs.lemmas.Option.{none-some, same_Some}
use Rattle.hubs.specs.Hubs.{carry_into, carry_out_of, letters_of, number_of, numbers_of, is_exit_hub, is_entry_hub}
use Rattle.hubs.specs.Carries.{is_one_group, keeps_carry, may_carry}
use Rattle.hubs.specs.Jacks.{is_jack_in_range}
use Rattle.hubs.specs.HubTable.Ranges.{is_within}
use Rattle.hubs.specs.declared.hub.Group.{Group}
use Rattle.hubs.specs.declared.hub.Hub.{Hub}
use Rattle.hubs.specs.declared.hub.Hub.TheVariants.{CI, CO}
use Rattle.hubs.proofs.SetupsWords.CarryWires.{one-same}
use Rattle.wire_chart.proofs.RowLemmas.{AreSmall, numbered_small}
use Rattle.hubs.specs.declared.jack.Jack.{Jack}
use Rattle.hubs.specs.declared.jack.Jack.TheVariants as jacks
use Rattle.hubs.proofs.HubLemmas.{hub_named-own}
use Rattle.chart_lines.specs.TokensWords.Number.{IsNumberTo}
use Rattle.wiring_text.specs.HubNames.{carry_entry, carry_exit, name_of, hub_of, is_carry}
use Rattle.wiring_text.specs.Statements.{SaysJack, list, total, head, link, suppress, symbol, Says, stop, plug, wire, ring, couple, may_be_wired, wire_fault, statement_fault}
use Rattle.wiring_text.specs.WiringText.{SaysLine}
use Rattle.hubs.specs.HubText.{group_text, hub_text}
use Rattle.wire_chart.specs.WrittenText.{spaced, stop_line, jack_line, carry_line, couple_line, plain_line, ring_line, wire_line}
use Rattle.wiring_text.specs.declared.statement.Statement.{Statement}
use Rattle.wiring_text.specs.declared.statement.Statement.TheVariants.{Stop, Plug, Wire}
use Rattle.wire_chart.proofs.WrittenBytes.{IsWord, IsWrittenLine, words_line, line_of_words, is_inner}
use Rattle.wire_chart.proofs.WrittenWords.{group_word, group_written, number_written, number_word, hub_written, hub_word}
use Rattle.wiring_text.proofs.WiringReader.SetupSteps.{lawful_fits}
use Rattle.wiring_text.specs.declared.statement.Version.{Version}
use Rattle.wiring_text.specs.declared.statement.Version.TheVariants.{First, Second}

-- a line that says something, with good bytes and of good length
pub record IsSaidLine (version : Version) (line : List ℕ) (statement : Statement) : Type 0 where
  pub said : SaysLine version line statement
  pub inner : list_all is_inner line ≡ true
  pub short : length line ≤ 60

-- a word and two others, as they are written
pub two_words : (word a b : List ℕ) → word ++ spaced a ++ spaced b ≡ word ++ words_line (a ∷ b ∷ [])
two_words word a b =
    append_assoc word (32 ∷ a) (32 ∷ b) ∙ ap (λ (l : List ℕ). word ++ (32 ∷ (a ++ (32 ∷ l)))) (sym (append-nil b))

said_line : (version : Version) (line : List ℕ) (word : List ℕ) (words : List (List ℕ)) (statement : Statement)
    → line ≡ word ++ words_line words → IsWord word → length word ≤ 9 → AllByRecursion IsWord words → length words ≤ 3
    → Says version (word ∷ words) statement → IsSaidLine version line statement
said_line version line word words statement e is few are three says =
    let written : IsWrittenLine line (word ∷ words) =
    subst (λ (l : List ℕ). IsWrittenLine l (word ∷ words)) (sym e) (line_of_words word words is few are three) in
    record {
      said = record { tokens = word ∷ words; divided = written.divided; said = says };
      inner = written.inner;
      short = written.short;
    }

-- a stop
pub stop_said : (version : Version) (channel line : ℕ) → 2 ≤ channel → channel ≤ 11 → line < 1000
    → IsSaidLine version (stop_line (channel, line)) (Stop channel line)
stop_said version channel line from to small =
    said_line version (stop_line (channel, line)) (codes "STOP") (decimal channel ∷ decimal line ∷ []) (Stop channel line)
    (two_words (codes "STOP") (decimal channel) (decimal line))
    (record { some = omega arith; few = omega arith; high = refl }) (omega arith)
    (number_word channel (omega arith), (number_word line small, tt)) (omega arith)
    (stop (record { spelled = number_written channel (omega arith); least = omega arith; most = to }) from
    (number_written line small))

-- a number that is tested to be in a range
in_range : (n last : ℕ) → last < 1000 → is_within n last ≡ true → IsNumberTo last (decimal n) n
in_range n last small h =
    let parts = and_parts (leb 1 n) (leb n last) h in
    let least : 1 ≤ n = leb-true 1 n parts.0 in
    let most : n ≤ last = leb-true n last parts.1 in
    record { spelled = number_written n (omega arith); least = least; most = most }

-- a jack that bears a number
numbered_said : (version : Version) (word : List ℕ) (n last : ℕ) (jack : Jack) → last < 1000 → IsWord word → is_within n last ≡ true
    → SaysJack (word ∷ decimal n ∷ []) jack
    → IsSaidLine version (codes "JACK" ++ spaced (word ++ spaced (decimal n))) (Plug jack)
numbered_said version word n last jack small is h says_it =
    let number : IsNumberTo last (decimal n) n = in_range n last small h in
    said_line version (codes "JACK" ++ spaced (word ++ spaced (decimal n))) (codes "JACK") (word ∷ decimal n ∷ []) (Plug jack)
    (two_words (codes "JACK") word (decimal n))
    (record { some = omega arith; few = omega arith; high = refl }) (omega arith)
    (is, (number_word n (omega (arith, number.most)), tt)) (omega arith)
    (plug says_it)

pub jack_said : (version : Version) (jack : Jack) → is_jack_in_range jack ≡ true → IsSaidLine version (jack_line jack) (Plug jack)
jack_said version jacks.List h =
    said_line version (jack_line jacks.List) (codes "JACK") (codes "LIST" ∷ []) (Plug jacks.List) refl
    (record { some = omega arith; few = omega arith; high = refl }) (omega arith)
    (record { some = omega arith; few = omega arith; high = refl }, tt) (omega arith)
    (plug list)
jack_said version (jacks.Total level) h =
    numbered_said version (codes "TOTAL") level 4 (jacks.Total level) (omega arith)
    (record { some = omega arith; few = omega arith; high = refl }) h
    (total (in_range level 4 (omega arith) h))
jack_said version (jacks.Head heading) h =
    numbered_said version (codes "HEAD") heading 3 (jacks.Head heading) (omega arith)
    (record { some = omega arith; few = omega arith; high = refl }) h
    (head (in_range heading 3 (omega arith) h))
jack_said version (jacks.Link wheel) h =
    numbered_said version (codes "LINK") wheel 120 (jacks.Link wheel) (omega arith)
    (record { some = omega arith; few = omega arith; high = refl }) h
    (link (in_range wheel 120 (omega arith) h))
jack_said version (jacks.Suppress wheel) h =
    numbered_said version (codes "SUPPRESS") wheel 120 (jacks.Suppress wheel) (omega arith)
    (record { some = omega arith; few = omega arith; high = refl }) h
    (suppress (in_range wheel 120 (omega arith) h))
jack_said version (jacks.Symbol wheel) h =
    numbered_said version (codes "SYMBOL") wheel 120 (jacks.Symbol wheel) (omega arith)
    (record { some = omega arith; few = omega arith; high = refl }) h
    (symbol (in_range wheel 120 (omega arith) h))

-- a wire that is written as WIRE
plain_said : (version : Version) (exit entry : Hub) (from to : ℕ) → number_of exit ≡ Some from → number_of entry ≡ Some to
    → may_be_wired version (name_of exit) (name_of entry) ≡ true
    → IsSaidLine version (plain_line (exit, entry)) (Wire (name_of exit) (name_of entry))
plain_said version exit entry from to e f may =
    said_line version (plain_line (exit, entry)) (codes "WIRE") (hub_text exit ∷ hub_text entry ∷ [])
    (Wire (name_of exit) (name_of entry))
    (two_words (codes "WIRE") (hub_text exit) (hub_text entry))
    (record { some = omega arith; few = omega arith; high = refl }) (omega arith)
    (hub_word exit from e, (hub_word entry to f, tt)) (omega arith)
    (wire (hub_written exit from e) (hub_written entry to f) may)

-- a word and another one, as they are written
one_word : (word a : List ℕ) → word ++ spaced a ≡ word ++ words_line (a ∷ [])
one_word word a = ap (λ (l : List ℕ). word ++ (32 ∷ l)) (sym (append-nil a))

-- a ring
ring_said : (group : Group) → group.width < 1000 → group.number < 1000
    → IsSaidLine Second (ring_line group) (Wire (name_of (CO group)) (name_of (CI group)))
ring_said group wide numbered =
    said_line Second (ring_line group) (codes "RING") (group_text group ∷ []) (Wire (name_of (CO group)) (name_of (CI group)))
    (one_word (codes "RING") (group_text group))
    (record { some = omega arith; few = omega arith; high = refl }) (omega arith)
    (group_word group wide numbered, tt) (omega arith)
    (ring refl (group_written group wide numbered))

-- two groups of 8 positions that are coupled
couple_said : (from to : Group) → from.width ≡ 8 → to.width ≡ 8 → from.number < 1000 → to.number < 1000 → from.number ≢ to.number
    → IsSaidLine Second (couple_line from to) (Wire (name_of (CO from)) (name_of (CI to)))
couple_said from to wide also small few other =
    said_line Second (couple_line from to) (codes "COUPLE") (decimal from.number ∷ decimal to.number ∷ [])
    (Wire (name_of (CO from)) (name_of (CI to)))
    (two_words (codes "COUPLE") (decimal from.number) (decimal to.number))
    (record { some = omega arith; few = omega arith; high = refl }) (omega arith)
    (number_word from.number small, (number_word to.number few, tt)) (omega arith)
    (subst (λ (w : ℕ). Says Second words (Wire (carry_exit w from.number) (carry_entry to.width to.number))) (sym wide)
    (subst (λ (w : ℕ). Says Second words (Wire (carry_exit 8 from.number) (carry_entry w to.number))) (sym also)
    (couple refl (number_written from.number small) (number_written to.number few) other)))
  where
    words : List (List ℕ)
    words = codes "COUPLE" ∷ decimal from.number ∷ decimal to.number ∷ []

-- a carry wire
carry_said : (from to : Group) → from.width < 1000 → from.number < 1000 → to.number < 1000 → may_carry (Some from) (Some to) ≡ true
    → IsSaidLine Second (carry_line (Some from) (Some to) (CO from, CI to)) (Wire (name_of (CO from)) (name_of (CI to)))
carry_said from to wide small few may = by (is_one_group from to) refl
  where
    eights : (from.width == 8) && (to.width == 8) ≡ true → (from.width ≡ 8) × (to.width ≡ 8)
    eights e =
        let both = and_parts (from.width == 8) (to.width == 8) e in
        (eqb-true from.width 8 both.0, eqb-true to.width 8 both.1)

    by : (one : Bool) → is_one_group from to ≡ one
        → IsSaidLine Second (cond one (ring_line from) (couple_line from to)) (Wire (name_of (CO from)) (name_of (CI to)))
    by true e =
        subst (λ (g : Group). IsSaidLine Second (ring_line from) (Wire (name_of (CO from)) (name_of (CI g)))) (one-same from to e)
        (ring_said from wide small)
    by false e =
        let wides = eights (ap (λ b. b || ((from.width == 8) && (to.width == 8))) (sym e) ∙ may) in
        couple_said from to wides.0 wides.1 small few
        (λ same. both_ways (is_one_group from to) e
        (and_from (from.width == to.width) (from.number == to.number) (eq-eqb from.width to.width (wides.0 ∙ sym wides.1))
        (eq-eqb from.number to.number same)))

-- the letters of hubs that are no carry's
plain_exit : (hub : Hub) → is_exit_hub hub ≡ true → carry_out_of hub ≡ None → is_carry (letters_of hub) ≡ false
plain_exit (CO group) exit none = absurd (none-some group (sym none))
plain_exit (CI group) exit none = absurd (false≢true exit)
plain_exit other exit none = refl

plain_entry : (hub : Hub) → is_entry_hub hub ≡ true → carry_into hub ≡ None → is_carry (letters_of hub) ≡ false
plain_entry (CI group) entry none = absurd (none-some group (sym none))
plain_entry (CO group) entry none = absurd (false≢true entry)
plain_entry other entry none = refl

exit_is : (hub : Hub) (group : Group) → carry_out_of hub ≡ Some group → hub ≡ CO group
exit_is (CO own) group e = ap CO (same_Some own group e)
exit_is other group e = absurd (none-some group e)

pub entry_is : (hub : Hub) (group : Group) → carry_into hub ≡ Some group → hub ≡ CI group
entry_is (CI own) group e = ap CI (same_Some own group e)
entry_is other group e = absurd (none-some group e)

-- a wire in version 2, by the groups whose carries leave and enter
second_said : (exit entry : Hub) (from to : ℕ) (leaves enters : Option Group) → number_of exit ≡ Some from → number_of entry ≡ Some to
    → is_exit_hub exit ≡ true → is_entry_hub entry ≡ true → carry_out_of exit ≡ leaves → carry_into entry ≡ enters
    → may_carry leaves enters ≡ true
    → IsSaidLine Second (carry_line leaves enters (exit, entry)) (Wire (name_of exit) (name_of entry))
second_said exit entry from to None None e f leads also none other may =
    plain_said Second exit entry from to e f
    (λ i. not (plain_exit exit leads none i || plain_entry entry also other i))
second_said exit entry from to (Some g) (Some h) e f leads also left entered may =
    subst (λ (x : Hub). IsSaidLine Second (carry_line (Some g) (Some h) (x, entry)) (Wire (name_of x) (name_of entry)))
    (sym (exit_is exit g left))
    (subst (λ (x : Hub). IsSaidLine Second (carry_line (Some g) (Some h) (CO g, x)) (Wire (name_of (CO g)) (name_of x)))
    (sym (entry_is entry h entered))
    (carry_said g h small.0 small.1 few.1 may))
  where
    small : AreSmall (numbers_of (CO g))
    small = (numbered_small (CO g) from (ap number_of (sym (exit_is exit g left)) ∙ e)).0

    few : AreSmall (numbers_of (CI h))
    few = (numbered_small (CI h) to (ap number_of (sym (entry_is entry h entered)) ∙ f)).0
second_said exit entry from to None (Some h) e f leads also left entered may = absurd (false≢true may)
second_said exit entry from to (Some g) None e f leads also left entered may = absurd (false≢true may)

-- a wire that the panel can have, in either version
pub wire_said : (version : Version) (exit entry : Hub) (from to : ℕ) → number_of exit ≡ Some from → number_of entry ≡ Some to
    → is_exit_hub exit ≡ true → is_entry_hub entry ≡ true → keeps_carry exit entry ≡ true
    → IsSaidLine version (wire_line version (exit, entry)) (Wire (name_of exit) (name_of entry))
wire_said First exit entry from to e f leads also keeps = plain_said First exit entry from to e f refl
wire_said Second exit entry from to e f leads also keeps =
    second_said exit entry from to (carry_out_of exit) (carry_into entry) e f leads also refl refl keeps

-- nothing is wrong with a stop of the form, a jack, or a lawful wire
pub stop_fits : (lines channel line : ℕ) → 1 ≤ line → line ≤ lines → statement_fault lines (Stop channel line) ≡ None
stop_fits lines channel line from to =
    let there : is_within line lines ≡ true = and_from (leb 1 line) (leb line lines) (le-leb 1 line from) (le-leb line lines to) in
    rw there refl

pub wire_fits : (lines : ℕ) (exit entry : Hub) → is_exit_hub exit ≡ true → is_entry_hub entry ≡ true
    → keeps_carry exit entry ≡ true → statement_fault lines (Wire (name_of exit) (name_of entry)) ≡ None
wire_fits lines exit entry h k l =
    ap (λ (o : Option Hub). wire_fault o (hub_of (name_of entry))) (hub_named-own exit)
    ∙ ap (λ (o : Option Hub). wire_fault (Some exit) o) (hub_named-own entry)
    ∙ lawful_fits exit entry h k l

-- The tokens of a line say exactly what is read of them.
use Rattle.std.proofs.Common.{◌≡◌, ℕ, Bool, true, false, cond, leb, eqb, List, [], ◌∷◌, Option, Some, None, option_map, refl, ap, sym, ◌∙◌, subst, codes}
use Rattle.std.proofs.lemmas.Bool.{leb-true, le-leb, and_from, both_ways, eq-eqb, ne_eqb}
use Rattle.std.proofs.lemmas.Option.{same_Some}
use Rattle.std.specs.List.{slice_split}
use Rattle.std.specs.Str.{bytes_eq}
use Rattle.hubs.specs.declared.hub_table.shape.Numbers.{Numbers}
use Rattle.hubs.specs.declared.hub_table.shape.Numbers.TheVariants.{Two}
use Rattle.hubs.specs.Jacks.{is_jack_in_range}
use Rattle.hubs.specs.declared.jack.Jack.{Jack}
use Rattle.hubs.specs.declared.jack.Jack.TheVariants as jacks
use Rattle.chart_lines.specs.TokensWords.Number.{IsNumberTo}
use Rattle.chart_lines.specs.TokensWords.NumberReading.{number_of, number_to}
use Rattle.chart_lines.specs.TokensWords.Dividing.{tokens_of}
use Rattle.chart_lines.proofs.TokensWords.NumberGrammar.{number_is, number_read, number_to_is, number_to_read}
use Rattle.chart_lines.proofs.TokensWords.Steps.{bound, granted, refused}
use Rattle.chart_lines.proofs.TokensWords.TokenWord.{is_word}
use Rattle.chart_lines.proofs.TokensWords.TokenGrammar.{has_what_is_read, read_what_it_has, mapped}
use Rattle.wiring_text.specs.WiringReader.Reading.{carry_of, couple_of, is_point, name_spelled, numbers_spelled, ring_numbered, ring_of, numbered_jack, jack_of, stop_of, wire_of, statement_of, form_of}
use Rattle.wiring_text.specs.Statements.{SaysJack, list, total, head, link, suppress, symbol, Says, stop, plug, wire, ring, couple, may_be_wired}
use Rattle.wiring_text.specs.HubNames.{carry_entry, carry_exit}
use Rattle.wiring_text.specs.WiringReader.TextReading.{IsSayable, divided_form}
use Rattle.wiring_text.specs.WiringText.{IsFormLine}
use Rattle.wiring_text.specs.declared.statement.FormNumbers.{FormNumbers}
use Rattle.wiring_text.specs.declared.statement.Statement.{Statement}
use Rattle.wiring_text.specs.declared.statement.Statement.TheVariants.{Stop, Plug, Wire}
use Rattle.wiring_text.proofs.WiringReader.NameGrammar.{group_is, group_read, name_is, name_read}
use Rattle.wiring_text.specs.declared.statement.Version.{Version}
use Rattle.wiring_text.specs.declared.statement.Version.TheVariants.{First, Second}

-- a token that is tested for a word
word_then : {A : Type 0} (token word : List ℕ) (p q : Option A) (x : A) (P : Type 0)
    → cond (bytes_eq token word) p q ≡ Some x → (token ≡ word → p ≡ Some x → P) → (q ≡ Some x → P) → P
word_then token word p q x P read first second = by_test (bytes_eq token word) refl read
  where
    by_test : (b : Bool) → bytes_eq token word ≡ b → cond b p q ≡ Some x → P
    by_test true e r = first (is_word token word e) r
    by_test false e r = second r

-- a jack with a number
numbered : (make : ℕ → Jack) (greatest : ℕ) (word spelled token : List ℕ) (j : Jack) → word ≡ spelled
    → ((n : ℕ) → IsNumberTo greatest token n → SaysJack (spelled ∷ token ∷ []) (make n))
    → option_map make (number_to greatest token) ≡ Some j → SaysJack (word ∷ token ∷ []) j
numbered make greatest word spelled token j same says read =
    let n = mapped make (number_to greatest token) j read in
    subst (λ (w : List ℕ). SaysJack (w ∷ token ∷ []) j) (sym same)
    (subst (SaysJack (spelled ∷ token ∷ [])) n.2 (says n.0 (number_to_is greatest token n.0 n.1)))

numbered_is : (word token : List ℕ) (j : Jack) → numbered_jack word token ≡ Some j → SaysJack (word ∷ token ∷ []) j
unfolding numbered_jack
numbered_is word token j read =
    word_then word (codes "TOTAL") _ _ j (SaysJack (word ∷ token ∷ []) j) read
    (λ same. numbered jacks.Total 4 word (codes "TOTAL") token j same (λ n is. total is))
    (λ r. word_then word (codes "HEAD") _ _ j (SaysJack (word ∷ token ∷ []) j) r
    (λ same. numbered jacks.Head 3 word (codes "HEAD") token j same (λ n is. head is))
    (λ r. word_then word (codes "LINK") _ _ j (SaysJack (word ∷ token ∷ []) j) r
    (λ same. numbered jacks.Link 120 word (codes "LINK") token j same (λ n is. link is))
    (λ r. word_then word (codes "SUPPRESS") _ _ j (SaysJack (word ∷ token ∷ []) j) r
    (λ same. numbered jacks.Suppress 120 word (codes "SUPPRESS") token j same (λ n is. suppress is))
    (λ r. word_then word (codes "SYMBOL") _ _ j (SaysJack (word ∷ token ∷ []) j) r
    (λ same. numbered jacks.Symbol 120 word (codes "SYMBOL") token j same (λ n is. symbol is))
    (λ r. cc)))))

jack_is : (tokens : List (List ℕ)) (j : Jack) → jack_of tokens ≡ Some j → SaysJack tokens j
unfolding jack_of
jack_is [] j read = cc
jack_is (word ∷ []) j read =
    let test = granted (bytes_eq word (codes "LIST")) _ j read in
    subst (λ (w : List ℕ). SaysJack (w ∷ []) j) (sym (is_word word (codes "LIST") test.0))
    (subst (SaysJack (codes "LIST" ∷ [])) (same_Some jacks.List j test.1) list)
jack_is (word ∷ token ∷ []) j read = numbered_is word token j read
jack_is (word ∷ token ∷ next ∷ others) j read = cc

jack_read : {tokens : List (List ℕ)} {j : Jack} → SaysJack tokens j → jack_of tokens ≡ Some j
unfolding jack_of numbered_jack
jack_read list = refl
jack_read (total {token} {level} is) = rw (number_to_read 4 token level is) refl
jack_read (head {token} {heading} is) = rw (number_to_read 3 token heading is) refl
jack_read (link {token} {wheel} is) = rw (number_to_read 120 token wheel is) refl
jack_read (suppress {token} {wheel} is) = rw (number_to_read 120 token wheel is) refl
jack_read (symbol {token} {wheel} is) = rw (number_to_read 120 token wheel is) refl

-- a stop, and a wire
stop_is : (version : Version) (operands : List (List ℕ)) (s : Statement) → stop_of operands ≡ Some s → Says version (codes "STOP" ∷ operands) s
unfolding stop_of
stop_is version [] s read = cc
stop_is version (a ∷ []) s read = cc
stop_is version (channel ∷ line ∷ []) s read =
    let c = bound (number_to 11 channel) _ s read in
    let n = bound (number_of line) _ s c.2 in
    let test = granted (leb 2 c.0) _ s n.2 in
    subst (Says version (codes "STOP" ∷ channel ∷ line ∷ [])) (same_Some (Stop c.0 n.0) s test.1)
    (stop (number_to_is 11 channel c.0 c.1) (leb-true 2 c.0 test.0) (number_is line n.0 n.1))
stop_is version (a ∷ b ∷ c ∷ others) s read = cc

wire_is : (version : Version) (operands : List (List ℕ)) (s : Statement) → wire_of version operands ≡ Some s
    → Says version (codes "WIRE" ∷ operands) s
unfolding wire_of
wire_is version [] s read = cc
wire_is version (a ∷ []) s read = cc
wire_is version (from ∷ to ∷ []) s read =
    let exit = bound (name_spelled from) _ s read in
    let entry = bound (name_spelled to) _ s exit.2 in
    let test = granted (may_be_wired version exit.0 entry.0) _ s entry.2 in
    subst (Says version (codes "WIRE" ∷ from ∷ to ∷ [])) (same_Some (Wire exit.0 entry.0) s test.1)
    (wire (name_is from exit.0 exit.1) (name_is to entry.0 entry.1) test.0)
wire_is version (a ∷ b ∷ c ∷ others) s read = cc

-- a ring, and two groups that are coupled
ring_by : (version : Version) (group : List ℕ) (numbers : Numbers) (s : Statement) → version ≡ Second
    → numbers_spelled (slice_split is_point group) ≡ Some numbers → ring_numbered numbers ≡ Some s
    → Says version (codes "RING" ∷ group ∷ []) s
ring_by version group (Two w n) s second read made =
    subst (Says version (codes "RING" ∷ group ∷ [])) (same_Some (Wire (carry_exit w n) (carry_entry w n)) s made)
    (ring second (group_is group w n read))
ring_by version group other s second read made = cc

ring_is : (version : Version) (operands : List (List ℕ)) (s : Statement) → version ≡ Second → ring_of operands ≡ Some s
    → Says version (codes "RING" ∷ operands) s
unfolding ring_of
ring_is version [] s second read = cc
ring_is version (group ∷ []) s second read =
    let numbers = bound (numbers_spelled (slice_split is_point group)) _ s read in
    ring_by version group numbers.0 s second numbers.1 numbers.2
ring_is version (a ∷ b ∷ others) s second read = cc

couple_is : (version : Version) (operands : List (List ℕ)) (s : Statement) → version ≡ Second → couple_of operands ≡ Some s
    → Says version (codes "COUPLE" ∷ operands) s
unfolding couple_of
couple_is version [] s second read = cc
couple_is version (a ∷ []) s second read = cc
couple_is version (from ∷ to ∷ []) s second read =
    let m = bound (number_of from) _ s read in
    let n = bound (number_of to) _ s m.2 in
    let test = refused (eqb m.0 n.0) _ s n.2 in
    subst (Says version (codes "COUPLE" ∷ from ∷ to ∷ [])) (same_Some (Wire (carry_exit 8 m.0) (carry_entry 8 n.0)) s test.1)
    (couple second (number_is from m.0 m.1) (number_is to n.0 n.1) (λ e. both_ways (eqb m.0 n.0) test.0 (eq-eqb m.0 n.0 e)))
couple_is version (a ∷ b ∷ c ∷ others) s second read = cc

carry_is : (version : Version) (word : List ℕ) (operands : List (List ℕ)) (s : Statement) → carry_of version word operands ≡ Some s
    → Says version (word ∷ operands) s
unfolding carry_of
carry_is First word operands s read = cc
carry_is Second word operands s read =
    word_then word (codes "RING") _ _ s (Says Second (word ∷ operands) s) read
    (λ same r. subst (λ (w : List ℕ). Says Second (w ∷ operands) s) (sym same) (ring_is Second operands s refl r))
    (λ r. word_then word (codes "COUPLE") _ _ s (Says Second (word ∷ operands) s) r
    (λ same r. subst (λ (w : List ℕ). Says Second (w ∷ operands) s) (sym same) (couple_is Second operands s refl r))
    (λ r. cc))

-- what tokens say
pub says_is : (version : Version) (tokens : List (List ℕ)) (s : Statement) → statement_of version tokens ≡ Some s
    → Says version tokens s
unfolding statement_of
says_is version [] s read = cc
says_is version (word ∷ operands) s read =
    word_then word (codes "STOP") _ _ s (Says version (word ∷ operands) s) read
    (λ same r. subst (λ (w : List ℕ). Says version (w ∷ operands) s) (sym same) (stop_is version operands s r))
    (λ r. word_then word (codes "JACK") _ _ s (Says version (word ∷ operands) s) r
    (λ same r. subst (λ (w : List ℕ). Says version (w ∷ operands) s) (sym same)
    (let j = mapped Plug (jack_of operands) s r in
    subst (Says version (codes "JACK" ∷ operands)) j.2 (plug (jack_is operands j.0 j.1))))
    (λ r. word_then word (codes "WIRE") _ _ s (Says version (word ∷ operands) s) r
    (λ same r. subst (λ (w : List ℕ). Says version (w ∷ operands) s) (sym same) (wire_is version operands s r))
    (carry_is version word operands s)))

pub says_read : {version : Version} {tokens : List (List ℕ)} {s : Statement} → Says version tokens s
    → statement_of version tokens ≡ Some s
unfolding statement_of stop_of wire_of carry_of ring_of couple_of
says_read (stop {channel} {line} {c} {n} is from also) =
    rw (number_to_read 11 channel c is, number_read line n also, le-leb 2 c from) refl
says_read (plug {operands} {j} is) = rw (jack_read is) refl
says_read (wire {from} {to} {exit} {entry} is also plain) =
    rw (name_read from exit is, name_read to entry also, plain) refl
says_read (ring {group} {width} {n} second is) = rw (second, group_read group width n is) refl
says_read (couple {from} {to} {m} {n} second is also other) =
    rw (second, number_read from m is, number_read to n also, ne_eqb m n other) refl

-- what is said can be said: its channel or its jack is in range
jack_sayable : {tokens : List (List ℕ)} {j : Jack} → SaysJack tokens j → is_jack_in_range j ≡ true
jack_sayable list = refl
jack_sayable (total {token} {level} is) = and_from _ _ (le-leb 1 level is.least) (le-leb level 4 is.most)
jack_sayable (head {token} {heading} is) = and_from _ _ (le-leb 1 heading is.least) (le-leb heading 3 is.most)
jack_sayable (link {token} {wheel} is) = and_from _ _ (le-leb 1 wheel is.least) (le-leb wheel 120 is.most)
jack_sayable (suppress {token} {wheel} is) = and_from _ _ (le-leb 1 wheel is.least) (le-leb wheel 120 is.most)
jack_sayable (symbol {token} {wheel} is) = and_from _ _ (le-leb 1 wheel is.least) (le-leb wheel 120 is.most)

pub said_sayable : {version : Version} {tokens : List (List ℕ)} {s : Statement} → Says version tokens s → IsSayable s
said_sayable (stop is from also) = (from, is.most)
said_sayable (plug is) = jack_sayable is
said_sayable (wire is also plain) = tt
said_sayable (ring second is) = tt
said_sayable (couple second is also other) = tt

-- the form of line 2
form_tokens_is : (line : List ℕ) (tokens : List (List ℕ)) (form : FormNumbers) → tokens_of line ≡ Some tokens
    → form_of tokens ≡ Some form → IsFormLine line form
unfolding form_of
form_tokens_is line (word ∷ size ∷ top ∷ bottom ∷ []) form divided read =
    let test = granted (bytes_eq word (codes "FORM")) _ form read in
    let lines = bound (number_of size) _ form test.1 in
    let first = bound (number_of top) _ form lines.2 in
    let overflow = bound (number_of bottom) _ form first.2 in
    let is : FormNumbers = record { lines = lines.0; first = first.0; overflow = overflow.0 } in
    subst (IsFormLine line) (same_Some is form overflow.2)
    (record {
      size = size;
      top = top;
      bottom = bottom;
      divided = has_what_is_read line (codes "FORM" ∷ size ∷ top ∷ bottom ∷ [])
          (divided ∙ ap (λ w. Some (w ∷ size ∷ top ∷ bottom ∷ [])) (is_word word (codes "FORM") test.0));
      lines = number_is size lines.0 lines.1;
      first = number_is top first.0 first.1;
      overflow = number_is bottom overflow.0 overflow.1;
    })
form_tokens_is line other form divided read = cc

pub form_is : (line : List ℕ) (form : FormNumbers) → divided_form (tokens_of line) ≡ Some form → IsFormLine line form
form_is line form read = by_tokens (tokens_of line) refl read
  where
    by_tokens : (o : Option (List (List ℕ))) → tokens_of line ≡ o → divided_form o ≡ Some form → IsFormLine line form
    by_tokens None e r = cc
    by_tokens (Some tokens) e r = form_tokens_is line tokens form e r

pub form_read : (line : List ℕ) (form : FormNumbers) → IsFormLine line form → divided_form (tokens_of line) ≡ Some form
unfolding form_of
form_read line form is =
    ap divided_form (read_what_it_has is.divided)
    ∙ (rw (
      number_read is.size form.lines is.lines,
      number_read is.top form.first is.first,
      number_read is.bottom form.overflow is.overflow,
    ) refl)

-- Texts that grow piece by piece.
use Rattle.std.proofs.Common.{◌≡◌, ◌∙◌, ◌↔◌, ◌+◌, ◌||◌, arith, ap, sym, subst, refl, ℕ, Bool, true, false, IsTrue, List, [], ◌∷◌, ◌++◌, Option, Some, None, zero, suc, ◌-◌, ◌<◌, length, take, get_or, if◌then◌else◌}
use Rattle.std.proofs.lemmas.List.{append_assoc, flat_map_more, get_or_default, map-id, take_more}
use Rattle.std.proofs.lemmas.List.FromFn.{map-range_with_len_more}
use Rattle.std.specs.List.{flat_map, range_with_len}
use Rattle.std.specs.Prelude.{Err, IfSome, Ok, OnOk, Result, Vec, codes}
use Rattle.std.specs.declared.alloc.Global.{Global}
use Rattle.hubs.specs.declared.hub.Hub.{Hub}
use Rattle.hubs.specs.declared.hub.Hub.TheVariants.{RS}
use Rattle.hubs.specs.Hubs.{number_of}
use Rattle.hubs.specs.SetupsWords.Wiring.{HasWire, Wiring, is_listed, is_wired, row_at}
use Rattle.hubs.proofs.SetupsWords.WiredLemmas.{HasWire-is_wired}
use Rattle.card_code.specs.Rows.{rows}
use Rattle.counters.specs.Counters.{Counter, counter_at_start, counter_ended, digits_ended, width_of}
use Rattle.counters.specs.Numbers.{number}
use Rattle.explain_ledgers.specs.LedgersWords.LedgerText.Amounts.{digits_text}
use Rattle.explain_ledgers.specs.LedgersWords.LedgerText.Names.{cycle_text, place_text}
use Rattle.explain_ledgers.specs.LedgersWords.Accounts.{counter_at}
use Rattle.net.specs.declared.cycle.Cycle.{Cycle}
use Rattle.card_code.specs.declared.row.Row.{Row}
use Rattle.explain_origins.specs.Holes.{column_to, first_of, leads_to}
use Rattle.explain_origins.specs.Levels.{called_by_holes, called_text, is_led_from, others_lead, position_text, position_text_by, unlike_at, unlike_lines}
use Rattle.explain_origins.specs.declared.holes.Hole.{Hole}
use Rattle.explain_origins.specs.declared.holes.Station.{Station}
use Rattle.explain_origins.specs.Holders.{holder_at}
use Rattle.explain_origins.specs.Asks.{asks, page_words, wire_words}
use Rattle.explain_origins.specs.Latches.{test_line}
use Rattle.explain_origins.specs.Placing.{first_words}
use Rattle.explain_origins.specs.Storage.{led_text, line_at, lines_of}
use Rattle.explain_origins.specs.ToldOrigins.{AreHolderTexts, IsHolderText, more}
use Rattle.explain_origins.specs.declared.holders.Holder.{Holder}
use Rattle.explain_origins.specs.declared.changes.PassedCycle.{PassedCycle}

-- the piece of the next number
pub number-more : {X : Type 0} (f : ℕ → List X) (old mid new : List X) (next : ℕ) → mid ≡ old ++ flat_map f (range_with_len 0 next)
    → new ≡ mid ++ f next → new ≡ old ++ flat_map f (range_with_len 0 (next + 1))
number-more {X} f old mid new next before one =
    one ∙ ap (λ (l : List X). l ++ f next) before ∙ flat_map_more f old (range_with_len 0 next) next
    ∙ ap (λ (l : List ℕ). old ++ flat_map f l)
    (sym (sym (map-id (range_with_len 0 (next + 1))) ∙ map-range_with_len_more (λ (x : ℕ). x) 0 next next (omega arith)
    ∙ ap (λ (l : List ℕ). l ++ next ∷ []) (map-id (range_with_len 0 next))))

-- a test by the wires is the test of the set
pub is-wired : (wiring : Wiring) (exit entry : Hub) (test : Bool) → IsTrue test ↔ HasWire wiring exit entry → test ≡ is_wired wiring exit entry
is-wired wiring exit entry test decides = by test (is_wired wiring exit entry) decides (HasWire-is_wired wiring exit entry)
  where
    by : {P : Type 0} (one other : Bool) → IsTrue one ↔ P → IsTrue other ↔ P → one ≡ other
    by true true a b = refl
    by true false a b = sym (b.1 (a.0 refl))
    by false true a b = a.1 (b.0 refl)
    by false false a b = refl

-- the lines of all rows
pub lines-whole : (wiring : Wiring) (cards : List (List ℕ)) (since : PassedCycle) (unit : ℕ) (ways : List (Option (Vec Hub Global)))
    → lines_of wiring cards since unit ways ≡ flat_map (line_at wiring cards since unit ways) (range_with_len 0 12)
unfolding lines_of
lines-whole wiring cards since unit ways = refl

-- one holder more
pub one-more : (wiring : Wiring) (cards : List (List ℕ)) (passed : ℕ) (ways : List (Option (Vec Hub Global))) (place : ℕ) (holder : Holder)
    (old text new : List ℕ) → AreHolderTexts wiring cards passed ways place old → holder ≡ holder_at place
    → IsHolderText wiring cards passed ways holder text → new ≡ old ++ text → AreHolderTexts wiring cards passed ways (place + 1) new
one-more wiring cards passed ways place holder old text new are at is put =
    subst (λ (all : List ℕ). AreHolderTexts wiring cards passed ways (place + 1) all) (sym put)
    (more place old text are (subst (λ (h : Holder). IsHolderText wiring cards passed ways h text) at is))

-- one column more
pub column-more : (wiring : Wiring) (card : Option (List ℕ)) (station : Station) (row : Row) (entry : Hub) (columns before : ℕ)
    (lower : Option ℕ) (here : Bool) → before + 1 ≡ columns → lower ≡ None → lower ≡ column_to wiring card station row entry before
    → here ≡ leads_to wiring card station row entry columns
    → (if here then Some columns else None) ≡ column_to wiring card station row entry columns
column-more wiring card station row entry columns before lower here next none found at =
    let same : suc before ≡ columns = omega (arith, next) in
    subst
    (λ (n : ℕ). here ≡ leads_to wiring card station row entry n
    → (if here then Some n else None) ≡ column_to wiring card station row entry n) same
    (λ is.
    ap (λ (b : Bool). if b then Some (suc before) else None) is
    ∙ ap (λ (o : Option ℕ). first_of o (if leads_to wiring card station row entry (suc before) then Some (suc before) else None))
    (sym none ∙ found)) at

-- one row more
pub unlike_more : (wiring : Wiring) (cards : List (List ℕ)) (card position : ℕ) (old mid new : List ℕ) (some : List Row) (place : ℕ)
    (d row : Row) → place < length some → row ≡ get_or some place d
    → mid ≡ old ++ flat_map (unlike_at wiring cards card position) (take place some) → new ≡ mid ++ unlike_at wiring cards card position row
    → new ≡ old ++ flat_map (unlike_at wiring cards card position) (take (place + 1) some)
unlike_more wiring cards card position old mid new some place d row less item before one =
    let line = unlike_at wiring cards card position in
    one ∙ ap (λ (l : List ℕ). l ++ line row) before ∙ flat_map_more line old (take place some) row
    ∙ ap (λ (l : List Row). old ++ flat_map line l)
    (ap (λ (r : Row). take place some ++ r ∷ []) item ∙ sym (take_more some place d less))

module _ (wiring : Wiring) (cards : List (List ℕ)) (card level position : ℕ) (found : Option ℕ) (text : List ℕ) where
  -- a position that calls no level
  pub position-none : found ≡ None → found ≡ called_by_holes wiring position level → text ≡ []
      → text ≡ position_text wiring cards card level position
  unfolding position_text
  position-none none is empty =
      empty ∙ ap (λ (o : Option ℕ). position_text_by level card position o (unlike_lines wiring cards card position rows)) (sym none ∙ is)

  -- a position that calls one
  pub position-some : (called : ℕ) (begun lines slice old : List ℕ) → found ≡ Some called → found ≡ called_by_holes wiring position level
      → begun ≡ [] → lines ≡ begun ++ unlike_lines wiring cards card position rows → slice ≡ lines → old ≡ []
      → text ≡ old ++ called_text level card position called slice → text ≡ position_text wiring cards card level position
  unfolding position_text
  position-some called begun lines slice old some is empty told same none written =
      written
      ∙ ap (λ (l : List ℕ). l ++ called_text level card position called slice) none
      ∙ ap (called_text level card position called)
      (same ∙ told ∙ ap (λ (l : List ℕ). l ++ unlike_lines wiring cards card position rows) empty)
      ∙ ap (λ (o : Option ℕ). position_text_by level card position o (unlike_lines wiring cards card position rows)) (sym some ∙ is)

-- the exit with a number
pub led-from : (wiring : Wiring) (entry exit : Hub) (number : ℕ) (found : Option Hub) (test : Bool) → found ≡ Some exit
    → IfSome found (λ hub. number_of hub ≡ Some number) → test ≡ is_wired wiring exit entry → test ≡ is_led_from wiring entry number
led-from wiring entry exit number found test is numbered wired =
    wired
    ∙ ap (λ (n : Option ℕ). is_listed (row_at wiring n) (number_of entry))
    (subst (λ (o : Option Hub). IfSome o (λ hub. number_of hub ≡ Some number)) is numbered)

-- one exit more
pub others-more : (wiring : Wiring) (entry : Hub) (count before : ℕ) (here rest : Bool) → 0 < count → before ≡ count - 1
    → here ≡ is_led_from wiring entry (160 + count) → rest ≡ others_lead wiring entry before
    → (here || rest) ≡ others_lead wiring entry count
unfolding others_lead
others-more wiring entry zero before here rest some below is follows = absurd (omega (arith, some))
others-more wiring entry (suc count) before here rest some below is follows =
    let number : 160 + suc count ≡ 161 + count = omega arith in
    let same : before ≡ count = omega (arith, below) in
    ap (λ (b : Bool). b || rest) (is ∙ ap (is_led_from wiring entry) number)
    ∙ ap (λ (b : Bool). is_led_from wiring entry (161 + count) || b) (follows ∙ ap (others_lead wiring entry) same)

-- an entry to which no wire leads from a card
pub unled : {X E : Type 0} (result : Result X E) (hole : Option Hole) (card : ℕ) (old one new entry : List ℕ) → hole ≡ None
    → one ≡ old ++ entry → OnOk result (new ≡ one ++ codes ", by no wire straight from a card")
    → OnOk result (new ≡ old ++ led_text hole card entry)
unled (Err e) hole card old one new entry none begun ended = tt
unled (Ok x) hole card old one new entry none begun ended =
    ended
    ∙ ap (λ (l : List ℕ). l ++ codes ", by no wire straight from a card") begun
    ∙ append_assoc old entry (codes ", by no wire straight from a card")
    ∙ ap (λ (h : Option Hole). old ++ led_text h card entry) (sym none)

-- the number of a group at the end of a cycle
pub tested-at : (groups behind : List Counter) (place : ℕ) (group turned : Counter) (cycle : Cycle) (value : ℕ) → place < length groups
    → group ≡ get_or groups place group → groups ≡ behind → turned ≡ counter_ended group cycle → value ≡ number turned.digits
    → value ≡ number (digits_ended (counter_at behind place))
tested-at groups behind place group turned cycle value low item same ended told =
    told
    ∙ ap (λ (g : Counter). number g.digits) ended
    ∙ ap (λ (g : Counter). number (digits_ended g)) (item ∙ get_or_default groups place group (counter_at_start 3) low)
    ∙ ap (λ (gs : List Counter). number (digits_ended (counter_at gs place))) same

joined : (old one two a b : List ℕ) → one ≡ old ++ a → two ≡ one ++ b → two ≡ old ++ (a ++ b)
joined old one two a b first second = second ∙ ap (λ (l : List ℕ). l ++ b) first ∙ append_assoc old a b

-- the line of a test, piece by piece
pub tested-line : {X E : Type 0} (result : Result X E) (place tested width told : ℕ) (since : PassedCycle)
    (old one two three four five six new : List ℕ) → width ≡ width_of (3 + place) → told ≡ tested
    → one ≡ old ++ codes "balance latch of " → two ≡ one ++ place_text place → three ≡ two ++ codes " set by "
    → four ≡ three ++ cycle_text since.cycle since.card → five ≡ four ++ codes ": it tested " → six ≡ five ++ digits_text width told
    → OnOk result (new ≡ six ++ codes "\n") → OnOk result (new ≡ old ++ test_line place since tested)
tested-line (Err e) place tested width told since old one two three four five six new wide is first second third fourth fifth sixth last = tt
tested-line (Ok x) place tested width told since old one two three four five six new wide is first second third fourth fifth sixth last =
    let begun = joined old one two (codes "balance latch of ") (place_text place) first second in
    let set = joined old two three (codes "balance latch of " ++ place_text place) (codes " set by ") begun third in
    let by_cycle = joined old three four (codes "balance latch of " ++ place_text place ++ codes " set by ")
    (cycle_text since.cycle since.card) set fourth in
    let tests = joined old four five
    (codes "balance latch of " ++ place_text place ++ codes " set by " ++ cycle_text since.cycle since.card) (codes ": it tested ") by_cycle
    fifth in
    let digits = joined old five six
    (codes "balance latch of " ++ place_text place ++ codes " set by " ++ cycle_text since.cycle since.card ++ codes ": it tested ")
    (digits_text (width_of (3 + place)) tested) tests
    (sixth ∙ ap (λ (n : ℕ). five ++ digits_text n told) wide ∙ ap (λ (n : ℕ). five ++ digits_text (width_of (3 + place)) n) is) in
    joined old six new
    (codes "balance latch of " ++ place_text place ++ codes " set by " ++ cycle_text since.cycle since.card ++ codes ": it tested "
    ++ digits_text (width_of (3 + place)) tested) (codes "\n") digits last

-- how far a line is from the first line, by what the tape tells
pub begun-line : {X E : Type 0} (result : Result X E) (first told line : ℕ) (old mid new spacing : List ℕ) → told ≡ first
    → mid ≡ old ++ first_words told line → OnOk result (new ≡ mid ++ spacing)
    → OnOk result (new ≡ old ++ (first_words first line ++ spacing))
begun-line (Err e) first told line old mid new spacing same begun ended = tt
begun-line (Ok x) first told line old mid new spacing same begun ended =
    ended
    ∙ ap (λ (l : List ℕ). l ++ spacing) (begun ∙ ap (λ (n : ℕ). old ++ first_words n line) same)
    ∙ append_assoc old (first_words first line) spacing

-- the new page that a cycle asks for
pub page-line : {X E : Type 0} (result : Result X E) (wiring : Wiring) (cycle : Cycle) (asked : Bool) (old mid new : List ℕ)
    → asked ≡ asks wiring cycle RS → asked ≡ true → mid ≡ old ++ codes ", a new page"
    → OnOk result (new ≡ mid ++ wire_words cycle (codes "RS")) → OnOk result (new ≡ old ++ page_words wiring cycle)
page-line (Err e) wiring cycle asked old mid new told is begun ended = tt
page-line (Ok x) wiring cycle asked old mid new told is begun ended =
    ended
    ∙ ap (λ (l : List ℕ). l ++ wire_words cycle (codes "RS")) begun
    ∙ append_assoc old (codes ", a new page") (wire_words cycle (codes "RS"))
    ∙ ap (λ (b : Bool). old ++ (if b then codes ", a new page" ++ wire_words cycle (codes "RS") else [])) (sym is ∙ told)

-- three parts, one behind the other, of which the last has two
pub three-parts : {X E : Type 0} (result : Result X E) (old one two new a b c d : List ℕ) → one ≡ old ++ a → two ≡ one ++ b
    → OnOk result (new ≡ two ++ (c ++ d)) → OnOk result (new ≡ old ++ (((a ++ b) ++ c) ++ d))
three-parts (Err e) old one two new a b c d first second third = tt
three-parts (Ok x) old one two new a b c d first second third =
    third
    ∙ ap (λ (l : List ℕ). l ++ (c ++ d)) (second ∙ ap (λ (l : List ℕ). l ++ b) first ∙ append_assoc old a b)
    ∙ append_assoc old (a ++ b) (c ++ d)
    ∙ ap (λ (l : List ℕ). old ++ l) (sym (append_assoc (a ++ b) c d))

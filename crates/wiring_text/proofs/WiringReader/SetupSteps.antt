-- A setup that says a statement more.
use Rattle.std.proofs.Common.{◌≡◌, ◌⊎◌, ◌↔◌, ℕ, ◌≤◌, ◌<◌, ◌||◌, ◌&&◌, not, Bool, true, false, cond, leb, List, [], ◌∷◌, ◌++◌, Contains, Option, Some, None, Result, Ok, Err, IsOk, IfErr, refl, ap, sym, ◌∙◌, inl, inr, subst, arith, nat_eq}
use Rattle.std.proofs.lemmas.Bool.{and_parts, and_from, or_cases, eqb-true, eq-eqb, false≢true, leb-true, le-leb}
use Rattle.std.proofs.lemmas.Option.{same_Some}
use Rattle.std.proofs.lemmas.List.Elements.{All-push, All-contains}
use Rattle.std.specs.Prelude.{IsErrOf, IsOkUnless, OnOk}
use Rattle.hubs.proofs.HubLemmas.{hub_named-own, hub_named-parts}
use Rattle.hubs.specs.Hubs.{letters_of, is_exit_hub, is_entry_hub, is_hub_in_range}
use Rattle.hubs.specs.Carries.{do_wires_agree, keeps_carry}
use Rattle.hubs.specs.Jacks.{is_same_jack}
use Rattle.hubs.specs.HubTable.Ranges.{is_within}
use Rattle.hubs.specs.SetupsWords.Tapes.{has_stop, IsStop, AddsStop}
use Rattle.hubs.specs.SetupsWords.Wiring.{CanJoin, Wiring, HasWire, is_plugged, SameWires, SameJacks, AddsWire, AddsJack}
use Rattle.hubs.specs.declared.setups.fault.SetupFault.{SetupFault}
use Rattle.hubs.specs.declared.setups.fault.SetupFault.TheVariants.{NotExit, NotEntry, CarryRing, TapeFault, Memory}
use Rattle.hubs.specs.declared.hub.Hub.{Hub}
use Rattle.hubs.specs.declared.jack.Jack.{Jack}
use Rattle.hubs.proofs.JackLemmas.{same_jack, own_jack}
use Rattle.wiring_text.specs.HubNames.{name_of, hub_of}
use Rattle.wiring_text.specs.WiringReader.Reading.{is_said}
use Rattle.wiring_text.specs.Statements.{do_hubs_agree, do_statements_agree, statement_fault, wire_fault, fault_between}
use Rattle.wiring_text.specs.WiringReader.TextReading.{Holds, IsPut, Puts, agrees_with, fault_said, fault_with}
use Rattle.wiring_text.proofs.WiringReader.Agreeing.{agrees-each, agrees-from, apart-from, fault-none, none-fault, some-fault, together-more}
use Rattle.hubs.proofs.SetupsWords.CarryWires.{agree-turned}
use Rattle.wiring_text.specs.WiringText.{IsSetupOf}
use Rattle.wiring_text.specs.declared.statement.FormNumbers.{FormNumbers}
use Rattle.wiring_text.specs.declared.statement.HubName.{HubName}
use Rattle.wiring_text.specs.declared.statement.Statement.{Statement}
use Rattle.wiring_text.specs.declared.statement.Statement.TheVariants.{Stop, Plug, Wire}
use Rattle.wiring_text.proofs.WiringReader.SameStatement.{said_contained, not_said, pushed_cases, pushed_said}

-- what was said of a thing, where something else is said
kept : {P Q : Type 0} (said : List Statement) (s t : Statement) → P ↔ Contains said t → (t ≡ s → ⊥) → (P → Q) → (Q → P)
    → Q ↔ Contains (said ++ s ∷ []) t
kept {P} {Q} said s t was other to from =
    (λ q. pushed_said said s t (inl (was.0 (from q))), λ has. by_cause (pushed_cases said s t has))
  where
    by_cause : Contains said t ⊎ (t ≡ s) → Q
    by_cause (inl h) = to (was.1 h)
    by_cause (inr e) = absurd (other e)

-- what is said of a thing, where it may be said now
gained : {P Q R : Type 0} (said : List Statement) (s t : Statement) → P ↔ Contains said t → (Q → P ⊎ R) → (P ⊎ R → Q)
    → (R → t ≡ s) → (t ≡ s → R) → Q ↔ Contains (said ++ s ∷ []) t
gained {P} {Q} {R} said s t was to from is says =
    (λ q. pushed_said said s t (by_part (to q)), λ has. by_cause (pushed_cases said s t has))
  where
    by_part : P ⊎ R → Contains said t ⊎ (t ≡ s)
    by_part (inl p) = inl (was.0 p)
    by_part (inr r) = inr (is r)

    by_cause : Contains said t ⊎ (t ≡ s) → Q
    by_cause (inl h) = from (inl (was.1 h))
    by_cause (inr e) = from (inr (says e))

-- tests that are the same, and a test that an `or` makes
same_test : (b c : Bool) → c ≡ b → b ≡ true → c ≡ true
same_test b c e f = e ∙ f

or_to : (b c : Bool) (R : Type 0) → (c ≡ true → R) → (b || c) ≡ true → (b ≡ true) ⊎ R
or_to b c R is e = by_cause (or_cases b c e)
  where
    by_cause : (b ≡ true) ⊎ (c ≡ true) → (b ≡ true) ⊎ R
    by_cause (inl f) = inl f
    by_cause (inr f) = inr (is f)

or_from : (b c : Bool) (R : Type 0) → (R → c ≡ true) → (b ≡ true) ⊎ R → (b || c) ≡ true
or_from true c R says h = refl
or_from false c R says (inl e) = cc
or_from false c R says (inr r) = says r

-- a stop is said
stop_setup : (form : FormNumbers) (said : List Statement) (old new : Wiring) (channel line : ℕ) → IsSetupOf form said old
    → AddsStop old.tape new.tape channel line → SameWires old new → SameJacks old new
    → IsSetupOf form (said ++ Stop channel line ∷ []) new
stop_setup form said old new channel line was adds wires jacks = record {
  lines = adds.lines ∙ was.lines;
  first = adds.first ∙ was.first;
  overflow = adds.overflow ∙ was.overflow;
  stops = λ c l. gained {R = (c ≡ channel) × (l ≡ line)} said (Stop channel line) (Stop c l) (was.stops c l)
      (λ q. or_to (has_stop old.tape c l) (nat_eq c channel && nat_eq l line) ((c ≡ channel) × (l ≡ line))
      (both c l) (sym (adds.stops c l) ∙ q))
      (λ h. adds.stops c l ∙ or_from (has_stop old.tape c l) (nat_eq c channel && nat_eq l line)
      ((c ≡ channel) × (l ≡ line)) (λ p. and_from _ _ (eq-eqb c channel p.0) (eq-eqb l line p.1)) h)
      (λ p. ap (λ x. Stop x l) p.0 ∙ ap (λ x. Stop channel x) p.1) (λ e. (cc, cc));
  jacks = λ j. kept said (Stop channel line) (Plug j) (was.jacks j) (λ e. cc)
      (same_test (is_plugged old j) (is_plugged new j) (jacks j))
      (same_test (is_plugged new j) (is_plugged old j) (sym (jacks j)));
  wires = λ exit entry. kept said (Stop channel line) (Wire (name_of exit) (name_of entry)) (was.wires exit entry) (λ e. cc)
      (wires exit entry).1 (wires exit entry).0;
}
  where
    both : (c l : ℕ) → (nat_eq c channel && nat_eq l line) ≡ true → (c ≡ channel) × (l ≡ line)
    both c l e =
        let p = and_parts (nat_eq c channel) (nat_eq l line) e in
        (eqb-true c channel p.0, eqb-true l line p.1)

-- a jack is said
jack_setup : (form : FormNumbers) (said : List Statement) (old new : Wiring) (j : Jack) → IsSetupOf form said old
    → AddsJack old new j → SameWires old new → new.tape ≡ old.tape → IsSetupOf form (said ++ Plug j ∷ []) new
jack_setup form said old new j was adds wires tape = record {
  lines = ap (λ t. t.lines) tape ∙ was.lines;
  first = ap (λ t. t.first) tape ∙ was.first;
  overflow = ap (λ t. t.overflow) tape ∙ was.overflow;
  stops = λ c l. kept said (Plug j) (Stop c l) (was.stops c l) (λ e. cc)
      (same_test (has_stop old.tape c l) (has_stop new.tape c l) (ap (λ t. has_stop t c l) tape))
      (same_test (has_stop new.tape c l) (has_stop old.tape c l) (ap (λ t. has_stop t c l) (sym tape)));
  jacks = λ other. gained {R = other ≡ j} said (Plug j) (Plug other) (was.jacks other)
      (λ q. or_to (is_plugged old other) (is_same_jack other j) (other ≡ j) (same_jack other j) (sym (adds other) ∙ q))
      (λ h. adds other ∙ or_from (is_plugged old other) (is_same_jack other j) (other ≡ j)
      (λ e. ap (λ x. is_same_jack x j) e ∙ own_jack j) h)
      (ap Plug) (λ e. cc);
  wires = λ exit entry. kept said (Plug j) (Wire (name_of exit) (name_of entry)) (was.wires exit entry) (λ e. cc)
      (wires exit entry).1 (wires exit entry).0;
}

-- the name of a hub is its own
named : (name : HubName) (hub : Hub) → hub_of name ≡ Some hub → name ≡ name_of hub
named name hub e =
    let parts = hub_named-parts name.letters name.numbers hub e in
    ap (λ l. let n : HubName = record { letters = l; numbers = name.numbers } in n) (sym parts.letters_are)
    ∙ ap (λ x. let n : HubName = record { letters = letters_of hub; numbers = x } in n) (sym parts.numbers_are)

one_name : (one other : Hub) → name_of one ≡ name_of other → one ≡ other
one_name one other e = same_Some one other (sym (hub_named-own one) ∙ ap hub_of e ∙ hub_named-own other)

-- a wire is said
wire_setup : (form : FormNumbers) (said : List Statement) (old new : Wiring) (exit entry : Hub) → IsSetupOf form said old
    → AddsWire old new exit entry → SameJacks old new → new.tape ≡ old.tape
    → IsSetupOf form (said ++ Wire (name_of exit) (name_of entry) ∷ []) new
wire_setup form said old new exit entry was adds jacks tape = record {
  lines = ap (λ t. t.lines) tape ∙ was.lines;
  first = ap (λ t. t.first) tape ∙ was.first;
  overflow = ap (λ t. t.overflow) tape ∙ was.overflow;
  stops = λ c l. kept said (Wire (name_of exit) (name_of entry)) (Stop c l) (was.stops c l) (λ e. cc)
      (same_test (has_stop old.tape c l) (has_stop new.tape c l) (ap (λ t. has_stop t c l) tape))
      (same_test (has_stop new.tape c l) (has_stop old.tape c l) (ap (λ t. has_stop t c l) (sym tape)));
  jacks = λ j. kept said (Wire (name_of exit) (name_of entry)) (Plug j) (was.jacks j) (λ e. cc)
      (same_test (is_plugged old j) (is_plugged new j) (jacks j))
      (same_test (is_plugged new j) (is_plugged old j) (sym (jacks j)));
  wires = λ from to. gained {R = (from ≡ exit) × (to ≡ entry)} said (Wire (name_of exit) (name_of entry))
      (Wire (name_of from) (name_of to)) (was.wires from to) (adds from to).0 (adds from to).1
      (λ p. ap (λ x. Wire (name_of x) (name_of to)) p.0 ∙ ap (λ x. Wire (name_of exit) (name_of x)) p.1)
      (λ e. (one_name from exit (first from to e), one_name to entry (second from to e)));
}
  where
    first : (from to : Hub) → Wire (name_of from) (name_of to) ≡ Wire (name_of exit) (name_of entry)
        → name_of from ≡ name_of exit
    first from to e = cc

    second : (from to : Hub) → Wire (name_of from) (name_of to) ≡ Wire (name_of exit) (name_of entry)
        → name_of to ≡ name_of entry
    second from to e = cc

-- what the panel can't have is not said
pub unfit_not_said : (form : FormNumbers) (said : List Statement) (wiring : Wiring) (s : Statement) (fault : SetupFault)
    → Holds form said wiring → statement_fault form.lines s ≡ Some fault → is_said said s ≡ false
unfit_not_said form said wiring s fault holds unfit = not_said said s (λ has. clash (All-contains (λ x. statement_fault form.lines x ≡ None) said s holds.fit has))
  where
    clash : statement_fault form.lines s ≡ None → ⊥
    clash fits = cc

holds_more : (form : FormNumbers) (said : List Statement) (old new : Wiring) (s : Statement) → Holds form said old
    → IsSetupOf form (said ++ s ∷ []) new → fault_said form.lines said s ≡ None → Holds form (said ++ s ∷ []) new
holds_more form said old new s holds setup fits = record {
  formed = holds.formed;
  setup = setup;
  fit = All-push (λ x. statement_fault form.lines x ≡ None) said s holds.fit (fault-none form.lines said s fits).0;
  together = together-more said s holds.together (fault-none form.lines said s fits).1;
}

-- stops and jacks agree with all statements
stop-agrees : (said : List Statement) (channel line : ℕ) → agrees_with said (Stop channel line) ≡ true
stop-agrees said channel line = agrees-from said (Stop channel line) (λ other has. by other)
  where
    by : (other : Statement) → do_statements_agree other (Stop channel line) ≡ true
    by (Wire exit entry) = refl
    by other = refl

jack-agrees : (said : List Statement) (j : Jack) → agrees_with said (Plug j) ≡ true
jack-agrees said j = agrees-from said (Plug j) (λ other has. by other)
  where
    by : (other : Statement) → do_statements_agree other (Plug j) ≡ true
    by (Wire exit entry) = refl
    by other = refl

-- what putting answers
abbrev answered : Bool → Result Bool SetupFault
answered new = Ok new

abbrev refused : SetupFault → Result Bool SetupFault
refused fault = Err fault

-- what putting a stop answers
stop_fits : (line lines : ℕ) → 1 ≤ line → line ≤ lines → cond (is_within line lines) None (Some TapeFault) ≡ None
stop_fits line lines from to = rw (le-leb 1 line from, le-leb line lines to) refl

stop_unfit : (line lines : ℕ) → (1 ≤ line → line ≤ lines → ⊥)
    → cond (is_within line lines) None (Some TapeFault) ≡ Some TapeFault
stop_unfit line lines out = by_test (is_within line lines) refl
  where
    by_test : (b : Bool) → is_within line lines ≡ b → cond b None (Some TapeFault) ≡ Some TapeFault
    by_test true e =
        let p = and_parts (leb 1 line) (leb line lines) e in
        absurd (out (leb-true 1 line p.0) (leb-true line lines p.1))
    by_test false e = refl

pub stop_put : (old new : Wiring) (channel line : ℕ) (answer : Result Bool SetupFault) → 2 ≤ channel → channel ≤ 11
    → OnOk answer (AddsStop old.tape new.tape channel line)
    → ((answer ≡ Ok false) ↔ (has_stop old.tape channel line ≡ true))
    → IfErr answer (λ fault. fault ≡ TapeFault) → (IsOk answer ↔ IsStop old.tape.lines channel line)
    → SameWires old new → SameJacks old new → Puts (Stop channel line) old answer new
stop_put old new channel line (Ok true) from to adds there tape good wires jacks form said holds =
    let is = good.0 refl in
    let fits = none-fault form.lines said (Stop channel line)
    (stop_fits line form.lines is.line_from (subst (λ n. line ≤ n) holds.setup.lines is.line_to)) (stop-agrees said channel line) in (
      not_said said (Stop channel line) (λ has. no (there.1 ((holds.setup.stops channel line).1 has))),
      fits,
      holds_more form said old new (Stop channel line) holds
          (stop_setup form said old new channel line holds.setup adds wires jacks) fits,
    )
  where
    no : answered true ≡ answered false → ⊥
    no e = cc
stop_put old new channel line (Ok false) from to adds there tape good wires jacks form said holds =
    said_contained said (Stop channel line) ((holds.setup.stops channel line).0 (there.0 refl))
stop_put old new channel line (Err fault) from to adds there tape good wires jacks form said holds =
    let unfit = stop_unfit line form.lines (λ low high. no (good.1 (record {
      channel_from = from;
      channel_to = to;
      line_from = low;
      line_to = subst (λ n. line ≤ n) (sym holds.setup.lines) high;
    }))) in
    inr (
      unfit_not_said form said old (Stop channel line) TapeFault holds unfit,
      some-fault form.lines said (Stop channel line) TapeFault unfit ∙ ap Some (sym tape),
    )
  where
    no : IsOk (refused fault) → ⊥
    no e = cc

-- a line past every form
pub high_stop_put : (old : Wiring) (channel line : ℕ) → 255 < line → Puts (Stop channel line) old (Err TapeFault) old
high_stop_put old channel line high form said holds =
    let unfit = stop_unfit line form.lines (λ low within. omega (arith, high, within, holds.formed.lines_to)) in
    inr (
      unfit_not_said form said old (Stop channel line) TapeFault holds unfit,
      some-fault form.lines said (Stop channel line) TapeFault unfit,
    )

-- what putting a jack answers
pub jack_put : (old new : Wiring) (j : Jack) (answer : Bool) → AddsJack old new j → answer ≡ not (is_plugged old j)
    → SameWires old new → new.tape ≡ old.tape → Puts (Plug j) old (Ok answer) new
jack_put old new j true adds there wires tape form said holds = (
  not_said said (Plug j) (λ has. clash ((holds.setup.jacks j).1 has)),
  none-fault form.lines said (Plug j) refl (jack-agrees said j),
  holds_more form said old new (Plug j) holds (jack_setup form said old new j holds.setup adds wires tape)
      (none-fault form.lines said (Plug j) refl (jack-agrees said j)),
)
  where
    clash : is_plugged old j ≡ true → ⊥
    clash e =
        let f : not (is_plugged old j) ≡ false = ap not e in
        cc
jack_put old new j false adds there wires tape form said holds =
    said_contained said (Plug j) ((holds.setup.jacks j).0 (plugged (is_plugged old j) there))
  where
    plugged : (b : Bool) → false ≡ not b → b ≡ true
    plugged true e = refl
    plugged false e = cc

-- what putting a wire answers: a name of no exit
pub no_exit_put : (old : Wiring) (exit entry : HubName) (fault : SetupFault) → wire_fault (hub_of exit) (hub_of entry) ≡ Some fault
    → Puts (Wire exit entry) old (Err fault) old
no_exit_put old exit entry fault unfit form said holds =
    inr (
      unfit_not_said form said old (Wire exit entry) fault holds unfit,
      some-fault form.lines said (Wire exit entry) fault unfit,
    )

-- a name of which no hub is answered is that of no hub of the panel
pub none_named : (name : HubName) (answer : Option Hub) → answer ≡ None
    → ((hub : Hub) → hub_of name ≡ Some hub → is_hub_in_range hub ≡ true → answer ≡ Some hub)
    → (hub : Hub) → hub_of name ≡ Some hub → is_hub_in_range hub ≡ true → ⊥
none_named name answer none found hub is ranges =
    let some = found hub is ranges in
    cc

-- a name that the panel does not have
pub none_is_no_exit : (exit : HubName) (entry : Option Hub)
    → ((hub : Hub) → hub_of exit ≡ Some hub → is_hub_in_range hub ≡ true → ⊥) → wire_fault (hub_of exit) entry ≡ Some NotExit
none_is_no_exit exit entry none = by_hub (hub_of exit) entry refl
  where
    out : (hub : Hub) → hub_of exit ≡ Some hub → is_exit_hub hub ≡ false
    out hub e = by_test (is_exit_hub hub) refl
      where
        by_test : (b : Bool) → is_exit_hub hub ≡ b → is_exit_hub hub ≡ false
        by_test true f = absurd (none hub e (and_parts _ (is_hub_in_range hub) f).1)
        by_test false f = f

    by_hub : (o p : Option Hub) → hub_of exit ≡ o → wire_fault o p ≡ Some NotExit
    by_hub None p e = refl
    by_hub (Some hub) None e = rw (out hub e) refl
    by_hub (Some hub) (Some other) e = rw (out hub e) refl

pub out_is_no_exit : (exit : Option Hub) (entry : Option Hub) (hub : Hub) → exit ≡ Some hub → is_exit_hub hub ≡ false
    → wire_fault exit entry ≡ Some NotExit
out_is_no_exit exit None hub e out = rw (e, out) refl
out_is_no_exit exit (Some other) hub e out = rw (e, out) refl

pub none_is_no_entry : (exit : Option Hub) (entry : HubName) (hub : Hub) → exit ≡ Some hub → is_exit_hub hub ≡ true
    → ((other : Hub) → hub_of entry ≡ Some other → is_hub_in_range other ≡ true → ⊥)
    → wire_fault exit (hub_of entry) ≡ Some NotEntry
none_is_no_entry exit entry hub e is none = rw e (by_hub (hub_of entry) refl)
  where
    out : (other : Hub) → hub_of entry ≡ Some other → is_entry_hub other ≡ false
    out other f = by_test (is_entry_hub other) refl
      where
        by_test : (b : Bool) → is_entry_hub other ≡ b → is_entry_hub other ≡ false
        by_test true g = absurd (none other f (and_parts _ (is_hub_in_range other) g).1)
        by_test false g = g

    by_hub : (o : Option Hub) → hub_of entry ≡ o → wire_fault (Some hub) o ≡ Some NotEntry
    by_hub None f = rw is refl
    by_hub (Some other) f = rw (is, out other f) refl

-- a wire between two hubs
pub lawful_fits : (exit entry : Hub) → is_exit_hub exit ≡ true → is_entry_hub entry ≡ true → keeps_carry exit entry ≡ true
    → fault_between exit entry ≡ None
lawful_fits exit entry is also keeps = rw (is, also, keeps) refl

-- when `add` refuses
pub record Refusals (answer : Result Bool SetupFault) (old : Wiring) (exit entry : Hub) : Type 0 where
  pub not_exit : IsErrOf answer NotExit ↔ (is_exit_hub exit ≡ false)
  pub not_entry : IsErrOf answer NotEntry ↔ ((is_exit_hub exit ≡ true) × (is_entry_hub entry ≡ false))
  pub carry : IsErrOf answer CarryRing
      ↔ ((is_exit_hub exit ≡ true) × (is_entry_hub entry ≡ true) × ¬ CanJoin old exit entry)
  pub memory : is_exit_hub exit ≡ true → is_entry_hub entry ≡ true → CanJoin old exit entry → IsOkUnless answer Memory

-- what is wrong with a wire between named hubs by itself
between_named : (exit entry : Hub) → wire_fault (hub_of (name_of exit)) (hub_of (name_of entry)) ≡ fault_between exit entry
between_named exit entry = rw (hub_named-own exit, hub_named-own entry) refl

-- whether two wires between named hubs agree
agree_named : (exit entry other next : Hub)
    → do_statements_agree (Wire (name_of exit) (name_of entry)) (Wire (name_of other) (name_of next)) ≡ do_wires_agree exit entry other next
agree_named exit entry other next =
    λ i. do_hubs_agree (hub_named-own exit i) (hub_named-own entry i) (hub_named-own other i) (hub_named-own next i)

-- what an answer says of a wire, where these are said
abbrev Tells : Result Bool SetupFault → ℕ → List Statement → Statement → Type 0
Tells (Ok new) lines said s = fault_said lines said s ≡ None
Tells (Err fault) lines said s = (fault ≡ Memory) ⊎ (fault_said lines said s ≡ Some fault)

tells_fault : (answer : Result Bool SetupFault) (lines : ℕ) (said : List Statement) (s : Statement) (fault : SetupFault)
    → IsErrOf answer fault → fault_said lines said s ≡ Some fault → Tells answer lines said s
tells_fault (Ok new) lines said s fault is told = cc
tells_fault (Err other) lines said s fault is told = inr (told ∙ ap Some (same other is))
  where
    same : (other : SetupFault) → refused other ≡ refused fault → fault ≡ other
    same other e = cc

tells_none : (answer : Result Bool SetupFault) (lines : ℕ) (said : List Statement) (s : Statement) → IsOkUnless answer Memory
    → fault_said lines said s ≡ None → Tells answer lines said s
tells_none (Ok new) lines said s is told = told
tells_none (Err fault) lines said s is told = inl is

module _ (answer : Result Bool SetupFault) (old : Wiring) (exit entry : Hub) (is : Refusals answer old exit entry) (form : FormNumbers)
    (said : List Statement) (holds : Holds form said old) where
  wire_says : Statement
  wire_says = Wire (name_of exit) (name_of entry)

  -- a statement that is said is that of a wire that is there, where it doesn't agree with this one
  hub_apart : (other : Statement) → Contains said other → do_statements_agree other (Wire (name_of exit) (name_of entry)) ≡ false
      → ¬ CanJoin old exit entry
  hub_apart (Wire from to) has apart join =
      by (hub_of from) (hub_of to) refl refl
    where
      by : (o p : Option Hub) → hub_of from ≡ o → hub_of to ≡ p → ⊥
      by (Some f) (Some t) e g =
          let listed : Contains said (Wire (name_of f) (name_of t)) =
          subst (λ (x : HubName). Contains said (Wire (name_of f) x)) (named to t g)
          (subst (λ (x : HubName). Contains said (Wire x to)) (named from f e) has) in
          let wire = (holds.setup.wires f t).1 listed in
          false≢true (sym apart ∙ (λ i. do_hubs_agree (e i) (g i) (hub_named-own exit i) (hub_named-own entry i))
          ∙ agree-turned exit entry f t (join.together f t wire))
      by None p e g = false≢true (sym apart ∙ (λ i. do_hubs_agree (e i) (hub_of to) (hub_of (name_of exit)) (hub_of (name_of entry))))
      by (Some f) None e g = false≢true (sym apart ∙ (λ i. do_hubs_agree (e i) (g i) (hub_of (name_of exit)) (hub_of (name_of entry))))
  hub_apart other has apart join = false≢true (sym apart)

  -- a wire that can join agrees with all that are said, and the other way round
  joins_all : keeps_carry exit entry ≡ true → agrees_with said (Wire (name_of exit) (name_of entry)) ≡ true → CanJoin old exit entry
  joins_all keeps agrees = record {
    alone = keeps;
    together = λ other next wire.
        agree-turned other next exit entry
        (sym (agree_named other next exit entry)
        ∙ agrees-each said (Wire (name_of exit) (name_of entry)) (Wire (name_of other) (name_of next)) agrees
        ((holds.setup.wires other next).0 wire));
  }

  tells : Tells answer form.lines said (Wire (name_of exit) (name_of entry))
  tells =
      by_tests (is_exit_hub exit) (is_entry_hub entry) (keeps_carry exit entry)
      (agrees_with said (Wire (name_of exit) (name_of entry))) refl refl refl refl
    where
      alone : (fault : SetupFault) → fault_between exit entry ≡ Some fault
          → fault_said form.lines said (Wire (name_of exit) (name_of entry)) ≡ Some fault
      alone fault e = some-fault form.lines said (Wire (name_of exit) (name_of entry)) fault (between_named exit entry ∙ e)

      by_tests : (b c d a : Bool) → is_exit_hub exit ≡ b → is_entry_hub entry ≡ c → keeps_carry exit entry ≡ d
          → agrees_with said (Wire (name_of exit) (name_of entry)) ≡ a
          → Tells answer form.lines said (Wire (name_of exit) (name_of entry))
      by_tests false c d a e f g h =
          tells_fault answer form.lines said _ NotExit (is.not_exit.1 e) (alone NotExit (rw e refl))
      by_tests true false d a e f g h =
          tells_fault answer form.lines said _ NotEntry (is.not_entry.1 (e, f)) (alone NotEntry (rw (e, f) refl))
      by_tests true true false a e f g h =
          tells_fault answer form.lines said _ CarryRing (is.carry.1 (e, f, λ join. false≢true (sym g ∙ join.alone)))
          (alone CarryRing (rw (e, f, g) refl))
      by_tests true true true false e f g h =
          let found = apart-from said (Wire (name_of exit) (name_of entry)) h in
          tells_fault answer form.lines said _ CarryRing (is.carry.1 (e, f, hub_apart found.0 found.1 found.2))
          (λ i. fault_with (h i) ((between_named exit entry ∙ lawful_fits exit entry e f g) i))
      by_tests true true true true e f g h =
          tells_none answer form.lines said _ (is.memory e f (joins_all g h))
          (none-fault form.lines said _ (between_named exit entry ∙ lawful_fits exit entry e f g) h)

-- what putting a wire between hubs answers
hubs_put : (old new : Wiring) (exit entry : Hub) (answer : Result Bool SetupFault) → OnOk answer (AddsWire old new exit entry)
    → ((answer ≡ Ok false) ↔ HasWire old exit entry) → SameJacks old new → new.tape ≡ old.tape → Refusals answer old exit entry
    → Puts (Wire (name_of exit) (name_of entry)) old answer new
hubs_put old new exit entry (Ok true) adds there jacks tape refusals form said holds =
    let fits = tells (Ok true) old exit entry refusals form said holds in (
      not_said said (Wire (name_of exit) (name_of entry)) (λ has. no (there.1 ((holds.setup.wires exit entry).1 has))),
      fits,
      holds_more form said old new (Wire (name_of exit) (name_of entry)) holds
          (wire_setup form said old new exit entry holds.setup adds jacks tape) fits,
    )
  where
    no : answered true ≡ answered false → ⊥
    no e = cc
hubs_put old new exit entry (Ok false) adds there jacks tape refusals form said holds =
    said_contained said (Wire (name_of exit) (name_of entry)) ((holds.setup.wires exit entry).0 (there.0 refl))
hubs_put old new exit entry (Err fault) adds there jacks tape refusals form said holds =
    by_cause (tells (Err fault) old exit entry refusals form said holds)
  where
    no : refused fault ≡ answered false → ⊥
    no e = cc

    by_cause : (fault ≡ Memory) ⊎ (fault_said form.lines said (Wire (name_of exit) (name_of entry)) ≡ Some fault)
        → IsPut form said (Wire (name_of exit) (name_of entry)) (Err fault) new
    by_cause (inl e) = inl e
    by_cause (inr e) =
        inr (not_said said (Wire (name_of exit) (name_of entry)) (λ has. no (there.1 ((holds.setup.wires exit entry).1 has))), e)

-- what putting a wire between named hubs answers
pub wire_put : (old new : Wiring) (from to : HubName) (exit entry : Hub) (answer : Result Bool SetupFault)
    → hub_of from ≡ Some exit → hub_of to ≡ Some entry → OnOk answer (AddsWire old new exit entry)
    → ((answer ≡ Ok false) ↔ HasWire old exit entry) → SameJacks old new → new.tape ≡ old.tape
    → Refusals answer old exit entry → Puts (Wire from to) old answer new
wire_put old new from to exit entry answer is also adds there jacks tape refusals =
    subst (λ (x : HubName). Puts (Wire x to) old answer new) (sym (named from exit is))
    (subst (λ (x : HubName). Puts (Wire (name_of exit) x) old answer new) (sym (named to entry also))
    (hubs_put old new exit entry answer adds there jacks tape refusals))

-- What is told of the carriage is what it is asked for.
use Rattle.std.proofs.Common.{◌≡◌, ◌∙◌, sym, ap, subst, refl, ℕ, zero, suc, ◌+◌, ◌<◌, ◌≤◌, nat_le, arith, Bool, true, false, ◌&&◌, not, ◌⊎◌, inl, inr, Option, Some, None, is_some, if◌then◌else◌, eqb}
use Rattle.std.proofs.lemmas.Bool.{false≢true, or_parts}
use Rattle.std.proofs.lemmas.Bool.Decides.{nat_tests}
use Rattle.std.proofs.lemmas.Option.{none-some}
use Rattle.std.specs.Prelude.{IfSome}
use Rattle.hubs.specs.HubTable.HubTable.{HasNumber, row_of}
use Rattle.hubs.proofs.HubLemmas.{in_range, number_of-kind}
use Rattle.hubs.specs.Hubs.{is_exit_hub, letters_of, number_of}
use Rattle.hubs.specs.declared.hub.Hub.{Hub}
use Rattle.hubs.specs.declared.hub.Hub.TheVariants.{BAN, BAT, CC, CO, CSD, CSZ, HX, IX, PIN, PIT, PX, RS, SK, SP}
use Rattle.machine.specs.Below.carriage.Asked.{lines_asked, lowest_from}
use Rattle.machine.specs.Machine.{MachineState, closes, emits}
use Rattle.net.proofs.ImpulsedLaws.{no_exit_is_entry}
use Rattle.net.proofs.Rows.{is_hub-same}
use Rattle.net.specs.Cycles.{level_number, ordinal_number}
use Rattle.net.specs.Impulsed.{IsImpulsed, IsPicture, emitting, led_on}
use Rattle.net.specs.Panel.{contact_of}
use Rattle.net.specs.Tells.{tells}
use Rattle.net.specs.declared.cycle.Cycle.{Cycle}
use Rattle.net.specs.declared.cycle.Cycle.TheVariants.{RunIn, Card, Prog, Head}
use Rattle.net.specs.declared.cycle.Ordinal.{Ordinal}
use Rattle.net.specs.declared.cycle.Ordinal.TheVariants.{First, Second, Third}
use Rattle.net.specs.declared.cycle.Point.TheVariants.{C}
use Rattle.net.specs.declared.cycle.ProgramLevel.{ProgramLevel}
use Rattle.net.specs.declared.cycle.ProgramLevel.TheVariants.{Minor, Intermediate, Major, Final}
use Rattle.hubs.proofs.SetupsWords.WiredLemmas.{HasWire-is_wired}
use Rattle.hubs.specs.SetupsWords.Wiring.{HasWire, LeadsToEntries, Wiring, is_listed, is_wired, row_at}
use Rattle.proof_cycles.proofs.WholeCycles.Emitted.{emits-control}
use Rattle.explain_origins.specs.Asks.{asks, channel_from, is_of_cycles, spacing_of}
use Rattle.explain_origins.specs.Carriage.{CarriageIsAskedAsTold}
use Rattle.explain_origins.specs.Levels.{is_led_from, others_lead}

none-is : {X : Type 0} (x : X) → None ≡ Some x → ⊥
none-is x same = false≢true (ap is_some same)

program-tells : (level : ProgramLevel) (ordinal : Ordinal) → tells (Prog level ordinal) (PX (level_number level) (ordinal_number ordinal)) ≡ true
program-tells Minor First = refl
program-tells Minor Second = refl
program-tells Minor Third = refl
program-tells Intermediate First = refl
program-tells Intermediate Second = refl
program-tells Intermediate Third = refl
program-tells Major First = refl
program-tells Major Second = refl
program-tells Major Third = refl
program-tells Final First = refl
program-tells Final Second = refl
program-tells Final Third = refl

heading-tells : (heading : Ordinal) → tells (Head heading) (HX (ordinal_number heading)) ≡ true
heading-tells First = refl
heading-tells Second = refl
heading-tells Third = refl

-- no entry tells of a cycle
entry-silent : (cycle : Cycle) (hub : Hub) → (row_of (letters_of hub)).is_exit ≡ false → tells cycle hub ≡ true → ⊥
entry-silent RunIn hub entry told = false≢true told
entry-silent Card hub entry told =
    false≢true (sym entry ∙ sym (ap (λ (h : Hub). (row_of (letters_of h)).is_exit) (is_hub-same CC hub told)))
entry-silent (Prog level ordinal) hub entry told =
    false≢true
    (sym entry
    ∙ sym (ap (λ (h : Hub). (row_of (letters_of h)).is_exit) (is_hub-same (PX (level_number level) (ordinal_number ordinal)) hub told)))
entry-silent (Head heading) hub entry told =
    false≢true
    (sym entry ∙ sym (ap (λ (h : Hub). (row_of (letters_of h)).is_exit) (is_hub-same (HX (ordinal_number heading)) hub told)))

-- contacts have the exits between
no-contact : (hub : Hub) (n : ℕ) → number_of hub ≡ Some n → (n < 161) ⊎ (1025 ≤ n) → contact_of hub ≡ None
no-contact hub n numbered out = by out (by-kind hub n (number_of-kind hub n numbered))
  where
    between : (n : ℕ) → 161 ≤ n → n < 1025 → (n < 161) ⊎ (1025 ≤ n) → ⊥
    between n from to (inl low) = omega (arith, from, low)
    between n from to (inr high) = omega (arith, to, high)

    by : (n < 161) ⊎ (1025 ≤ n) → (contact_of hub ≡ None) ⊎ ((161 ≤ n) × (n < 1025)) → contact_of hub ≡ None
    by out (inl none) = none
    by out (inr within) = absurd (between n within.0 within.1 out)

    by-kind : (hub : Hub) (n : ℕ) → HasNumber (letters_of hub) n → (contact_of hub ≡ None) ⊎ ((161 ≤ n) × (n < 1025))
    by-kind (CO group) n has = inr (omega (arith, has), omega (arith, has))
    by-kind (BAN group position) n has = inr (omega (arith, has), omega (arith, has))
    by-kind (BAT group position) n has = inr (omega (arith, has), omega (arith, has))
    by-kind (PIN pilot position) n has = inr (omega (arith, has), omega (arith, has))
    by-kind (PIT pilot position) n has = inr (omega (arith, has), omega (arith, has))
    by-kind (IX level position) n has = inr (omega (arith, has), omega (arith, has))
    by-kind (CSD split) n has = inr (omega (arith, has), omega (arith, has))
    by-kind (CSZ split) n has = inr (omega (arith, has), omega (arith, has))
    by-kind hub n has = inl refl

-- no wire leads to an entry from one of the exits between
not-led : (wiring : Wiring) (entry : Hub) (count n : ℕ) → others_lead wiring entry count ≡ false → 161 ≤ n → n < 161 + count
    → is_led_from wiring entry n ≡ false
unfolding others_lead
not-led wiring entry zero n none low high = absurd (omega (arith, low, high))
not-led wiring entry (suc count) n none low high =
    let parts = or_parts (is_led_from wiring entry (161 + count)) (others_lead wiring entry count) none in
    by (not-led wiring entry count n) (eqb n (161 + count)) refl parts.0 parts.1
  where
    by : (others_lead wiring entry count ≡ false → 161 ≤ n → n < 161 + count → is_led_from wiring entry n ≡ false)
        → (b : Bool) → eqb n (161 + count) ≡ b → is_led_from wiring entry (161 + count) ≡ false → others_lead wiring entry count ≡ false
        → is_led_from wiring entry n ≡ false
    by lower true is here rest =
        let same : 161 + count ≡ n = grind (arith, nat_tests, is) in subst (λ (m : ℕ). is_led_from wiring entry m ≡ false) same here
    by lower false is here rest = lower rest low (grind (arith, nat_tests, is, high))

of-no-contact : (wiring : Wiring) (entry : Hub) → is_of_cycles wiring entry ≡ true → others_lead wiring entry 864 ≡ false
unfolding is_of_cycles
of-no-contact wiring entry is = by (others_lead wiring entry 864) is
  where
    by : (b : Bool) → not b ≡ true → b ≡ false
    by true is = absurd (false≢true is)
    by false is = refl

module _ (wiring : Wiring) (machine : MachineState) (cycle : Cycle) (to_entries : LeadsToEntries wiring) where
  abbrev Comes : Hub → Type 0
  Comes hub = IsImpulsed wiring (emits machine cycle C) (closes machine cycle C) hub

  abbrev IsWiredFrom : Hub → Type 0
  IsWiredFrom hub = (from : Hub) × (Comes from × HasWire wiring from hub)

  -- to an entry an impulse comes along a wire
  along-wire : {hub : Hub} → Comes hub → (row_of (letters_of hub)).is_exit ≡ false → contact_of hub ≡ None → IsWiredFrom hub
  along-wire (emitting hub there sends) entry none =
      absurd (entry-silent cycle hub entry (sym (emits-control machine cycle hub) ∙ sends))
  along-wire (led_on from to at (inl wire)) entry none = (from, (at, wire))
  along-wire (led_on from to at (inr contact)) entry none = absurd (none-is from (sym none ∙ contact.0))

  -- an exit of no contact that is impulsed tells of the cycle
  exit-tells : {hub : Hub} → Comes hub → is_exit_hub hub ≡ true → contact_of hub ≡ None → tells cycle hub ≡ true
  exit-tells (emitting hub there sends) exit none = sym (emits-control machine cycle hub) ∙ sends
  exit-tells (led_on from to at (inl wire)) exit none = absurd (no_exit_is_entry to exit (to_entries from to wire).1)
  exit-tells (led_on from to at (inr contact)) exit none = absurd (none-is from (sym none ∙ contact.0))

  -- its wire is asked by
  asks-by : (asking : Cycle) (from entry : Hub) → tells asking from ≡ true → is_wired wiring from entry ≡ true
      → asks wiring asking entry ≡ true
  asks-by RunIn from entry told wired = absurd (false≢true told)
  asks-by Card from entry told wired = ap (λ (h : Hub). is_wired wiring h entry) (is_hub-same CC from told) ∙ wired
  asks-by (Prog level ordinal) from entry told wired =
      ap (λ (h : Hub). is_wired wiring h entry) (is_hub-same (PX (level_number level) (ordinal_number ordinal)) from told) ∙ wired
  asks-by (Head heading) from entry told wired =
      ap (λ (h : Hub). is_wired wiring h entry) (is_hub-same (HX (ordinal_number heading)) from told) ∙ wired

  -- to which nothing else leads is asked by the cycle if it is impulsed
  asked : (entry : Hub) → (row_of (letters_of entry)).is_exit ≡ false → contact_of entry ≡ None → is_of_cycles wiring entry ≡ true
      → Comes entry → asks wiring cycle entry ≡ true
  asked entry is_entry none only at =
      let from : Hub = (along-wire at is_entry none).0 in
      let comes : Comes from = (along-wire at is_entry none).1.0 in
      let wire : HasWire wiring from entry = (along-wire at is_entry none).1.1 in
      let wired : is_wired wiring from entry ≡ true = (HasWire-is_wired wiring from entry).1 wire in
      let led : is_led_from wiring entry wire.number ≡ true =
      ap (λ (n : Option ℕ). is_listed (row_at wiring n) (number_of entry)) (sym wire.numbered) ∙ wired in
      asks-by cycle from entry
      (exit-tells comes (to_entries from entry wire).0
      (no-contact from wire.number wire.numbered (outside wire.number led (of-no-contact wiring entry only))))
      wired
    where
      outside : (n : ℕ) → is_led_from wiring entry n ≡ true → others_lead wiring entry 864 ≡ false → (n < 161) ⊎ (1025 ≤ n)
      outside n led none = by (nat_le 161 n) refl (nat_le 1025 n) refl
        where
          by : (b : Bool) → nat_le 161 n ≡ b → (d : Bool) → nat_le 1025 n ≡ d → (n < 161) ⊎ (1025 ≤ n)
          by false low d high = inl (grind (arith, nat_tests, low))
          by true low true high = inr (grind (arith, nat_tests, high))
          by true low false high =
              absurd
              (false≢true
              (sym (not-led wiring entry 864 n none (grind (arith, nat_tests, low)) (grind (arith, nat_tests, high))) ∙ led))

  led : (exit entry : Hub) → tells cycle exit ≡ true → is_wired wiring exit entry ≡ true → Comes entry
  led exit entry told wired =
      let wire : HasWire wiring exit entry = (HasWire-is_wired wiring exit entry).0 wired in
      led_on exit entry
      (emitting exit (in_range exit wire.number wire.numbered) (emits-control machine cycle exit ∙ told)) (inl wire)

module _ (wiring : Wiring) (machine : MachineState) (picture : Hub → Bool) (to_entries : LeadsToEntries wiring) where
  -- an entry at which a cycle asks is in the picture
  comes : (cycle : Cycle) (entry : Hub) → asks wiring cycle entry ≡ true
      → IsImpulsed wiring (emits machine cycle C) (closes machine cycle C) entry
  comes RunIn entry is = absurd (false≢true is)
  comes Card entry is = led wiring machine Card to_entries CC entry refl is
  comes (Prog level ordinal) entry is =
      led wiring machine (Prog level ordinal) to_entries (PX (level_number level) (ordinal_number ordinal)) entry
      (program-tells level ordinal) is
  comes (Head heading) entry is =
      led wiring machine (Head heading) to_entries (HX (ordinal_number heading)) entry (heading-tells heading) is

  module _ (cycle : Cycle) (is_picture : IsPicture wiring (emits machine cycle C) (closes machine cycle C) picture) where
    shown : (entry : Hub) → asks wiring cycle entry ≡ true → picture entry ≡ true
    shown entry is = (is_picture entry).1 (comes cycle entry is)

    -- one to which nothing else leads isn't, if the cycle doesn't ask there
    hidden : (entry : Hub) → (row_of (letters_of entry)).is_exit ≡ false → contact_of entry ≡ None → is_of_cycles wiring entry ≡ true
        → asks wiring cycle entry ≡ false → picture entry ≡ false
    hidden entry is_entry none only isnt = by (picture entry) refl
      where
        by : (b : Bool) → picture entry ≡ b → b ≡ false
        by false is = refl
        by true is =
            absurd
            (false≢true
            (sym isnt ∙ asked wiring machine cycle to_entries entry is_entry none only ((is_picture entry).0 is)))

    lines-told : IfSome (spacing_of wiring cycle) (λ lines. lines_asked picture ≡ lines)
    lines-told = by (asks wiring cycle (SP 3)) refl (asks wiring cycle (SP 2)) refl (is_of_cycles wiring (SP 3)) refl
      where
        by : (three : Bool) → asks wiring cycle (SP 3) ≡ three → (two : Bool) → asks wiring cycle (SP 2) ≡ two
            → (only : Bool) → is_of_cycles wiring (SP 3) ≡ only
            → IfSome (if three then Some 3 else if two && only then Some 2 else None) (λ lines. lines_asked picture ≡ lines)
        by true three two is_two only is_only =
            ap (λ (b : Bool). if b then 3 else if picture (SP 2) then 2 else 1) (shown (SP 3) three)
        by false three true two true only =
            ap (λ (b : Bool). if b then 3 else if picture (SP 2) then 2 else 1) (hidden (SP 3) refl refl only three)
            ∙ ap (λ (b : Bool). if b then 2 else 1) (shown (SP 2) two)
        by false three true two false only = tt
        by false three false two only is_only = tt

    channel-told : (others channel : ℕ)
        → IfSome (channel_from wiring cycle channel others) (λ told. lowest_from channel others picture ≡ Some told)
    channel-told zero channel = tt
    channel-told (suc others) channel =
        by (asks wiring cycle (SK channel)) refl (is_of_cycles wiring (SK channel)) refl (channel-told others (suc channel))
      where
        next : Option ℕ
        next = lowest_from (suc channel) others picture

        by : (here : Bool) → asks wiring cycle (SK channel) ≡ here → (only : Bool) → is_of_cycles wiring (SK channel) ≡ only
            → IfSome (channel_from wiring cycle (suc channel) others)
            (λ told. lowest_from (suc channel) others picture ≡ Some told)
            → IfSome (if here then Some channel else if only then channel_from wiring cycle (suc channel) others else None)
            (λ told. lowest_from channel (suc others) picture ≡ Some told)
        by true is only is_only rest = ap (λ (b : Bool). if b then Some channel else next) (shown (SK channel) is)
        by false is true only rest =
            lower (channel_from wiring cycle (suc channel) others) rest
          where
            skipped : lowest_from channel (suc others) picture ≡ lowest_from (suc channel) others picture
            skipped = ap (λ (b : Bool). if b then Some channel else next) (hidden (SK channel) refl refl only is)

            lower : (told : Option ℕ) → IfSome told (λ told. lowest_from (suc channel) others picture ≡ Some told)
                → IfSome told (λ told. lowest_from channel (suc others) picture ≡ Some told)
            lower None rest = tt
            lower (Some told) rest = skipped ∙ rest
        by false is false only rest = tt

    -- if nothing is told, nothing is asked for by wires from no contact
    single-told : spacing_of wiring cycle ≡ None → is_of_cycles wiring (SP 2) ≡ true → is_of_cycles wiring (SP 3) ≡ true
        → lines_asked picture ≡ 1
    single-told none two three = by (asks wiring cycle (SP 3)) refl (asks wiring cycle (SP 2)) refl none
      where
        by : (here : Bool) → asks wiring cycle (SP 3) ≡ here → (there : Bool) → asks wiring cycle (SP 2) ≡ there
            → ◌≡◌ {A = Option ℕ} (if here then Some 3 else if there && is_of_cycles wiring (SP 3) then Some 2 else None) None
            → lines_asked picture ≡ 1
        by true is there also told = absurd (none-some 3 (sym told))
        by false is true also told = absurd (none-some 2 (sym told ∙ ap (λ (b : Bool). if b then Some 2 else None) three))
        by false is false also told =
            ap (λ (b : Bool). if b then 3 else if picture (SP 2) then 2 else 1) (hidden (SP 3) refl refl three is)
            ∙ ap (λ (b : Bool). if b then 2 else 1) (hidden (SP 2) refl refl two also)

    no-skip-told : (others channel : ℕ) → channel_from wiring cycle channel others ≡ None
        → ((other : ℕ) → channel ≤ other → other < channel + others → is_of_cycles wiring (SK other) ≡ true)
        → lowest_from channel others picture ≡ None
    no-skip-told zero channel none only = refl
    no-skip-told (suc others) channel none only =
        by
        (λ rest. no-skip-told others (suc channel) rest (λ other low high. only other (omega (arith, low)) (omega (arith, high))))
        (asks wiring cycle (SK channel)) refl none
      where
        here : is_of_cycles wiring (SK channel) ≡ true
        here = only channel (omega arith) (omega arith)

        by : (channel_from wiring cycle (suc channel) others ≡ None → lowest_from (suc channel) others picture ≡ None)
            → (asked : Bool) → asks wiring cycle (SK channel) ≡ asked
            → (if asked then Some channel
            else if is_of_cycles wiring (SK channel) then channel_from wiring cycle (suc channel) others else None)
            ≡ None
            → lowest_from channel (suc others) picture ≡ None
        by further true is told = absurd (none-some channel (sym told))
        by further false is told =
            ap (λ (b : Bool). if b then Some channel else lowest_from (suc channel) others picture)
            (hidden (SK channel) refl refl here is)
            ∙ further (ap (λ (b : Bool). if b then channel_from wiring cycle (suc channel) others else None) (sym here) ∙ told)

pub carriage-told : CarriageIsAskedAsTold
carriage-told wiring machine cycle picture to_entries is_picture = record {
  lines = lines-told wiring machine picture to_entries cycle is_picture;
  channel = channel-told wiring machine picture to_entries cycle is_picture 12 1;
  restore = λ is. shown wiring machine picture to_entries cycle is_picture RS is;
  single = single-told wiring machine picture to_entries cycle is_picture;
  no_skip = λ none only.
      no-skip-told wiring machine picture to_entries cycle is_picture 12 1 none
      (λ channel low high. only channel low (omega (arith, high)));
  same_page = λ isnt only. hidden wiring machine picture to_entries cycle is_picture RS refl refl only isnt;
}

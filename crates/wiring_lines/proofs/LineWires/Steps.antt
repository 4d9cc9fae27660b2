-- Wiring step by step: what one step adds and what the next adds are what both add.
use Rattle.std.proofs.Common.{◌≡◌, ℕ, ◌+◌, ◌<◌, ◌≤◌, ◌⊎◌, inl, inr, refl, sym, ap, ◌∙◌, subst, arith, true, List, Option, Some, None, length, get_or, slice_get}
use Rattle.std.proofs.lemmas.Bool.{cases_lt}
use Rattle.chart_lines.specs.declared.charts.chart.Line.{Line}
use Rattle.chart_lines.proofs.ChartsWords.Listed.{place-of}
use Rattle.hubs.specs.declared.hub.Hub.{Hub}
use Rattle.hubs.specs.SetupsWords.Wiring.{Wiring, HasWire, AddsWire, SameJacks}
use Rattle.card_code.specs.CardCode.{has_row, rows_of}
use Rattle.wiring_lines.specs.LineWires.HelperRows.{ColumnWires, RowWire, CharacterWires, number_at}
use Rattle.wiring_lines.proofs.LineWires.RowSets.{row_place}
use Rattle.wiring_lines.specs.LineWires.HelperAdds.{Adds, One, one, Both, first, second, Upto, below, OfSome, some, Where, given, punched}

-- one wire more
pub adds-one : {exit entry : Hub} {old new : Wiring} → AddsWire old new exit entry → SameJacks old new → new.tape ≡ old.tape
    → Adds (One exit entry) old new
adds-one {exit} {entry} {old} {new} wires jacks tape = record {
  wires = λ from to. (
    λ has. elim ((wires from to).0 has) [ inl there ↦ inl there | inr is ↦ inr (is_one from to is.0 is.1) ],
    λ either. elim either [ inl there ↦ (wires from to).1 (inl there) | inr is ↦ (wires from to).1 (inr (ends is)) ],
  );
  jacks = jacks;
  tape = tape;
}
  where
    is_one : (from to : Hub) → from ≡ exit → to ≡ entry → One exit entry from to
    is_one from to e f =
        let P : Hub → Type 0 = λ x. One exit entry x to in
        let Q : Hub → Type 0 = λ x. One exit entry exit x in
        subst P (sym e) (subst Q (sym f) one)

    ends : {from to : Hub} → One exit entry from to → (from ≡ exit) × (to ≡ entry)
    ends one = (refl, refl)

-- other words for the same wires
pub adds-as : {R S : Hub → Hub → Type 0} {old new : Wiring} → ((exit entry : Hub) → R exit entry → S exit entry)
    → ((exit entry : Hub) → S exit entry → R exit entry) → Adds R old new → Adds S old new
adds-as there back added = record {
  wires = λ exit entry. (
    λ has. elim ((added.wires exit entry).0 has) [ inl before ↦ inl before | inr by ↦ inr (there exit entry by) ],
    λ either. elim either [
      | inl before ↦ (added.wires exit entry).1 (inl before)
      | inr by ↦ (added.wires exit entry).1 (inr (back exit entry by))
    ],
  );
  jacks = added.jacks;
  tape = added.tape;
}

-- no wire
pub adds-none : {R : Hub → Hub → Type 0} {setup : Wiring} → ((exit entry : Hub) → R exit entry → ⊥) → Adds R setup setup
adds-none none = record {
  wires = λ exit entry.
      (λ there. inl there, λ either. elim either [ inl there ↦ there | inr added ↦ absurd (none exit entry added) ]);
  jacks = λ jack. refl;
  tape = refl;
}

-- the wires of one step and those of the next
pub adds-both : {R S : Hub → Hub → Type 0} {old mid new : Wiring} → Adds R old mid → Adds S mid new → Adds (Both R S) old new
adds-both {R} {S} {old} {mid} {new} now next = record {
  wires = λ exit entry. (
    λ there. elim ((next.wires exit entry).0 there) [
      | inl before ↦ elim ((now.wires exit entry).0 before)
          [ inl there ↦ inl there | inr added ↦ inr (first added) ]
      | inr added ↦ inr (second added)
    ],
    λ either. elim either [
      | inl before ↦ (next.wires exit entry).1 (inl ((now.wires exit entry).1 (inl before)))
      | inr added ↦ by exit entry added
    ],
  );
  jacks = λ jack. next.jacks jack ∙ now.jacks jack;
  tape = next.tape ∙ now.tape;
}
  where
    by : (exit entry : Hub) → Both R S exit entry → HasWire new exit entry
    by exit entry (first added) = (next.wires exit entry).1 (inl ((now.wires exit entry).1 (inr added)))
    by exit entry (second added) = (next.wires exit entry).1 (inr added)

-- the wires of no place yet
pub upto-none : {at : ℕ → Hub → Hub → Type 0} {setup : Wiring} → Adds (Upto 0 at) setup setup
upto-none {at} = adds-none none
  where
    none : (exit entry : Hub) → Upto 0 at exit entry → ⊥
    none exit entry (below place less wire) = omega (arith, less)

-- the wires of one place more
pub upto-more : {at : ℕ → Hub → Hub → Type 0} {bound : ℕ} {old mid new : Wiring} → Adds (Upto bound at) old mid
    → Adds (at bound) mid new → Adds (Upto (bound + 1) at) old new
upto-more {at} {bound} so_far next = adds-as there back (adds-both so_far next)
  where
    there : (exit entry : Hub) → Both (Upto bound at) (at bound) exit entry → Upto (bound + 1) at exit entry
    there exit entry (first (below place less wire)) = below place (omega (arith, less)) wire
    there exit entry (second wire) = below bound (omega arith) wire

    back : (exit entry : Hub) → Upto (bound + 1) at exit entry → Both (Upto bound at) (at bound) exit entry
    back exit entry (below place less wire) = by (cases_lt place bound) wire
      where
        by : (place < bound) ⊎ (bound ≤ place) → at place exit entry → Both (Upto bound at) (at bound) exit entry
        by (inl under) wire = first (below place under wire)
        by (inr over) wire =
            let same : place ≡ bound = omega (arith, less, over) in
            let P : ℕ → Type 0 = λ p. at p exit entry in
            second (subst P same wire)

-- the wires of all places
pub upto-all : {at : ℕ → Hub → Hub → Type 0} {bound all : ℕ} {old new : Wiring} → Adds (Upto bound at) old new → bound ≡ all
    → Adds (Upto all at) old new
upto-all {at} {bound} {all} {old} {new} added same =
    let P : ℕ → Type 0 = λ n. Adds (Upto n at) old new in
    subst P same added

-- the wires of an option's value
pub adds-some : {X : Type 0} {option : Option X} {value : X} {of : X → Hub → Hub → Type 0} {old new : Wiring}
    → option ≡ Some value → Adds (of value) old new → Adds (OfSome option of) old new
adds-some {X} {option} {value} {of} is added = adds-as (λ exit entry wire. some value is wire) back added
  where
    back : (exit entry : Hub) → OfSome option of exit entry → of value exit entry
    back exit entry (some other is_other wire) =
        let same : other ≡ value = cc in
        let P : X → Type 0 = λ x. of x exit entry in
        subst P same wire

pub adds-no_value : {X : Type 0} {option : Option X} {of : X → Hub → Hub → Type 0} {setup : Wiring} → option ≡ None
    → Adds (OfSome option of) setup setup
adds-no_value {X} {option} {of} is = adds-none none
  where
    none : (exit entry : Hub) → OfSome option of exit entry → ⊥
    none exit entry (some other is_other wire) = cc

-- the wires of what holds
pub adds-where : {holds : Type 0} {R : Hub → Hub → Type 0} {old new : Wiring} → holds → Adds R old new → Adds (Where holds R) old new
adds-where {holds} {R} is added = adds-as (λ exit entry wire. given is wire) back added
  where
    back : (exit entry : Hub) → Where holds R exit entry → R exit entry
    back exit entry (given is_so wire) = wire

pub adds-nowhere : {holds : Type 0} {R : Hub → Hub → Type 0} {setup : Wiring} → ¬ holds → Adds (Where holds R) setup setup
adds-nowhere {holds} {R} nowhere = adds-none none
  where
    none : (exit entry : Hub) → Where holds R exit entry → ⊥
    none exit entry (given is_so wire) = nowhere is_so

-- the rows of a character
pub adds-character : {emitter character column : ℕ} {entry : Hub} {old new : Wiring} → rows_of character ≡ Some column
    → Adds (ColumnWires emitter entry column) old new → Adds (CharacterWires emitter entry character) old new
adds-character {emitter} {character} {column} {entry} coded added = adds-as there back added
  where
    of_row : {exit to : Hub} (row : ℕ) → RowWire emitter entry column row exit to → CharacterWires emitter entry character exit to
    of_row row (given in_column wire) = punched row (record { set = column; coded = coded; punched = in_column }) wire

    there : (exit to : Hub) → ColumnWires emitter entry column exit to → CharacterWires emitter entry character exit to
    there exit to (below place less wire) = of_row (number_at place) wire

    back : (exit to : Hub) → CharacterWires emitter entry character exit to → ColumnWires emitter entry column exit to
    back exit to (punched row punch wire) =
        let same : punch.set ≡ column = cc in
        let P : ℕ → Type 0 = λ s. has_row s row ≡ true in
        let Q : ℕ → Type 0 = λ r. RowWire emitter entry column r exit to in
        let in_column : has_row column row ≡ true = subst P same punch.punched in
        let at = row_place character column row coded in_column in
        below at.0 at.1 (subst Q (sym at.2) (given in_column wire))

-- one wire, between hubs that are the same
pub one-as : {from to exit entry : Hub} {old new : Wiring} → Adds (One from to) old new → from ≡ exit → to ≡ entry
    → Adds (One exit entry) old new
one-as {from} {to} {exit} {entry} {old} {new} added e f =
    let P : Hub → Type 0 = λ hub. Adds (One hub entry) old new in
    let Q : Hub → Type 0 = λ hub. Adds (One from hub) old new in
    subst P e (subst Q f added)

-- the wires of a value, by another that is the same
pub adds-by : {X : Type 0} {value same : X} {old new : Wiring} (of : X → Hub → Hub → Type 0) → Adds (of value) old new
    → value ≡ same → Adds (of same) old new
adds-by {X} {value} {same} {old} {new} of added e =
    let P : X → Type 0 = λ x. Adds (of x) old new in
    subst P e added

-- what holds of what a line says holds of it by another name
pub by-said : {X : Type 0} (P : X → Type 0) {said same : X} → said ≡ same → P same → P said
by-said P e holds = subst P (sym e) holds

-- the line to which a loop over the lines of a chart has come stands at its place there
pub line-there : {lines items : List Line} {place : ℕ} {line : Line} → items ≡ lines → place < length items → line ≡ get_or items place line
    → slice_get lines place ≡ Some line
line-there {items = items} {place = place} {line = line} same within is =
    ap (λ list. slice_get list place) (sym same) ∙ place-of items line place within (sym is)

-- A traced run, between two of its cycles.
use Rattle.std.proofs.Common.{◌≡◌, ◌∙◌, append_assoc, append-nil, arith, sym, ap, subst, refl, ℕ, zero, suc, ◌<◌, ◌≤◌, ◌⊎◌, inl, inr, List, [], ◌∷◌, ◌++◌, Option, None, Some}
use Rattle.std.proofs.lemmas.Grind.{flat_map-append}
use Rattle.std.proofs.lemmas.List.{flat_map_more}
use Rattle.std.proofs.KnownBytes.{Appends-kept, Appends-nil, Appends-trans}
use Rattle.std.specs.Io.KnownBytes.{Appends, Keeps}
use Rattle.std.specs.List.{flat_map}
use Rattle.std.specs.Prelude.{OnOk, Result, Ok, Err, codes}
use Rattle.page_text.specs.declared.placed_lines.placed_line.PlacedLine.{PlacedLine}
use Rattle.hubs.specs.SetupsWords.Wiring.{Wiring}
use Rattle.net.specs.declared.cycle.Cycle.{Cycle}
use Rattle.machine.specs.Cycles.{line_of}
use Rattle.machine.specs.Machine.{MachineState}
use Rattle.machine.specs.Runs.{cycle_due}
use Rattle.machine.proofs.FewCycles.{ahead}
use Rattle.machine.proofs.SomeOutcome.{CycleRun-some}
use Rattle.explain_wheels.proofs.RunsWords.Places.{comes-within, goes-falls}
use Rattle.explain_wheels.specs.RunsWords.{Along, ComesTo, at_start, on, Ends, Goes, IsBegun, IsBetween, IsIn, along_after, along_at_start, along_of, card_in, ready}
use Rattle.explain_wheels.specs.declared.runs.DeckRun.{DeckRun}
use Rattle.explain_ledgers.specs.LedgersWords.LedgerText.Names.{cycle_name}
use Rattle.explain_words.specs.TracesWords.Lines.{cycle_line, put_behind, units_told}
use Rattle.explain_words.specs.TracesWords.TracedUnits.{line_told}
use Rattle.explain_words.specs.TracesWords.Traces.{AreCycles, CyclesTo, IsTrace, ToldCycle, next, none, told_cycle, told_line}
use Rattle.explain_words.specs.TracesWords.Tracing.{TracesCycle, WritesTrace, WritesTraceFront}

-- A run stands between two of its cycles, and its trace so far is written.
pub record Stands (wiring : Wiring) (deck : List (List ℕ)) (run : DeckRun) (was is : Option (List ℕ)) : Type 0 where
  pub between : IsBetween wiring deck run
  pub cycles : List ToldCycle
  pub told : CyclesTo wiring deck (along_of run) cycles
  pub written : Appends was is (flat_map told_line cycles)

-- behind the cycles so far come those that a whole run has
record GoesToEnd (wiring : Wiring) (deck : List (List ℕ)) (cycles : List ToldCycle) : Type 0 where
  rest : List ToldCycle
  are_cycles : AreCycles wiring deck (cycles ++ rest)

due_or_none : (due : Option Cycle) → (due ≡ None) ⊎ ((cycle : Cycle) × (due ≡ Some cycle))
due_or_none None = inl refl
due_or_none (Some cycle) = inr (cycle, refl)

at_end : (wiring : Wiring) (deck : List (List ℕ)) (along : Along) (cycles : List ToldCycle) → CyclesTo wiring deck along cycles
    → cycle_due along.run.machine ≡ None → GoesToEnd wiring deck cycles
at_end wiring deck along cycles told over = record {
  rest = [];
  are_cycles = subst (AreCycles wiring deck) (sym (append-nil cycles)) (record { along = along; told = told; over = over });
}

-- the cycle that is due runs
record GoesOn (wiring : Wiring) (deck : List (List ℕ)) (cycle : Cycle) (along : Along) : Type 0 where
  behind : MachineState
  goes : Goes wiring cycle along behind
  falls : ahead (along_after cycle behind along).run < ahead along.run

goes_on : (wiring : Wiring) (deck : List (List ℕ)) (cycle : Cycle) (along : Along) → ComesTo wiring deck along
    → cycle_due along.run.machine ≡ Some cycle → GoesOn wiring deck cycle along
goes_on wiring deck cycle along comes due =
    let ran = (CycleRun-some wiring cycle (ready cycle along)).1 in
    let goes : Goes wiring cycle along ran.at_end = record { due = due; reached = ran.reached } in
    record { behind = ran.at_end; goes = goes; falls = goes-falls wiring deck cycle along ran.at_end (comes-within wiring deck comes) goes }

behind_one : (wiring : Wiring) (deck : List (List ℕ)) (cycles : List ToldCycle) (one : ToldCycle) → GoesToEnd wiring deck (cycles ++ one ∷ [])
    → GoesToEnd wiring deck cycles
behind_one wiring deck cycles one to_end = record {
  rest = one ∷ to_end.rest;
  are_cycles = subst (AreCycles wiring deck) (append_assoc cycles (one ∷ []) to_end.rest) to_end.are_cycles;
}

-- so it goes to its end, as each cycle leaves less to follow
goes_to_end : (many : ℕ) (wiring : Wiring) (deck : List (List ℕ)) (along : Along) (cycles : List ToldCycle) → ComesTo wiring deck along
    → ahead along.run ≤ many → CyclesTo wiring deck along cycles → GoesToEnd wiring deck cycles
goes_to_end zero wiring deck along cycles comes few told = elim (due_or_none (cycle_due along.run.machine)) [
  | inl over ↦ at_end wiring deck along cycles told over
  | inr (cycle, due) ↦ let falls = (goes_on wiring deck cycle along comes due).falls in absurd (omega (arith, few, falls))
]
goes_to_end (suc many) wiring deck along cycles comes few told = elim (due_or_none (cycle_due along.run.machine)) [
  | inl over ↦ at_end wiring deck along cycles told over
  | inr (cycle, due) ↦
      let one = goes_on wiring deck cycle along comes due in
      let falls = one.falls in
      behind_one wiring deck cycles (told_cycle cycle (card_in cycle along.card) one.behind)
      (goes_to_end many wiring deck (along_after cycle one.behind along) (cycles ++ told_cycle cycle (card_in cycle along.card) one.behind ∷ [])
      (on cycle along one.behind comes one.goes) (omega (arith, few, falls)) (next cycle along cycles one.behind told one.goes))
]

-- the lines of the cycles so far, and those behind them, are a trace
whole_trace : (wiring : Wiring) (deck : List (List ℕ)) (cycles : List ToldCycle) (to_end : GoesToEnd wiring deck cycles)
    → IsTrace wiring deck (flat_map told_line cycles ++ flat_map told_line to_end.rest)
whole_trace wiring deck cycles to_end = record {
  cycles = cycles ++ to_end.rest;
  are_cycles = to_end.are_cycles;
  lines = sym (flat_map-append told_line cycles to_end.rest);
}

-- before any cycle nothing is written
pub nothing_traced : (wiring : Wiring) (deck : List (List ℕ)) (was : Option (List ℕ)) → WritesTraceFront wiring deck was was
nothing_traced wiring deck was =
    let start = along_at_start wiring deck in
    let to_end : GoesToEnd wiring deck [] = goes_to_end (ahead start.run) wiring deck start [] at_start (omega arith) none in
    record { front = []; rest = flat_map told_line to_end.rest; is_trace = whole_trace wiring deck [] to_end; written = Appends-nil was }

-- the lines of the cycles so far are written
pub Stands-front : (wiring : Wiring) (deck : List (List ℕ)) (run : DeckRun) (was is : Option (List ℕ)) → Stands wiring deck run was is
    → WritesTraceFront wiring deck was is
Stands-front wiring deck run was is stands =
    let to_end : GoesToEnd wiring deck stands.cycles =
    goes_to_end (ahead (along_of run).run) wiring deck (along_of run) stands.cycles stands.between.comes (omega arith) stands.told in
    record {
      front = flat_map told_line stands.cycles;
      rest = flat_map told_line to_end.rest;
      is_trace = whole_trace wiring deck stands.cycles to_end;
      written = stands.written;
    }

-- before any cycle
pub Stands-begun : (wiring : Wiring) (deck : List (List ℕ)) (run : DeckRun) (was : Option (List ℕ)) → IsBegun wiring deck run
    → Stands wiring deck run was was
Stands-begun wiring deck run was begins = record {
  between = begins.between;
  cycles = [];
  told = subst (λ (a : Along). CyclesTo wiring deck a []) (sym begins.start) none;
  written = Appends-nil was;
}

-- one cycle more, with its line written
pub Stands-more : (wiring : Wiring) (deck : List (List ℕ)) (cycle : Cycle) (run inside after : DeckRun) (line : List ℕ)
    (was is new : Option (List ℕ)) → Stands wiring deck run was is → IsIn wiring deck cycle (along_of run) inside
    → TracesCycle wiring deck cycle (along_of run) inside.machine.machine after line → Appends is new line
    → Stands wiring deck after was new
Stands-more wiring deck cycle run inside after line was is new stands inside_is traces written =
    let behind : MachineState = inside.machine.machine in
    let one : ToldCycle = told_cycle cycle (card_in cycle run.card) behind in
    record {
      between = traces.ends.between;
      cycles = stands.cycles ++ one ∷ [];
      told =
          subst (λ (a : Along). CyclesTo wiring deck a (stands.cycles ++ one ∷ [])) traces.ends.along
          (next cycle (along_of run) stands.cycles behind stands.told inside_is.goes);
      written =
          subst (λ (l : List ℕ). Appends was new l) (flat_map_more told_line [] stands.cycles one)
          (Appends-trans was is new (flat_map told_line stands.cycles) one.line stands.written
          (subst (λ (l : List ℕ). Appends is new l) traces.told written));
    }

-- behind a trace the front of a line, and what follows it
line_cut : (trace line front rest others : List ℕ) → line ≡ front ++ rest → (trace ++ line) ++ others ≡ (trace ++ front) ++ (rest ++ others)
line_cut trace line front rest others cut =
    append_assoc trace line others
    ∙ ap (λ (l : List ℕ). trace ++ (l ++ others)) cut
    ∙ ap (λ (l : List ℕ). trace ++ l) (append_assoc front rest others)
    ∙ sym (append_assoc trace front (rest ++ others))

-- of the line of the next cycle the front is written
pub Stands-part : (wiring : Wiring) (deck : List (List ℕ)) (cycle : Cycle) (run inside after : DeckRun) (line front rest : List ℕ)
    (was is new : Option (List ℕ)) → Stands wiring deck run was is → IsIn wiring deck cycle (along_of run) inside
    → TracesCycle wiring deck cycle (along_of run) inside.machine.machine after line → line ≡ front ++ rest → Appends is new front
    → WritesTraceFront wiring deck was new
Stands-part wiring deck cycle run inside after line front rest was is new stands inside_is traces cut written =
    let behind : MachineState = inside.machine.machine in
    let one : ToldCycle = told_cycle cycle (card_in cycle run.card) behind in
    let there : Along = along_after cycle behind (along_of run) in
    let to_end : GoesToEnd wiring deck (stands.cycles ++ one ∷ []) =
    goes_to_end (ahead there.run) wiring deck there (stands.cycles ++ one ∷ []) (on cycle (along_of run) behind stands.between.comes inside_is.goes)
    (omega arith) (next cycle (along_of run) stands.cycles behind stands.told inside_is.goes) in
    let so_far = flat_map told_line stands.cycles in
    let others = flat_map told_line to_end.rest in
    record {
      front = so_far ++ front;
      rest = rest ++ others;
      is_trace =
          subst (IsTrace wiring deck) (line_cut so_far one.line front rest others (sym traces.told ∙ cut))
          (subst (λ (l : List ℕ). IsTrace wiring deck (l ++ others)) (sym (flat_map_more told_line [] stands.cycles one))
          (whole_trace wiring deck (stands.cycles ++ one ∷ []) to_end));
      written = Appends-trans was is new so_far front stands.written written;
    }

-- what is written is the whole trace, so it is a front of it
pub Stands-all : (wiring : Wiring) (deck : List (List ℕ)) (was is : Option (List ℕ)) → WritesTrace wiring deck was is
    → WritesTraceFront wiring deck was is
Stands-all wiring deck was is writes = record {
  front = writes.trace;
  rest = [];
  is_trace = subst (IsTrace wiring deck) (sym (append-nil writes.trace)) writes.is_trace;
  written = writes.written;
}

-- no cycle is due, and what the writer held back is written
pub Stands-over : (wiring : Wiring) (deck : List (List ℕ)) (run : DeckRun) (was is new : Option (List ℕ)) → Stands wiring deck run was is
    → cycle_due run.machine.machine ≡ None → Keeps is new → WritesTrace wiring deck was new
Stands-over wiring deck run was is new stands over kept = record {
  trace = flat_map told_line stands.cycles;
  is_trace = record {
    cycles = stands.cycles;
    are_cycles = record { along = along_of run; told = stands.told; over = over };
    lines = refl;
  };
  written = Appends-kept was is new (flat_map told_line stands.cycles) stands.written kept;
}

where_ok : {X E : Type 0} (P Q : Type 0) (result : Result X E) → (P → Q) → OnOk result P → OnOk result Q
where_ok P Q (Ok x) then was = then was
where_ok P Q (Err e) then was = was

-- a cycle is left, and its line is made of what was told
pub line_made : {X E : Type 0} (result : Result X E) (wiring : Wiring) (deck : List (List ℕ)) (cycle : Cycle) (from : Along)
    (behind : MachineState) (after : DeckRun) (units told line : List ℕ) (placed : List PlacedLine) → Ends wiring deck cycle from behind after
    → units ≡ units_told cycle behind → told ≡ units ++ flat_map line_told placed → placed ≡ line_of after.machine.machine
    → OnOk result (line ≡ put_behind (cycle_name cycle after.card) told ++ codes "\n")
    → OnOk result (TracesCycle wiring deck cycle from behind after line)
line_made result wiring deck cycle from behind after units told line placed ends of_units of_told of_placed =
    where_ok (line ≡ put_behind (cycle_name cycle after.card) told ++ codes "\n")
    (TracesCycle wiring deck cycle from behind after line) result
    (λ made. record {
      ends = ends;
      told =
          made ∙ ap (λ (t : List ℕ). put_behind (cycle_name cycle after.card) t ++ codes "\n")
          (of_told ∙ ap (λ (u : List ℕ). u ++ flat_map line_told placed) of_units
          ∙ ap (λ (p : List PlacedLine). units_told cycle behind ++ flat_map line_told p)
          (of_placed ∙ sym (ap (λ (a : Along). line_of a.run.machine) ends.along)))
          ∙ sym (ap (λ (a : Along). cycle_line cycle a.card behind) ends.along);
    })

-- a fact that holds whatever the answer is
pub whatever : {X E : Type 0} (P : Type 0) (result : Result X E) → P → OnOk result P
whatever P (Ok x) is = is
whatever P (Err e) is = tt

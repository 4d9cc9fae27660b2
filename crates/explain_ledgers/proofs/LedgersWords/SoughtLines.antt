-- Lines that are sought along a run.
use Rattle.std.proofs.Common.{◌≡◌, ◌∙◌, sym, ap, subst, refl, ℕ, Bool, true, false, List, [], ◌∷◌, ◌++◌, ◌<◌, Option, Some, None, length, map, take, drop, get_or, arith, if◌then◌else◌, is_some, ◌&&◌, eqb}
use Rattle.std.proofs.lemmas.Bool.{false≢true}
use Rattle.std.proofs.lemmas.Bool.Decides.{nat_tests}
use Rattle.std.proofs.lemmas.List.Elements.{All-append, All-cons, All-map, All-nil, All-same}
use Rattle.std.proofs.lemmas.List.{get_or-map, length-map}
use Rattle.std.proofs.lemmas.Simd.{map-map}
use Rattle.std.specs.List.{All}
use Rattle.std.specs.Option.{IfSome, option_to_list}
use Rattle.explain_wheels.specs.ExplanationsWords.PlacedInRun.{PrintsNoneAt}
use Rattle.machine.specs.Cycles.{CycleRun, line_of}
use Rattle.machine.specs.Kept.{IsElsewhere}
use Rattle.machine.specs.Runs.{RunsBy, cycle_due}
use Rattle.net.specs.declared.cycle.Cycle.{Cycle}
use Rattle.page_text.specs.declared.placed_lines.placed_line.PlacedLine.{PlacedLine}
use Rattle.hubs.specs.SetupsWords.Wiring.{Wiring}
use Rattle.explain_wheels.specs.RunsWords.{Ends, IsBegun, IsBetween, IsIn, along_of}
use Rattle.explain_wheels.specs.declared.runs.DeckRun.{DeckRun}
use Rattle.explain_ledgers.specs.LedgersWords.Ledgers.{Along}
use Rattle.explain_ledgers.specs.LedgersWords.Running.{IsFoundAt, IsSought, PlacesAt, PlacesLine, sought_at}
use Rattle.explain_ledgers.specs.LedgersWords.SoughtLines.{IsUnfound, found_after, found_at, found_of, is_found, noted}
use Rattle.explain_ledgers.specs.declared.ledgers.found.EndedCycle.{EndedCycle}
use Rattle.explain_ledgers.specs.declared.ledgers.found.FoundCycle.{FoundCycle}
use Rattle.explain_ledgers.specs.declared.ledgers.found.LinePlace.{LinePlace}
use Rattle.explain_ledgers.specs.declared.ledgers.found.SoughtLine.{SoughtLine}
use Rattle.explain_wheels.proofs.RunsWords.DeckRuns.{cycle-in}
use Rattle.explain_ledgers.proofs.LedgersWords.Loops.{written-back}

-- no line of the cycles so far stands at a page and a line of it
abbrev pub IsPast : Wiring → List (List ℕ) → ℕ → ℕ → Along → Type 0
IsPast wiring deck page line along =
    (cycles : List Cycle) (lines : List PlacedLine)
    → RunsBy (CycleRun wiring) cycles along.run lines → All (IsElsewhere page line) lines → PrintsNoneAt wiring deck page line

-- What is found at a place up to a place of the run: the cycle that placed a line there, or that none did so far.
abbrev pub IsFoundTo : Wiring → List (List ℕ) → Along → LinePlace → Option FoundCycle → Type 0
IsFoundTo wiring deck along at (Some found) = PlacesAt wiring deck at found
IsFoundTo wiring deck along at None = IsPast wiring deck at.page at.line along

abbrev pub IsSoughtTo : Wiring → List (List ℕ) → Along → SoughtLine → Type 0
IsSoughtTo wiring deck along sought = IsFoundTo wiring deck along sought.at sought.found

-- A run, and the lines that are sought up to there.
pub record Seeks (wiring : Wiring) (deck : List (List ℕ)) (places : List LinePlace) (run : DeckRun) (sought : List SoughtLine) : Type 0 where
  pub between : IsBetween wiring deck run
  pub same : map sought_at sought ≡ places
  pub each : All (IsSoughtTo wiring deck (along_of run)) sought

-- no line stands anywhere before any cycle
past-begun : (wiring : Wiring) (deck : List (List ℕ)) (page line : ℕ) (run : DeckRun) → IsBegun wiring deck run
    → IsPast wiring deck page line (along_of run)
past-begun wiring deck page line run begins =
    subst (IsPast wiring deck page line) (sym begins.start)
    (λ cycles lines runs elsewhere. record { lines = lines; run = (cycles, runs); elsewhere = elsewhere })

-- no cycle is due any more
past-over : (wiring : Wiring) (deck : List (List ℕ)) (page line : ℕ) (along : Along) → IsPast wiring deck page line along
    → cycle_due along.run.machine ≡ None → PrintsNoneAt wiring deck page line
unfolding RunsBy
past-over wiring deck page line along past over = past [] [] (over, refl) (All-nil (IsElsewhere page line))

-- nothing is found before any cycle
pub seeks-begun : (wiring : Wiring) (deck : List (List ℕ)) (run : DeckRun) (sought : List SoughtLine) → IsBegun wiring deck run
    → All IsUnfound sought → Seeks wiring deck (map sought_at sought) run sought
seeks-begun wiring deck run sought begins none = record {
  between = begins.between;
  same = refl;
  each = λ k d low.
      let one : SoughtLine = get_or sought k d in
      subst (IsFoundTo wiring deck (along_of run) one.at) (sym (none k d low))
      (past-begun wiring deck one.at.page one.at.line run begins);
}

-- one cycle more
module _ (wiring : Wiring) (deck : List (List ℕ)) (cycle : Cycle) (run inside after : DeckRun)
    (is : IsIn wiring deck cycle (along_of run) inside)
    (behind : Ends wiring deck cycle (along_of run) inside.machine.machine after)
  where
    abbrev over : Option PlacedLine → EndedCycle
    over placed = record { passed = run.begun; cycle = cycle; card = after.card; placed = placed }

    places-here : (line : PlacedLine) → line_of after.machine.machine ≡ line ∷ []
        → PlacesLine wiring deck (record { passed = run.begun; cycle = cycle; card = after.card; line = line })
    places-here line placed = record {
      has = cycle-in wiring deck cycle (along_of run) inside is;
      cycle = refl;
      card = sym (ap (λ (a : Along). a.card) behind.along);
      placed = ap (λ (a : Along). line_of a.run.machine) behind.along ∙ placed;
    }

    -- the cycle placed no line at a place
    goes-past : (at : LinePlace) → IsPast wiring deck at.page at.line (along_of run)
        → All (IsElsewhere at.page at.line) (line_of after.machine.machine) → IsPast wiring deck at.page at.line (along_of after)
    unfolding RunsBy
    goes-past at past elsewhere = λ cycles lines runs others.
        past (cycle ∷ cycles) (line_of after.machine.machine ++ lines) (
          after.machine.machine,
          lines,
          is.goes.due,
          record { at_end = inside.machine.machine; reached = is.goes.reached; is_new = sym (ap (λ (a : Along). a.run.machine) behind.along) },
          subst (λ (h : List (List ℕ)). RunsBy (CycleRun wiring) cycles (record { machine = after.machine.machine; hopper = h }) lines)
              (sym (ap (λ (a : Along). a.run.hopper) behind.along)) runs,
          refl,
        )
        (All-append (IsElsewhere at.page at.line) (line_of after.machine.machine) lines elsewhere others)

    one-more : (at : LinePlace) (found : Option FoundCycle) (placed : Option PlacedLine)
        → option_to_list placed ≡ line_of after.machine.machine
        → IsFoundTo wiring deck (along_of run) at found
        → IsFoundTo wiring deck (along_of after) at (found_after (over placed) at found)
    one-more at (Some found) placed lines found_is = found_is
    one-more at None None lines past =
        goes-past at past
        (subst (λ (l : List PlacedLine). All (IsElsewhere at.page at.line) l) lines (All-nil (IsElsewhere at.page at.line)))
    one-more at None (Some line) lines past = by (eqb line.page at.page) (eqb line.line at.line) refl refl
      where
        else-where : (IsElsewhere at.page at.line line) → IsPast wiring deck at.page at.line (along_of after)
        else-where other =
            goes-past at past
            (subst (λ (l : List PlacedLine). All (IsElsewhere at.page at.line) l) lines
            (All-cons (IsElsewhere at.page at.line) line [] other (All-nil (IsElsewhere at.page at.line))))

        by : (b d : Bool) → eqb line.page at.page ≡ b → eqb line.line at.line ≡ d
            → IsFoundTo wiring deck (along_of after) at (if b && d then Some (found_of (over (Some line)) line) else None)
        by true true same_page same_line = record {
          places = places-here line (sym lines);
          at_page = grind (arith, nat_tests, same_page);
          at_line = grind (arith, nat_tests, same_line);
        }
        by true false same_page same_line = else-where (λ both. let there = both.1 in grind (arith, nat_tests, same_line, there))
        by false true same_page same_line = else-where (λ both. let there = both.0 in grind (arith, nat_tests, same_page, there))
        by false false same_page same_line = else-where (λ both. let there = both.0 in grind (arith, nat_tests, same_page, there))

    pub seeks-more : (places : List LinePlace) (old new : List SoughtLine) (placed : Option PlacedLine)
        → Seeks wiring deck places run old → option_to_list placed ≡ line_of after.machine.machine
        → new ≡ map (noted (over placed)) old → Seeks wiring deck places after new
    seeks-more places old new placed seeks lines told = record {
      between = behind.between;
      same = ap (map sought_at) told ∙ map-map sought_at (noted (over placed)) old ∙ seeks.same;
      each =
          All-same (IsSoughtTo wiring deck (along_of after)) new (map (noted (over placed)) old) told
          (All-map (IsSoughtTo wiring deck (along_of after)) (noted (over placed)) old
          (λ k d low.
          let one : SoughtLine = get_or old k d in one-more one.at one.found placed lines (seeks.each k d low)));
    }

-- all are found
pub all-found : (wiring : Wiring) (deck : List (List ℕ)) (along : Along) (sought : List SoughtLine)
    → All (IsSoughtTo wiring deck along) sought → All (λ (line : SoughtLine). is_found line ≡ true) sought
    → All (IsSought wiring deck) sought
all-found wiring deck along sought each found = λ k d low.
    let one : SoughtLine = get_or sought k d in by one.at one.found (each k d low) (found k d low)
  where
    by : (at : LinePlace) (found : Option FoundCycle) → IsFoundTo wiring deck along at found → is_some found ≡ true
        → IsFoundAt wiring deck at found
    by at (Some found) is some = is
    by at None is some = absurd (false≢true some)

-- no cycle is due any more
pub all-sought : (wiring : Wiring) (deck : List (List ℕ)) (along : Along) (sought : List SoughtLine)
    → All (IsSoughtTo wiring deck along) sought → cycle_due along.run.machine ≡ None → All (IsSought wiring deck) sought
all-sought wiring deck along sought each over = λ k d low.
    let one : SoughtLine = get_or sought k d in by one.at one.found (each k d low)
  where
    by : (at : LinePlace) (found : Option FoundCycle) → IsFoundTo wiring deck along at found → IsFoundAt wiring deck at found
    by at (Some found) is = is
    by at None past = past-over wiring deck at.page at.line along past over

-- what is found at a place
pub found-places : (wiring : Wiring) (deck : List (List ℕ)) (at : LinePlace) (found : Option FoundCycle) → IsFoundAt wiring deck at found
    → IfSome found (PlacesLine wiring deck)
found-places wiring deck at (Some found) is = is.places
found-places wiring deck at None is = tt

pub found-page : (wiring : Wiring) (deck : List (List ℕ)) (at : LinePlace) (found : Option FoundCycle) → IsFoundAt wiring deck at found
    → IfSome found (λ (f : FoundCycle). f.line.page ≡ at.page)
found-page wiring deck at (Some found) is = is.at_page
found-page wiring deck at None is = tt

pub found-line : (wiring : Wiring) (deck : List (List ℕ)) (at : LinePlace) (found : Option FoundCycle) → IsFoundAt wiring deck at found
    → IfSome found (λ (f : FoundCycle). f.line.line ≡ at.line)
found-line wiring deck at (Some found) is = is.at_line
found-line wiring deck at None is = tt

pub found-none : (wiring : Wiring) (deck : List (List ℕ)) (at : LinePlace) (found : Option FoundCycle) → IsFoundAt wiring deck at found
    → found ≡ None → PrintsNoneAt wiring deck at.page at.line
found-none wiring deck at found is none = subst (IsFoundAt wiring deck at) none is

-- a list of lines whose slice was written over
pub sought-back : (count : ℕ) (new slice items : List SoughtLine) → map sought_at new ≡ map sought_at slice → length slice ≡ count
    → take count (new ++ drop (length new) items) ≡ new
sought-back count new slice items same long =
    written-back count new items (sym (length-map new sought_at) ∙ ap length same ∙ length-map slice sought_at ∙ long)

-- the one line that was sought
pub only-sought : (wiring : Wiring) (deck : List (List ℕ)) (at : LinePlace) (sought : List SoughtLine) (one : SoughtLine)
    → map sought_at sought ≡ at ∷ [] → All (IsSought wiring deck) sought → one ≡ get_or sought 0 one → IsFoundAt wiring deck at one.found
only-sought wiring deck at sought one same all is =
    let many = sym (length-map sought sought_at) ∙ ap length same in
    let low : 0 < length sought = omega (arith, many) in
    let own : one.at ≡ at =
    ap sought_at is ∙ sym (get_or-map sought_at sought 0 one at low) ∙ ap (λ (l : List LinePlace). get_or l 0 at) same in
    subst (λ (a : LinePlace). IsFoundAt wiring deck a one.found) own (subst (IsSought wiring deck) (sym is) (all 0 one low))

-- a cycle that placed no line changes nothing
after-none : (one : EndedCycle) (at : LinePlace) (found : Option FoundCycle) → one.placed ≡ None → found_after one at found ≡ found
after-none one at (Some found) none = refl
after-none one at None none = ap (found_at one at) none

pub none-noted : (one : EndedCycle) (sought : List SoughtLine) → one.placed ≡ None → sought ≡ map (noted one) sought
none-noted one [] none = refl
none-noted one (line ∷ lines) none =
    ap (λ (l : List SoughtLine). line ∷ l) (none-noted one lines none)
    ∙ ap (λ (f : Option FoundCycle). record line { found = f } ∷ map (noted one) lines)
    (sym (after-none one line.at line.found none))

pub nothing-placed : (placed : Option PlacedLine) → is_some placed ≡ false → placed ≡ None
nothing-placed (Some line) is = absurd (false≢true (sym is))
nothing-placed None is = refl

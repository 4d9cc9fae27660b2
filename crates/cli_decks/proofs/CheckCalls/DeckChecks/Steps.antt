-- How a check goes a line further, ends, and stops.
use Rattle.std.proofs.Common.{◌≡◌, ◌≢◌, ◌∙◌, inl, inr, refl, sym, ap, subst, ℕ, ◌+◌, ◌<◌, ◌≤◌, List, [], ◌∷◌, ◌++◌, Option, Some, None, IfSome, length, take, slice_get, arith, append_assoc, append-nil, length-append, option_to_list}
use Rattle.std.proofs.KnownBytes.{Appends-trans}
use Rattle.std.proofs.Math.Seq.{take-append-add}
use Rattle.std.proofs.lemmas.Grind.{flat_map-append}
use Rattle.std.specs.Io.KnownBytes.{Appends}
use Rattle.card_code.specs.Deck.{HasLineFault}
use Rattle.card_code.specs.Lines.{lines_of, without_cr}
use Rattle.card_code.specs.MostCards.{most_cards}
use Rattle.card_code.specs.declared.deck.DeckFault.{DeckFault}
use Rattle.card_code.specs.declared.deck.DeckFault.TheVariants as text_fault
use Rattle.chart_lines.specs.ChartsWords.Chart.{Chart}
use Rattle.cli_decks.specs.CheckCalls.DeckChecks.BadLines.{IsBadLine, IsGoodLine, no_card, not_amount, not_text}
use Rattle.cli_decks.specs.CheckCalls.DeckChecks.Endings.{CutsOff, EndsCheck, IsCutOff, IsToWrite, cut_off, front, too_many, unread, unwritten, whole}
use Rattle.cli_decks.specs.CheckCalls.DeckChecks.HelperLines.{IsKeptOf, ReadsLine}
use Rattle.cli_decks.specs.CheckCalls.DeckChecks.HelperStanding.{AreEdges, BreaksOff, HasEnded, IsAt, Stands, Takes, bad, good}
use Rattle.cli_decks.specs.CheckCalls.DeckChecks.HelperTold.{first_with}
use Rattle.cli_decks.specs.CheckCalls.DeckChecks.Listings.{HasListedLines, IsListing, Lists, lines_told, totals_told, with_card}
use Rattle.cli_decks.specs.CheckCalls.DeckChecks.Listings as listings
use Rattle.cli_decks.specs.declared.check_calls.deck_checks.standing.Standing.{Standing}
use Rattle.fault_lines.specs.declared.faults.fault.Fault.{Fault}
use Rattle.fault_lines.specs.declared.faults.fault.Fault.TheVariants as fault
use Rattle.fault_lines.specs.FaultsWords.Lines.{fault_line}

-- what is known of a deck, where it is known
pub each : {P Q : List ℕ → Type 0} → (deck : Option (List ℕ)) → ((text : List ℕ) → P text → Q text) → IfSome deck P → IfSome deck Q
each None of is = tt
each (Some text) of is = of text is

known_rest : (left : Option (List ℕ)) (rest : List ℕ) (P : List ℕ → Type 0) → left ≡ Some rest → IfSome left P → P rest
known_rest left rest P is known = subst (λ (l : Option (List ℕ)). IfSome l P) is known

-- the first of some faults and one more
pub first_more : (told : List Fault) (more first : Option Fault) → first ≡ slice_get told 0
    → first_with first more ≡ slice_get (told ++ option_to_list more) 0
first_more [] None first is = ap (λ f. first_with f None) is
first_more [] (Some fault) first is = ap (λ f. first_with f (Some fault)) is
first_more (fault ∷ others) more first is = ap (λ f. first_with f more) is

-- a line of which the front is kept is judged by what is kept
cut_good : (chart : Chart) (line kept card : List ℕ) → IsKeptOf line kept → IsGoodLine chart (without_cr kept) card → IsGoodLine chart line card
cut_good chart line kept card (inl same) is = subst (λ l. IsGoodLine chart l card) same is
cut_good chart line kept card (inr long) is = absurd (omega (arith, long.1, is.punched.short))

cut_fault : (line kept : List ℕ) (number : ℕ) (fault : DeckFault) → 80 < length line → 80 < length kept → HasLineFault kept number fault
    → HasLineFault line number fault
cut_fault line kept number (text_fault.CardTooLong n) long kept_long is = (is.0, long)
cut_fault line kept number (text_fault.NoSuchCharacter n column) long kept_long is = absurd (omega (arith, kept_long, is.1.short))
cut_fault line kept number text_fault.TooManyCards long kept_long is = is
cut_fault line kept number text_fault.Memory long kept_long is = is

cut_bad : (chart : Chart) (number : ℕ) (line kept : List ℕ) (told : Fault) → IsKeptOf line kept → IsBadLine chart number (without_cr kept) told
    → IsBadLine chart number line told
cut_bad chart number line kept told (inl same) is = subst (λ l. IsBadLine chart number l told) same is
cut_bad chart number line kept told (inr long) (no_card fault has named) =
    no_card fault (cut_fault line (without_cr kept) number fault long.0 long.1 has) named
cut_bad chart number line kept told (inr long) (not_text card column punched first named) = absurd (omega (arith, long.1, punched.short))
cut_bad chart number line kept told (inr long) (not_amount card column punched first named) = absurd (omega (arith, long.1, punched.short))

-- the first and the last of the good cards
pub edges_of : (chart : Chart) (cards : List (List ℕ)) (standing now : Standing) → IsAt chart.lines (Some cards) standing
    → now.count ≡ standing.count → now.first ≡ standing.first → now.last ≡ standing.last → AreEdges cards now
edges_of chart [] standing now at count first last = record { count = count ∙ at.2; first = first ∙ at.3; last = last ∙ at.1.0 }
edges_of chart (card ∷ cards) standing now at count first last =
    record { count = count ∙ at.2; first = first ∙ at.3; last = last ∙ at.1.0 }

-- what a line more makes of what was told
record IsFurther (chart : Chart) (lines : List (List ℕ)) (line : List ℕ) (told more : List Fault) (new : Standing) : Type 0 where
  so_far : Option (List (List ℕ))
  lists : Lists chart (lines ++ line ∷ []) so_far (told ++ more)
  at : IsAt chart.lines so_far new

further : (chart : Chart) (lines : List (List ℕ)) (so_far : Option (List (List ℕ))) (told : List Fault) (line kept : List ℕ) (more : List Fault)
    (new : Standing) → Lists chart lines so_far told → IsKeptOf line kept → Takes chart (length lines + 1) (without_cr kept) so_far more new
    → IsFurther chart lines line told more new
further chart lines so_far told line kept more new before is (good card has named at) = record {
  so_far = with_card card so_far;
  lists = subst (λ (m : List Fault). Lists chart (lines ++ line ∷ []) (with_card card so_far) (told ++ m)) (sym named)
      (listings.good lines so_far told line card before (cut_good chart line kept card is has));
  at = at;
}
further chart lines so_far told line kept more new before is (bad fault has named at) = record {
  so_far = None;
  lists = subst (λ (m : List Fault). Lists chart (lines ++ line ∷ []) None (told ++ m)) (sym named)
      (listings.bad lines so_far told line fault before (cut_bad chart (length lines + 1) line kept fault is has));
  at = at;
}

module _ {chart : Chart} {deck was left holds : Option (List ℕ)} {standing : Standing} {first : Option Fault}
    (stands : Stands chart deck was left holds standing first) where
  -- more is written
  written_more : (more : List Fault) (new : Option (List ℕ)) → Appends holds new (lines_told more) → Appends was new (lines_told (stands.told ++ more))
  written_more more new taken =
      subst (Appends was new) (sym (flat_map-append fault_line stands.told more))
      (Appends-trans was holds new (lines_told stands.told) (lines_told more) stands.written taken)

  -- a front of it is written
  broken_more : (more : List Fault) (new : Option (List ℕ)) (told : Fault) → BreaksOff (lines_told more) holds new told
      → IfSome deck (λ text. IsToWrite chart text (lines_told (stands.told ++ more))) → EndsCheck chart deck was new told
  broken_more more new told breaks to_write =
      let before = lines_told stands.told in
      let whole_is = flat_map-append fault_line stands.told more in
      let taken : Appends was new (take (length before + breaks.count) (lines_told (stands.told ++ more))) =
      subst (Appends was new) (sym (ap (take (length before + breaks.count)) whole_is ∙ take-append-add before (lines_told more) breaks.count))
      (Appends-trans was holds new before (take breaks.count (lines_told more)) stands.written breaks.taken) in
      unwritten (lines_told (stands.told ++ more)) (length before + breaks.count) to_write
      (omega (arith, ap length whole_is, length-append before (lines_told more), breaks.within)) taken breaks.named

  -- what was listed so far
  listed_so_far : (text : List ℕ) (rest : List ℕ) → lines_of text ≡ stands.lines ++ lines_of rest
      → HasListedLines chart text standing.count rest stands.told
  listed_so_far text rest cut =
      record { lines = stands.lines; cut = cut; counted = sym stands.counted; so_far = stands.so_far; lists = stands.lists }

  -- the reading is cut off
  cut_short : (told : Fault)
      → ((text rest : List ℕ) → left ≡ Some rest → CutsOff standing.count rest told)
      → EndsCheck chart deck was holds told
  cut_short told cuts =
      cut_off stands.told
      (each {Q = λ text. IsCutOff chart text stands.told told} deck
      (λ text read. record {
        count = standing.count;
        rest = read.0;
        has_listed = listed_so_far text (read.0) (read.2);
        cuts = cuts text (read.0) (read.1);
      }) stands.read)
      stands.written

  pub is_unread : EndsCheck chart deck was holds (fault.Unread (standing.count + 1))
  is_unread = cut_short (fault.Unread (standing.count + 1)) (λ text rest is. unread refl)

  pub has_too_many : (new : Option (List ℕ)) (kept : List ℕ) → standing.count ≡ most_cards → ReadsLine left new kept
      → EndsCheck chart deck was holds (fault.Whole 3)
  has_too_many new kept full reads =
      cut_short (fault.Whole 3)
      (λ text rest is. too_many full (some rest is (known_rest left rest _ is reads.cut)) refl)
    where
      some : (rest : List ℕ) → left ≡ Some rest → (later : List ℕ) × (new ≡ Some later) × (lines_of rest ≡ reads.line ∷ lines_of later)
          → lines_of rest ≢ []
      some rest is cut none = let e = sym none ∙ cut.2 in cc

  -- behind the last line
  all_lines : IfSome left (λ rest. lines_of rest ≡ []) → IfSome deck (λ text. lines_of text ≡ stands.lines)
  all_lines none =
      each {Q = λ text. lines_of text ≡ stands.lines} deck
      (λ text read. read.2 ∙ ap (λ l. stands.lines ++ l) (known_rest left (read.0) _ (read.1) none) ∙ append-nil stands.lines) stands.read

  listing_of : IfSome left (λ rest. lines_of rest ≡ []) → (more : List Fault) → more ≡ totals_told chart stands.so_far None
      → IfSome deck (λ text. IsListing chart text (stands.told ++ more))
  listing_of none more are =
      each {Q = λ text. IsListing chart text (stands.told ++ more)} deck
      (λ text read.
      let all : lines_of text ≡ stands.lines =
      read.2 ∙ ap (λ l. stands.lines ++ l) (known_rest left (read.0) _ (read.1) none) ∙ append-nil stands.lines in
      record {
        few = subst (λ (l : List (List ℕ)). length l ≤ most_cards) (sym all) stands.few;
        so_far = stands.so_far;
        before = stands.told;
        lists = subst (λ (l : List (List ℕ)). Lists chart l stands.so_far stands.told) (sym all) stands.lists;
        all = ap (λ m. stands.told ++ m) are;
      }) stands.read

  pub ends : (new : Option (List ℕ)) (more first_now : Option Fault) (now : Standing) → IfSome left (λ rest. lines_of rest ≡ [])
      → option_to_list more ≡ totals_told chart stands.so_far None → now.count ≡ standing.count → now.first ≡ standing.first
      → now.last ≡ standing.last → Appends holds new (lines_told (option_to_list more)) → first_now ≡ first_with first more
      → HasEnded chart deck was new now first_now
  ends new more first_now now none are same_count same_first same_last taken is = record {
    told = stands.told ++ option_to_list more;
    lines = stands.lines;
    so_far = stands.so_far;
    before = stands.told;
    lists = stands.lists;
    all = ap (λ m. stands.told ++ m) are;
    few = stands.few;
    read = all_lines none;
    edges = λ cards so_far.
        edges_of chart cards standing now (subst (λ s. IsAt chart.lines s standing) so_far stands.at) same_count same_first same_last;
    listing = listing_of none (option_to_list more) are;
    written = written_more (option_to_list more) new taken;
    is_first = is ∙ first_more stands.told more first stands.is_first;
  }

  pub ends_unwritten : (new : Option (List ℕ)) (more : List Fault) (told : Fault) → IfSome left (λ rest. lines_of rest ≡ [])
      → more ≡ totals_told chart stands.so_far None → BreaksOff (lines_told more) holds new told → EndsCheck chart deck was new told
  ends_unwritten new more told none are breaks =
      broken_more more new told breaks
      (each {Q = λ text. IsToWrite chart text (lines_told (stands.told ++ more))} deck
      (λ text listing. whole (stands.told ++ more) listing refl) (listing_of none more are))

  -- behind one line more
  module _ {later : Option (List ℕ)} {kept : List ℕ} (reads : ReadsLine left later kept) where
    read_on : IfSome deck (λ text. (rest : List ℕ) × (later ≡ Some rest) × (lines_of text ≡ (stands.lines ++ reads.line ∷ []) ++ lines_of rest))
    read_on =
        each {Q = λ text. (rest : List ℕ) × (later ≡ Some rest) × (lines_of text ≡ (stands.lines ++ reads.line ∷ []) ++ lines_of rest)} deck
        (λ text read. let next = known_rest left (read.0) _ (read.1) reads.cut in (
          next.0,
          next.1,
          read.2 ∙ ap (λ l. stands.lines ++ l) (next.2) ∙ sym (append_assoc stands.lines (reads.line ∷ []) (lines_of (next.0))),
        )) stands.read

    longer : length (stands.lines ++ reads.line ∷ []) ≡ standing.count + 1
    longer = omega (arith, length-append stands.lines (reads.line ∷ []), stands.counted)

    taken_as : {more : List Fault} {new : Standing} → Takes chart (standing.count + 1) (without_cr kept) stands.so_far more new
        → IsFurther chart stands.lines reads.line stands.told more new
    taken_as {more} {new} takes =
        further chart stands.lines stands.so_far stands.told reads.line kept more new stands.lists reads.is_kept
        (subst (λ n. Takes chart (n + 1) (without_cr kept) stands.so_far more new) stands.counted takes)

    pub goes_on : (new : Standing) (holds_now : Option (List ℕ)) (more first_now : Option Fault) → standing.count ≢ most_cards
        → Takes chart (standing.count + 1) (without_cr kept) stands.so_far (option_to_list more) new → new.count ≡ standing.count + 1
        → Appends holds holds_now (lines_told (option_to_list more)) → first_now ≡ first_with first more
        → Stands chart deck was later holds_now new first_now
    goes_on new holds_now more first_now other takes counted taken is = let further = taken_as takes in record {
      lines = stands.lines ++ reads.line ∷ [];
      so_far = further.so_far;
      told = stands.told ++ option_to_list more;
      lists = further.lists;
      at = further.at;
      counted = counted ∙ sym longer;
      few = omega (arith, longer, stands.counted, stands.few, other);
      read = read_on;
      written = written_more (option_to_list more) holds_now taken;
      is_first = is ∙ first_more stands.told more first stands.is_first;
    }

    pub goes_on_unwritten : (new : Standing) (holds_now : Option (List ℕ)) (more : List Fault) (told : Fault)
        → Takes chart (standing.count + 1) (without_cr kept) stands.so_far more new
        → BreaksOff (lines_told more) holds holds_now told → EndsCheck chart deck was holds_now told
    goes_on_unwritten new holds_now more told takes breaks =
        broken_more more holds_now told breaks
        (each {Q = λ text. IsToWrite chart text (lines_told (stands.told ++ more))} deck
        (λ text read. front (standing.count + 1) (read.0) (stands.told ++ more)
        (let further = taken_as takes in record {
          lines = stands.lines ++ reads.line ∷ [];
          cut = read.2;
          counted = longer;
          so_far = further.so_far;
          lists = further.lists;
        }) refl) read_on)

-- A text is a chart exactly where the reader answers it, and has exactly the fault that the reader answers.
use Rattle.std.proofs.Common.{◌≡◌, ℕ, ◌+◌, ◌-◌, ◌<◌, ◌≤◌, Bool, true, false, cond, List, [], ◌∷◌, length, get_or, Option, Some, None, Result, Ok, Err, suc, refl, ap, sym, ◌∙◌, subst, inl, inr, ◌⊎◌, arith, codes}
use Rattle.std.proofs.lemmas.Bool.{cases_order}
use Rattle.std.proofs.lemmas.Option.{same_Some, none-some}
use Rattle.chart_lines.proofs.TokensWords.TokenGrammar.{read_what_it_has}
use Rattle.std.specs.Bool.{Decides}
use Rattle.std.specs.List.{AllByRecursion}
use Rattle.card_code.specs.Lines.{lines_of}
use Rattle.chart_lines.specs.ChartsWords.Chart.{Chart}
use Rattle.chart_lines.specs.TokensWords.Frame.{IsEmptyLine, IsEndLine, line_at, IsLineFrom, IsAfterEnd, IsNoLine, LacksEnd}
use Rattle.chart_text.specs.ChartText.{IsFirstLine, IsFormLine, IsTooLarge, ReadsFrom, empty_line, form_line, end_line, Reads, line_of, number_if_coupled, version_text}
use Rattle.chart_text.specs.TextFaults.{HasFirstLine, IsMisplaced, IsLowestMisplaced, HasTextFault, HaveFault}
use Rattle.chart_lines.specs.TokensWords.Dividing.{tokens_of}
use Rattle.chart_lines.proofs.TokensWords.LineContent as lines
use Rattle.chart_lines.proofs.TokensWords.TextFrame.{larger_by, title_by, told_false, refused_by}
use Rattle.chart_text.specs.HelperForms.{said_of}
use Rattle.chart_text.specs.HelperText.{Content, content_of, is_first, version_of, is_large, with_lines, line_then, chart_from, chart_after, chart_of_lines, chart_of}
use Rattle.chart_lines.specs.declared.charts.chart.Line.{Line}
use Rattle.chart_lines.specs.declared.charts.chart.Version.{Version}
use Rattle.chart_lines.specs.declared.charts.chart.Version.TheVariants.{First, Second}
use Rattle.chart_text.specs.declared.forms.Said.{Said}
use Rattle.chart_lines.specs.declared.tokens.frame.Content.TheVariants.{Empty, End, Says, NoLine}
use Rattle.chart_text.specs.declared.fault.TextFault.{TextFault}
use Rattle.chart_text.specs.declared.fault.TextFault.TheVariants.{TooLarge, NoFirstLine, NotALine, NoEnd, Memory}
use Rattle.chart_text.proofs.FormGrammar.{says_in_what_is_read, read_what_it_says_in, nothing_said, end_says_nothing}

abbrev answered : Chart → Result Chart TextFault
answered chart = Ok chart

same_ok : (a b : Chart) → answered a ≡ answered b → a ≡ b
same_ok a b e = cc

-- what is read after END
record EndsAt (version : Version) (last : ℕ) (lines : List (List ℕ)) (chart : Chart) : Type 0 where
  all : AllByRecursion IsEmptyLine lines
  same : record { version = version; lines = []; coupled = []; end = last } ≡ chart

-- the lines of a text from a number on
record Stands (all : List (List ℕ)) (number : ℕ) (rest : List (List ℕ)) : Type 0 where
  from : 2 ≤ number
  size : number + length rest ≡ suc (length all)
  at : (k : ℕ) → k < length rest → get_or rest k [] ≡ line_at all (number + k)

module _ (version : Version) where
  -- a chart's lines, as those of a format
  format : lines.Format (said_of version) (IsFormLine version)
  format = record {
    is = λ line said is.
        record { tokens = is.tokens; divided = is.divided; said = says_in_what_is_read version is.tokens said is.read };
    read = λ line said is. record { tokens = is.tokens; divided = is.divided; read = read_what_it_says_in is.said };
    nothing = nothing_said version;
    end = end_says_nothing version;
  }

  -- what a line is
  is_content : (line : List ℕ) (content : Content) → content_of version line ≡ content → lines.IsContent (IsFormLine version) line content
  unfolding content_of
  is_content line content read = lines.content_is format line content (tokens_of line) refl read

  -- an empty line, END and a form are read as such
  pub empty_read : (line : List ℕ) → IsEmptyLine line → content_of version line ≡ Empty
  unfolding content_of
  empty_read line has = lines.empty_read (said_of version) line has

  pub end_read : (line : List ℕ) → IsEndLine line → content_of version line ≡ End
  unfolding content_of
  end_read line has = lines.end_read (said_of version) line has

  pub form_read : (line : List ℕ) (said : Said) → IsFormLine version line said → content_of version line ≡ Says said
  unfolding content_of
  form_read line said is = lines.said_read format line said is

  -- the lines from a number on, by the first of them
  chart_from-cons : (e : Option ℕ) (number : ℕ) (line : List ℕ) (lines : List (List ℕ)) (content : Content)
      → content_of version line ≡ content
      → chart_from version e number (line ∷ lines) ≡ line_then e number content (λ e'. chart_from version e' (suc number) lines)
  unfolding chart_from
  chart_from-cons None number line lines content is = ap
      (λ c. line_then None number c (λ e'. chart_from version e' (suc number) lines)) is
  chart_from-cons (Some last) number line lines content is = ap
      (λ c. line_then (Some last) number c (λ e'. chart_from version e' (suc number) lines)) is

  -- after END
  empties_read : (lines : List (List ℕ)) (number last : ℕ) → AllByRecursion IsEmptyLine lines
      → chart_from version (Some last) number lines ≡ Ok (record { version = version; lines = []; coupled = []; end = last })
  unfolding chart_from
  empties_read [] number last all = refl
  empties_read (line ∷ lines) number last all =
      chart_from-cons (Some last) number line lines Empty (empty_read line all.0)
      ∙ empties_read lines (suc number) last all.1

  -- a chart is read
  chart_read : {number last : ℕ} {lines : List (List ℕ)} {said : List Line} {coupled : List ℕ} → ReadsFrom version number lines said coupled last
      → chart_from version None number lines ≡ Ok (record { version = version; lines = said; coupled = coupled; end = last })
  chart_read (empty_line {number} {end = last} {line} {lines} is reads) =
      chart_from-cons None number line lines Empty (empty_read line is) ∙ chart_read reads
  chart_read (form_line {number} {end = last} {line} {lines} {said} is reads) =
      chart_from-cons None number line lines (Says said) (form_read line said is)
      ∙ ap (with_lines (line_of number said ∷ []) (number_if_coupled number said)) (chart_read reads)
  chart_read (end_line {number} {line} {lines} is all) =
      chart_from-cons None number line lines End (end_read line is) ∙ empties_read lines (suc number) number all

  by_content : (content : Content) (line : List ℕ) (lines : List (List ℕ)) (number last : ℕ) (chart : Chart)
      → content_of version line ≡ content
      → ((n : ℕ) → chart_from version (Some last) n lines ≡ Ok chart → EndsAt version last lines chart)
      → line_then (Some last) number content (λ e'. chart_from version e' (suc number) lines) ≡ Ok chart
      → EndsAt version last (line ∷ lines) chart
  by_content Empty line lines number last chart is rest read =
      let r = rest (suc number) read in
      record { all = (is_content line Empty is, r.all); same = r.same }
  by_content End line lines number last chart is rest read = cc
  by_content (Says said) line lines number last chart is rest read = cc
  by_content NoLine line lines number last chart is rest read = cc

  ends_at : (lines : List (List ℕ)) (number last : ℕ) (chart : Chart) → chart_from version (Some last) number lines ≡ Ok chart
      → EndsAt version last lines chart
  unfolding chart_from
  ends_at [] number last chart read =
      record { all = tt; same = same_ok _ chart read }
  ends_at (line ∷ lines) number last chart read =
      by_content (content_of version line) line lines number last chart refl (λ n. ends_at lines n last chart) read

  -- what is read is a chart
  reads_by : (content : Content) (line : List ℕ) (lines : List (List ℕ)) (number : ℕ) (chart : Chart)
      → content_of version line ≡ content
      → ((n : ℕ) (c : Chart) → chart_from version None n lines ≡ Ok c → ReadsFrom version n lines c.lines c.coupled c.end)
      → line_then None number content (λ e'. chart_from version e' (suc number) lines) ≡ Ok chart
      → ReadsFrom version number (line ∷ lines) chart.lines chart.coupled chart.end
  reads_by Empty line lines number chart is rest read = empty_line (is_content line Empty is)
      (rest (suc number) chart read)
  reads_by End line lines number chart is rest read =
      let r = ends_at lines (suc number) number chart read in
      subst (λ (c : Chart). ReadsFrom version number (line ∷ lines) c.lines c.coupled c.end) r.same
      (end_line (is_content line End is) r.all)
  reads_by (Says said) line lines number chart is rest read = by_others
      (chart_from version None (suc number) lines) refl read
    where
      by_others : (others : Result Chart TextFault) → chart_from version None (suc number) lines ≡ others
          → with_lines (line_of number said ∷ []) (number_if_coupled number said) others ≡ Ok chart
          → ReadsFrom version number (line ∷ lines) chart.lines chart.coupled chart.end
      by_others (Ok c) found same =
          subst (λ (x : Chart). ReadsFrom version number (line ∷ lines) x.lines x.coupled x.end) (same_ok _ chart same)
          (form_line (is_content line (Says said) is) (rest (suc number) c found))
      by_others (Err fault) found same = cc
  reads_by NoLine line lines number chart is rest read = cc

  reads_what_is_read : (lines : List (List ℕ)) (number : ℕ) (chart : Chart) → chart_from version None number lines ≡ Ok chart
      → ReadsFrom version number lines chart.lines chart.coupled chart.end
  unfolding chart_from
  reads_what_is_read [] number chart read = cc
  reads_what_is_read (line ∷ lines) number chart read =
      reads_by (content_of version line) line lines number chart refl (reads_what_is_read lines) read

  -- one line on
  next_stands : (all : List (List ℕ)) (number : ℕ) (line : List ℕ) (rest : List (List ℕ))
      → Stands all number (line ∷ rest) → Stands all (suc number) rest
  next_stands all number line rest is = record {
    from = omega (arith, is.from);
    size = omega (arith, is.size);
    at = λ k within. is.at (suc k) (omega (arith, within)) ∙ ap (line_at all) (moved number k);
  }
    where
      moved : (number k : ℕ) → number + suc k ≡ suc number + k
      moved number k = omega arith

  -- the line that stands at a number
  stands_here : (all : List (List ℕ)) (number : ℕ) (line : List ℕ) (rest : List (List ℕ))
      → Stands all number (line ∷ rest) → line ≡ line_at all number
  stands_here all number line rest is = is.at 0 (omega arith) ∙ ap (line_at all) (none_more number)
    where
      none_more : (number : ℕ) → number + 0 ≡ number
      none_more number = omega arith

  -- no lower line is misplaced
  abbrev GoodBelow : List (List ℕ) → ℕ → Type 0
  GoodBelow all number = (n : ℕ) → n < number → IsMisplaced version all n → ⊥

  -- no lower line is END
  abbrev NoEndBelow : List (List ℕ) → ℕ → Type 0
  NoEndBelow all number = (n : ℕ) → n < number → IsLineFrom 2 all n → IsEndLine (line_at all n) → ⊥

  -- what the answer says of the lines of a text
  abbrev Outcome : List (List ℕ) → Result Chart TextFault → Type 0
  Outcome all (Ok chart) = ((n : ℕ) → IsMisplaced version all n → ⊥) × (LacksEnd 2 all → ⊥)
  Outcome all (Err (NotALine n)) = IsLowestMisplaced version all n
  Outcome all (Err NoEnd) = ((n : ℕ) → IsMisplaced version all n → ⊥) × LacksEnd 2 all
  Outcome all (Err TooLarge) = ⊥
  Outcome all (Err NoFirstLine) = ⊥
  Outcome all (Err Memory) = ⊥

  with_lines_outcome : (all : List (List ℕ)) (front : List Line) (coupled : List ℕ) (read : Result Chart TextFault) → Outcome all read
      → Outcome all (with_lines front coupled read)
  with_lines_outcome all front coupled (Ok chart) is = is
  with_lines_outcome all front coupled (Err (NotALine n)) is = is
  with_lines_outcome all front coupled (Err NoEnd) is = is
  with_lines_outcome all front coupled (Err TooLarge) is = is
  with_lines_outcome all front coupled (Err NoFirstLine) is = is
  with_lines_outcome all front coupled (Err Memory) is = is

  -- a line that is not misplaced, after good lines
  good_more : (all : List (List ℕ)) (number : ℕ) → GoodBelow all number → (IsMisplaced version all number → ⊥)
      → GoodBelow all (suc number)
  good_more all number good here n below misplaced = by_order (cases_order n number)
    where
      by_order : (n ≡ number) ⊎ ((n < number) ⊎ (number < n)) → ⊥
      by_order (inl same) = here (subst (IsMisplaced version all) same misplaced)
      by_order (inr (inl lower)) = good n lower misplaced
      by_order (inr (inr higher)) = absurd (omega (arith, below, higher))

  no_end_more : (all : List (List ℕ)) (number : ℕ) → NoEndBelow all number → (IsEndLine (line_at all number) → ⊥)
      → NoEndBelow all (suc number)
  no_end_more all number no_end here n below there is_end = by_order (cases_order n number)
    where
      by_order : (n ≡ number) ⊎ ((n < number) ⊎ (number < n)) → ⊥
      by_order (inl same) = here (subst (λ (m : ℕ). IsEndLine (line_at all m)) same is_end)
      by_order (inr (inl lower)) = no_end n lower there is_end
      by_order (inr (inr higher)) = absurd (omega (arith, below, higher))

  -- what the line of a number is
  content_at : (all : List (List ℕ)) (number : ℕ) (line : List ℕ) (rest : List (List ℕ)) (content : Content)
      → Stands all number (line ∷ rest) → content_of version line ≡ content
      → content_of version (line_at all number) ≡ content
  content_at all number line rest content stands is = ap (content_of version) (sym (stands_here all number line rest stands)) ∙ is

  there_at : (all : List (List ℕ)) (number : ℕ) (line : List ℕ) (rest : List (List ℕ)) → Stands all number (line ∷ rest)
      → IsLineFrom 2 all number
  there_at all number line rest stands = record { from = stands.from; to = omega (arith, stands.size) }

  -- all lines are good where none is left
  all_good : (all : List (List ℕ)) (number : ℕ) → Stands all number [] → GoodBelow all number → (n : ℕ)
      → IsMisplaced version all n → ⊥
  all_good all number stands good n misplaced = good n (omega (arith, stands.size, misplaced.there.to)) misplaced

  -- an empty line is never misplaced
  empty_good : (all : List (List ℕ)) (number : ℕ) → content_of version (line_at all number) ≡ Empty → IsMisplaced version all number → ⊥
  empty_good all number here misplaced = by_cause misplaced.cause
    where
      by_cause : IsNoLine (IsFormLine version) (line_at all number) ⊎ (IsAfterEnd 2 all number × (IsEmptyLine (line_at all number) → ⊥)) → ⊥
      by_cause (inl no_form) = no_form.not_empty (is_content (line_at all number) Empty here)
      by_cause (inr after) = after.1 (is_content (line_at all number) Empty here)

  -- a line before END is misplaced only where no form derives it
  before_end_good : (all : List (List ℕ)) (number : ℕ) → NoEndBelow all number → (IsNoLine (IsFormLine version) (line_at all number) → ⊥)
      → IsMisplaced version all number → ⊥
  before_end_good all number no_end a_form misplaced = by_cause misplaced.cause
    where
      by_cause : IsNoLine (IsFormLine version) (line_at all number) ⊎ (IsAfterEnd 2 all number × (IsEmptyLine (line_at all number) → ⊥)) → ⊥
      by_cause (inl no_form) = a_form no_form
      by_cause (inr after) = no_end after.0.end after.0.before after.0.there after.0.is_end

  -- a line after END that is not empty
  misplaced_after : (all : List (List ℕ)) (number : ℕ) (line : List ℕ) (rest : List (List ℕ))
      → Stands all number (line ∷ rest) → GoodBelow all number → IsAfterEnd 2 all number
      → (content_of version (line_at all number) ≡ Empty → ⊥) → IsLowestMisplaced version all number
  misplaced_after all number line rest stands good after filled = record {
    misplaced = record {
      there = there_at all number line rest stands;
      cause = inr
          (after, λ has. filled (empty_read (line_at all number) has));
    };
    lowest = good;
  }

  after_more : (all : List (List ℕ)) (number : ℕ) → IsAfterEnd 2 all number → IsAfterEnd 2 all (suc number)
  after_more all number after = record {
    end = after.end;
    there = after.there;
    before = omega
        (arith, after.before);
    is_end = after.is_end;
  }

  ended_by : (all : List (List ℕ)) (number last : ℕ) (line : List ℕ) (rest : List (List ℕ)) (content : Content)
      → Stands all number (line ∷ rest) → GoodBelow all number → IsAfterEnd 2 all number
      → content_of version (line_at all number) ≡ content
      → ((n : ℕ) → Stands all n rest → GoodBelow all n → IsAfterEnd 2 all n → Outcome all (chart_from version (Some last) n rest))
      → Outcome all (line_then (Some last) number content (λ e'. chart_from version e' (suc number) rest))
  ended_by all number last line rest Empty stands good after here others =
      others (suc number) (next_stands all number line rest stands)
      (good_more all number good (empty_good all number here)) (after_more all number after)
  ended_by all number last line rest End stands good after here others = misplaced_after all number line rest stands
      good after (λ e. differ e here)
    where
      differ : {c : Content} → c ≡ Empty → c ≡ End → ⊥
      differ e f = cc
  ended_by all number last line rest (Says said) stands good after here others = misplaced_after all number line
      rest stands good after (λ e. differ e here)
    where
      differ : {c : Content} {s : Said} → c ≡ Empty → c ≡ Says s → ⊥
      differ e f = cc
  ended_by all number last line rest NoLine stands good after here others = misplaced_after all number line rest
      stands good after (λ e. differ e here)
    where
      differ : {c : Content} → c ≡ Empty → c ≡ NoLine → ⊥
      differ e f = cc

  -- the outcome after END
  ended_outcome : (all : List (List ℕ)) (last : ℕ) (rest : List (List ℕ)) (number : ℕ) → Stands all number rest
      → GoodBelow all number → IsAfterEnd 2 all number
      → Outcome all (chart_from version (Some last) number rest)
  unfolding chart_from
  ended_outcome all last [] number stands good after =
      (all_good all number stands good, λ lacks. lacks after.end after.there after.is_end)
  ended_outcome all last (line ∷ rest) number stands good after =
      ended_by all number last line rest (content_of version line) stands good after
      (content_at all number line rest (content_of version line) stands refl) (ended_outcome all last rest)

  no_end_here : (line : List ℕ) (content : Content) → content_of version line ≡ content → (content ≡ End → ⊥) → IsEndLine line → ⊥
  no_end_here line content is other has = other (sym is ∙ end_read line has)

  not_end : (content : Content) → (content ≡ Empty) ⊎ ((s : Said) × (content ≡ Says s)) → content ≡ End → ⊥
  not_end content (inl e) f = cc
  not_end content (inr p) f = let e : content ≡ Says p.0 = p.1 in cc

  started_by : (all : List (List ℕ)) (number : ℕ) (line : List ℕ) (rest : List (List ℕ)) (content : Content)
      → Stands all number (line ∷ rest) → GoodBelow all number → NoEndBelow all number
      → content_of version (line_at all number) ≡ content
      → ((n : ℕ) → Stands all n rest → GoodBelow all n → NoEndBelow all n → Outcome all (chart_from version None n rest))
      → Outcome all (line_then None number content (λ e'. chart_from version e' (suc number) rest))
  started_by all number line rest Empty stands good no_end here others =
      others (suc number) (next_stands all number line rest stands)
      (good_more all number good (empty_good all number here))
      (no_end_more all number no_end (no_end_here (line_at all number) Empty here (not_end Empty (inl refl))))
  started_by all number line rest End stands good no_end here others =
      let is_end = is_content (line_at all number) End here in
      let after : IsAfterEnd 2 all (suc number) =
      record { end = number; there = there_at all number line rest stands; before = omega arith; is_end = is_end } in
      ended_outcome all number rest (suc number) (next_stands all number line rest stands)
      (good_more all number good (before_end_good all number no_end (λ no_form. no_form.not_end is_end))) after
  started_by all number line rest (Says said) stands good no_end here others =
      let is_form = is_content (line_at all number) (Says said) here in
      with_lines_outcome all (line_of number said ∷ []) (number_if_coupled number said) (chart_from version None (suc number) rest)
      (others (suc number) (next_stands all number line rest stands)
      (good_more all number good (before_end_good all number no_end (λ no_form. no_form.not_said said is_form)))
      (no_end_more all number no_end
      (no_end_here (line_at all number) (Says said) here (not_end (Says said) (inr (said, refl))))))
  started_by all number line rest NoLine stands good no_end here others = record {
    misplaced = record {
      there = there_at all number line rest stands;
      cause = inl
          (is_content (line_at all number) NoLine here);
    };
    lowest = good;
  }

  -- the outcome of lines without END so far
  started_outcome : (all : List (List ℕ)) (rest : List (List ℕ)) (number : ℕ) → Stands all number rest
      → GoodBelow all number → NoEndBelow all number → Outcome all (chart_from version None number rest)
  unfolding chart_from
  started_outcome all [] number stands good no_end =
      (all_good all number stands good, λ n there is_end. no_end n (omega (arith, stands.size, there.to)) there is_end)
  started_outcome all (line ∷ rest) number stands good no_end =
      started_by all number line rest (content_of version line) stands good no_end
      (content_at all number line rest (content_of version line) stands refl) (started_outcome all rest)

  -- the outcome of all lines
  outcome : (first : List ℕ) (others : List (List ℕ)) → Outcome (first ∷ others) (chart_from version None 2 others)
  outcome first others =
      started_outcome (first ∷ others) others 2
      (record {
        from = omega arith;
        size = omega arith;
        at = λ k within. ap (λ n. get_or (first ∷ others) n [])
            (second k);
      })
      (λ n below misplaced. absurd (omega (arith, below, misplaced.there.from)))
      (λ n below there is_end. absurd (omega (arith, below, there.from)))
    where
      second : (k : ℕ) → suc k ≡ 2 + k - 1
      second k = omega arith

-- the size and the first line are told
large_told : (lines : List (List ℕ)) → Decides (is_large lines) (IsTooLarge lines)
large_told lines = larger_by 500 200 lines

not_large : (lines : List (List ℕ)) → is_large lines ≡ false → IsTooLarge lines → ⊥
not_large lines test = refused_by (is_large lines) (large_told lines) test

small : (lines : List (List ℕ)) → (IsTooLarge lines → ⊥) → is_large lines ≡ false
small lines is = told_false (is_large lines) (large_told lines) is

begun_told : (version : Version) (line : List ℕ) → Decides (is_first version line) (IsFirstLine version line)
begun_told version line = title_by (codes "CHART407") (version_text version) line

-- a line names one version
version_is : (line : List ℕ) (version : Version) → version_of line ≡ Some version → IsFirstLine version line
version_is line version read = by (is_first First line) (is_first Second line) refl refl read
  where
    by : (one other : Bool) → is_first First line ≡ one → is_first Second line ≡ other
        → cond one (Some First) (cond other (Some Second) None) ≡ Some version → IsFirstLine version line
    by true other e f r = subst (λ (v : Version). IsFirstLine v line) (same_Some First version r) ((begun_told First line).0 e)
    by false true e f r = subst (λ (v : Version). IsFirstLine v line) (same_Some Second version r) ((begun_told Second line).0 f)
    by false false e f r = cc

two_versions : (line : List ℕ) → IsFirstLine First line → IsFirstLine Second line → ⊥
two_versions line one other =
    clash (same_Some (codes "CHART407" ∷ codes "1" ∷ []) (codes "CHART407" ∷ codes "2" ∷ [])
    (sym (read_what_it_has one) ∙ read_what_it_has other))
  where
    clash : codes "CHART407" ∷ codes "1" ∷ [] ≡ codes "CHART407" ∷ codes "2" ∷ [] → ⊥
    clash e = absurd (omega (arith, ap (λ (ts : List (List ℕ)). get_or (get_or ts 1 []) 0 0) e))

version_read : (line : List ℕ) (version : Version) → IsFirstLine version line → version_of line ≡ Some version
version_read line First is = rw ((begun_told First line).1 is) refl
version_read line Second is =
    rw (told_false (is_first First line) (begun_told First line) (λ one. two_versions line one is), (begun_told Second line).1 is) refl

-- lines of a text, by their size and their first line
abbrev read_all : List (List ℕ) → Result Chart TextFault
read_all lines = cond (is_large lines) (Err TooLarge) (chart_of_lines lines)

abbrev has_first : (version : Version) (first : List ℕ) (others : List (List ℕ)) → IsFirstLine version first → HasFirstLine (first ∷ others)
has_first version first others begun = record { version = version; there = omega arith; begun = begun }

-- the fault of lines that have a good size and a good first line
later_fault : (lines : List (List ℕ)) (fault : TextFault) → (IsTooLarge lines → ⊥) → (first : HasFirstLine lines)
    → Outcome first.version lines (Err fault) → HaveFault lines fault
later_fault lines TooLarge size first is = absurd is
later_fault lines NoFirstLine size first is = absurd is
later_fault lines (NotALine n) size first is = (size, first, is)
later_fault lines NoEnd size first is = (size, first, is.0, is.1)
later_fault lines Memory size first is = absurd is

abbrev failed : TextFault → Result Chart TextFault
failed fault = Err fault

same_fault : (a b : TextFault) → failed a ≡ failed b → a ≡ b
same_fault a b e = cc

begun_fault : (first : List ℕ) (others : List (List ℕ)) (fault : TextFault) (named : Option Version)
    → is_large (first ∷ others) ≡ false → version_of first ≡ named
    → chart_after named others ≡ Err fault → HaveFault (first ∷ others) fault
begun_fault first others fault (Some version) size begun read =
    later_fault (first ∷ others) fault (not_large (first ∷ others) size) (has_first version first others (version_is first version begun))
    (subst (Outcome version (first ∷ others)) read (outcome version first others))
begun_fault first others fault None size begun read =
    subst (HaveFault (first ∷ others)) (same_fault NoFirstLine fault read)
    (not_large (first ∷ others) size, λ has. none-some _ (sym begun ∙ version_read first has.version has.begun))

sized_fault : (lines : List (List ℕ)) (fault : TextFault) (test : Bool) → is_large lines ≡ test
    → cond test (Err TooLarge) (chart_of_lines lines) ≡ Err fault → HaveFault lines fault
sized_fault lines fault true size read = subst (HaveFault lines) (same_fault TooLarge fault read) ((large_told lines).0 size)
sized_fault [] fault false size read =
    subst (HaveFault []) (same_fault NoFirstLine fault read)
    (not_large [] size, λ has. absurd (omega (arith, has.there)))
sized_fault (first ∷ others) fault false size read = begun_fault first others fault
    (version_of first) size refl read

-- the fault that is read is the one of the text
pub fault_is : (bytes : List ℕ) (fault : TextFault) → chart_of bytes ≡ Err fault → HasTextFault bytes fault
unfolding chart_of
fault_is bytes fault read = sized_fault (lines_of bytes) fault (is_large (lines_of bytes)) refl read

-- the fault of a text is read
same_number : (version : Version) (lines : List (List ℕ)) (m n : ℕ) → IsLowestMisplaced version lines m → IsLowestMisplaced version lines n → m ≡ n
same_number version lines m n is also = by_order (cases_order m n)
  where
    by_order : (m ≡ n) ⊎ ((m < n) ⊎ (n < m)) → m ≡ n
    by_order (inl same) = same
    by_order (inr (inl lower)) = absurd (also.lowest m lower is.misplaced)
    by_order (inr (inr lower)) = absurd (is.lowest n lower also.misplaced)

misplaced_read : (version : Version) (lines : List (List ℕ)) (n : ℕ) (read : Result Chart TextFault) → IsLowestMisplaced version lines n
    → Outcome version lines read → read ≡ Err (NotALine n)
misplaced_read version lines n (Ok chart) is says = absurd (says.0 n is.misplaced)
misplaced_read version lines n (Err (NotALine m)) is says = ap (λ k. Err (NotALine k)) (same_number version lines m n says is)
misplaced_read version lines n (Err NoEnd) is says = absurd (says.0 n is.misplaced)
misplaced_read version lines n (Err TooLarge) is says = absurd says
misplaced_read version lines n (Err NoFirstLine) is says = absurd says
misplaced_read version lines n (Err Memory) is says = absurd says

no_end_read : (version : Version) (lines : List (List ℕ)) (read : Result Chart TextFault) → ((n : ℕ) → IsMisplaced version lines n → ⊥)
    → LacksEnd 2 lines → Outcome version lines read → read ≡ Err NoEnd
no_end_read version lines (Ok chart) good lacks says = absurd (says.1 lacks)
no_end_read version lines (Err (NotALine m)) good lacks says = absurd (good m says.misplaced)
no_end_read version lines (Err NoEnd) good lacks says = refl
no_end_read version lines (Err TooLarge) good lacks says = absurd says
no_end_read version lines (Err NoFirstLine) good lacks says = absurd says
no_end_read version lines (Err Memory) good lacks says = absurd says

-- what is read after a good first line
past_first : (first : List ℕ) (others : List (List ℕ)) → (IsTooLarge (first ∷ others) → ⊥)
    → (has : HasFirstLine (first ∷ others)) → read_all (first ∷ others) ≡ chart_from has.version None 2 others
past_first first others size has =
    rw (small (first ∷ others) size) (ap (λ named. chart_after named others) (version_read first has.version has.begun))

fault_read_all : (lines : List (List ℕ)) (fault : TextFault) → HaveFault lines fault → read_all lines ≡ Err fault
fault_read_all lines TooLarge has = rw ((large_told lines).1 has) refl
fault_read_all [] NoFirstLine has = refl
fault_read_all (first ∷ others) NoFirstLine has = rw (small (first ∷ others) has.0)
    (by (version_of first) refl)
  where
    by : (named : Option Version) → version_of first ≡ named → chart_after named others ≡ Err NoFirstLine
    by (Some version) e = absurd (has.1 (has_first version first others (version_is first version e)))
    by None e = refl
fault_read_all [] (NotALine n) has = absurd (omega (arith, has.1.there))
fault_read_all (first ∷ others) (NotALine n) has =
    past_first first others has.0 has.1
    ∙ misplaced_read has.1.version (first ∷ others) n (chart_from has.1.version None 2 others) has.2
    (outcome has.1.version first others)
fault_read_all [] NoEnd has = absurd (omega (arith, has.1.there))
fault_read_all (first ∷ others) NoEnd has =
    past_first first others has.0 has.1
    ∙ no_end_read has.1.version (first ∷ others) (chart_from has.1.version None 2 others) has.2 has.3
    (outcome has.1.version first others)
fault_read_all lines Memory has = absurd has

pub fault_read : (bytes : List ℕ) (fault : TextFault) → HasTextFault bytes fault → chart_of bytes ≡ Err fault
unfolding chart_of
fault_read bytes fault has = fault_read_all (lines_of bytes) fault has

-- what is read is of its version
with_lines-version : (front : List Line) (coupled : List ℕ) (version : Version) (read : Result Chart TextFault) (chart : Chart)
    → ((c : Chart) → read ≡ Ok c → c.version ≡ version) → with_lines front coupled read ≡ Ok chart → chart.version ≡ version
with_lines-version front coupled version (Ok c) chart of same = sym (ap (λ (x : Chart). x.version) (same_ok _ chart same)) ∙ of c refl
with_lines-version front coupled version (Err fault) chart of same = cc

ended_version : (version : Version) (lines : List (List ℕ)) (number last : ℕ) (chart : Chart)
    → chart_from version (Some last) number lines ≡ Ok chart → chart.version ≡ version
ended_version version lines number last chart read = sym (ap (λ (c : Chart). c.version) (ends_at version lines number last chart read).same)

of_version : (version : Version) (lines : List (List ℕ)) (number : ℕ) (chart : Chart) → chart_from version None number lines ≡ Ok chart
    → chart.version ≡ version
unfolding chart_from
of_version version [] number chart read = cc
of_version version (line ∷ lines) number chart read = by (content_of version line) read (of_version version lines (suc number))
  where
    by : (content : Content) → line_then None number content (λ e. chart_from version e (suc number) lines) ≡ Ok chart
        → ((c : Chart) → chart_from version None (suc number) lines ≡ Ok c → c.version ≡ version) → chart.version ≡ version
    by Empty is below = below chart is
    by End is below = ended_version version lines (suc number) number chart is
    by (Says said) is below =
        with_lines-version (line_of number said ∷ []) (number_if_coupled number said) version _ chart below is
    by NoLine is below = cc

-- what is read as a chart is one
begun_chart : (bytes first : List ℕ) (others : List (List ℕ)) (chart : Chart) (named : Option Version)
    → lines_of bytes ≡ first ∷ others → (IsTooLarge (lines_of bytes) → ⊥)
    → version_of first ≡ named → chart_after named others ≡ Ok chart
    → Reads bytes chart
begun_chart bytes first others chart (Some version) lines size begun read =
    let same = of_version version others 2 chart read in
    record {
      size = size;
      first = first;
      others = others;
      lines = lines;
      begun = subst (λ (v : Version). IsFirstLine v first) (sym same) (version_is first version begun);
      said = subst (λ (v : Version). ReadsFrom v 2 others chart.lines chart.coupled chart.end) (sym same)
          (reads_what_is_read version others 2 chart read);
    }
begun_chart bytes first others chart None lines size begun read = cc

lines_chart : (bytes : List ℕ) (lines : List (List ℕ)) (chart : Chart) → lines_of bytes ≡ lines
    → (IsTooLarge (lines_of bytes) → ⊥) → chart_of_lines lines ≡ Ok chart → Reads bytes chart
lines_chart bytes [] chart same size read = cc
lines_chart bytes (first ∷ others) chart same size read = begun_chart bytes first others chart
    (version_of first) same size refl read

sized_chart : (bytes : List ℕ) (chart : Chart) (test : Bool) → is_large (lines_of bytes) ≡ test
    → cond test (Err TooLarge) (chart_of_lines (lines_of bytes)) ≡ Ok chart → Reads bytes chart
sized_chart bytes chart true size read = cc
sized_chart bytes chart false size read = lines_chart bytes (lines_of bytes) chart refl
    (not_large (lines_of bytes) size) read

pub reads_is : (bytes : List ℕ) (chart : Chart) → chart_of bytes ≡ Ok chart → Reads bytes chart
unfolding chart_of
reads_is bytes chart read = sized_chart bytes chart (is_large (lines_of bytes)) refl read

-- a chart is read
pub reads_read : (bytes : List ℕ) (chart : Chart) → Reads bytes chart → chart_of bytes ≡ Ok chart
unfolding chart_of
reads_read bytes chart is =
    rw (small (lines_of bytes) is.size)
    (ap chart_of_lines is.lines ∙ ap (λ named. chart_after named is.others) (version_read is.first chart.version is.begun)
    ∙ chart_read chart.version is.said)

-- one chart at most fits a text, no chart fits a text with a fault, and a text has one fault at most
pub one_chart : (bytes : List ℕ) (a b : Chart) → Reads bytes a → Reads bytes b → a ≡ b
one_chart bytes a b is also = same_ok a b (sym (reads_read bytes a is) ∙ reads_read bytes b also)

pub no_chart : (bytes : List ℕ) (chart : Chart) (fault : TextFault) → HasTextFault bytes fault → Reads bytes chart → ⊥
no_chart bytes chart fault has is =
    let read = reads_read bytes chart is in
    let failed_too = fault_read bytes fault has in
    cc

pub one_fault : (bytes : List ℕ) (a b : TextFault) → HasTextFault bytes a → HasTextFault bytes b → a ≡ b
one_fault bytes a b has also = same_fault a b (sym (fault_read bytes a has) ∙ fault_read bytes b also)

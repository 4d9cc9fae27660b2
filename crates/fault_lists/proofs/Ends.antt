-- What a list of faults comes to.
use Rattle.std.proofs.Common.{◌≡◌, ◌≢◌, ◌⊎◌, ◌∙◌, ℕ, List, [], ◌∷◌, Option, Result, Ok, Err, IfErr, OnOk, refl, ap, arith, inl, inr, codes, subst, AllPairs}
use Rattle.std.proofs.KnownBytes.{Appends-trans}
use Rattle.std.specs.Io.KnownBytes.{Appends}
use Rattle.allocate.specs.Exceeded.{FitsMachine, HasCapacityFault, in_order}
use Rattle.capacity.specs.Capacities.{standard}
use Rattle.chart_plans.specs.WantedWords.Wanted.{wanted_of}
use Rattle.fault_lists.specs.CapacityFaults.AllOver.{AreAllOver}
use Rattle.fault_lists.proofs.CapacityFaults.First.{first_is}
use Rattle.chart_lines.specs.ChartsWords.Chart.{Chart}
use Rattle.fault_chart_words.specs.Listed.{BeginsAsChecked, ComesBefore, HasAllListed}
use Rattle.fault_chart_words.specs.declared.listing.BrokenRule.{BrokenRule}
use Rattle.fault_chart_words.proofs.Exact.{broken_of}
use Rattle.chart_rules.specs.RuleFaults.{IsTold}
use Rattle.chart_rules.specs.Rules.{IsKept, IsLawful}
use Rattle.chart_rules.specs.declared.fault.RuleFault.{RuleFault}
use Rattle.chart_rules.specs.declared.fault.RuleFault.TheVariants as broken
use Rattle.chart_text.specs.ChartText.{Reads}
use Rattle.chart_text.specs.TextFaults.{HasTextFault}
use Rattle.chart_text.specs.declared.fault.TextFault.{TextFault}
use Rattle.chart_text.specs.declared.fault.TextFault.TheVariants as text
use Rattle.fault_chart_words.specs.FaultWords.Entries.{entries_text}
use Rattle.fault_lines.specs.FaultsWords.ChartCauses.{of_rule, of_text}
use Rattle.fault_lines.specs.FaultsWords.ToldFaults.{chart_told}
use Rattle.fault_lines.specs.declared.faults.fault.Fault.{Fault}
use Rattle.fault_lists.specs.Endings.{AnswersOk, EndsCapacity, EndsListing, HasListed, WritesBehind, WritesText, by_capacity, by_rules, by_text, broken_off}
use Rattle.fault_lists.specs.CapacityEntries.{capacities_text}
use Rattle.fault_lists.specs.TextEntries.{text_entry}
use Rattle.fault_lists.specs.MisreadLines.Misread.{AreMisread}

-- a fault of a text
pub text_lists : (source lines : List ℕ) (old new : Option (List ℕ)) (cause : TextFault) (fault : Fault)
    → (cause ≢ text.Memory → HasTextFault source cause) → AreMisread 500 source lines → fault ≡ chart_told (of_text cause)
    → WritesText source lines cause old new → EndsListing source old new fault
text_lists source lines old new cause fault has misread is writes = by (memory_or_not cause)
  where
    memory_or_not : (cause : TextFault) → (cause ≡ text.Memory) ⊎ (cause ≢ text.Memory)
    memory_or_not text.TooLarge = inr (λ same. cc)
    memory_or_not text.NoFirstLine = inr (λ same. cc)
    memory_or_not (text.NotALine line) = inr (λ same. cc)
    memory_or_not text.NoEnd = inr (λ same. cc)
    memory_or_not text.Memory = inl refl

    by : (cause ≡ text.Memory) ⊎ (cause ≢ text.Memory) → EndsListing source old new fault
    by (inl none) = broken_off (inl (is ∙ ap (λ c. chart_told (of_text c)) none))
    by (inr some) =
        by_text (record {
          cause = cause;
          at_fault = has some;
          lines = lines;
          misread = misread;
          is_told = is;
          rest = writes.rest;
          behind = writes.tells;
          written = writes.written;
        })

-- the entry was written, and what is behind it
pub text_written : {U E : Type 0} (result : Result U E) (source lines : List ℕ) (cause : TextFault) (old middle new : Option (List ℕ))
    → Appends old middle (text_entry source lines cause) → OnOk result (WritesBehind source lines cause middle new)
    → OnOk result (WritesText source lines cause old new)
text_written (Ok x) source lines cause old middle new entry behind = record {
  rest = behind.rest;
  tells = behind.tells;
  written = Appends-trans old middle new (text_entry source lines cause) behind.rest entry behind.written;
}
text_written (Err e) source lines cause old middle new entry behind = tt

-- the rules that a chart breaks were written
pub rules_written : {U E : Type 0} (result : Result U E) (source : List ℕ) (chart : Chart) (list : List BrokenRule) (old new : Option (List ℕ))
    → HasAllListed chart list → AllPairs ComesBefore list → BeginsAsChecked chart list → OnOk result (Appends old new (entries_text source chart list))
    → OnOk result (HasListed source chart old new)
rules_written (Ok x) source chart list old new all ordered begins written =
    record { list = list; all = all; ordered = ordered; begins = begins; written = written }
rules_written (Err e) source chart list old new all ordered begins written = tt

-- nothing is listed of a lawful chart
pub nothing_listed : (chart : Chart) (list : List BrokenRule) → HasAllListed chart list → IsLawful chart → list ≡ []
unfolding IsLawful IsKept
nothing_listed chart [] all lawful = refl
nothing_listed chart (first ∷ list) all lawful =
    absurd (lawful first.rule first.line (broken_of chart ((all first).0 (0, omega arith, refl))))

-- so nothing was written
unwritten : (source : List ℕ) (chart : Chart) (old middle new : Option (List ℕ)) (more : List ℕ) → HasListed source chart old middle → IsLawful chart
    → Appends middle new more → Appends old new more
unwritten source chart old middle new more listed lawful written =
    let none : entries_text source chart listed.list ≡ [] = ap (entries_text source chart) (nothing_listed chart listed.list listed.all lawful) in
    Appends-trans old middle new [] more (subst (Appends old middle) none listed.written) written

-- a chart that was checked, and what its capacities come to
pub answers_ok : (source : List ℕ) (raw chart : Chart) (old middle new : Option (List ℕ)) → Reads source raw → chart ≡ raw → IsLawful raw
    → HasListed source raw old middle → FitsMachine (wanted_of chart.lines) standard × Appends middle new (codes "ok\n")
    → AnswersOk source old new
answers_ok source raw chart old middle new reads same lawful listed (fits, written) = record {
  good = record {
    chart = raw;
    reads = reads;
    lawful = lawful;
    fits = subst (λ (c : Chart). FitsMachine (wanted_of c.lines) standard) same fits;
  };
  written = unwritten source raw old middle new (codes "ok\n") listed lawful written;
}

pub ok_answered : {U : Type 0} (answer : Result U Fault) (source : List ℕ) (raw chart : Chart) (old middle new : Option (List ℕ)) → Reads source raw → chart ≡ raw
    → IsLawful raw → HasListed source raw old middle
    → OnOk answer (FitsMachine (wanted_of chart.lines) standard × Appends middle new (codes "ok\n")) → OnOk answer (AnswersOk source old new)
ok_answered (Ok done) source raw chart old middle new reads same lawful listed fits =
    answers_ok source raw chart old middle new reads same lawful listed fits
ok_answered (Err fault) source raw chart old middle new reads same lawful listed fits = tt

ends_by : (source : List ℕ) (raw chart : Chart) (old middle new : Option (List ℕ)) (fault : Fault) → Reads source raw → chart ≡ raw
    → IsLawful raw → HasListed source raw old middle → EndsCapacity source chart middle new fault → EndsListing source old new fault
ends_by source raw chart old middle new fault reads same lawful listed (inl off) = broken_off off
ends_by source raw chart old middle new fault reads same lawful listed (inr (cause, has, is, (all, are, written))) =
    by_capacity (record {
      chart = raw;
      reads = reads;
      lawful = lawful;
      cause = cause;
      exceeds = subst (λ (c : Chart). HasCapacityFault (wanted_of c.lines) standard cause) same has;
      all = all;
      are_all = subst (λ (c : Chart). AreAllOver (wanted_of c.lines) standard in_order all) same are;
      first = first_is (wanted_of chart.lines) standard cause has all are;
      is_told = is;
      written = unwritten source raw old middle new (capacities_text source raw.lines (wanted_of raw.lines).totals (wanted_of raw.lines).parts all) listed lawful
          (subst (λ (c : Chart). Appends middle new (capacities_text source c.lines (wanted_of c.lines).totals (wanted_of c.lines).parts all)) same written);
    })

pub capacity_listed : {U : Type 0} (answer : Result U Fault) (source : List ℕ) (raw chart : Chart) (old middle new : Option (List ℕ)) → Reads source raw → chart ≡ raw
    → IsLawful raw → HasListed source raw old middle → IfErr answer (λ fault. EndsCapacity source chart middle new fault)
    → IfErr answer (λ fault. EndsListing source old new fault)
capacity_listed (Ok done) source raw chart old middle new reads same lawful listed ends = tt
capacity_listed (Err fault) source raw chart old middle new reads same lawful listed ends =
    ends_by source raw chart old middle new fault reads same lawful listed ends

-- a rule that is broken
pub rules_listed : (source : List ℕ) (raw : Chart) (old new : Option (List ℕ)) (cause : RuleFault) (fault : Fault) → Reads source raw
    → HasListed source raw old new → (cause ≢ broken.Memory → IsTold raw cause) → fault ≡ chart_told (of_rule cause)
    → EndsListing source old new fault
rules_listed source raw old new broken.Memory fault reads listed told is = broken_off (inl is)
rules_listed source raw old new (broken.Rule first line) fault reads listed told is =
    let found = told (λ same. cc) in
    by_rules (record {
      chart = raw;
      reads = reads;
      list = listed.list;
      all = listed.all;
      ordered = listed.ordered;
      rule = first;
      line = line;
      broken = found;
      first = listed.begins first line found;
      is_told = is;
      written = listed.written;
    })

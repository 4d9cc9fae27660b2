-- What was written behind lines of no form.
use Rattle.std.proofs.Common.{◌≡◌, refl, sym, ap, subst, ℕ, List, ◌++◌, Option, Result, Ok, Err, OnOk, filter, AllPairs}
use Rattle.std.proofs.KnownBytes.{Appends-trans}
use Rattle.std.specs.Io.KnownBytes.{Appends}
use Rattle.fault_chart_words.specs.Listed.{ComesBefore, HasAllListed}
use Rattle.fault_chart_words.specs.declared.listing.BrokenRule.{BrokenRule}
use Rattle.chart_text.specs.ChartText.{Reads}
use Rattle.chart_text.specs.TextFaults.{HasTextFault}
use Rattle.chart_text.specs.declared.fault.TextFault.{TextFault}
use Rattle.chart_text.specs.declared.fault.TextFault.TheVariants as text
use Rattle.chart_lines.specs.ChartsWords.Chart.{Chart}
use Rattle.fault_lists.specs.Behind.{ListsOwn, TellsOthers, WritesOthers, WritesRest, WritesUnended, by_rules, emptied_lines, ended, is_own, no_end_told, unended, with_end}
use Rattle.fault_lists.specs.Endings.{TellsBehind, WritesBehind}
use Rattle.fault_chart_words.specs.FaultWords.Entries.{entries_text}

module _ {U E : Type 0} (result : Result U E) (source : List ℕ) where
  -- the rules that lines break whatever other lines say
  pub own_written : (chart : Chart) (list own : List BrokenRule) (old new : Option (List ℕ)) → HasAllListed chart list → AllPairs ComesBefore list
      → own ≡ filter (is_own chart) list → OnOk result (Appends old new (entries_text source chart own)) → OnOk result (ListsOwn source chart old new)
  own_written chart list own old new all ordered is = by result
    where
      by : (r : Result U E) → OnOk r (Appends old new (entries_text source chart own)) → OnOk r (ListsOwn source chart old new)
      by (Ok x) written = record {
        told = entries_text source chart own;
        tells = record { list = list; all = all; ordered = ordered; spelled = ap (entries_text source chart) is };
        written = written;
      }
      by (Err e) written = tt

  -- those of a chart that is left
  pub others_written : (left : List ℕ) (chart : Chart) (old new : Option (List ℕ)) → Reads left chart → OnOk result (ListsOwn source chart old new)
      → OnOk result (WritesOthers source left old new)
  others_written left chart old new reads = by result
    where
      by : (r : Result U E) → OnOk r (ListsOwn source chart old new) → OnOk r (WritesOthers source left old new)
      by (Ok x) lists = record { told = lists.told; tells = by_rules chart reads lists.tells; written = lists.written }
      by (Err e) lists = tt

  -- behind that END is missing
  pub unended_written : (lines left : List ℕ) (old middle new : Option (List ℕ)) → Appends old middle (no_end_told source lines)
      → OnOk result (WritesOthers source (with_end left) middle new) → OnOk result (WritesUnended source lines left old new)
  unended_written lines left old middle new told = by result
    where
      by : (r : Result U E) → OnOk r (WritesOthers source (with_end left) middle new) → OnOk r (WritesUnended source lines left old new)
      by (Ok x) others = record {
        others = others.told;
        tells = others.tells;
        written = Appends-trans old middle new (no_end_told source lines) others.told told others.written;
      }
      by (Err e) others = tt

  -- what is left lacks END
  pub rest_unended : (lines left : List ℕ) (old new : Option (List ℕ)) → left ≡ emptied_lines lines source → HasTextFault left text.NoEnd
      → OnOk result (WritesUnended source lines left old new) → OnOk result (WritesRest source lines old new)
  rest_unended lines left old new is lacks = by result
    where
      by : (r : Result U E) → OnOk r (WritesUnended source lines left old new) → OnOk r (WritesRest source lines old new)
      by (Ok x) writes = record {
        told = no_end_told source lines ++ writes.others;
        tells = unended (subst (λ (l : List ℕ). HasTextFault l text.NoEnd) is lacks) writes.others
            (subst (λ (l : List ℕ). TellsOthers source (with_end l) writes.others) is writes.tells) refl;
        written = writes.written;
      }
      by (Err e) writes = tt

  -- or not
  pub rest_ended : (lines left : List ℕ) (old new : Option (List ℕ)) → left ≡ emptied_lines lines source → ¬ HasTextFault left text.NoEnd
      → OnOk result (WritesOthers source left old new) → OnOk result (WritesRest source lines old new)
  rest_ended lines left old new is has = by result
    where
      by : (r : Result U E) → OnOk r (WritesOthers source left old new) → OnOk r (WritesRest source lines old new)
      by (Ok x) writes = record {
        told = writes.told;
        tells = ended (subst (λ (l : List ℕ). ¬ HasTextFault l text.NoEnd) is has)
            (subst (λ (l : List ℕ). TellsOthers source l writes.told) is writes.tells);
        written = writes.written;
      }
      by (Err e) writes = tt

  -- that a line is none of a chart
  pub behind_written : (lines : List ℕ) (cause : TextFault) (line : ℕ) (old new : Option (List ℕ)) → cause ≡ text.NotALine line
      → OnOk result (WritesRest source lines old new) → OnOk result (WritesBehind source lines cause old new)
  behind_written lines cause line old new is = by result
    where
      by : (r : Result U E) → OnOk r (WritesRest source lines old new) → OnOk r (WritesBehind source lines cause old new)
      by (Ok x) writes = record {
        rest = writes.told;
        tells = subst (λ (c : TextFault). TellsBehind source lines c writes.told) (sym is) writes.tells;
        written = writes.written;
      }
      by (Err e) writes = tt

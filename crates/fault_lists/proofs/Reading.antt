-- What a reader answers of a text.
use Rattle.std.proofs.Common.{◌≡◌, ◌≢◌, ◌∙◌, ◌⊎◌, inl, inr, sym, subst, ℕ, List, Bool, true, false, Result, Ok, Err, IfOk}
use Rattle.chart_text.specs.ChartText.{Reads}
use Rattle.chart_text.specs.TextFaults.{HasTextFault}
use Rattle.chart_text.specs.declared.fault.TextFault.{TextFault}
use Rattle.chart_text.specs.declared.fault.TextFault.TheVariants as text
use Rattle.chart_lines.specs.ChartsWords.Chart.{Chart}

-- each fault of the text is told, or that memory ran out
abbrev OnlyFault : List ℕ → {R : Type 0} → Result R TextFault → Type 0
OnlyFault source read = (fault : TextFault) → HasTextFault source fault → (read ≡ Err fault) ⊎ (read ≡ Err text.Memory)

-- two answers that are one are of one fault
same_fault : {R : Type 0} (one other : TextFault) → ◌≡◌ {A = Result R TextFault} (Err one) (Err other) → one ≡ other
same_fault one other is = cc

-- that END is missing is no want of memory
no_memory : text.NoEnd ≡ text.Memory → ⊥
no_memory is = cc

-- a fault that is neither is told as neither
neither : {R : Type 0} (read : Result R TextFault) (met : TextFault) → read ≡ Err met → (met ≢ text.NoEnd) × (met ≢ text.Memory)
    → (read ≡ Err text.NoEnd) ⊎ (read ≡ Err text.Memory) → ⊥
neither read met same other (inl end) = other.0 (same_fault met text.NoEnd (sym same ∙ end))
neither read met same other (inr memory) = other.1 (same_fault met text.Memory (sym same ∙ memory))

-- a text that was read lacks nothing
pub none_lacks : {R : Type 0} (source : List ℕ) (read : Result R TextFault) (chart : R) → read ≡ Ok chart → OnlyFault source read
    → ¬ HasTextFault source text.NoEnd
none_lacks source read chart is only has = by (only text.NoEnd has)
  where
    by : (read ≡ Err text.NoEnd) ⊎ (read ≡ Err text.Memory) → ⊥
    by (inl told) = cc
    by (inr told) = cc

-- the fault that was told is that END is missing
pub lacks_is : {E : Type 0} (source : List ℕ) (met : TextFault) (answer : Result Bool E) → IfOk answer (λ is. is ≡ true → met ≡ text.NoEnd)
    → (met ≢ text.Memory → HasTextFault source met) → IfOk answer (λ is. is ≡ true → HasTextFault source text.NoEnd)
lacks_is source met (Ok is) told has = λ yes. subst (HasTextFault source) (told yes) (has (λ none. no_memory (sym (told yes) ∙ none)))
lacks_is source met (Err e) told has = tt

-- or it is another
pub lacks_not : {R E : Type 0} (source : List ℕ) (read : Result R TextFault) (met : TextFault) (answer : Result Bool E) → read ≡ Err met
    → IfOk answer (λ is. is ≡ false → (met ≢ text.NoEnd) × (met ≢ text.Memory)) → OnlyFault source read
    → IfOk answer (λ is. is ≡ false → ¬ HasTextFault source text.NoEnd)
lacks_not source read met (Ok is) same told only = λ no has. neither read met same (told no) (only text.NoEnd has)
lacks_not source read met (Err e) same told only = tt

-- a text with a fault is no chart
pub not_read : (source : List ℕ) (read : Result Chart TextFault) (met : TextFault) → read ≡ Err met → (met ≡ text.Memory → ⊥)
    → ((chart : Chart) → Reads source chart → (read ≡ Ok chart) ⊎ (read ≡ Err text.Memory)) → (chart : Chart) → ¬ Reads source chart
not_read source read met same not_memory only chart reads = by (only chart reads)
  where
    by : (read ≡ Ok chart) ⊎ (read ≡ Err text.Memory) → ⊥
    by (inl is) = cc
    by (inr is) = not_memory (same_fault met text.Memory (sym same ∙ is))

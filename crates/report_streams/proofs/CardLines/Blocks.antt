-- Bytes between two places of an array, and bytes that a read brings.
use Rattle.std.proofs.Common.{◌≡◌, ◌∙◌, ℕ, ◌+◌, ◌-◌, ◌≤◌, List, ◌++◌, length, take, drop, slice_range, Option, Some, None, sym, ap, arith, append_assoc, length-take, length-drop}
use Rattle.std.proofs.Math.Seq.{drop-drop}
use Rattle.std.proofs.lemmas.List.{drop-take}
use Rattle.std.specs.Io.KnownBytes.{Keeps, prepend_known}

-- how many they are
pub long : (bytes : List ℕ) (from to : ℕ) → from ≤ to → to ≤ length bytes → length (slice_range bytes from to) ≡ to - from
long bytes from to ordered within = omega (arith, length-take (to - from) (drop from bytes), length-drop from bytes)

-- bytes are taken off the front
pub advance : (bytes : List ℕ) (from to count : ℕ) → from + count ≤ to → slice_range bytes (from + count) to ≡ drop count (slice_range bytes from to)
advance bytes from to count within =
    let parts : to - from ≡ count + (to - (from + count)) = omega arith in
    sym (ap (λ k. drop count (take k (drop from bytes))) parts ∙ drop-take count (to - (from + count)) (drop from bytes)
    ∙ ap (take (to - (from + count))) (drop-drop count from bytes))

-- a read moves bytes from what is left to what is held behind a line, and the text stays
pub text_stays : (line more : List ℕ) (before after : Option (List ℕ)) → Keeps before (prepend_known more after)
    → Keeps (prepend_known line before) (prepend_known (line ++ more) after)
text_stays line more None after kept = tt
text_stays line more (Some bytes) None kept = absurd kept
text_stays line more (Some bytes) (Some rest) kept = append_assoc line more rest ∙ ap (λ t. line ++ t) kept

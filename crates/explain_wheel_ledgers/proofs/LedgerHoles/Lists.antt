-- Texts that are put together.
use Rattle.std.proofs.Common.{◌≡◌, ◌∙◌, ap, ℕ, List, ◌++◌}

-- two
pub two-put : (all front behind one other : List ℕ) → all ≡ front ++ behind → front ≡ one → behind ≡ other → all ≡ one ++ other
two-put all front behind one other put first second =
    put ∙ ap (λ (l : List ℕ). l ++ behind) first ∙ ap (λ (l : List ℕ). one ++ l) second

-- Rows while a net is made: helper words for its loops.
use Rattle.std.specs.Prelude.{◌≡◌, ◌↔◌, ℕ, ◌+◌, Bool, true, ◌⊎◌, List, Contains}
use Rattle.machine_sets.specs.BitSets.Rows.{leads}
use Rattle.machine_sets.specs.SpreadsWords.Links.{is_linked}
use Rattle.machine_sets.specs.declared.spreads.links.Link.{Link}

-- new leads where old does, and from a place to those whose numbers are listed
abbrev pub Adds : (ℕ → ℕ → Bool) → (ℕ → ℕ → Bool) → ℕ → List ℕ → Type 0
Adds old new place entries =
    (from to : ℕ) → (new from to ≡ true) ↔ ((old from to ≡ true) ⊎ ((from ≡ place) × Contains entries (to + 1)))

-- so it is with rows
abbrev pub AddsRow : List (List ℕ) → List (List ℕ) → ℕ → List ℕ → Type 0
AddsRow old new place entries = Adds (leads old) (leads new) place entries

-- and so with links, one by one
abbrev pub AddsLinks : List Link → List Link → ℕ → List ℕ → Type 0
AddsLinks old new place entries = Adds (is_linked old) (is_linked new) place entries

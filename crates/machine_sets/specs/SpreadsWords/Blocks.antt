-- Blocks of 32 places that follow one another, as the bits of a word: bit b stands for the places from 32 b on.
use Rattle.std.specs.Prelude.{◌≡◌, ℕ, ◌+◌, ◌/◌, ◌<◌, ◌≤◌, All, false, true, List, length}
use Rattle.machine_sets.specs.BitSets.Bits.{is_bit}
use Rattle.machine_sets.specs.declared.bit_sets.contacts.Run.{Run}
use Rattle.machine_sets.specs.SpreadsWords.Links.{has_at}
use Rattle.machine_sets.specs.declared.spreads.links.Link.{Link}

-- There is a set for each place of the panel, and places have rows in the touched blocks alone.
pub record AreTouched (touched : ℕ) (sets : List ℕ) : Type 0 where
  pub long : length sets ≡ 1936
  pub silent : (place row : ℕ) → is_bit touched (place / 32) ≡ false → has_at sets place row ≡ false

-- the links lead to these blocks
abbrev pub LeadTo : ℕ → List Link → Type 0
LeadTo blocks = All (λ link. is_bit blocks (link.to / 32) ≡ true)

-- the contacts of the run lead to these blocks
abbrev pub RunLeadsTo : ℕ → Run → Type 0
RunLeadsTo blocks run = (place : ℕ) → run.exits ≤ place → place < run.exits + run.count → is_bit blocks (place / 32) ≡ true

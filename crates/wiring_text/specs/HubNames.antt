-- Hubs as they are written: letters, and after each of its numbers' points the number.
use Rattle.std.specs.Prelude.{◌≡◌, ℕ, List, [], ◌∷◌, ◌++◌, Bool, true, false, Option}
use Rattle.hubs.specs.HubTable.HubTable.{row_of}
use Rattle.hubs.specs.Hubs.{letters_of, numbers_of, hub_named}
use Rattle.hubs.specs.HubTable.Places.{has_as_many}
use Rattle.hubs.specs.declared.hub.Hub.{Hub}
use Rattle.hubs.specs.declared.hub_table.letters.Letters.{Letters}
use Rattle.hubs.specs.declared.hub_table.letters.Letters.TheVariants as kind
use Rattle.hubs.specs.declared.hub_table.shape.Numbers.{Numbers}
use Rattle.hubs.specs.declared.hub_table.shape.Numbers.TheVariants.{Bare, One, Two, Three}
use Rattle.chart_lines.specs.TokensWords.Number.{IsNumber}
use Rattle.wiring_text.specs.declared.statement.HubName.{HubName}

-- a point and a number
pub record IsPointed (bytes : List ℕ) (number : ℕ) : Type 0 where
  pub digits : List ℕ
  pub spelled : bytes ≡ 46 ∷ digits
  pub value : IsNumber digits number

-- the numbers of a hub, a point before each
pub data IsDotted : List ℕ → Numbers → Type 0 where
  bare : IsDotted [] Bare
  one : {bytes : List ℕ} {n : ℕ} → IsPointed bytes n → IsDotted bytes (One n)
  two : {first second : List ℕ} {m n : ℕ} → IsPointed first m → IsPointed second n → IsDotted (first ++ second) (Two m n)
  three : {first second third : List ℕ} {l m n : ℕ} → IsPointed first l → IsPointed second m → IsPointed third n
      → IsDotted (first ++ second ++ third) (Three l m n)

-- the token is a hub's name: the letters of a kind of the hub table, and as many numbers as hubs of that kind have
pub record IsHubName (token : List ℕ) (name : HubName) : Type 0 where
  pub dotted : List ℕ
  pub spelled : token ≡ (row_of name.letters).spelled ++ dotted
  pub numbers : IsDotted dotted name.numbers
  pub as_many : has_as_many (row_of name.letters).shape name.numbers ≡ true

-- the name of a hub
abbrev pub name_of : Hub → HubName
name_of hub = record { letters = letters_of hub; numbers = numbers_of hub }

-- the hub of a name
abbrev pub hub_of : HubName → Option Hub
hub_of name = hub_named name.letters name.numbers

-- the token is the numbers of a counter group, its width and its number, with a point between them
pub record IsGroup (token : List ℕ) (width number : ℕ) : Type 0 where
  pub digits : List ℕ
  pub after : List ℕ
  pub spelled : token ≡ digits ++ after
  pub wide : IsNumber digits width
  pub numbered : IsPointed after number

-- the names of the carry exit and of the carry entry of a counter group
abbrev pub carry_exit : ℕ → ℕ → HubName
carry_exit width number = record { letters = kind.CO; numbers = Two width number }

abbrev pub carry_entry : ℕ → ℕ → HubName
carry_entry width number = record { letters = kind.CI; numbers = Two width number }

-- whether letters are those of carry exits or of carry entries
abbrev pub is_carry : Letters → Bool
is_carry kind.CO = true
is_carry kind.CI = true
is_carry other = false

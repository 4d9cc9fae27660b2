-- Tables of numbers of hubs: at the number of a hub stands how many hubs a shortest way to it has, 0 where there is none.
use Rattle.std.specs.Prelude.{All, ◌≡◌, ℕ, ◌+◌, ◌≤◌, ◌<◌, ◌⊎◌, Bool, true, false, List, Some, length, slice_index_or, if◌then◌else◌, nat_eq, sum_by}
use Rattle.hubs.specs.declared.hub.Hub.{Hub}
use Rattle.hubs.specs.Hubs.{number_of}
use Rattle.hubs.specs.SetupsWords.Wiring.{Wiring}
use Rattle.net.specs.Impulsed.{LeadsOn}

-- the hub with one number leads on to that with another
pub record LeadsAt (wiring : Wiring) (closed : Hub → Bool) (from to : ℕ) : Type 0 where
  pub exit : Hub
  pub entry : Hub
  pub from_numbered : number_of exit ≡ Some from
  pub to_numbered : number_of entry ≡ Some to
  pub leads : LeadsOn wiring closed exit entry

-- the hub with this number is one of the exits
pub record StartsAt (exits : Hub → Bool) (number : ℕ) : Type 0 where
  pub hub : Hub
  pub numbered : number_of hub ≡ Some number
  pub emits : exits hub ≡ true

-- the number that stands in a table for the hub with a number
abbrev pub at : List ℕ → ℕ → ℕ
at steps number = slice_index_or steps number 0

-- The table is exact: 1 stands where a way starts, each further number stands where a hub leads on to that has a number less
-- by 1, and what a hub of the table leads on to has at most a number more by 1.
pub record IsStepTable (Leads : ℕ → ℕ → Type 0) (Starts : ℕ → Type 0) (steps : List ℕ) : Type 0 where
  pub starts : (h : ℕ) → Starts h → at steps h ≡ 1
  pub root : (h : ℕ) → at steps h ≡ 1 → Starts h
  pub back : (h n : ℕ) → at steps h ≡ n + 2 → (from : ℕ) × (at steps from ≡ n + 1) × Leads from h
  pub on : (from to : ℕ) → 1 ≤ at steps from → Leads from to → (1 ≤ at steps to) × (at steps to ≤ at steps from + 1)

-- at the number of a hub stands no more than this
abbrev pub IsUpTo : (steps : List ℕ) (most : ℕ) → Hub → Type 0
IsUpTo steps most hub = (number : ℕ) → number_of hub ≡ Some number → at steps number ≤ most

-- and so for each of some hubs
abbrev pub AreUpTo : (steps : List ℕ) (most : ℕ) → List Hub → Type 0
AreUpTo steps most hubs = All (IsUpTo steps most) hubs

-- What the ways of a point are known by. Read it through AreWaysOf alone.
pub record WayTable : Type 0 where
  pub steps : List ℕ

-- the ways are those from these exits, by the wires and the closed contacts
abbrev pub AreWaysOf : Wiring → (Hub → Bool) → (Hub → Bool) → WayTable → Type 0
AreWaysOf wiring exits closed ways = IsStepTable (LeadsAt wiring closed) (StartsAt exits) ways.steps

-- how many places of a table are 0
unfoldable pub missing : List ℕ → ℕ
missing steps = sum_by (λ n. if nat_eq n 0 then 1 else 0) steps

-- A pass at a level: the places that it fills were 0 and now have a number more by 1 than the level; they are led to, and what is
-- led to is filled behind it. It tells whether it filled any.
pub record IsPass (level : ℕ) (Led : ℕ → Type 0) (old new : List ℕ) (added : Bool) : Type 0 where
  pub long : length new ≡ length old
  pub kept : (h : ℕ) → 1 ≤ at old h → at new h ≡ at old h
  pub gained : (h : ℕ) → at old h ≡ 0 → 1 ≤ at new h → (at new h ≡ level + 1) × Led h
  pub done : (h : ℕ) → Led h → 1 ≤ at new h
  pub some : added ≡ true → missing new + 1 ≤ missing old
  pub none : added ≡ false → new ≡ old

-- what a hub at the level leads to, where its number is below n
pub record IsLedAt (Leads : ℕ → ℕ → Type 0) (level n : ℕ) (steps : List ℕ) (to : ℕ) : Type 0 where
  pub from : ℕ
  pub low : from < n
  pub stands : at steps from ≡ level
  pub leads : Leads from to

-- 1 stands in a table where a way starts, and 0 elsewhere
pub record IsStartTable (Starts : ℕ → Type 0) (steps : List ℕ) : Type 0 where
  pub long : length steps ≡ 1937
  pub starts : (h : ℕ) → Starts h → at steps h ≡ 1
  pub others : (h : ℕ) → at steps h ≡ 0 ⊎ ((at steps h ≡ 1) × Starts h)

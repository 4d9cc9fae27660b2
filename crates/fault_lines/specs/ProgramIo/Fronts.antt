-- What was written of an answer, whether or not the writer failed: always the front of it. It is known if the writer tells what it holds.
use Rattle.std.specs.Prelude.{ℕ, ◌≤◌, List, Option, length, take}
use Rattle.std.specs.Io.KnownBytes.{Appends, append_known}

-- The first of these bytes, so many, were written after what was there: it may be none of them, or all.
pub record AppendsFront (old new : Option (List ℕ)) (bytes : List ℕ) : Type 0 where
  pub count : ℕ
  pub within : count ≤ length bytes
  pub taken : Appends old new (take count bytes)

-- The front of what a command writes was written: some bytes stand after what was there, and with the rest behind them the command would have
-- written this.
pub record WritesFront (Writes : (old new : Option (List ℕ)) → Type 0) (old new : Option (List ℕ)) : Type 0 where
  pub front : List ℕ
  pub rest : List ℕ
  pub taken : Appends old new front
  pub whole : Writes old (append_known new rest)

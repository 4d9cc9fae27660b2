-- When the writers over memory fail.
use Rattle.std.specs.Prelude.{Bool, true, false, Option, None, Some}
use Rattle.report_streams.specs.declared.devices.limited.Stop.{Stop}
use Rattle.report_streams.specs.declared.devices.limited.Stop.TheVariants.{Fails, FailsToFlush, TakesNone}

-- whether each flush fails
abbrev pub fails_to_flush : Option Stop → Bool
fails_to_flush None = false
fails_to_flush (Some (Fails write)) = false
fails_to_flush (Some (TakesNone write)) = false
fails_to_flush (Some FailsToFlush) = true

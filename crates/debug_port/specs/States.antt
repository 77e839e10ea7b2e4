-- What commands make of the debugger's state.
use Rattle.std.specs.Prelude.{true, false, if◌then◌else◌}
use Rattle.debug_port.specs.declared.states.Debug.{Debug}

-- a halt waits for the processor, but not for one that is halted
abbrev pub halt_asked : Debug → Debug
halt_asked debug = if debug.halted then debug else record debug { pending = true }

-- the processor goes on, and no halt waits
abbrev pub gone_on : Debug → Debug
gone_on debug = record debug { halted = false; pending = false }

abbrev pub reset_asked : Debug → Debug
reset_asked debug = record debug { reset = true }

-- an erase comes with a reset
abbrev pub erase_asked : Debug → Debug
erase_asked debug = record debug { reset = true; erase = true }

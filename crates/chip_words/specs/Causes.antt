-- The causes of resets (SLAU367, SYS), by number, as SYSRSTIV tells them. The causes that are requested are told by a list
-- of 65 truth values, of which entry i is for cause i.
use Rattle.std.specs.Prelude.{ℕ, ◌+◌, ◌==◌, ◌||◌, min, Bool, true, false, if◌then◌else◌, List, [], ◌∷◌, Option, Some, None, replicate, slice_set}

-- none yet, or none any more: what SYSRSTIV reads once its cause was read
abbrev pub NO_CAUSE : ℕ
NO_CAUSE = 0x00

-- power came on
abbrev pub POWER_ON : ℕ
POWER_ON = 0x02

-- the debugger
abbrev pub DEBUG_RESET : ℕ
DEBUG_RESET = 0x04

-- PMMSWBOR of PMMCTL0, and PMMSWPOR
abbrev pub SOFTWARE_BOR : ℕ
SOFTWARE_BOR = 0x06

abbrev pub SOFTWARE_POR : ℕ
SOFTWARE_POR = 0x14

-- the watchdog ended an interval
abbrev pub WATCHDOG_INTERVAL : ℕ
WATCHDOG_INTERVAL = 0x16

-- a write of WDTCTL without the password
abbrev pub WATCHDOG_PASSWORD : ℕ
WATCHDOG_PASSWORD = 0x18

-- a write of FRCTL0 without the password
abbrev pub FRAM_PASSWORD : ℕ
FRAM_PASSWORD = 0x1A

-- an instruction whose first word is in the peripherals
abbrev pub PERIPHERAL_FETCH : ℕ
PERIPHERAL_FETCH = 0x1E

-- a write of PMMCTL0 without the password
abbrev pub POWER_PASSWORD : ℕ
POWER_PASSWORD = 0x20

-- a write of MPUCTL0 without the password
abbrev pub MPU_PASSWORD : ℕ
MPU_PASSWORD = 0x22

-- violations of the encapsulation, of information FRAM and of the segments
abbrev pub SEALED_VIOLATION : ℕ
SEALED_VIOLATION = 0x26

abbrev pub INFO_VIOLATION : ℕ
INFO_VIOLATION = 0x28

abbrev pub SEGMENT_1_VIOLATION : ℕ
SEGMENT_1_VIOLATION = 0x2A

abbrev pub SEGMENT_2_VIOLATION : ℕ
SEGMENT_2_VIOLATION = 0x2C

abbrev pub SEGMENT_3_VIOLATION : ℕ
SEGMENT_3_VIOLATION = 0x2E

-- a reserved word, which is this project's own
abbrev pub RESERVED_WORD : ℕ
RESERVED_WORD = 0x40

-- none is requested: it does not compute, so that a list of this length does not
unfoldable pub no_causes : List Bool
no_causes = replicate 65 false

-- the requests after one more, if there is one
abbrev pub with_cause : Option ℕ → List Bool → List Bool
with_cause (Some cause) requested = slice_set requested cause true
with_cause None requested = requested

-- the least cause that is requested, where the list begins with this number
abbrev pub least_from : ℕ → List Bool → Option ℕ
least_from n [] = None
least_from n (is_requested ∷ requested) = if is_requested then Some n else least_from (n + 1) requested

abbrev pub least_cause : List Bool → Option ℕ
least_cause requested = least_from 0 requested

-- the lesser of two causes, where there are any
abbrev pub lesser_cause : Option ℕ → Option ℕ → Option ℕ
lesser_cause (Some one) (Some other) = Some (min one other)
lesser_cause (Some one) None = Some one
lesser_cause None other = other

-- the causes of a BOR; all others are those of a PUC
abbrev pub is_of_bor : ℕ → Bool
is_of_bor cause = cause == POWER_ON || cause == DEBUG_RESET || cause == SOFTWARE_BOR

-- Interrupt lines by number, which is the place of a line's row in the table of interrupts. Bit i of a word of lines says
-- whether line i stands.
use Rattle.std.specs.Prelude.{ℕ}

-- CCTL0 of a timer has a line of its own, and all else of the timer has another
abbrev pub TB0_CCR0_LINE : ℕ
TB0_CCR0_LINE = 0

abbrev pub TB0_LINE : ℕ
TB0_LINE = 1

-- the watchdog as an interval timer
abbrev pub WATCHDOG_LINE : ℕ
WATCHDOG_LINE = 2

abbrev pub TA0_CCR0_LINE : ℕ
TA0_CCR0_LINE = 4

abbrev pub TA0_LINE : ℕ
TA0_LINE = 5

abbrev pub DMA_LINE : ℕ
DMA_LINE = 6

abbrev pub TA1_CCR0_LINE : ℕ
TA1_CCR0_LINE = 7

abbrev pub TA1_LINE : ℕ
TA1_LINE = 8

-- the ports
abbrev pub P1_LINE : ℕ
P1_LINE = 9

abbrev pub P2_LINE : ℕ
P2_LINE = 10

abbrev pub P3_LINE : ℕ
P3_LINE = 11

abbrev pub P4_LINE : ℕ
P4_LINE = 12

-- The registers of the peripherals by address, and which unit an address is of (SLAS704, peripheral file map).
use Rattle.std.specs.Prelude.{ℕ, ◌+◌, ◌-◌, ◌%◌, ◌&&◌, nat_le, nat_lt, if◌then◌else◌, List, [], ◌∷◌, Option, Some, None}
use Rattle.chip_words.specs.declared.unit_names.UnitName.{UnitName}
use Rattle.chip_words.specs.declared.unit_names.UnitName.TheVariants.{Sys, Timers, Ports, Dma, Fram, Mpu, Encap}

abbrev pub SFRIE1 : ℕ
SFRIE1 = 0x0100

abbrev pub SFRIFG1 : ℕ
SFRIFG1 = 0x0102

abbrev pub PMMCTL0 : ℕ
PMMCTL0 = 0x0120

abbrev pub PM5CTL0 : ℕ
PM5CTL0 = 0x0130

abbrev pub FRCTL0 : ℕ
FRCTL0 = 0x0140

abbrev pub GCCTL0 : ℕ
GCCTL0 = 0x0144

abbrev pub GCCTL1 : ℕ
GCCTL1 = 0x0146

abbrev pub WDTCTL : ℕ
WDTCTL = 0x015C

-- the first of the seven registers of the clock system
abbrev pub CSCTL0 : ℕ
CSCTL0 = 0x0160

abbrev pub SYSCTL : ℕ
SYSCTL = 0x0180

abbrev pub SYSSNIV : ℕ
SYSSNIV = 0x019C

abbrev pub SYSRSTIV : ℕ
SYSRSTIV = 0x019E

-- the first register of the ports P1 and P2
abbrev pub PAIN : ℕ
PAIN = 0x0200

-- and of the ports P3 and P4
abbrev pub PBIN : ℕ
PBIN = 0x0220

-- the first register of the timers TA0, TA1 and TB0, each of which has so many bytes of addresses
abbrev pub TA0CTL : ℕ
TA0CTL = 0x0340

abbrev pub TA1CTL : ℕ
TA1CTL = 0x0380

abbrev pub TB0CTL : ℕ
TB0CTL = 0x03C0

abbrev pub TIMER_BYTES : ℕ
TIMER_BYTES = 0x30

-- the first register of DMA, and those that are no channel's
abbrev pub DMACTL0 : ℕ
DMACTL0 = 0x0500

abbrev pub DMACTL1 : ℕ
DMACTL1 = 0x0502

abbrev pub DMACTL4 : ℕ
DMACTL4 = 0x0508

abbrev pub DMAIV : ℕ
DMAIV = 0x050E

-- the first register of channel 0; those of the other channels follow
abbrev pub DMA0CTL : ℕ
DMA0CTL = 0x0510

abbrev pub MPUCTL0 : ℕ
MPUCTL0 = 0x05A0

abbrev pub MPUCTL1 : ℕ
MPUCTL1 = 0x05A2

abbrev pub MPUSEGB2 : ℕ
MPUSEGB2 = 0x05A4

abbrev pub MPUSEGB1 : ℕ
MPUSEGB1 = 0x05A6

abbrev pub MPUSAM : ℕ
MPUSAM = 0x05A8

abbrev pub MPUIPC0 : ℕ
MPUIPC0 = 0x05AA

abbrev pub MPUIPSEGB2 : ℕ
MPUIPSEGB2 = 0x05AC

abbrev pub MPUIPSEGB1 : ℕ
MPUIPSEGB1 = 0x05AE

-- so many bytes from an address on are of a unit
pub record UnitRow : Type 0 where
  pub low : ℕ
  pub bytes : ℕ
  pub unit : UnitName

abbrev pub of_unit : ℕ → ℕ → UnitName → UnitRow
of_unit low bytes unit = record { low = low; bytes = bytes; unit = unit }

-- A unit has all addresses of its stretches: those without a register read 0, and a write does nothing to them.
abbrev pub unit_rows : List UnitRow
unit_rows =
    of_unit SFRIE1 4 Sys
    ∷ of_unit PMMCTL0 2 Sys
    ∷ of_unit PM5CTL0 2 Sys
    ∷ of_unit FRCTL0 8 Fram
    ∷ of_unit WDTCTL 2 Timers
    ∷ of_unit CSCTL0 14 Sys
    ∷ of_unit SYSCTL 2 Sys
    ∷ of_unit SYSSNIV 2 Mpu
    ∷ of_unit SYSRSTIV 2 Sys
    ∷ of_unit PAIN 0x40 Ports
    ∷ of_unit TA0CTL TIMER_BYTES Timers
    ∷ of_unit TA1CTL TIMER_BYTES Timers
    ∷ of_unit TB0CTL TIMER_BYTES Timers
    ∷ of_unit DMACTL0 0x40 Dma
    ∷ of_unit MPUCTL0 10 Mpu
    ∷ of_unit MPUIPC0 6 Encap
    ∷ []

-- the unit of the first row that has an address
abbrev pub unit_in : List UnitRow → ℕ → Option UnitName
unit_in [] at = None
unit_in (row ∷ rows) at = if nat_le row.low at && nat_lt at (row.low + row.bytes) then Some row.unit else unit_in rows at

-- the unit that an address is of; where there is none an access reads 0 and changes nothing
unfoldable pub unit_at : ℕ → Option UnitName
unit_at at = unit_in unit_rows at

-- the even address of the register that an address is of
abbrev pub register_address : ℕ → ℕ
register_address at = at - at % 2

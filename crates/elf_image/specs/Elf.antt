-- A 32-bit little-endian ELF file, as far as the loading of a program reads it.
-- In the words of the format a half has two bytes and a word has four.
use Rattle.std.specs.Prelude.{ℕ, ◌+◌, ◌*◌, Bool, ◌==◌, nat_eq, List, [], ◌∷◌, drop, map}
use Rattle.std.specs.List.{starts_with}
use Rattle.std.specs.Simd.{first_chunks}
use Rattle.byteorder.specs.Endian.{little_number}
use Rattle.elf_image.specs.declared.headers.ProgramHeader.{ProgramHeader}

unfoldable pub half : ℕ → List ℕ → ℕ
half offset bytes = little_number 2 (drop offset bytes)

unfoldable pub word : ℕ → List ℕ → ℕ
word offset bytes = little_number 4 (drop offset bytes)

-- the bytes that a file begins with: the magic, then the marks of 32 bits and of little endian
abbrev pub identification : List ℕ
identification = 0x7F ∷ 0x45 ∷ 0x4C ∷ 0x46 ∷ 1 ∷ 1 ∷ []

unfoldable pub is_elf : List ℕ → Bool
is_elf file = starts_with nat_eq file identification

-- the length of the ELF header, and of a program header
abbrev pub elf_header_size : ℕ
elf_header_size = 52

abbrev pub program_header_size : ℕ
program_header_size = 32

-- the fields of the ELF header
abbrev pub e_type : List ℕ → ℕ
e_type file = half 16 file

abbrev pub e_machine : List ℕ → ℕ
e_machine file = half 18 file

abbrev pub e_phoff : List ℕ → ℕ
e_phoff file = word 28 file

abbrev pub e_phentsize : List ℕ → ℕ
e_phentsize file = half 42 file

abbrev pub e_phnum : List ℕ → ℕ
e_phnum file = half 44 file

-- the type of an executable, the machine MSP430, and the type of a header whose bytes are loaded
abbrev pub et_exec : ℕ
et_exec = 2

abbrev pub em_msp430 : ℕ
em_msp430 = 105

abbrev pub pt_load : ℕ
pt_load = 1

-- a program header in its 32 bytes
unfoldable pub header_of : List ℕ → ProgramHeader
header_of bytes = record { p_type = word 0 bytes; p_offset = word 4 bytes; p_paddr = word 12 bytes; p_filesz = word 16 bytes }

-- the place behind the table of program headers
abbrev pub table_end : List ℕ → ℕ
table_end file = e_phoff file + program_header_size * e_phnum file

-- the program headers in their order: so many parts of 32 bytes, one behind the other
unfoldable pub header_table : List ℕ → List ProgramHeader
header_table file = map header_of (first_chunks program_header_size (e_phnum file) (drop (e_phoff file) file))

abbrev pub is_load : ProgramHeader → Bool
is_load header = header.p_type == pt_load

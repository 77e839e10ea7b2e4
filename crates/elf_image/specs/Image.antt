-- The image that a file is: what it loads, and when it is refused.
use Rattle.std.specs.Prelude.{◌≡◌, ℕ, ◌+◌, ◌-◌, Bool, not, ◌&&◌, ◌==◌, nat_lt, if◌then◌else◌, List, length, take, drop, filter_map, position, sum_by, count_by, Option, Some, None, unwrap_or, Result, Ok, Err, slice_get, slice_index}
use Rattle.std.specs.List.{last_or, range_with_len}
use Rattle.chip_words.specs.Map.{is_fram}
use Rattle.elf_image.specs.declared.headers.ProgramHeader.{ProgramHeader}
use Rattle.elf_image.specs.declared.refusals.ImageRefused.{ImageRefused}
use Rattle.elf_image.specs.declared.refusals.ImageRefused.TheVariants.{Short, NotElf, NotMsp430, NotExec, BadTable, BadSegment}
use Rattle.elf_image.specs.Elf.{is_elf, elf_header_size, e_type, e_machine, e_phentsize, e_phnum, et_exec, em_msp430, program_header_size, table_end, header_table, is_load}

-- the bytes that one header loads, from an address on
pub record Segment : Type 0 where
  pub at : ℕ
  pub bytes : List ℕ

-- what FRAM holds where nothing was written
abbrev pub erased_byte : ℕ
erased_byte = 0xFF

-- what a header loads, if it loads anything
unfoldable pub segment_of : List ℕ → ProgramHeader → Option Segment
segment_of file header =
    if is_load header
    then Some (record { at = header.p_paddr; bytes = take header.p_filesz (drop header.p_offset file) })
    else None

-- what headers load, in their order
unfoldable pub segments_of : List ℕ → List ProgramHeader → List Segment
segments_of file headers = filter_map (segment_of file) headers

-- the byte that a segment gives an address, where it names it
unfoldable pub byte_in : Segment → ℕ → Option ℕ
byte_in segment at = if nat_lt at segment.at then None else slice_get segment.bytes (at - segment.at)

-- an address gets the byte that a segment gives it, and keeps its own where the segment doesn't name it
abbrev pub Loads : Segment → List ℕ → List ℕ → ℕ → Type 0
Loads segment old new at = slice_index new at ≡ unwrap_or (byte_in segment at) (slice_index old at)

-- the byte of an address: the last segment that names it decides, and FRAM that none names is erased
unfoldable pub byte_of : List Segment → ℕ → ℕ
byte_of segments at = unwrap_or (last_or None (filter_map (λ segment. byte_in segment at) segments)) erased_byte

-- the addresses that a segment names
abbrev pub addresses : Segment → List ℕ
addresses segment = range_with_len segment.at (length segment.bytes)

-- how many of them lie off FRAM
unfoldable pub skipped_in : Segment → ℕ
skipped_in segment = count_by (λ at. not (is_fram at)) (addresses segment)

-- how many bytes are passed over
unfoldable pub skipped_of : List Segment → ℕ
skipped_of segments = sum_by skipped_in segments

-- a header that loads bytes from behind the end of the file
unfoldable pub leaves : ℕ → ProgramHeader → Bool
leaves end header = is_load header && not (header.p_filesz == 0) && nat_lt end (header.p_offset + header.p_filesz)

-- what the table of headers loads, or the refusal of a header that leaves the file
abbrev pub loaded : List ℕ → Option ℕ → Result (List Segment) ImageRefused
loaded file (Some index) = Err (BadSegment index)
loaded file None = Ok (segments_of file (header_table file))

-- what the table of headers loads, or the refusal of the first header that leaves the file
abbrev pub table_loaded : List ℕ → Result (List Segment) ImageRefused
table_loaded file = loaded file (position (leaves (length file)) (header_table file))

-- a file with no program headers is an image, whatever is said of their size and place
abbrev pub has_headers : List ℕ → Bool
has_headers file = not (e_phnum file == 0)

-- the image of a file, or its first refusal in this order
unfoldable pub image_of : List ℕ → Result (List Segment) ImageRefused
image_of file =
    if nat_lt (length file) elf_header_size then Err (Short elf_header_size (length file))
    else if not (is_elf file) then Err NotElf
    else if not (e_machine file == em_msp430) then Err (NotMsp430 (e_machine file))
    else if not (e_type file == et_exec) then Err (NotExec (e_type file))
    else if has_headers file && not (e_phentsize file == program_header_size) then Err (BadTable (e_phentsize file))
    else if has_headers file && nat_lt (length file) (table_end file) then Err (Short (table_end file) (length file))
    else table_loaded file

-- The memory before the first tick.
use Rattle.std.proofs.Common.{◌≡◌, ℕ, Bool, true, false, refl, List}
use Rattle.std.specs.Prelude.{IsTrue, slice_index, if◌then◌else◌}
use Rattle.chip_words.specs.Map.{is_fram, is_sram}
use Rattle.elf_image.specs.Fram.{OnFram}
use Rattle.elf_image.specs.Image.{Segment, byte_of}
use Rattle.bus_fabric.specs.Memory.{first_byte as byte_without_image, first_memory as memory_without_image, fram_copied}
use Rattle.bus_fabric.proofs.MemoryBy.{same_memory, slice_index-memory_by}
use Rattle.chip_core.specs.FirstState.{first_byte, first_memory}

-- a choice in which the first outcome is another, and the second makes the choice again
either : (test : Bool) (byte old first second gap : ℕ) → (IsTrue test → byte ≡ first) → old ≡ (if test then second else gap) → (if test then byte else old) ≡ (if test then first else gap)
either true byte old first second gap f g = f refl
either false byte old first second gap f g = g

-- the image's FRAM over a memory where nothing was written
pub is_first_memory : (image : List Segment) (fill : ℕ) (bytes : List ℕ) → OnFram (λ at. slice_index bytes at ≡ byte_of image at) → fram_copied bytes (memory_without_image fill) ≡ first_memory image fill
is_first_memory image fill bytes fram =
    same_memory (λ at. if is_fram at then slice_index bytes at else slice_index (memory_without_image fill) at) (first_byte image fill)
    (λ at within. either (is_fram at) (slice_index bytes at) (slice_index (memory_without_image fill) at) (byte_of image at) 0xFF (if is_sram at then fill else 0) (fram at) (slice_index-memory_by (byte_without_image fill) at within))

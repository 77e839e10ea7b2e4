-- The seal lasts. An image whose structure lies in the seal that it gives has this seal again behind every boot,
-- whatever cuts of power, resets, DMA, commands of the debugger and code from outside come: as long as the sealed code
-- leaves its structure alone, and no erase is accepted.
use Rattle.std.specs.Prelude.{◌≡◌, ◌≢◌, ◌<◌, ◌+◌, ◌*◌, ℕ, true, List, [], ◌∷◌, All, slice_index}
use Rattle.chip_words.specs.Encap.{seal}
use Rattle.chip_words.specs.Seals.{is_in}
use Rattle.elf_image.specs.Image.{Segment}
use Rattle.boot_code.specs.Boot.{POINTER_AT}
use Rattle.boot_code.specs.ImageSeal.{image_seal, image_word}
use Rattle.debug_port.specs.declared.answers.Answer.TheVariants.{Accepted}
use Rattle.debug_port.specs.declared.commands.Command.TheVariants.{Erase}
use Rattle.stimulus.specs.declared.events.Event.{Event}
use Rattle.stimulus.specs.declared.events.EventAct.{EventAct}
use Rattle.stimulus.specs.declared.events.EventAct.TheVariants.{Debug}
use Rattle.stimulus.specs.Events.{on_tick}
use Rattle.stimulus.specs.Stimulus.{Stimulus}
use Rattle.chip_core.specs.declared.owners.Owner.TheVariants.{Processor}
use Rattle.chip_core.specs.Debugger.{answer_to}
use Rattle.chip_core.specs.FirstState.{first_state}
use Rattle.chip_core.specs.Phase.{is_private, is_up}
use Rattle.chip_core.specs.Run.{chip_after}
use Rattle.chip_core.specs.State.{State}
use Rattle.chip_core.specs.Tick.{Stages, after_event, moments, supplied}
use Rattle.chip_core.specs.Turns.{rested_by}
use Rattle.release_log.specs.Puts.{processor_writes}
use Rattle.release_log.specs.Writes.{Misses}

-- The image.

-- the pointer in an image, by which its structure stands at 16 times as much
abbrev pub image_pointer : List Segment → ℕ
image_pointer image = image_word image POINTER_AT

-- a structure has four words, so many bytes
abbrev pub structure_size : ℕ
structure_size = 8

-- the address of a byte of the structure, by its number
abbrev pub structure_byte : List Segment → ℕ → ℕ
structure_byte image k = 16 * image_pointer image + k

-- The image seals its own structure: each byte of the structure lies in the seal that the first boot gives. So there is
-- a signature, the check is good, and the structure sets MPUIPENA and MPUIPLOCK, since else that seal would be empty.
abbrev pub SealsItself : List Segment → Type 0
SealsItself image =
    (k : ℕ) → k < structure_size → is_in (image_seal image) (structure_byte image k) ≡ true

-- What the sealed code keeps to.

-- the processor has its turn, in private phase
pub record IsPrivateTurn (stages : Stages) : Type 0 where
  pub owner : stages.owner ≡ Processor
  pub phase : is_private stages.ready ≡ true

-- two memories have the same bytes of the structure
abbrev pub HaveSameStructure : List Segment → List ℕ → List ℕ → Type 0
HaveSameStructure image before after =
    (k : ℕ) → k < structure_size →
    slice_index after (structure_byte image k) ≡ slice_index before (structure_byte image k)

-- an instruction or an entry in private phase leaves the structure as it was; it may write the same bytes again
abbrev pub SparesStructure : List Segment → Stages → Type 0
SparesStructure image stages =
    IsPrivateTurn stages →
    HaveSameStructure image stages.ready.bus.memory stages.turn.chip.bus.memory

-- no allowed write of an instruction or an entry in private phase is to a byte of the structure
abbrev pub MissesStructure : List Segment → Stages → Type 0
MissesStructure image stages =
    IsPrivateTurn stages → (k : ℕ) → k < structure_size →
    All (Misses (structure_byte image k)) (processor_writes (rested_by Processor stages.ready))

-- Erases.

-- the act is no erase that is accepted
abbrev pub IsNoErase : EventAct → State → Type 0
IsNoErase act chip = act ≡ Debug Erase → answer_to Erase chip ≢ Accepted

-- and so is none of these events, each of which comes to the chip that those before it left
abbrev pub AreNoErases : List Event → State → Type 0
AreNoErases [] chip = Unit {0}
AreNoErases (event ∷ events) chip =
    IsNoErase event.act chip × AreNoErases events (after_event event.act chip)

-- nor any of the chip's next tick
abbrev pub NoErasesNext : Stimulus → State → Type 0
NoErasesNext bench chip = AreNoErases (on_tick chip.tick bench.events) (supplied bench chip)

-- The laws.

-- the image's seal is in force where power is on and the boot is done, and its addresses stay secret at all times, so
-- also without power and while a boot runs
pub record HasImageSeal (image : List Segment) (chip : State) : Type 0 where
  pub in_force : is_up chip ≡ true → seal chip.bus.units.encap ≡ image_seal image
  pub secret : chip.bus.kept ≡ image_seal image

-- in the chip's next tick the sealed code leaves the structure as it was, and no erase is accepted
pub record IsSpared (image : List Segment) (bench : Stimulus) (chip : State) : Type 0 where
  pub steps : SparesStructure image (moments bench chip).stages
  pub erases : NoErasesNext bench chip

-- behind such ticks, as many as have been, every chip of a run has the image's seal
abbrev pub SealComesBack : Type 0
SealComesBack =
    (image : List Segment) (bench : Stimulus) (n : ℕ) → SealsItself image →
    ((k : ℕ) → k < n → IsSpared image bench (chip_after k bench (first_state image bench.fill))) →
    HasImageSeal image (chip_after n bench (first_state image bench.fill))

-- in the chip's next tick the sealed code doesn't write the structure, and no erase is accepted
pub record IsMissed (image : List Segment) (bench : Stimulus) (chip : State) : Type 0 where
  pub steps : MissesStructure image (moments bench chip).stages
  pub erases : NoErasesNext bench chip

-- the same, where the sealed code never writes its structure
abbrev pub SealLasts : Type 0
SealLasts =
    (image : List Segment) (bench : Stimulus) (n : ℕ) → SealsItself image →
    ((k : ℕ) → k < n → IsMissed image bench (chip_after k bench (first_state image bench.fill))) →
    HasImageSeal image (chip_after n bench (first_state image bench.fill))

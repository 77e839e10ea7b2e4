-- What one segment gives to an address.
use Rattle.std.proofs.Common.{◌≡◌, ℕ, ◌≤◌, ◌<◌, ◌+◌, ◌-◌, length, take, drop, max, min, arith, refl, inl, inr, Some, None, unwrap_or, slice_index, List}
use Rattle.std.proofs.lemmas.Bool.Decides.{nat_tests}
use borrow.Rule.Slice.PartMut.{put_mid}
use Rattle.std.proofs.lemmas.Bool.{cases_lt}
use Rattle.std.proofs.lemmas.List.{places, length-take, length-drop, get_or-take, get_or-drop}
use Rattle.std.proofs.lemmas.Option.{slice_get-get_or, slice_get_past}
use Rattle.elf_image.specs.Image.{Segment, byte_in}

pub byte_in-below : (s : Segment) (at : ℕ) → at < s.at → byte_in s at ≡ None
unfolding byte_in
byte_in-below s at h = grind (arith, nat_tests)

pub byte_in-behind : (s : Segment) (at : ℕ) → s.at + length s.bytes ≤ at → byte_in s at ≡ None
unfolding byte_in
byte_in-behind s at h = grind (arith, nat_tests, slice_get_past)

pub byte_in-within : (s : Segment) (at : ℕ) → s.at ≤ at → at < s.at + length s.bytes → byte_in s at ≡ Some (slice_index s.bytes (at - s.at))
unfolding byte_in
byte_in-within s at l h = grind (arith, nat_tests, slice_get-get_or s.bytes (at - s.at) 0)

-- what a part of a memory that bytes were copied into holds
pub copied-within : (old part : List ℕ) (start n at : ℕ) → length part ≡ n → start + n ≤ length old → start ≤ at → at < start + n → slice_index (put_mid start n old part) at ≡ slice_index part (at - start)
copied-within old part start n at size room low high = grind (arith, places)

pub copied-behind : (old part : List ℕ) (start n at : ℕ) → length part ≡ n → start + n ≤ length old → start + n ≤ at → slice_index (put_mid start n old part) at ≡ slice_index old at
copied-behind old part start n at size room high = grind (arith, places)

pub copied-before : (old part : List ℕ) (start n at : ℕ) → start + n ≤ length old → at < start → slice_index (put_mid start n old part) at ≡ slice_index old at
copied-before old part start n at room high = grind (arith, places)

-- what the bytes of a segment between two addresses leave of a memory
loaded-at : (s : Segment) (old part : List ℕ) (low high start end at : ℕ) → start ≡ max s.at low → end ≡ min (s.at + length s.bytes) high → start < end → high ≤ length old → part ≡ take (end - s.at - (start - s.at)) (drop (start - s.at) s.bytes) → start ≤ at → at < end → slice_index (put_mid start (end - start) old part) at ≡ unwrap_or (byte_in s at) (slice_index old at)
loaded-at s old part low high start end at es ee order room ep l h =
    let size : length part ≡ end - start = rw ep (simp (length-take, length-drop) (omega arith)) in
    let there = copied-within old part start (end - start) at size (omega arith) l (omega arith) in
    let given = byte_in-within s at (omega arith) (omega arith) in
    let taken = get_or-take (end - s.at - (start - s.at)) (drop (start - s.at) s.bytes) (at - start) 0 (omega arith) in
    let dropped = get_or-drop (start - s.at) s.bytes (at - start) 0 in
    let place : start - s.at + (at - start) ≡ at - s.at = omega arith in
    rw (there, given, ep, taken, dropped, place) refl

pub loaded-inside : (s : Segment) (old part : List ℕ) (low high start end at : ℕ) → start ≡ max s.at low → end ≡ min (s.at + length s.bytes) high → start < end → high ≤ length old → part ≡ take (end - s.at - (start - s.at)) (drop (start - s.at) s.bytes) → low ≤ at → at < high → slice_index (put_mid start (end - start) old part) at ≡ unwrap_or (byte_in s at) (slice_index old at)
loaded-inside s old part low high start end at es ee order room ep l h =
    let size : length part ≡ end - start = rw ep (simp (length-take, length-drop) (omega arith)) in
    elim (cases_lt at start) [
      | inl before ↦ let there = copied-before old part start (end - start) at (omega arith) before in
          let given = byte_in-below s at (omega arith) in
          rw (there, given) refl
      | inr from ↦ elim (cases_lt at end) [
        | inl within ↦ loaded-at s old part low high start end at es ee order room ep from within
        | inr behind ↦ let there = copied-behind old part start (end - start) at size (omega arith) (omega arith) in
            let given = byte_in-behind s at (omega arith) in
            rw (there, given) refl
      ]
    ]

pub loaded-none : (s : Segment) (byte low high start end at : ℕ) → start ≡ max s.at low → end ≡ min (s.at + length s.bytes) high → end ≤ start → low ≤ at → at < high → byte ≡ unwrap_or (byte_in s at) byte
loaded-none s byte low high start end at es ee empty l h =
    elim (cases_lt at s.at) [
      | inl below ↦ rw (byte_in-below s at below) refl
      | inr from ↦ rw (byte_in-behind s at (omega arith)) refl
    ]

pub loaded-above : (s : Segment) (old part : List ℕ) (low high start end at : ℕ) → start ≡ max s.at low → end ≡ min (s.at + length s.bytes) high → start < end → high ≤ length old → part ≡ take (end - s.at - (start - s.at)) (drop (start - s.at) s.bytes) → high ≤ at → slice_index (put_mid start (end - start) old part) at ≡ slice_index old at
loaded-above s old part low high start end at es ee order room ep h =
    let size : length part ≡ end - start = rw ep (simp (length-take, length-drop) (omega arith)) in
    copied-behind old part start (end - start) at size (omega arith) (omega arith)

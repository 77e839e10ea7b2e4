-- The bytes and the count of an image, one program header after another.
use Rattle.std.proofs.Common.{◌≡◌, ℕ, ◌<◌, ◌≤◌, ◌+◌, List, [], ◌∷◌, length, drop, get_or, map, refl, sym, ap, Some, None, unwrap_or}
use Rattle.std.specs.List.{filter_map, cons_option, last_or}
use Rattle.std.proofs.lemmas.List.{drop_more, drop_all}
use Rattle.std.proofs.lemmas.List.Sums.{sum_by-cons}
use Rattle.elf_image.specs.Elf.{header_of}
use Rattle.elf_image.specs.Image.{Segment, segment_of, segments_of, byte_in, byte_of, skipped_in, skipped_of}

-- what the headers from an index on load
segments_from : List ℕ → List (List ℕ) → ℕ → List Segment
segments_from file headers i = segments_of file (map header_of (drop i headers))

segments_from-none : (file : List ℕ) (headers : List (List ℕ)) (i : ℕ) → i < length headers → segment_of file (header_of (get_or headers i [])) ≡ None → segments_from file headers i ≡ segments_from file headers (i + 1)
unfolding segments_from segments_of
segments_from-none file headers i h e = rw (drop_more headers i [] h, e) refl

segments_from-some : (file : List ℕ) (headers : List (List ℕ)) (i : ℕ) (s : Segment) → i < length headers → segment_of file (header_of (get_or headers i [])) ≡ Some s → segments_from file headers i ≡ s ∷ segments_from file headers (i + 1)
unfolding segments_from segments_of
segments_from-some file headers i s h e = rw (drop_more headers i [] h, e) refl

segments_from-end : (file : List ℕ) (headers : List (List ℕ)) (i : ℕ) → length headers ≤ i → segments_from file headers i ≡ []
unfolding segments_from segments_of
segments_from-end file headers i h = rw (drop_all i headers h) refl

-- the byte that an address with a byte has after segments are loaded
byte_after : ℕ → List Segment → ℕ → ℕ
byte_after byte segments at = unwrap_or (last_or (Some byte) (filter_map (λ segment. byte_in segment at) segments)) 0xFF

byte_after-cons : (byte : ℕ) (s : Segment) (later : List Segment) (at : ℕ) → byte_after byte (s ∷ later) at ≡ byte_after (unwrap_or (byte_in s at) byte) later at
unfolding byte_after
byte_after-cons byte s later at = elim (byte_in s at) as (λ given. unwrap_or (last_or (Some byte) (cons_option given (filter_map (λ segment. byte_in segment at) later))) 0xFF ≡ unwrap_or (last_or (Some (unwrap_or given byte)) (filter_map (λ segment. byte_in segment at) later)) 0xFF) [ None ↦ refl | Some x ↦ refl ]

last_or-erased : (given : List ℕ) → unwrap_or (last_or (Some 0xFF) given) 0xFF ≡ unwrap_or (last_or None given) 0xFF
last_or-erased [] = refl
last_or-erased (x ∷ xs) = refl

-- the byte that an address with a byte has after the headers from an index on are loaded
pub byte_from : ℕ → List ℕ → List (List ℕ) → ℕ → ℕ → ℕ
byte_from byte file headers i at = byte_after byte (segments_from file headers i) at

pub byte_from-start : (file : List ℕ) (headers : List (List ℕ)) (at : ℕ) → byte_from 0xFF file headers 0 at ≡ byte_of (segments_of file (map header_of headers)) at
unfolding byte_from byte_after byte_of segments_from
byte_from-start file headers at = last_or-erased (filter_map (λ segment. byte_in segment at) (segments_of file (map header_of headers)))

pub byte_from-some : (byte : ℕ) (file : List ℕ) (headers : List (List ℕ)) (i at : ℕ) (s : Segment) → i < length headers → segment_of file (header_of (get_or headers i [])) ≡ Some s → byte_from (unwrap_or (byte_in s at) byte) file headers (i + 1) at ≡ byte_from byte file headers i at
unfolding byte_from
byte_from-some byte file headers i at s h e = rw (segments_from-some file headers i s h e) (sym (byte_after-cons byte s (segments_from file headers (i + 1)) at))

pub byte_from-none : (byte : ℕ) (file : List ℕ) (headers : List (List ℕ)) (i at : ℕ) → i < length headers → segment_of file (header_of (get_or headers i [])) ≡ None → byte_from byte file headers (i + 1) at ≡ byte_from byte file headers i at
unfolding byte_from
byte_from-none byte file headers i at h e = rw (segments_from-none file headers i h e) refl

pub byte_from-end : (byte : ℕ) (file : List ℕ) (headers : List (List ℕ)) (i at : ℕ) → length headers ≤ i → byte_from byte file headers i at ≡ byte
unfolding byte_from byte_after
byte_from-end byte file headers i at h = rw (segments_from-end file headers i h) refl

-- how many bytes the headers from an index on pass over
pub skipped_from : List ℕ → List (List ℕ) → ℕ → ℕ
skipped_from file headers i = skipped_of (segments_from file headers i)

pub skipped_from-start : (file : List ℕ) (headers : List (List ℕ)) → skipped_from file headers 0 ≡ skipped_of (segments_of file (map header_of headers))
unfolding skipped_from segments_from
skipped_from-start file headers = refl

pub skipped_from-some : (file : List ℕ) (headers : List (List ℕ)) (i : ℕ) (s : Segment) → i < length headers → segment_of file (header_of (get_or headers i [])) ≡ Some s → skipped_from file headers i ≡ skipped_in s + skipped_from file headers (i + 1)
unfolding skipped_from skipped_of
skipped_from-some file headers i s h e = rw (segments_from-some file headers i s h e) (sum_by-cons skipped_in s (segments_from file headers (i + 1)))

pub skipped_from-none : (file : List ℕ) (headers : List (List ℕ)) (i : ℕ) → i < length headers → segment_of file (header_of (get_or headers i [])) ≡ None → skipped_from file headers i ≡ skipped_from file headers (i + 1)
unfolding skipped_from
skipped_from-none file headers i h e = ap skipped_of (segments_from-none file headers i h e)

pub skipped_from-end : (file : List ℕ) (headers : List (List ℕ)) (i : ℕ) → length headers ≤ i → skipped_from file headers i ≡ 0
unfolding skipped_from skipped_of
skipped_from-end file headers i h = rw (segments_from-end file headers i h) refl

-- How contracts see the code's place of a boot.
use Rattle.boot_code.specs.declared.places.Structure.{Structure as Words}
use Rattle.boot_code.specs.declared.places.Place.{Place as Held}
use Rattle.boot_code.specs.declared.places.Place.TheVariants as held
use Rattle.boot_code.specs.Place.{Place, Start, Sig, Ptr, Word0, Word1, Word2, Word3, SavePtr, SaveMark, MarkErase, Wipe, MarkEmpty, DoneWith, DoneWithout, Structure}

abbrev pub structure_of : Words → Structure
structure_of words = record {
  control = words.control;
  second_border = words.second_border;
  first_border = words.first_border;
  check = words.check;
}

abbrev pub words_of : Structure → Words
words_of words = record {
  control = words.control;
  second_border = words.second_border;
  first_border = words.first_border;
  check = words.check;
}

abbrev pub place_of : Held → Place
place_of held.Start = Start
place_of held.Sig = Sig
place_of held.Ptr = Ptr
place_of (held.Word0 p) = Word0 p
place_of (held.Word1 p w0) = Word1 p w0
place_of (held.Word2 p w0 w1) = Word2 p w0 w1
place_of (held.Word3 p w0 w1 w2) = Word3 p w0 w1 w2
place_of (held.SavePtr p words) = SavePtr p (structure_of words)
place_of (held.SaveMark p words) = SaveMark p (structure_of words)
place_of held.MarkErase = MarkErase
place_of (held.Wipe at) = Wipe at
place_of held.MarkEmpty = MarkEmpty
place_of (held.DoneWith p words) = DoneWith p (structure_of words)
place_of held.DoneWithout = DoneWithout

-- the way back
abbrev pub held_of : Place → Held
held_of Start = held.Start
held_of Sig = held.Sig
held_of Ptr = held.Ptr
held_of (Word0 p) = held.Word0 p
held_of (Word1 p w0) = held.Word1 p w0
held_of (Word2 p w0 w1) = held.Word2 p w0 w1
held_of (Word3 p w0 w1 w2) = held.Word3 p w0 w1 w2
held_of (SavePtr p words) = held.SavePtr p (words_of words)
held_of (SaveMark p words) = held.SaveMark p (words_of words)
held_of MarkErase = held.MarkErase
held_of (Wipe at) = held.Wipe at
held_of MarkEmpty = held.MarkEmpty
held_of (DoneWith p words) = held.DoneWith p (words_of words)
held_of DoneWithout = held.DoneWithout

-- The numbers that the process ends with. What a status says of its call is in `Call`; in short:
--
-- 0  each file was read to its end and is what it ought to be, and the whole text was written; two images that were
--    compared gave away the same
-- 1  as 0, but the images differ, or what they gave away does
-- 2  the words are no command, and nothing was asked for
-- 3  there is no file of the name that was asked for
-- 4  a find or a read failed
-- 5  a file is longer than its limit
-- 6  a file was read to its end, and is no image
-- 7  a file was read to its end, and is no bench
-- 8  a put failed, and a front of the text was written
-- 9  there was no memory, and no fault was counted
--
-- Except for 0, 1 and 8 nothing was written. Behind the file that decides no further one was found.
use Rattle.std.specs.Prelude.{ℕ}
use Rattle.capsule.specs.declared.statuses.Status.{Status}
use Rattle.capsule.specs.declared.statuses.Status.TheVariants.{Done, Differ, Usage, Absent, ReadFault, TooLong, Image, Bench, WriteFault, NoMemory}

abbrev pub exit_of : Status → ℕ
exit_of Done = 0
exit_of Differ = 1
exit_of Usage = 2
exit_of Absent = 3
exit_of ReadFault = 4
exit_of TooLong = 5
exit_of (Image refusal) = 6
exit_of (Bench refusal) = 7
exit_of WriteFault = 8
exit_of NoMemory = 9

-- What is left to read does from here what the whole did from the start.
use Rattle.std.proofs.Common.{◌≡◌, ◌-◌, ◌<◌, ◌++◌}
use Rattle.arrayvec.specs.ArrayVec.{array_vec_len}
use Rattle.chip_words.specs.declared.accesses.Agent.TheVariants.{Debug}
use Rattle.chip_words.specs.Script.{run}
use Rattle.debug_port.specs.Commands.{bytes_from}
use Rattle.debug_port.proofs.debugger.read_bytes.Given as goal

abbrev pub invariant-loop : goal.invariant-loop
invariant-loop g l = let part = g.B.Bus.part in record {
  place : l.next < 0x100000;
  count : array_vec_len l.bytes ≡ l.counter;
  bytes :
      l.bytes.items ++ (run Debug (bytes_from (l.count - l.counter) l.next) (part l.bus)).value
      ≡ (run Debug (bytes_from l.fn.count l.fn.at) (part l.fn.bus)).value;
  part :
      (run Debug (bytes_from (l.count - l.counter) l.next) (part l.bus)).part
      ≡ (run Debug (bytes_from l.fn.count l.fn.at) (part l.fn.bus)).part;
}

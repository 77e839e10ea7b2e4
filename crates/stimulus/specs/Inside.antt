-- The stimulus that a bench's fields stand for.
use Rattle.stimulus.specs.declared.benches.Bench.TheInside.{Inside}
use Rattle.stimulus.specs.Stimulus.{Stimulus}

abbrev pub stimulus_of : Inside → Stimulus
stimulus_of bench = record { end = bench.end; fill = bench.fill; events = (bench.events).items; cuts = bench.schedule }

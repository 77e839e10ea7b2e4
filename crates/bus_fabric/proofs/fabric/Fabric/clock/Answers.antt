use Rattle.std.proofs.Common.{◌∙◌, sym}
use Rattle.bus_fabric.specs.Fabric.{bus_part_of}
use Rattle.bus_fabric.proofs.StillClocks.{still_units}
use Rattle.bus_fabric.proofs.fabric.Fabric.clock.Goals as goal

pub returns-else-counts : goal.returns-else-counts
returns-else-counts c = record {
  units = still_units (bus_part_of c.args.self.now) c.args.smclk c.args.aclk (sym c.counts.ensures ∙ c.if-counts.false);
}

-- What the code's parts are as values: what they lend is seen as lists.
use Rattle.lapm_frames.specs.declared.parts.Parts.{Parts}
use Rattle.lapm_frames.specs.Parts.{FrameParts}
use Rattle.std.specs.Option.{option_map}

abbrev pub seen : Parts → FrameParts
seen parts = record {
  name = parts.name.now;
  command = parts.command;
  control = parts.control;
  ns = parts.ns;
  nr = parts.nr;
  pf = parts.pf;
  info = option_map (λ info. info.now) parts.info;
}

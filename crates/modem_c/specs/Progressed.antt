-- How far a call came that did nothing.
use Rattle.modem_c.specs.declared.progress.Progress.{Progress}

abbrev pub nothing_done : Progress
nothing_done = record { read = 0; written = 0; lost = 0 }

use Rattle.gateway.proofs.Names.{◌++◌, Bool, List, ReaderStands, heard}
use Rattle.gateway.specs.Sightings.{NoneSeen}
use Rattle.gateway.proofs.detector.PatternDetector.push.Given as goal

abbrev pub invariant-loop-place : goal.invariant-loop-place
invariant-loop-place l = record {
  stands : (past : List Bool) → ReaderStands l.fn.self.reader past → ReaderStands l.self.reader (past ++ heard l.place l.bits);
  quiet : (past : List Bool) → ReaderStands l.fn.self.reader past → NoneSeen past l.bits l.place;
}

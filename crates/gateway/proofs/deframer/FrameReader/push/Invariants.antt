use Rattle.gateway.proofs.Names.{◌≡◌, ◌++◌, Bool, List, DeframerStands, heard}
use Rattle.gateway.specs.Frames.{NoneEnds}
use Rattle.gateway.proofs.deframer.FrameReader.push.Given as goal

abbrev pub invariant-loop-place : goal.invariant-loop-place
invariant-loop-place l = record {
  stands : (past : List Bool) → DeframerStands l.fn.self.deframer past → DeframerStands l.self.deframer (past ++ heard l.place l.bits);
  quiet : (past : List Bool) → DeframerStands l.fn.self.deframer past → NoneEnds past l.bits l.place;
  sender : l.self.sender ≡ l.fn.self.sender;
  check : l.self.check ≡ l.fn.self.check;
  heard : l.self.heard ≡ l.fn.self.heard;
}

use Rattle.command_base.proofs.Names.{◌≡◌, ◌≤◌, ◌-◌, vec_len, take, IsTrue, octets_at, OnlyReads, CountsStand}
use Rattle.command_base.proofs.input.read_file.Given as goal

abbrev pub invariant-loop-folder : goal.invariant-loop-folder
invariant-loop-folder g l = record {
  octets : IsTrue ((g.F.Folder.state l.fn.folder).tells l.name)
      → l.file.items ≡ take (vec_len l.file) (octets_at (g.F.Folder.state l.fn.folder) l.name);
  bound : vec_len l.file ≤ l.limit;
  reads : OnlyReads (g.F.Folder.state l.fn.folder) (g.F.Folder.state l.folder);
  stand : CountsStand (g.F.Folder.state l.fn.folder) (g.F.Folder.state l.folder);
}

abbrev pub decreases-loop-folder : goal.decreases-loop-folder
decreases-loop-folder g l = l.limit - vec_len l.file

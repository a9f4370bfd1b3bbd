use Rattle.line_world.proofs.Cited.{◌+◌, length, sym, subst, written, LinkStands, ReadsBoth, served, handed, IsInLimits}
use Rattle.line_world.specs.Mid.{supplied}
use Rattle.line_world.proofs.Serving.{over-others, reading-fault, reading-counts}
use Rattle.line_world.proofs.modems.Modems.serve.Goals as goal

pub serve-requires-clause-counted : goal.serve-requires-clause-counted
serve-requires-clause-counted g c = c.supply.ensures.counted (c.args.self.now.turn + 1) c.args.self.now.turn c.requires.counted

pub returns-clause-serves : goal.returns-clause-serves
returns-clause-serves g c = λ channel files ts ends heard mid script h within.
    let n = written c.args.names.now in
    let s = c.in-Ok.ensures.stands files (handed mid) h.link within in
    let reads : ReadsBoth _ n files (handed mid) s.others = record { orig = s.orig; answ = s.answ } in
    record {
      others = s.others;
      reads = reads;
      stands = record {
        overhears = over-others c.files_count_as_far_as_they_were_read.ensures.next channel files s.others ts ends mid heard _ n
            (subst IsInLimits (sym script) c.requires.limits) h.overhears reads;
        link = subst (λ v. LinkStands c.serve.new.self s.others (served v s.others (length ts) mid)) (sym script)
            (subst (λ t. LinkStands c.serve.new.self s.others (served c.args.script.now s.others t mid)) h.turn
            (c.serve.ensures.stands s.others (supplied s.others (handed mid)) s.stands));
        turn = h.turn;
        tally = h.tally;
        checks = h.checks;
      };
    }

pub returns-in-Err-clause-read : goal.returns-in-Err-clause-read
returns-in-Err-clause-read g c = reading-fault c.folder_fault.result c.in-Err.fault c.folder_fault.ensures

pub returns-in-Err-clause-counts : goal.returns-in-Err-clause-counts
returns-in-Err-clause-counts g c =
    reading-counts (g.F.Folder.state c.args.folder.now) (g.F.Folder.state c.supply.new.folder) (written c.args.names.now)
    c.folder_fault.result c.in-Err.fault c.folder_fault.ensures c.in-Err.ensures.cause c.in-Err.ensures.spared

use Rattle.stations.proofs.Names.{Bool, None, refl, subst, arith, Ok, Err, concat, speak, deliveries, served_with, Broken, SpeaksAs}
use Rattle.stations.proofs.OneEnd.Turning.{silent-turn, spoke, finishes, said-well, gone, gone-part, broken, adds-line, adds-part}
use Rattle.stations.proofs.OneEnd.Turning.{ends-part}
use Rattle.stations.proofs.one_end.single.Single.speak.Goals as goal
use Rattle.stations.proofs.Standing.{broken-so as said-badly}

pub returns-in-Ok-write : goal.returns-in-Ok-write
returns-in-Ok-write g c = record {
  speaks = λ p slot mid h up given.
      let s = c.args.self.now in
      let a = served_with p.file mid in
      let w = said-well (speak s.turn (finishes s.turn a) a) p.file c.speak.new.sent c.speak.new.self _
      (subst (λ (r : Bool). SpeaksAs (speak s.turn r a) p.file c.speak.new.sent c.speak.new.self (Ok c.in-Ok.field-0))
      (c.is_finished-release.ensures p.file a h.station) (c.in-Ok.ensures.speaks p.file a h.station)) in
      gone s c.speak.new.self (g.F.Folder.state c.args.folder.now)
      (g.F.Folder.state c.write.new.folder) c.args.trace.now p slot c.args.arrived mid c.args.given c.speak.new.sent h up given w
      c.in-Ok-write.ensures.ok;
  idle = c.in-Ok.ensures.idle;
  counted = c.in-Ok.ensures.counted;
  turn = refl;
  halts = tt;
  role = refl;
  only = c.write.ensures.only;
  counts = c.in-Ok-write.ensures.counts;
  came = c.write.ensures.came;
}

pub returns-in-Err-write : goal.returns-in-Err-write
returns-in-Err-write g c = record {
  speaks = λ p slot mid h up given.
      let s = c.args.self.now in
      let a = served_with p.file mid in
      let w = said-well (speak s.turn (finishes s.turn a) a) p.file c.speak.new.sent c.speak.new.self _
      (subst (λ (r : Bool). SpeaksAs (speak s.turn r a) p.file c.speak.new.sent c.speak.new.self (Ok c.in-Ok.field-0))
      (c.is_finished-release.ensures p.file a h.station) (c.in-Ok.ensures.speaks p.file a h.station)) in
      gone-part s c.speak.new.self (g.F.Folder.state c.args.folder.now) (g.F.Folder.state c.write.new.folder) c.args.trace.now p slot
      c.args.arrived mid c.args.given c.speak.new.sent h up given w c.in-Err-write.fault c.in-Err-write.ensures.write
      c.in-Err-write.ensures.err;
  idle = tt;
  counted = tt;
  turn = tt;
  halts = refl;
  role = refl;
  only = c.write.ensures.only;
  counts = c.in-Err-write.ensures.counts;
  came = c.write.ensures.came;
}

pub returns-in-Ok-write-2 : goal.returns-in-Ok-write-2
returns-in-Ok-write-2 g c = record {
  speaks = λ p slot mid h up given.
      let s = c.args.self.now in
      let a = served_with p.file mid in
      let fault = c.in-Err.fault in
      let e = said-badly (speak s.turn (finishes s.turn a) a) p.file c.speak.new.sent c.speak.new.self fault
      (subst (λ (r : Bool). SpeaksAs (speak s.turn r a) p.file c.speak.new.sent c.speak.new.self (Err fault))
      (c.is_finished-release.ensures p.file a h.station) (c.in-Err.ensures.speaks p.file a h.station)) in
      adds-line (spoke c.speak.new.self s) (g.F.Folder.state c.args.folder.now)
      (g.F.Folder.state c.write-in-Err.new.folder) c.args.trace.now p slot (concat (deliveries mid)) (Broken fault)
      (silent-turn c.args.arrived c.args.given) None h.turn refl
      (broken s p slot c.args.arrived mid c.args.given fault h up given e) c.in-Ok-write-2.ensures.ok;
  idle = tt;
  counted = tt;
  turn = tt;
  halts = refl;
  role = refl;
  only = c.write-in-Err.ensures.only;
  counts = c.in-Ok-write-2.ensures.counts;
  came = c.write-in-Err.ensures.came;
}

pub returns-in-Err-write-2 : goal.returns-in-Err-write-2
returns-in-Err-write-2 g c = record {
  speaks = λ p slot mid h up given.
      let s = c.args.self.now in
      let a = served_with p.file mid in
      let fault = c.in-Err.fault in
      let e = said-badly (speak s.turn (finishes s.turn a) a) p.file c.speak.new.sent c.speak.new.self fault
      (subst (λ (r : Bool). SpeaksAs (speak s.turn r a) p.file c.speak.new.sent c.speak.new.self (Err fault))
      (c.is_finished-release.ensures p.file a h.station) (c.in-Err.ensures.speaks p.file a h.station)) in
      let t = spoke c.speak.new.self s in
      ends-part t (g.F.Folder.state c.args.folder.now) (g.F.Folder.state c.write-in-Err.new.folder) c.args.trace.now p slot
      (concat (deliveries mid)) c.in-Err-write-2.failed c.in-Err-write-2.ensures.write
      (adds-part t (g.F.Folder.state c.args.folder.now) (g.F.Folder.state c.write-in-Err.new.folder) c.args.trace.now p slot
      (concat (deliveries mid)) (Broken fault) (silent-turn c.args.arrived c.args.given) None h.turn refl
      (broken s p slot c.args.arrived mid c.args.given fault h up given e) c.in-Err-write-2.ensures.err);
  idle = tt;
  counted = tt;
  turn = tt;
  halts = refl;
  role = refl;
  only = c.write-in-Err.ensures.only;
  counts = c.in-Err-write-2.ensures.counts;
  came = c.write-in-Err.ensures.came;
}

pub speak-requires : goal.speak-requires
speak-requires g c = c.requires.early

pub overflow_add-self : goal.overflow_add-self
overflow_add-self g c = omega (arith, c.requires.early)

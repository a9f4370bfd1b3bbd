use Rattle.signal_commands.proofs.Names.{◌∙◌, ◌++◌, Bool, List, length, drop, sym, ap, subst, arith, append-nil, refl, ℕ, says-trans}
use Rattle.signal_commands.proofs.Names.{line_depth, MiddleRead, GoesOn-refl, CountsStand-refl, CountsStand-trans, FolderState, Playing}
use Rattle.signal_commands.proofs.Names.{Plays}
use Rattle.line_coding.specs.MiddleReading.{bits_of_taken}
use Rattle.signal_commands.proofs.PickingUp.Playings.{plays-taken, says-some}
use Rattle.signal_commands.proofs.pickup.player.Player.hear_each.Goals as goal

pub loop-taken-preserved : goal.loop-taken-preserved
loop-taken-preserved g c =
    let i = c.loop-taken.invariant in
    record {
      plays = λ start mode samples h.
          plays-taken start _ _ mode c.loop-taken.self-inside.reader c.take.new.self c.loop-taken.self-inside.listener
          c.hear_taken.new.listener samples (bits_of_taken c.in-Some.taken) (c.in-Some.ensures.stands mode samples) c.in-Ok.ensures.ok
          c.hear_taken.ensures.sender (i.plays start mode samples h);
      lost = c.in-Some.ensures.lost ∙ i.lost;
      count = c.in-Some.ensures.count ∙ i.count;
      room = omega (arith, i.room, c.in-Some.ensures.first, c.hear_taken.ensures.pieces);
      only = says-trans _ _ _ i.only c.hear_taken.ensures.only;
      stand = CountsStand-trans i.stand c.in-Ok.ensures.stand;
    }

pub returns-in-Err-clause-err : goal.returns-in-Err-clause-err
returns-in-Err-clause-err g c start mode samples h =
    let p = c.loop-taken.invariant.plays start mode samples h in
    says-some start (g.F.Folder.state c.hear_taken.new.folder) mode c.take.new.self samples
    (p.bits ++ bits_of_taken c.in-Some.taken) c.loop-taken.self-inside.listener.sender (c.in-Some.ensures.stands mode samples p.bits p.read)
    p.sender_is (c.in-Err.ensures.err start p.bits p.heard)

pub returns-clause-taken : goal.returns-clause-taken
returns-clause-taken g c = c.in_default.ensures.pending ∙ ap (λ (xs : List ℕ). drop 1 xs) c.in_default.ensures.first

pub loop-taken-init : goal.loop-taken-init
loop-taken-init g c =
    let old : FolderState = g.F.Folder.state c.args.folder.now in
    record {
      plays = λ start mode samples h. subst (λ (p : Playing). Plays start old mode p samples) (sym c.self.view_is) h;
      lost = ap (λ (p : Playing). p.reader.reading.decoder.lost) c.self.view_is;
      count = ap (λ (p : Playing). p.reader.reading.decoder.count) c.self.view_is;
      room = omega (
        arith,
        ap (λ (p : Playing). p.listener.pieces) c.self.view_is,
        ap (λ (p : Playing). length p.reader.reading.decoder.pending) c.self.view_is,
      );
      only = record { goes_on = GoesOn-refl old; names = λ name told. refl; read_faults = λ name. refl };
      stand = CountsStand-refl old;
    }

pub returns-clause-ok : goal.returns-clause-ok
returns-clause-ok g c start mode samples h =
    let p = c.loop-taken.invariant.plays start mode samples h in
    record {
      bits = p.bits;
      read = subst (λ (bits : List Bool). MiddleRead mode line_depth c.take.new.self samples bits) (append-nil p.bits)
          (c.in_default.ensures.stands mode samples p.bits p.read);
      heard = p.heard;
      sender_is = p.sender_is;
    }

pub returns-clause-lost : goal.returns-clause-lost
returns-clause-lost g c = c.in_default.ensures.lost ∙ c.loop-taken.invariant.lost

pub returns-clause-count : goal.returns-clause-count
returns-clause-count g c = c.in_default.ensures.count ∙ c.loop-taken.invariant.count

pub returns-clause-pieces : goal.returns-clause-pieces
returns-clause-pieces g c =
    omega (
      arith,
      c.loop-taken.invariant.room,
      ap (λ (p : Playing). p.listener.pieces) c.self.view_is,
      ap (λ (p : Playing). length p.reader.reading.decoder.pending) c.self.view_is,
    )

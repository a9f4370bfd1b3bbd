use Rattle.signal_commands.proofs.Names.{◌∙◌, ◌++◌, length, sym, ap, subst, arith, refl, says-trans, octet_bits, Middle, GoesOn-refl}
use Rattle.signal_commands.proofs.Names.{CountsStand-refl, CountsStand-trans, FolderState, Playing, playing_of, Plays}
use Rattle.signal_commands.proofs.PickingUp.Playings.{plays-taken, says-some}
use Rattle.signal_commands.proofs.pickup.player.Player.hear_pairs.Goals as goal

pub loop-octet-init : goal.loop-octet-init
loop-octet-init g c =
    let old : FolderState = g.F.Folder.state c.args.folder.now in
    record {
      plays = λ start mode samples h. subst (λ (p : Playing). Plays start old mode p samples) (sym c.self.view_is) h;
      lost = ap (λ (p : Playing). p.reader.reading.decoder.lost) c.self.view_is;
      count = ap (λ (p : Playing). p.reader.reading.decoder.count) c.self.view_is;
      room = omega (
        arith,
        ap (λ (p : Playing). p.listener.pieces) c.self.view_is,
        ap (λ (p : Playing). length p.reader.reading.decoder.pending) c.self.view_is,
      );
      only = record { goes_on = GoesOn-refl old; names = λ name told. refl; read_faults = λ name. refl };
      stand = CountsStand-refl old;
    }

pub loop-octet-preserved : goal.loop-octet-preserved
loop-octet-preserved g c =
    let i = c.loop-octet.invariant in
    record {
      plays = λ start mode samples h.
          plays-taken start _ _ mode c.loop-octet.self-inside.reader c.take_octet.new.self c.loop-octet.self-inside.listener
          c.hear_octet.new.listener samples (octet_bits c.in-Some.octet) (c.in-Some.ensures.stands mode samples) c.in-Ok.ensures.ok
          c.hear_octet.ensures.sender (i.plays start mode samples h);
      lost = c.in-Some.ensures.lost ∙ i.lost;
      count = c.in-Some.ensures.count ∙ i.count;
      room = omega (arith, i.room, c.in-Some.ensures.two, c.hear_octet.ensures.pieces);
      only = says-trans _ _ _ i.only c.hear_octet.ensures.only;
      stand = CountsStand-trans i.stand c.in-Ok.ensures.stand;
    }

pub returns-in-Err-clause-err : goal.returns-in-Err-clause-err
returns-in-Err-clause-err g c start mode samples h =
    let p = c.loop-octet.invariant.plays start mode samples h in
    says-some start (g.F.Folder.state c.hear_octet.new.folder) mode c.take_octet.new.self samples
    (p.bits ++ octet_bits c.in-Some.octet) c.loop-octet.self-inside.listener.sender (c.in-Some.ensures.stands mode samples p.bits p.read)
    p.sender_is (c.in-Err.ensures.err start p.bits p.heard)

pub returns-clause-ok : goal.returns-clause-ok
returns-clause-ok g c start mode samples h =
    subst (λ (m : Middle). Plays start (g.F.Folder.state c.loop-octet.folder) mode (playing_of m c.loop-octet.self-inside.listener) samples)
    (sym (c.in_default.ensures.stays refl)) (c.loop-octet.invariant.plays start mode samples h)

pub returns-clause-lost : goal.returns-clause-lost
returns-clause-lost g c = c.in_default.ensures.lost ∙ c.loop-octet.invariant.lost

pub returns-clause-count : goal.returns-clause-count
returns-clause-count g c = c.in_default.ensures.count ∙ c.loop-octet.invariant.count

pub returns-clause-pieces : goal.returns-clause-pieces
returns-clause-pieces g c =
    omega (
      arith,
      c.loop-octet.invariant.room,
      ap (λ (m : Middle). length m.reading.decoder.pending) (c.in_default.ensures.stays refl),
      ap (λ (p : Playing). p.listener.pieces) c.self.view_is,
      ap (λ (p : Playing). length p.reader.reading.decoder.pending) c.self.view_is,
    )

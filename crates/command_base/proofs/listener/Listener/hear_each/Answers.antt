use Rattle.command_base.proofs.Names.{◌∙◌, ◌+◌, ◌≤◌, ◌/◌, ◌^◌, Bool, List, [], ◌∷◌, ◌++◌, Ok, Err, length, take, drop, nat_eq, bit_and, ap}
use Rattle.command_base.proofs.Names.{subst, arith, take_all, take-append-drop, Hears, length-low_bits, low_bits, FolderState}
use Rattle.command_base.proofs.Hearing.{bit-more, hears-none, hears-on, hears-part}
use Rattle.command_base.proofs.listener.Listener.hear_each.Goals as goal

pub loop-place-init : goal.loop-place-init
loop-place-init g c = record { hears = hears-none (g.F.Folder.state c.args.folder.now) c.args.self.now; pieces = omega arith }

pub returns-clause-hears : goal.returns-clause-hears
returns-clause-hears g c =
    let all : List Bool = low_bits c.args.count c.args.octet in
    let end : length all ≤ c.loop-place.place = omega (arith, length-low_bits c.args.count c.args.octet, c.loop-place-test.false) in
    subst (λ (bits : List Bool).
    Hears (g.F.Folder.state c.args.folder.now) (g.F.Folder.state c.loop-place.folder) c.args.self.now c.loop-place.self bits (Ok tt))
    (take_all c.loop-place.place all end) c.loop-place.invariant.hears

pub loop-place-preserved : goal.loop-place-preserved
loop-place-preserved g c =
    let old : FolderState = g.F.Folder.state c.args.folder.now in let new : FolderState = g.F.Folder.state c.hear_bit.new.folder in
    let place = c.loop-place.place in let all : List Bool = low_bits c.args.count c.args.octet in
    record {
      hears = subst (λ (bits : List Bool). Hears old new c.args.self.now c.hear_bit.new.self bits (Ok tt))
          (bit-more c.args.octet c.args.count place (omega (arith, c.loop-place-test.true)))
          (hears-on old (g.F.Folder.state c.loop-place.folder) new c.args.self.now c.loop-place.self c.hear_bit.new.self
          (take place all) (nat_eq (bit_and (c.args.octet / 2 ^ place) 1) 1 ∷ []) (Ok tt)
          c.loop-place.invariant.hears c.in-Ok.ensures.hears);
      pieces = omega (arith, c.in-Ok.ensures.pieces, c.loop-place.invariant.pieces);
    }

pub returns-in-Err-clause-hears : goal.returns-in-Err-clause-hears
returns-in-Err-clause-hears g c =
    let old : FolderState = g.F.Folder.state c.args.folder.now in let new : FolderState = g.F.Folder.state c.hear_bit.new.folder in
    let place = c.loop-place.place in let all : List Bool = low_bits c.args.count c.args.octet in
    let bit : Bool = nat_eq (bit_and (c.args.octet / 2 ^ place) 1) 1 in
    subst (λ (bits : List Bool). Hears old new c.args.self.now c.hear_bit.new.self bits (Err c.in-Err.fault))
    (ap (λ xs. xs ++ drop (place + 1) all) (bit-more c.args.octet c.args.count place (omega (arith, c.loop-place-test.true)))
    ∙ take-append-drop (place + 1) all)
    (hears-part old new c.args.self.now c.hear_bit.new.self (take place all ++ bit ∷ []) (drop (place + 1) all) c.in-Err.fault
    (hears-on old (g.F.Folder.state c.loop-place.folder) new c.args.self.now c.loop-place.self c.hear_bit.new.self
    (take place all) (bit ∷ []) (Err c.in-Err.fault) c.loop-place.invariant.hears c.in-Err.ensures.hears))

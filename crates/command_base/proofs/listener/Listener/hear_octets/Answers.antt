use Rattle.command_base.proofs.Names.{Ok, Err, ◌∙◌, ℕ, ◌+◌, ◌*◌, ◌-◌, ◌^◌, ◌<◌, ◌≤◌, Bool, List, ◌++◌, length, take, drop, get_or, ap}
use Rattle.command_base.proofs.Names.{subst, arith, take_all, Hears, octet_bits, bits_of, FolderState}
use Rattle.command_base.proofs.Hearing.{octet-more, octets-left, hears-none, hears-on, hears-part}
use Rattle.command_base.proofs.listener.Listener.hear_octets.Goals as goal

-- what was counted of some octets, and of one more
no-pieces : (old : ℕ) → old ≤ old + 8 * 0
no-pieces old = omega arith

few-pieces : (now old at all : ℕ) → now ≤ old + 8 * at → at < all → all < 2 ^ 32 → old < 2 ^ 60 → now < 2 ^ 61
few-pieces now old at all more within few low = omega arith

more-pieces : (next now old at : ℕ) → now ≤ old + 8 * at → next ≤ now + 8 → next ≤ old + 8 * (at + 1)
more-pieces next now old at more one = omega arith

all-pieces : (next now old at all : ℕ) → now ≤ old + 8 * at → next ≤ now + 8 → at < all → next ≤ old + 8 * all
all-pieces next now old at all more one within = omega arith

less-left : (all at : ℕ) → at < all → all - (at + 1) < all - at
less-left all at within = omega arith

pub loop-octet-init : goal.loop-octet-init
loop-octet-init g c = assumption (hears-none (g.F.Folder.state c.args.folder.now) c.args.self.now, no-pieces c.args.self.now.pieces)

pub hear_octet-requires : goal.hear_octet-requires
hear_octet-requires g c =
    few-pieces c.loop-octet.self.pieces c.args.self.now.pieces c.loop-octet.octet-index (length c.args.octets.now)
    c.loop-octet.invariant.pieces c.loop-octet-test.true c.requires.few c.requires.pieces

pub loop-octet-smaller : goal.loop-octet-smaller
loop-octet-smaller g c = less-left (length c.args.octets.now) c.loop-octet.octet-index c.loop-octet-test.true

pub loop-octet-preserved : goal.loop-octet-preserved
loop-octet-preserved g c =
    let old : FolderState = g.F.Folder.state c.args.folder.now in let new : FolderState = g.F.Folder.state c.hear_octet.new.folder in
    let i = c.loop-octet.octet-index in let octets = c.args.octets.now in
    record {
      hears = subst (λ (bits : List Bool). Hears old new c.args.self.now c.hear_octet.new.self bits (Ok tt))
          (octet-more octets i c.loop-octet-test.true)
          (hears-on old (g.F.Folder.state c.loop-octet.folder) new c.args.self.now c.loop-octet.self c.hear_octet.new.self
          (bits_of (take i octets)) (octet_bits (get_or octets i 0)) (Ok tt) c.loop-octet.invariant.hears c.in-Ok.ensures.hears);
      pieces = more-pieces c.hear_octet.new.self.pieces c.loop-octet.self.pieces c.args.self.now.pieces i c.loop-octet.invariant.pieces
          c.hear_octet.ensures.pieces;
    }

pub returns-clause-hears : goal.returns-clause-hears
returns-clause-hears g c =
    subst (λ (bits : List Bool).
    Hears (g.F.Folder.state c.args.folder.now) (g.F.Folder.state c.loop-octet.folder) c.args.self.now c.loop-octet.self bits (Ok tt))
    (ap bits_of (take_all c.loop-octet.octet-index c.args.octets.now c.loop-octet-test.false)) c.loop-octet.invariant.hears

pub returns-in-Err-clause-pieces : goal.returns-in-Err-clause-pieces
returns-in-Err-clause-pieces g c =
    all-pieces c.hear_octet.new.self.pieces c.loop-octet.self.pieces c.args.self.now.pieces c.loop-octet.octet-index
    (length c.args.octets.now) c.loop-octet.invariant.pieces c.hear_octet.ensures.pieces c.loop-octet-test.true

pub returns-in-Err-clause-hears : goal.returns-in-Err-clause-hears
returns-in-Err-clause-hears g c =
    let old : FolderState = g.F.Folder.state c.args.folder.now in let new : FolderState = g.F.Folder.state c.hear_octet.new.folder in
    let i = c.loop-octet.octet-index in let octets = c.args.octets.now in
    let within : i < length octets = c.loop-octet-test.true in
    let octet : List Bool = octet_bits (get_or octets i 0) in
    subst (λ (bits : List Bool). Hears old new c.args.self.now c.hear_octet.new.self bits (Err c.in-Err.fault))
    (ap (λ xs. xs ++ bits_of (drop (i + 1) octets)) (octet-more octets i within) ∙ octets-left octets (i + 1))
    (hears-part old new c.args.self.now c.hear_octet.new.self (bits_of (take i octets) ++ octet) (bits_of (drop (i + 1) octets))
    c.in-Err.fault (hears-on old (g.F.Folder.state c.loop-octet.folder) new c.args.self.now c.loop-octet.self c.hear_octet.new.self
    (bits_of (take i octets)) octet (Err c.in-Err.fault) c.loop-octet.invariant.hears c.in-Err.ensures.hears))

-- What each event makes of a play in which neither end is broken; the first account and line are those of a role.
use Rattle.link_account.proofs.Names.{arith, ◌≡◌, ℕ, ◌&&◌, Bool, true, nat_le, List, [], ◌∷◌, ◌++◌, length, None, Ok, refl, is_some}
use Rattle.link_account.proofs.Names.{next_expected, Account, after_break_asked, after_busy, after_delivery, after_given, after_offer}
use Rattle.link_account.proofs.Names.{piece_size, wants, hear, Delivers, Event, Gives_break, Hears_nothing, Is_asked, Is_busy, Is_lost}
use Rattle.link_account.proofs.Names.{Is_offered, Passes, Play, Side, Slot, Speaks, arrives, happens, play, Said, speak, Role, Answerer}
use Rattle.link_account.proofs.Names.{Originator}
use Rattle.lapm_frames.specs.declared.arrived.Arrived.TheVariants as arrivals

-- both sides of a play, the first one that of the role
abbrev pub sides : Role → Side → Side → Play
sides Originator own peer = record { originator = own; answerer = peer }
sides Answerer own peer = record { originator = peer; answerer = own }

abbrev pub side : Account → List Slot → Side
side x line = record { account = x; line = line; fault = None }

abbrev pub at : Role → Account → List Slot → Account → List Slot → Play
at role x lx y ly = sides role (side x lx) (side y ly)

abbrev pub slot_of : Account → Said → Slot
slot_of x said = record { sent = said.sent; number = said.number; told = next_expected x.incoming }

pub play-append : (es fs : List Event) (p : Play) → play (es ++ fs) p ≡ play fs (play es p)
play-append [] fs p = refl
play-append (e ∷ es) fs p = play-append es fs (happens e p)

pub hears-event : (role : Role) (turn : ℕ) (x b y : Account) (lx ly : List Slot) → hear turn arrivals.Nothing x ≡ Ok b
    → happens (Hears_nothing role turn) (at role x lx y ly) ≡ at role b lx y ly
hears-event w turn x b y lx ly e = grind (arith)

pub passes-event : (role : Role) (turn : ℕ) (x y b : Account) (slot : Slot) (rest ly : List Slot) → hear turn (arrives slot.sent) y ≡ Ok b
    → happens (Passes role turn) (at role x (slot ∷ rest) y ly) ≡ at role x rest b ly
passes-event w turn x y b slot rest ly e = grind (arith)

pub loses-event : (role : Role) (x y : Account) (slot : Slot) (rest ly : List Slot)
    → happens (Is_lost role) (at role x (slot ∷ rest) y ly) ≡ at role x rest y ly
loses-event w x y slot rest ly = grind (arith)

pub speaks-event : (role : Role) (turn : ℕ) (release : Bool) (x y : Account) (lx ly : List Slot) (said : Said)
    → speak turn release x ≡ Ok said
    → happens (Speaks role turn release) (at role x lx y ly) ≡ at role said.account (lx ++ slot_of x said ∷ []) y ly
speaks-event w turn release x y lx ly said e = grind (arith)

pub gives-event : (role : Role) (x y : Account) (lx ly : List Slot)
    → happens (Gives_break role) (at role x lx y ly) ≡ at role (after_given x) lx y ly
gives-event w x y lx ly = grind (arith)

pub delivers-event : (role : Role) (x y : Account) (lx ly : List Slot)
    → happens (Delivers role) (at role x lx y ly) ≡ at role (after_delivery x) lx y ly
delivers-event w x y lx ly = grind (arith)

pub asked-event : (role : Role) (turn units : ℕ) (x y : Account) (lx ly : List Slot)
    → happens (Is_asked role turn units) (at role x lx y ly) ≡ at role (after_break_asked turn units x) lx y ly
asked-event w turn units x y lx ly = grind (arith)

pub busy-event : (role : Role) (busy : Bool) (x y : Account) (lx ly : List Slot)
    → happens (Is_busy role busy) (at role x lx y ly) ≡ at role (after_busy busy x) lx y ly
busy-event w busy x y lx ly = grind (arith)

pub offered-event : (role : Role) (piece : List ℕ) (x y : Account) (lx ly : List Slot)
    → (is_some (wants x) && nat_le (length piece) (piece_size x)) ≡ true
    → happens (Is_offered role piece) (at role x lx y ly) ≡ at role (after_offer piece x) lx y ly
offered-event role piece x y lx ly e = grind (arith)

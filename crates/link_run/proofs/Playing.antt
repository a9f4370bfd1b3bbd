-- Each run is a play: the events of each turn, one after another.
use Rattle.link_run.proofs.Names.{◌≡◌, ℕ, zero, suc, ◌+◌, ◌-◌, ◌*◌, ◌<◌, ◌≤◌, ◌&&◌, Bool, true, false, cond, nat_le, List, [], ◌∷◌, ◌++◌}
use Rattle.link_run.proofs.Names.{length, map, take, drop, arith, refl, ◌∙◌, ap, subst, Option, Some, None, Ok, slice_get, Sixteen}
use Rattle.link_run.proofs.Names.{asked-event, at, busy-event, delivers-event, gives-event, hears-event, loses-event, offered-event}
use Rattle.link_run.proofs.Names.{passes-event, play-append, is_some, nat_tests, append_assoc, Check, Role, Originator, Answerer, Account}
use Rattle.link_run.proofs.Names.{is_connected, wants, piece_size, after_given, after_busy, hear, Slot, Play, arrives, Heard, Nothing}
use Rattle.link_run.proofs.Names.{Passed, Lost, Chance, of, after_delivery, Delivers, Event, Gives_break, Hears_nothing, Is_asked, Is_busy}
use Rattle.link_run.proofs.Names.{Is_lost, Is_offered, Passes, happens, play, Crosses, on_line, sent_ago, sent_in, BreakLine, User, asked}
use Rattle.link_run.proofs.Names.{asked_at, delivered, is_busy, next_break, offered, offered_at, offered_times, piece_at, room_for, served}
use Rattle.link_run.proofs.Names.{told_by_play, told_by_turn, Turn, arrival}
use Rattle.link_account.proofs.Names.{after_break_asked}
use Rattle.link_run.proofs.Serving.{Waiting}
use Rattle.lapm_frames.specs.declared.arrived.Arrived.TheVariants as arrivals
use Rattle.link_run.specs.Run as run

pub record Leads (p q : Play) : Type 0 where
  pub events : List Event
  pub led : play events p ≡ q

pub stay : (p : Play) → Leads p p
stay p = record { events = []; led = refl }

pub then-leads : (p q r : Play) → Leads p q → Leads q r → Leads p r
then-leads p q r a b = record { events = a.events ++ b.events; led = play-append a.events b.events p ∙ ap (play b.events) a.led ∙ b.led }

pub one : (e : Event) (p q : Play) → happens e p ≡ q → Leads p q
one e p q h = record { events = e ∷ []; led = h }

hears-nothing-back : (role : Role) (turn : ℕ) (x y b : Account) (lx ly : List Slot) → hear turn arrivals.Nothing y ≡ Ok b
    → Leads (at role x lx y ly) (at role x lx b ly)
hears-nothing-back Originator turn x y b lx ly e = one (Hears_nothing Answerer turn) _ _ (hears-event Answerer turn y b x ly lx e)
hears-nothing-back Answerer turn x y b lx ly e = one (Hears_nothing Originator turn) _ _ (hears-event Originator turn y b x ly lx e)

-- what a role sent in a turn
abbrev pub made : Role → Option Turn → List (Option run.Spoken)
made role None = []
made role (Some t) = (of role t).sent ∷ []

-- the slot that arrives next stands first
pub oldest : (role : Role) (k : ℕ) (ts : List Turn) → on_line (suc k) role ts ≡ made role (slice_get ts k) ++ on_line k role ts
oldest role zero [] = refl
oldest role (suc k) [] = refl
oldest role zero (t ∷ ts) = refl
oldest role (suc k) (t ∷ ts) =
    ap (λ l. l ++ (of role t).sent ∷ []) (oldest role k ts)
    ∙ append_assoc (made role (slice_get ts k)) (on_line k role ts) ((of role t).sent ∷ [])

-- the slot that arrives next stands first
pub next-first : (role : Role) (d : ℕ) (ts : List Turn) (line : List Slot) → 1 ≤ d
    → told_by_play line ≡ map told_by_turn (on_line d role ts)
    → told_by_play line ≡ map told_by_turn (made role (slice_get ts (d - 1)) ++ on_line (d - 1) role ts)
next-first role d ts line some h = let same : d ≡ suc (d - 1) = omega (arith, some) in
    h ∙ ap (map told_by_turn) (ap (λ k. on_line k role ts) same ∙ oldest role (d - 1) ts)

-- one slot arrives at the other end of this role
pub record Came (role : Role) (x b : Account) (lx ly : List Slot) (y : Account) (left : List (Option run.Spoken)) : Type 0 where
  pub line : List Slot
  pub leads : Leads (at role x lx y ly) (at role x line b ly)
  pub left_is : told_by_play line ≡ map told_by_turn left

pub head-of : {X : Type 0} (x y : X) (xs ys : List X) → x ∷ xs ≡ y ∷ ys → (x ≡ y) × (xs ≡ ys)
head-of {X} x y xs ys e = grind (arith)

pub none-is-some : {X : Type 0} (x : X) (xs : List X) → [] ≡ x ∷ xs → ⊥
none-is-some x xs e = omega (arith, ap length e)

-- a slot on a line, as a turn tells it
pub told-slot : (slot : Slot) (s : Option run.Spoken) → Some (slot.sent, slot.number) ≡ told_by_turn s → (h : Heard) → Crosses s h
    → (check : Check) → Crosses (Some (record { sent = slot.sent; number = slot.number; check = check })) h
told-slot slot s e h c check = grind (arith)

arriving : (role : Role) (turn : ℕ) (x y b : Account) (lx ly : List Slot) (t : Option Turn) (left : List (Option run.Spoken)) (h : Heard)
    → told_by_play lx ≡ map told_by_turn (made role t ++ left) → Crosses (sent_in role t) h → hear turn (arrival h) y ≡ Ok b
    → Came role x b lx ly y left
arriving role turn x y b lx ly None left Nothing e c k =
    record { line = lx; leads = hears-nothing-back role turn x y b lx ly k; left_is = e }
arriving role turn x y b lx ly None left (Passed s) e c k = absurd c
arriving role turn x y b lx ly None left (Lost s) e c k = absurd c
arriving role turn x y b lx ly None left Chance e c k = absurd c
arriving role turn x y b [] ly (Some t) left h e c k = absurd (none-is-some (told_by_turn (of role t).sent) (map told_by_turn left) e)
arriving role turn x y b (slot ∷ rest) ly (Some t) left h e c k =
    let parts = head-of (Some (slot.sent, slot.number)) (told_by_turn (of role t).sent) (told_by_play rest) (map told_by_turn left) e in
    on h (told-slot slot (of role t).sent parts.0 h c Sixteen) k parts.1
  where
    on : (h : Heard) → Crosses (Some (record { sent = slot.sent; number = slot.number; check = Sixteen })) h
        → hear turn (arrival h) y ≡ Ok b → told_by_play rest ≡ map told_by_turn left → Came role x b (slot ∷ rest) ly y left
    on Nothing c k p = record {
      line = rest;
      leads = then-leads (at role x (slot ∷ rest) y ly) (at role x rest y ly) (at role x rest b ly)
          (one (Is_lost role) _ _ (loses-event role x y slot rest ly)) (hears-nothing-back role turn x y b rest ly k);
      left_is = p;
    }
    on (Passed s) c k p = record {
      line = rest;
      leads = one (Passes role turn) _ _ (passes-event role turn x y b slot rest ly (subst (λ z. hear turn (arrives z) y ≡ Ok b) c.0 k));
      left_is = p;
    }
    on (Lost s) c k p = record {
      line = rest;
      leads = then-leads (at role x (slot ∷ rest) y ly) (at role x rest y ly) (at role x rest b ly)
          (one (Is_lost role) _ _ (loses-event role x y slot rest ly)) (hears-nothing-back role turn x y b rest ly k);
      left_is = p;
    }
    on Chance c k p = absurd c

pub arrives-next : (role : Role) (turn d : ℕ) (ts : List Turn) (x y b : Account) (lx ly : List Slot) (h : Heard) → 1 ≤ d
    → told_by_play lx ≡ map told_by_turn (on_line d role ts) → Crosses (sent_ago d role ts) h → hear turn (arrival h) y ≡ Ok b
    → Came role x b lx ly y (on_line (d - 1) role ts)
arrives-next role turn d ts x y b lx ly h some e c k = grind (arith, arriving, oldest)

-- one more slot is on the line
pub behind : (role : Role) (d : ℕ) (t : Turn) (ts : List Turn) → 1 ≤ d
    → on_line d role (t ∷ ts) ≡ on_line (d - 1) role ts ++ (of role t).sent ∷ []
behind role d t ts some = let same : d ≡ suc (d - 1) = omega (arith, some) in ap (λ m. on_line m role (t ∷ ts)) same

pub told-behind : (line : List Slot) (slot : Slot)
    → told_by_play (line ++ slot ∷ []) ≡ told_by_play line ++ Some (slot.sent, slot.number) ∷ []
told-behind [] slot = refl
told-behind (s ∷ line) slot = ap (λ l. Some (s.sent, s.number) ∷ l) (told-behind line slot)

-- and as turns tell it
pub turns-behind : (line : List (Option run.Spoken)) (s : Option run.Spoken)
    → map told_by_turn (line ++ s ∷ []) ≡ map told_by_turn line ++ told_by_turn s ∷ []
turns-behind [] s = refl
turns-behind (x ∷ line) s = ap (λ l. told_by_turn x ∷ l) (turns-behind line s)

-- delivering
abbrev with_given : Account → ℕ → Account
with_given x g = record x { incoming = record x.incoming { given = g } }

delivered-next : (x : Account) → is_connected x.phase ≡ true → x.incoming.given < length x.incoming.taken
    → after_delivery x ≡ with_given x (x.incoming.given + 1)
delivered-next x e less = grind (arith)

delivers-all : (n : ℕ) (role : Role) (x y : Account) (lx ly : List Slot) → x.incoming.given + n ≡ length x.incoming.taken
    → is_connected x.phase ≡ true
    → Leads (at role x lx y ly) (at role (with_given x (length x.incoming.taken)) lx y ly)
delivers-all zero role x y lx ly e linked = record { events = []; led = ap (λ g. at role (with_given x g) lx y ly) (omega (arith, e)) }
delivers-all (suc n) role x y lx ly e linked =
    then-leads (at role x lx y ly) (at role (with_given x (x.incoming.given + 1)) lx y ly)
    (at role (with_given x (length x.incoming.taken)) lx y ly)
    (one (Delivers role) _ _ (delivers-event role x y lx ly ∙ ap (λ z. at role z lx y ly) (delivered-next x linked (omega (arith, e)))))
    (delivers-all n role (with_given x (x.incoming.given + 1)) y lx ly (omega (arith, e)) linked)

delivers-what-waits : (role : Role) (x y : Account) (lx ly : List Slot) → Waiting x
    → Leads (at role x lx y ly) (at role (delivered x) lx y ly)
delivers-what-waits role x y lx ly w = go (is_connected x.phase) refl
  where
    go : (b : Bool) → is_connected x.phase ≡ b
        → Leads (at role x lx y ly) (at role (cond b (with_given x (length x.incoming.taken)) x) lx y ly)
    go true e = delivers-all (length x.incoming.taken - x.incoming.given) role x y lx ly (omega (arith, w.given)) e
    go false e = stay (at role x lx y ly)

-- offering
length-take-le : (n : ℕ) (xs : List ℕ) → length (take n xs) ≤ n
length-take-le zero xs = omega arith
length-take-le (suc n) [] = omega arith
length-take-le (suc n) (x ∷ xs) = let h = length-take-le n xs in omega arith

offers-at : (role : Role) (x y : Account) (lx ly : List Slot) (file : List ℕ) (w : Option ℕ) → wants x ≡ w
    → Leads (at role x lx y ly) (at role (offered_at file x w) lx y ly)
offers-at role x y lx ly file None e = stay (at role x lx y ly)
offers-at role x y lx ly file (Some n) e =
    let piece = piece_at (piece_size x) file n in
    let short : nat_le (length piece) (piece_size x) ≡ true = let h = length-take-le (piece_size x) (drop (piece_size x * n) file) in
    grind (arith, nat_tests) in
    one (Is_offered role piece) _ _
    (offered-event role piece x y lx ly (ap (λ v. is_some v && nat_le (length piece) (piece_size x)) e ∙ short))

offers-all : (n : ℕ) (role : Role) (x y : Account) (lx ly : List Slot) (file : List ℕ)
    → Leads (at role x lx y ly) (at role (offered_times n file x) lx y ly)
offers-all zero role x y lx ly file = stay (at role x lx y ly)
offers-all (suc n) role x y lx ly file =
    then-leads (at role x lx y ly) (at role (offered_at file x (wants x)) lx y ly)
    (at role (offered_times n file (offered_at file x (wants x))) lx y ly)
    (offers-at role x y lx ly file (wants x) refl)
    (offers-all n role (offered_at file x (wants x)) y lx ly file)

-- asking for a break
asks : (role : Role) (turn : ℕ) (released : Bool) (breaks : List BreakLine) (x y : Account) (lx ly : List Slot)
    → Leads (at role x lx y ly) (at role (asked turn released breaks x) lx y ly)
asks role turn true breaks x y lx ly = stay (at role x lx y ly)
asks role turn false breaks x y lx ly = go (next_break breaks x)
  where
    ready : (b : BreakLine) (c : Bool) → Leads (at role x lx y ly) (at role (cond c (after_break_asked turn b.length_octet x) x) lx y ly)
    ready b true = one (Is_asked role turn b.length_octet) _ _ (asked-event role turn b.length_octet x y lx ly)
    ready b false = stay (at role x lx y ly)

    go : (n : Option BreakLine) → Leads (at role x lx y ly) (at role (asked_at turn n x) lx y ly)
    go None = stay (at role x lx y ly)
    go (Some b) = ready b (nat_le b.turn turn)

-- all that happens between hearing and speaking
pub serves : (role : Role) (u : User) (turn : ℕ) (released : Bool) (x y : Account) (lx ly : List Slot) → Waiting x
    → Leads (at role x lx y ly) (at role (served u turn released x).account lx y ly)
serves role u turn released x y lx ly w =
    let d = delivered x in
    let g = after_given d in
    let o = offered u.file g in
    let b = after_busy (is_busy turn u.busy) o in
    let last = at role (asked turn released u.breaks b) lx y ly in
    then-leads (at role x lx y ly) (at role d lx y ly) last (delivers-what-waits role x y lx ly w)
    (then-leads (at role d lx y ly) (at role g lx y ly) last (one (Gives_break role) _ _ (gives-event role d y lx ly))
    (then-leads (at role g lx y ly) (at role o lx y ly) last (offers-all (room_for g) role g y lx ly u.file)
    (then-leads (at role o lx y ly) (at role b lx y ly) last
    (one (Is_busy role (is_busy turn u.busy)) _ _ (busy-event role (is_busy turn u.busy) o y lx ly))
    (asks role turn released u.breaks b y lx ly))))

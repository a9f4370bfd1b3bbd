-- Turns of a run without what the line doesn't tell: the meant numbers, and the checks of frames that have no numbers.
use Rattle.line_tap.proofs.Cited.{arith, ◌≡◌, ℕ, zero, suc, ◌-◌, ◌*◌, Bool, true, cond, List, [], ◌∷◌, ◌++◌, length, map, drop, refl, ◌∙◌}
use Rattle.line_tap.proofs.Cited.{ap, Option, length-map, drop-map, option_map, is_some, ◌||◌, signal_bits, Check, Sixteen, has_number}
use Rattle.line_tap.proofs.Cited.{Frame, Heard, Sent, Wire, signals, bits_of, IsHeardOf, IsHeardWell, HeardIn, told, AllChecked, given_in}
use Rattle.line_tap.proofs.Cited.{given_breaks, check_by, judged_by, taking_in, received, given_to, has_passed, is_xid, Spoken, Side, Turn}
use Rattle.line_tap.proofs.Cited.{side_line, turn_text, trace_text, signal_of, of, Role, Originator, Answerer, Terms}
use Rattle.std.proofs.Common.{slice_get}
use Rattle.std.proofs.lemmas.Option.{slice_get-map}
use Rattle.lapm_frames.specs.declared.sent.Sent.TheVariants as slots
use Rattle.link_run.specs.Carried.{sent_in, sent_ago}
use Rattle.link_run.specs.Overheard.{passes_in}
use Rattle.line_run.specs.Sampled.{signal_in, signals_before, bits_before, ArrivesAs}
use Rattle.line_run.specs.Sampled.{LosesLine}
use Rattle.link_run.proofs.Overhearing.{HasCheck}

-- a slot, an end in a turn, a turn, as the line tells them
abbrev pub plain_slot : Check → Spoken → Spoken
plain_slot check slot = told check slot.sent

abbrev pub plain_side : Check → Side → Side
plain_side check s = record { heard = s.heard; check = s.check; sent = option_map (plain_slot check) s.sent; given = s.given }

abbrev pub plain : Check → Turn → Turn
plain check t = record { orig = plain_side check t.orig; answ = plain_side check t.answ }

abbrev pub plains : Check → List Turn → List Turn
plains check ts = map (plain check) ts

pub plain-heard : (check : Check) (role : Role) (t : Turn) → (of role (plain check t)).heard ≡ (of role t).heard
plain-heard check role t = grind (arith)

pub plain-check : (check : Check) (role : Role) (t : Turn) → (of role (plain check t)).check ≡ (of role t).check
plain-check check role t = grind (arith)

pub plain-given : (check : Check) (role : Role) (t : Turn) → (of role (plain check t)).given ≡ (of role t).given
plain-given check role t = grind (arith)

pub plain-sent : (check : Check) (role : Role) (t : Turn) → (of role (plain check t)).sent ≡ option_map (plain_slot check) (of role t).sent
plain-sent check role t = grind (arith)

-- what passed, what was taken and given, and the trace are the same
plain-passed : (is : Frame → Bool) (check : Check) (role : Role) (ts : List Turn)
    → has_passed is role (plains check ts) ≡ has_passed is role ts
plain-passed is check role [] = refl
plain-passed is check role (t ∷ ts) =
    ap (λ h. passes_in is h || has_passed is role (plains check ts)) (plain-heard check role t)
    ∙ ap (λ b. passes_in is (of role t).heard || b) (plain-passed is check role ts)

pub plain-judged : (terms : Terms) (check : Check) (role : Role) (ts : List Turn)
    → judged_by terms role (plains check ts) ≡ judged_by terms role ts
plain-judged terms check role ts = ap (λ b. cond b (check_by terms) Sixteen) (plain-passed is_xid check role ts)

pub plain-received : (terms : Terms) (check : Check) (role : Role) (ts : List Turn)
    → received terms role (plains check ts) ≡ received terms role ts
plain-received terms check role [] = refl
plain-received terms check role (t ∷ ts) =
    ap (λ h. taking_in h (received terms role (plains check ts))) (plain-heard check role t)
    ∙ ap (taking_in (of role t).heard) (plain-received terms check role ts)

plain-breaks : (check : Check) (role : Role) (ts : List Turn) → given_breaks role (plains check ts) ≡ given_breaks role ts
plain-breaks check role [] = refl
plain-breaks check role (t ∷ ts) =
    ap (λ g. given_breaks role (plains check ts) ++ given_in g) (plain-given check role t)
    ∙ ap (λ l. l ++ given_in (of role t).given) (plain-breaks check role ts)

pub plain-given_to : (check : Check) (role : Role) (ts : List Turn) (h : Heard) → given_to role (plains check ts) h ≡ given_to role ts h
plain-given_to check role ts h = grind (arith, plain-passed, plain-breaks)

plain-line : (check : Check) (turn : ℕ) (role : Role) (s : Side) → side_line turn role (plain_side check s) ≡ side_line turn role s
plain-line check turn role s = grind (arith)

pub plain-text : (check : Check) (ts : List Turn) → trace_text (plains check ts) ≡ trace_text ts
plain-text check [] = refl
plain-text check (t ∷ ts) =
    ap (λ n. trace_text (plains check ts) ++ turn_text n (plain check t)) (length-map ts (plain check))
    ∙ ap (λ l. trace_text (plains check ts) ++ (l ++ side_line (length ts) Answerer (plain_side check t.answ)))
    (plain-line check (length ts) Originator t.orig)
    ∙ ap (λ l. trace_text (plains check ts) ++ (side_line (length ts) Originator t.orig ++ l))
    (plain-line check (length ts) Answerer t.answ)
    ∙ ap (λ l. l ++ turn_text (length ts) t) (plain-text check ts)

-- ---- the slots, where each frame with numbers has that check

checked-drop : (check : Check) (role : Role) (n : ℕ) (ts : List Turn) → AllChecked check role ts → AllChecked check role (drop n ts)
checked-drop check role zero ts h = h
checked-drop check role (suc n) [] h = tt
checked-drop check role (suc n) (t ∷ ts) h = checked-drop check role n ts h.1

pub plain-signal : (check own : Check) (role : Role) (dlci : ℕ) (s : Sent)
    → ((frame : Frame) → s ≡ slots.Frame frame → has_number frame ≡ true → own ≡ check)
    → signal_of check role dlci s ≡ signal_of own role dlci s
plain-signal check own role dlci s h = grind (arith)

plain-signal_in : (c : Wire) (check : Check) (role : Role) (o : Option Spoken) → HasCheck check o
    → signal_in c role (option_map (plain_slot check) o) ≡ signal_in c role o
plain-signal_in c check role o h = grind (arith, plain-signal)

-- nothing else goes beside as many turns
before-by : (c : Wire) (check : Check) (role : Role) (ts : List Turn) → signals c role (plains check ts) ≡ signals c role ts
    → signals_before c role (plains check ts) ≡ signals_before c role ts
before-by c check role ts e = grind (arith, length-map)

pub plain-signals : (c : Wire) (check : Check) (role : Role) (ts : List Turn) → AllChecked check role ts
    → signals c role (plains check ts) ≡ signals c role ts
plain-signals c check role [] h = refl
plain-signals c check role (t ∷ ts) h =
    ap (λ o. signals_before c role (plains check ts) ++ signal_in c role o) (plain-sent check role t)
    ∙ ap (λ l. signals_before c role (plains check ts) ++ l) (plain-signal_in c check role (of role t).sent h.0)
    ∙ ap (λ l. l ++ signal_in c role (of role t).sent) (before-by c check role ts (plain-signals c check role ts h.1))

pub plain-bits : (c : Wire) (check : Check) (role : Role) (ts : List Turn) → AllChecked check role ts
    → bits_of c role (plains check ts) ≡ bits_of c role ts
plain-bits c check role ts h = ap (signal_bits (4 * c.symbols)) (plain-signals c check role ts h)

bits-dropped : (c : Wire) (check : Check) (role : Role) (n : ℕ) (ts : List Turn) → AllChecked check role ts
    → bits_of c role (drop n (plains check ts)) ≡ bits_of c role (drop n ts)
bits-dropped c check role n ts h = grind (arith, drop-map, plain-bits, checked-drop)

before-dropped : (c : Wire) (check : Check) (role : Role) (n : ℕ) (ts : List Turn) → AllChecked check role ts
    → bits_before c role (drop n (plains check ts)) ≡ bits_before c role (drop n ts)
before-dropped c check role n ts h = grind (arith, drop-map, before-by, plain-signals, checked-drop)

length-dropped : (check : Check) (n : ℕ) (ts : List Turn) → length (drop n (plains check ts)) ≡ length (drop n ts)
length-dropped check n ts = ap length (drop-map (plain check) n ts) ∙ length-map (drop n ts) (plain check)

plain-in : (check : Check) (role : Role) (o : Option Turn)
    → sent_in role (option_map (plain check) o) ≡ option_map (plain_slot check) (sent_in role o)
plain-in check role o = grind (arith)

plain-ago : (check : Check) (d : ℕ) (role : Role) (ts : List Turn)
    → sent_ago d role (plains check ts) ≡ option_map (plain_slot check) (sent_ago d role ts)
plain-ago check d role ts = ap (sent_in role) (slice_get-map (plain check) ts (d - 1)) ∙ plain-in check role (slice_get ts (d - 1))

-- ---- what is heard of them

arrives-plain : (c : Wire) (check : Check) (sender : Role) (earlier upto others later : List Turn) (hearing : Check) (o : Option Spoken)
    (heard : Heard) → bits_before c sender others ≡ bits_before c sender earlier → bits_of c sender later ≡ bits_of c sender upto
    → length others ≡ length earlier
    → ArrivesAs c sender earlier upto hearing o heard → ArrivesAs c sender others later hearing (option_map (plain_slot check) o) heard
arrives-plain c check sender earlier upto others later hearing o heard b u n h = grind (arith)

pub heard_of-plain : (c : Wire) (check : Check) (sender : Role) (ts : List Turn) (hearing : Check) (heard : Heard)
    → AllChecked check sender ts → IsHeardOf c sender ts hearing heard → IsHeardOf c sender (plains check ts) hearing heard
heard_of-plain c check sender ts hearing heard a h = grind (arith, plain-ago, arrives-plain, before-dropped, bits-dropped, length-dropped)

pub well-plain : (c : Wire) (check : Check) (sender : Role) (ts : List Turn) (hearing : Check) → AllChecked check sender ts
    → IsHeardWell c sender ts hearing → IsHeardWell c sender (plains check ts) hearing
well-plain c check sender ts hearing a h = grind (arith, heard_of-plain)

pub heard_in-plain : (c : Wire) (check : Check) (ts : List Turn) (t : Turn) → ((role : Role) → AllChecked check role ts) → HeardIn c ts t
    → HeardIn c (plains check ts) (plain check t)
heard_in-plain c check ts t a h given = grind (arith, heard_of-plain)

some-plain : (check : Check) (o : Option Spoken) → is_some (option_map (plain_slot check) o) ≡ is_some o
some-plain check o = grind (arith)

pub loses-plain : (c : Wire) (check : Check) (sender : Role) (ts : List Turn) (symbol : ℕ) → AllChecked check sender ts
    → LosesLine c sender ts symbol → LosesLine c sender (plains check ts) symbol
loses-plain c check sender ts symbol a h = grind (arith, plain-ago, some-plain, bits-dropped)

-- What more octets of the recordings leave as it was.
use Rattle.line_tap.proofs.Cited.{◌≡◌, ℕ, ◌+◌, ◌*◌, ◌≤◌, List, [], ◌∷◌, ◌++◌, length, take, arith, length-append, sym, ◌∙◌, ap, append-nil}
use Rattle.line_tap.proofs.Cited.{drop-append_seam, take-append-le, concat-append, concat, Check, I, Heard, Passed, Sent, Incoming}
use Rattle.line_tap.proofs.Cited.{KeepsTaken, Wire, Tapping, tapping, line_of, terms_of, octets_of, HoldsNext, Hears, Sends, GoesOn, Tells}
use Rattle.line_tap.proofs.Cited.{got_in, check_by, received, taking_in, Turn, samples_in, Both, of, Role, Originator, Answerer}
use Rattle.std.specs.Prelude.{drop}
use Rattle.lapm_frames.specs.declared.sent.Sent.TheVariants as slots
use Rattle.line_tap.proofs.NextSlots.{samples-take}

-- ---- one slot

front-same : (c : Wire) (n : ℕ) (body more : List ℕ) → octets_of c n ≤ length body
    → take (c.symbols * n) (samples_in (body ++ more)) ≡ take (c.symbols * n) (samples_in body)
front-same c n body more h =
    sym (samples-take (c.symbols * n) (body ++ more) (omega (arith, h, length-append {A = ℕ} body more)))
    ∙ ap samples_in (take-append-le (octets_of c n) body more h) ∙ samples-take (c.symbols * n) body h

pub holds-longer : (c : Wire) (check : Check) (role : Role) (ts : List Turn) (body more : List ℕ) (s : Sent)
    → HoldsNext c check role ts body s → HoldsNext c check role ts (body ++ more) s
holds-longer c check role ts body more s h = grind (arith, length-append, front-same)

pub holds-shorter : (c : Wire) (check : Check) (role : Role) (ts : List Turn) (body more : List ℕ) (s : Sent)
    → octets_of c (length ts + 1) ≤ length body → HoldsNext c check role ts (body ++ more) s → HoldsNext c check role ts body s
holds-shorter c check role ts body more s whole h = grind (arith, front-same)

-- ---- turns

-- what was read, and more behind it
abbrev pub and_more : Both (List ℕ) → Both (List ℕ) → Both (List ℕ)
and_more bodies more = record { orig = bodies.orig ++ more.orig; answ = bodies.answ ++ more.answ }

abbrev pub longer : Tapping → Both (List ℕ) → Tapping
longer x more = tapping x.script (and_more x.bodies more)

pub hears-longer : (x : Tapping) (bodies : Both (List ℕ)) (ts : List Turn) (t : Turn) → Hears x ts t → Hears (tapping x.script bodies) ts t
hears-longer x bodies ts t h = record { heard = h.heard; checks = h.checks; given = h.given }

sends-longer : (x : Tapping) (more : Both (List ℕ)) (ts : List Turn) (t : Turn) (role : Role) → Sends x ts t role
    → Sends (longer x more) ts t role
sends-longer x more ts t Originator h = record {
  sent = h.sent;
  holds = holds-longer (line_of x) (check_by (terms_of x)) Originator ts x.bodies.orig more.orig h.sent h.holds;
  sent_is = h.sent_is;
}
sends-longer x more ts t Answerer h = record {
  sent = h.sent;
  holds = holds-longer (line_of x) (check_by (terms_of x)) Answerer ts x.bodies.answ more.answ h.sent h.holds;
  sent_is = h.sent_is;
}

pub goes-longer : (x : Tapping) (more : Both (List ℕ)) (ts : List Turn) (t : Turn) → GoesOn x ts t → GoesOn (longer x more) ts t
goes-longer x more ts t h = grind (arith, hears-longer, sends-longer)

pub tells-longer : (x : Tapping) (more : Both (List ℕ)) (ts : List Turn) → Tells x ts → Tells (longer x more) ts
tells-longer x more [] h = tt
tells-longer x more (t ∷ ts) h = (goes-longer x more ts t h.0, tells-longer x more ts h.1)

-- ---- the octets that are given

taken-on : KeepsTaken → (heard : Heard) (i : Incoming) → (more : List (List ℕ)) × ((taking_in heard i).taken ≡ i.taken ++ more)
taken-on law (Passed (slots.Frame (I ns nr pf info))) i = law ns info i
taken-on law heard i = ([], sym (append-nil i.taken))

pub got-more : KeepsTaken → (x : Tapping) (role : Role) (ts : List Turn) (t : Turn)
    → concat (received (terms_of x) role (t ∷ ts)).taken ≡ concat (received (terms_of x) role ts).taken ++ got_in x role ts t
got-more law x role ts t =
    let before : List (List ℕ) = (received (terms_of x) role ts).taken in
    let k = taken-on law (of role t).heard (received (terms_of x) role ts) in
    let rest : drop (length before) (received (terms_of x) role (t ∷ ts)).taken ≡ k.0 =
    ap (drop (length before)) k.1 ∙ drop-append_seam before k.0 in
    ap concat k.1 ∙ concat-append before k.0 ∙ ap (λ l. concat before ++ concat l) (sym rest)

-- What a script's lines say is in its range.
use Rattle.noise_script.proofs.Names.{◌≡◌, ℕ, ◌<◌, ◌≤◌, nat_lt, IfSome, Bool, cond, List, [], ◌∷◌, length, filter_map, Option}
use Rattle.noise_script.proofs.Names.{Some, None, refl, sym, subst, arith, append-nil, cons_option, INFO, placed, placed_each, Holds}
use Rattle.noise_script.proofs.Names.{HoldsUpTo, Kind, row, most, SpellsEach, arguments_of, values_of, form_of, Says, passed_over, spelled}
use Rattle.noise_script.proofs.Names.{AreAllowed, whole, first, window_said, length_said, loss_said, hit_said, noise_said, break_said}
use Rattle.noise_script.proofs.Names.{pause_said, offered_in, breaks_in, script_of, ScriptSpelling, IsQuiet, AreQuiet, ScriptValue, Draft}
use Rattle.noise_script.proofs.Names.{Break, Entry, same_role, Role, Originator, Answerer}
use Rattle.std.proofs.Common.{All}
use Rattle.std.specs.List.{AllByRecursion}
use Rattle.std.proofs.lemmas.List.Elements.{All-nil, All-cons, All-head, All-tail}
use Rattle.xid_params.specs.Offers.{IsAllowed}
use Rattle.noise_script.specs.declared.entry.Entry.TheVariants as entries
use Rattle.noise_script.specs.declared.forms.Form.TheVariants as forms
use Rattle.noise_script.specs.Script.{IsShort, IsInLimits}
use Rattle.noise_script.specs.Grammar.{nothing}
use Rattle.noise_script.specs.Grammar.{delays_in, tries_in, noises_in}
use Rattle.noise_script.specs.Grammar.{pauses_in, delays_or_one, tries_or_five, window_or_15, length_or_128, offer_by}
use Rattle.noise_script.specs.Draft.{draft_script}
use Rattle.noise_script.specs.Laws.{SpelledIsInLimits, BreaksAreOctets}
use Rattle.noise_script.proofs.Entries.{Counts, standing-said, counts-lose, counts-hit, counts-noise, counts-break, counts-busy}
use Rattle.noise_script.proofs.Order.{in_order-length}

record IsWindow (segments : ℕ) : Type 0 where
  some : 1 ≤ segments
  few : segments ≤ 127

record IsLength (octets : ℕ) : Type 0 where
  some : 1 ≤ octets
  few : octets ≤ INFO

abbrev IsInRange : Entry → Type 0
IsInRange (entries.Delay delays) = (1 ≤ delays.orig) × (delays.orig ≤ 60) × (1 ≤ delays.answ) × (delays.answ ≤ 60)
IsInRange (entries.Window window) = IsWindow window.segments
IsInRange (entries.Length l) = IsLength l.octets
IsInRange (entries.Tries tries) = (1 ≤ tries) × (tries ≤ 20)
IsInRange (entries.Noise noise) = IsQuiet noise
IsInRange (entries.Busy pause) = IsShort pause
IsInRange _ = Unit {0}

abbrev AreInRange : List Entry → Type 0
AreInRange [] = Unit {0}
AreInRange (entry ∷ said) = IsInRange entry × AreInRange said

each-in-range : (entry : Entry) (words : List (List ℕ)) → SpellsEach (arguments_of (form_of entry)) words (values_of entry)
    → IsInRange entry
each-in-range q0 words s = grind (arith)

says-in-range : {lines : List (List ℕ)} {said : List Entry} → Says lines said → AreInRange said
says-in-range nothing = tt
says-in-range (passed_over p s) = says-in-range s
says-in-range (spelled p s) = (each-in-range _ p.rest p.each, says-in-range s)

delays-in-range : (said : List Entry) → AreInRange said → IsInRange (entries.Delay (delays_or_one (delays_in said)))
delays-in-range [] r = (omega arith, omega arith, omega arith, omega arith)
delays-in-range (entries.Delay delays ∷ said) r = r.0
delays-in-range (_ ∷ said) r = delays-in-range said r.1

tries-in-range : (said : List Entry) → AreInRange said → IsInRange (entries.Tries (tries_or_five (tries_in said)))
tries-in-range [] r = (omega arith, omega arith)
tries-in-range (entries.Tries tries ∷ said) r = r.0
tries-in-range (_ ∷ said) r = tries-in-range said r.1

window-in-range : (role : Role) (said : List Entry) → AreInRange said → IsWindow (window_or_15 (first (filter_map (window_said role) said)))
window-in-range role [] r = record { some = omega arith; few = omega arith }
window-in-range role (entries.Window window ∷ said) r = by (same_role role window.role) (window-in-range role said r.1)
  where
    by : (b : Bool) → IsWindow (window_or_15 (first (filter_map (window_said role) said)))
        → IsWindow (window_or_15 (first (cons_option (cond b (Some window.segments) None) (filter_map (window_said role) said))))
    by b later = grind (arith)
window-in-range role (_ ∷ said) r = window-in-range role said r.1

length-in-range : (role : Role) (said : List Entry) → AreInRange said
    → IsLength (length_or_128 (first (filter_map (length_said role) said)))
length-in-range role [] r = record { some = omega arith; few = omega arith }
length-in-range role (entries.Length l ∷ said) r = by (same_role role l.role) (length-in-range role said r.1)
  where
    by : (b : Bool) → IsLength (length_or_128 (first (filter_map (length_said role) said)))
        → IsLength (length_or_128 (first (cons_option (cond b (Some l.octets) None) (filter_map (length_said role) said))))
    by b later = grind (arith)
length-in-range role (_ ∷ said) r = length-in-range role said r.1

offer-allowed : (role : Role) (said : List Entry) → AreInRange said → IsAllowed (offer_by (offered_in role said))
offer-allowed role said r =
    let window = window-in-range role said r in
    let long = length-in-range role said r in grind (arith)

noises-quiet : (said : List Entry) → AreInRange said → AreQuiet (noises_in said)
noises-quiet [] r = tt
noises-quiet (entries.Noise noise ∷ said) r = (r.0, noises-quiet said r.1)
noises-quiet (_ ∷ said) r = noises-quiet said r.1

pauses-short : (said : List Entry) → AreInRange said → AllByRecursion IsShort (pauses_in said)
pauses-short [] r = tt
pauses-short (entries.Busy pause ∷ said) r = (r.0, pauses-short said r.1)
pauses-short (_ ∷ said) r = pauses-short said r.1

in-limits : (said : List Entry) → AreInRange said → AreAllowed said → IsInLimits (script_of said)
in-limits said r a =
    let delays = delays-in-range said r in
    let tries = tries-in-range said r in
    record {
      delay_orig_some = delays.0;
      delay_orig_few = delays.1;
      delay_answ_some = delays.2;
      delay_answ_few = delays.3;
      tries_some = tries.0;
      tries_few = tries.1;
      offer_orig_allowed = offer-allowed Originator said r;
      offer_answ_allowed = offer-allowed Answerer said r;
      losses_few = few (whole forms.Lose) loss_said counts-lose;
      hits_few = few (whole forms.Hit) hit_said counts-hit;
      noises_few = few (whole forms.Noise) noise_said counts-noise;
      breaks_few = omega (arith, few (whole forms.Break) break_said counts-break, in_order-length (breaks_in said));
      pauses_few = few (whole forms.Busy) pause_said counts-busy;
      quiet = noises-quiet said r;
      pauses_short = pauses-short said r;
    }
  where
    few : {X : Type 0} (kind : Kind) (say : Entry → Option X) → Counts kind say → length (filter_map say said) ≤ most (row kind.form).bound
    few kind say counts = omega (arith, standing-said kind say counts said, a kind)

-- the draft of all lines makes their script
pub draft-script-is : (draft : Draft) (said : List Entry) → Holds draft said → draft_script draft ≡ script_of said
draft-script-is draft said h = rw (h.delays, h.tries, h.orig, h.answ, h.losses, h.hits, h.noises, h.breaks, h.pauses) refl

pub draft-in-limits : (text : List ℕ) (number : ℕ) (draft : Draft) → HoldsUpTo text [] number draft → IsInLimits (draft_script draft)
draft-in-limits text number draft h = subst IsInLimits (sym (draft-script-is _ _ h.holds)) (in-limits _ (says-in-range h.says) h.allowed)

-- what the draft of all lines makes is what the text spells
pub read-spelling : (text : List ℕ) (number : ℕ) (draft : Draft) (script : ScriptValue) → HoldsUpTo text [] number draft
    → script ≡ draft_script draft → ScriptSpelling text script
read-spelling text number draft script h e = grind (arith, append-nil, draft-script-is)

-- what a text spells

pub spelled-in-limits : SpelledIsInLimits
spelled-in-limits text script s = subst IsInLimits (sym s.script_is) (in-limits s.said (says-in-range s.says) s.allowed)

abbrev IsOctetBreak : Break → Type 0
IsOctetBreak line = line.length < 256

line-octet : (entry : Entry) (words : List (List ℕ)) → SpellsEach (arguments_of (form_of entry)) words (values_of entry)
    → IfSome (break_said entry) IsOctetBreak
line-octet q0 words s = grind (arith)

with-line : (o : Option Break) (lines : List Break) → IfSome o IsOctetBreak → All IsOctetBreak lines
    → All IsOctetBreak (cons_option o lines)
with-line q0 lines h k = grind (arith)

says-octets : {lines : List (List ℕ)} {said : List Entry} → Says lines said → All IsOctetBreak (breaks_in said)
says-octets nothing = All-nil IsOctetBreak
says-octets (passed_over p s) = says-octets s
says-octets {lines} {said} (spelled p s) = with-line _ _ (line-octet _ p.rest p.each) (says-octets s)

placed-octets : (line : Break) (lines : List Break) → IsOctetBreak line → All IsOctetBreak lines → All IsOctetBreak (placed line lines)
placed-octets line [] h k = All-cons IsOctetBreak line [] h k
placed-octets line (next ∷ lines) h k = by (nat_lt line.turn next.turn) (placed-octets line lines h (All-tail IsOctetBreak next lines k))
  where
    by : (b : Bool) → All IsOctetBreak (placed line lines) → All IsOctetBreak (cond b (line ∷ next ∷ lines) (next ∷ placed line lines))
    by b later = grind (arith, placed)

placed-each-octets : (sorted lines : List Break) → All IsOctetBreak sorted → All IsOctetBreak lines
    → All IsOctetBreak (placed_each sorted lines)
placed-each-octets sorted [] h k = h
placed-each-octets sorted (line ∷ lines) h k =
    placed-each-octets (placed line sorted) lines (placed-octets line sorted (All-head IsOctetBreak line lines k) h)
    (All-tail IsOctetBreak line lines k)

pub breaks-octets : BreaksAreOctets
breaks-octets text script s =
    subst (λ (x : ScriptValue). All IsOctetBreak x.breaks) (sym s.script_is)
    (placed-each-octets [] (breaks_in s.said) (All-nil IsOctetBreak) (says-octets s.says))

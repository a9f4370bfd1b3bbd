-- What was recorded of a run tells all that the run left.
use Rattle.line_tap.proofs.Cited.{◌≡◌, ℕ, suc, ◌+◌, ◌-◌, ◌*◌, ◌<◌, ◌≤◌, Bool, true, cond, List, [], ◌∷◌, ◌++◌, length, take, arith}
use Rattle.line_tap.proofs.Cited.{length-append, refl, sym, ◌∙◌, ap, subst, Some, mul-suc, common_steps, length-map, take_all, concat}
use Rattle.line_tap.proofs.Cited.{option_map, opening, phase_after, HEAD, TAIL, Signal, slots_of, signal_bits, with_check, Check, Sixteen}
use Rattle.line_tap.proofs.Cited.{checked, has_number, spelled, Frame, Chance, Sent, Modulates, signals-more, Left, AreFit, OneMoreFits}
use Rattle.line_tap.proofs.Cited.{CodableFits, CodableIsSendable, SpelledInOctets, Wire, signals, bits_of, IsHeardOf, IsHeardWell, HeardIn}
use Rattle.line_tap.proofs.Cited.{LineEnd, ScriptsHaveDelays, SlotsHaveRoom, EndsWhole, EndsLine, EndsOnLine, EndsBy, tapping, phase_behind}
use Rattle.line_tap.proofs.Cited.{next_bits, octets_of, HoldsNext, Hears, Tells, chance_line, AllChecked, check_by, judged_by, given_to}
use Rattle.line_tap.proofs.Cited.{Spoken, Turn, IsSilent, trace_text, ScriptValue, IsInLimits, delay_of, samples_in, tap-some, bits_behind}
use Rattle.line_tap.proofs.Cited.{mode_of, signal_of, IsCodable, tap_of, Both, of, other, Role, Originator, Answerer, NoDistanceIsEqual}
use Rattle.line_tap.proofs.Cited.{Terms}
use Rattle.std.proofs.Math.Nat.{mul_assoc}
use Rattle.lapm_frames.specs.declared.sent.Sent.TheVariants as slots
use Rattle.line_run.specs.Laws.{SlotsHaveSize}
use Rattle.link_account.specs.Account.{check_of}
use Rattle.link_run.specs.Run.{Link, Accounts, spoken, RunOf}
use Rattle.link_run.specs.Run as run
use Rattle.link_run.specs.Laws.{RunsOver}
use Rattle.link_run.specs.Overheard.{agreed_terms, SendsAgreedCheck}
use Rattle.link_run.specs.Listened.{HearsByLine, StaysKnownByLine, RunsByLine}
use Rattle.line_run.specs.Sampled.{IsAlone, LineRun}
use Rattle.line_run.specs.Sampled as lines
use Rattle.line_run.specs.LineLaws.{SamplesAreCarried, OneIsCarried}
use Rattle.line_run.specs.Scripted.{wire_of, link_of, ScriptsMayPlay}
use Rattle.line_run.specs.Ends.{RunEnd}
use Rattle.line_run.specs.Ends as runs
use Rattle.line_tap.specs.Ends.{told_end}
use Rattle.line_run.specs.Recorded.{IsRecorded}
use Rattle.line_run.proofs.Bits.{bits-more}
use Rattle.line_tap.specs.Laws.{AreCoded, RecordingsTellRuns}
use Rattle.line_tap.proofs.Plain.{plain_slot, plain, plains, plain-heard, plain-check, plain-given, plain-sent, plain-judged}
use Rattle.line_tap.proofs.Plain.{plain-received, plain-given_to, plain-text, plain-signal, plain-signals}
use Rattle.line_tap.proofs.Plain.{heard_of-plain, well-plain, heard_in-plain, loses-plain}
use Rattle.sample_line.proofs.Once.{length-modulated}
use Rattle.line_tap.proofs.Coding.{modulates-front, recorded-back}

pub record TellingLaws : Type 0 where
  pub play : ScriptsMayPlay
  pub delays : ScriptsHaveDelays
  pub carried : SamplesAreCarried
  pub one : OneIsCarried
  pub hears : HearsByLine
  pub stays : RunsByLine
  pub sends : SendsAgreedCheck
  pub room : SlotsHaveRoom
  pub more : OneMoreFits
  pub size : SlotsHaveSize
  pub fits : CodableFits
  pub sendable : CodableIsSendable
  pub octets : SpelledInOctets
  pub equal : NoDistanceIsEqual

-- ---- how many bits the slots of a role have

abbrev AllSent : Role → List Turn → Type 0
AllSent role [] = Unit {0}
AllSent role (t ∷ ts) = ((slot : Spoken) × ((of role t).sent ≡ Some slot)) × AllSent role ts

pub all-fit : TellingLaws → (c : Wire) (role : Role) (ts : List Turn) → IsAlone c → c.dlci < 64 → AllSent role ts → AreCoded c role ts
    → AreFit (4 * c.symbols) 0 (signals c role ts) × (length (signals c role ts) ≡ length ts)
all-fit laws c role [] alone low s k = (tt, refl)
all-fit laws c role (t ∷ ts) alone low s k =
    let rest = all-fit laws c role ts alone low s.1 k.1 in
    let slot : Spoken = s.0.0 in
    let x : Signal = signal_of slot.check role c.dlci slot.sent in
    let codable = k.0 slot s.0.1 in
    let octets = laws.octets slot.check role c.dlci slot.sent low
    (laws.sendable slot.check role c.dlci c.symbols (phase_behind c role ts) slot.sent codable) in
    let fits = laws.fits slot.check role c.dlci c.symbols (phase_behind c role ts) slot.sent octets codable in
    let both : AreFit (4 * c.symbols) 0 (signals c role ts ++ x ∷ []) × (length (signals c role ts ++ x ∷ []) ≡ suc (length ts)) = (
      laws.more (4 * c.symbols) (signals c role ts) x rest.0 fits,
      omega (arith, length-append (signals c role ts) (x ∷ []), rest.1),
    ) in
    subst (λ l. AreFit (4 * c.symbols) 0 l × (length l ≡ suc (length ts))) (sym (signals-more c role ts slot t alone s.0.1)) both

pub length-bits : TellingLaws → (c : Wire) (role : Role) (ts : List Turn) → IsAlone c → HEAD + TAIL < c.symbols → c.dlci < 64
    → AllSent role ts → AreCoded c role ts → length (bits_of c role ts) ≡ 4 * (c.symbols * length ts)
length-bits laws c role ts alone long low s k = grind (arith, all-fit, mul_assoc)

take-take : {X : Type 0} (n m : ℕ) (xs : List X) → n ≤ m → take n (take m xs) ≡ take n xs
take-take n m xs l = grind (arith, common_steps)

-- ---- what a recording holds of the first turns

pub record Within (c : Wire) (role : Role) (ts : List Turn) (body : List ℕ) : Type 0 where
  pub coded : AreCoded c role ts
  pub front : Modulates (tap_of (mode_of role)) (bits_of c role ts) (take (c.symbols * length ts) (samples_in body))
  pub long : octets_of c (length ts) ≤ length body

-- all of it
pub record All (c : Wire) (role : Role) (ts : List Turn) (body : List ℕ) : Type 0 where
  pub within : Within c role ts body
  pub count : length body ≡ octets_of c (length ts)

within-all : TellingLaws → (c : Wire) (role : Role) (ts : List Turn) (body : List ℕ) → IsAlone c → HEAD + TAIL < c.symbols → c.dlci < 64
    → AllSent role ts → AreCoded c role ts → IsRecorded c role ts body → All c role ts body
within-all laws c role ts body alone long low s k r =
    let tap : ℕ = tap_of (mode_of role) in
    let back = recorded-back laws.equal tap (bits_of c role ts) r.samples r.modulated in
    let same : samples_in body ≡ r.samples = ap samples_in r.body_is ∙ back.same in
    let bits = length-bits laws c role ts alone long low s k in
    let samples = length-modulated tap (bits_of c role ts) r.samples r.modulated in
    let count : length body ≡ octets_of c (length ts) = ap length r.body_is ∙ back.count ∙ (sym samples ∙ bits) in
    let all : take (c.symbols * length ts) (samples_in body) ≡ r.samples =
    ap (take (c.symbols * length ts)) same ∙ take_all (c.symbols * length ts) r.samples (omega (arith, samples, bits)) in
    record {
      within = record {
        coded = k;
        front = subst (Modulates tap (bits_of c role ts)) (sym all) r.modulated;
        long = omega (arith, count);
      };
      count = count;
    }

within-less : TellingLaws → (c : Wire) (role : Role) (ts : List Turn) (t : Turn) (body : List ℕ) → IsAlone c → HEAD + TAIL < c.symbols
    → c.dlci < 64 → AllSent role (t ∷ ts) → Within c role (t ∷ ts) body → Within c role ts body
within-less laws c role ts t body alone long low s w =
    let tap : ℕ = tap_of (mode_of role) in
    let n : ℕ = c.symbols * length ts in
    let slot : Spoken = s.0.0 in
    let bits = length-bits laws c role ts alone long low s.1 w.coded.1 in
    let less : n ≤ c.symbols * suc (length ts) = omega (arith, mul-suc c.symbols (length ts)) in
    let front = modulates-front tap n (bits_of c role ts) (next_bits c slot.check role ts slot.sent)
    (take (c.symbols * suc (length ts)) (samples_in body)) (tap-some role) bits
    (subst (λ xs. Modulates tap xs (take (c.symbols * suc (length ts)) (samples_in body))) (bits-more c role ts slot t alone s.0.1) w.front)
    in
    record {
      coded = w.coded.1;
      front = subst (Modulates tap (bits_of c role ts)) (take-take n (c.symbols * suc (length ts)) (samples_in body) less) front;
      long = omega (arith, w.long, mul-suc c.symbols (length ts));
    }

-- what can be coded with its own check can with the one that is known
codable-plain : (check own : Check) (role : Role) (dlci symbols phase : ℕ) (s : Sent)
    → ((frame : Frame) → s ≡ slots.Frame frame → has_number frame ≡ true → own ≡ check) → IsCodable own role dlci symbols phase s
    → IsCodable check role dlci symbols phase s
codable-plain check own role dlci symbols phase slots.Mark h k = tt
codable-plain check own role dlci symbols phase slots.Odp h k = tt
codable-plain check own role dlci symbols phase slots.Adp h k = tt
codable-plain check own role dlci symbols phase slots.Flags h k = tt
codable-plain check own role dlci symbols phase (slots.Frame frame) h k =
    let same : checked own role dlci frame ≡ checked check role dlci frame =
    ap (λ x. with_check x (spelled frame role dlci)) (go (has_number frame) refl) in
    assumption (subst (λ o. length (opening phase (Some o)) ≤ 4 * (symbols - TAIL)) same k.room)
  where
    go : (b : Bool) → has_number frame ≡ b → cond b own Sixteen ≡ cond b check Sixteen
    go b e = grind (arith)

-- the slot of a turn is the next one in what its recording holds
holds-next : TellingLaws → (c : Wire) (check : Check) (role : Role) (ts : List Turn) (t : Turn) (body : List ℕ) (slot : Spoken)
    → IsAlone c → (of role t).sent ≡ Some slot → AllChecked check role (t ∷ ts) → Within c role (t ∷ ts) body
    → HoldsNext c check role (plains check ts) body slot.sent
holds-next laws c check role ts t body slot alone e a w =
    let tap : ℕ = tap_of (mode_of role) in
    let n : ℕ = length (plains check ts) + 1 in
    let count : n ≡ suc (length ts) = omega (arith, length-map ts (plain check)) in
    let has : (frame : Frame) → slot.sent ≡ slots.Frame frame → has_number frame ≡ true
    → slot.check ≡ check = λ frame f. a.0 slot frame e f in
    let sigs = plain-signals c check role ts a.1 in
    let bits : bits_of c role (t ∷ ts) ≡ bits_of c role (plains check ts) ++ next_bits c check role (plains check ts) slot.sent =
    bits-more c role ts slot t alone e
    ∙ ap (λ x. bits_of c role ts ++ behind (signals c role ts) x) (sym (plain-signal check slot.check role c.dlci slot.sent has))
    ∙ ap (λ l. signal_bits (4 * c.symbols) l ++ behind l (signal_of check role c.dlci slot.sent)) (sym sigs) in
    record {
      whole = subst (λ m. octets_of c m ≤ length body) (sym count) w.long;
      codable = subst (λ l. IsCodable check role c.dlci c.symbols (phase_after (4 * c.symbols) (slots_of (4 * c.symbols) l)) slot.sent)
          (sym sigs) (codable-plain check slot.check role c.dlci c.symbols (phase_behind c role ts) slot.sent has (w.coded.0 slot e));
      modulated = subst (λ m. Modulates tap (bits_of c role (plains check ts) ++ next_bits c check role (plains check ts) slot.sent)
          (take (c.symbols * m) (samples_in body))) (sym count)
          (subst (λ xs. Modulates tap xs (take (c.symbols * suc (length ts)) (samples_in body))) bits w.front);
    }
  where
    behind : List Signal → Signal → List Bool
    behind l x = bits_behind (4 * c.symbols) l x

-- ---- the turns of a run

all-sent : (link : Link) (role : Role) (ts : List Turn) (ends : Accounts) → RunOf link ts ends → AllSent role ts
all-sent link role [] ends h = tt
all-sent link role (t ∷ ts) ends h =
    ((spoken (h.2.speaking role).said, (h.2.speaking role).sent_is), all-sent link role ts h.0 h.1)

over : TellingLaws → (script : ScriptValue) (files : Both (List ℕ)) (ts : List Turn) (ends : Accounts) → IsInLimits script
    → LineRun (wire_of script) (link_of script files) ts ends → RunsOver (link_of script files) (delay_of script) ts ends
over laws script files ts ends limits r = grind (arith)

-- the agreed check of a script
abbrev check_in : ScriptValue → Both (List ℕ) → Check
check_in script files = check_by (agreed_terms (link_of script files))

all-checked : TellingLaws → (script : ScriptValue) (files : Both (List ℕ)) (ts : List Turn) (ends : Accounts) → IsInLimits script
    → LineRun (wire_of script) (link_of script files) ts ends → (role : Role) → AllChecked (check_in script files) role ts
all-checked laws script files [] ends limits r role = tt
all-checked laws script files (t ∷ ts) ends limits r role =
    let before : LineRun (wire_of script) (link_of script files) ts r.run.0 = record { run = r.run.1; heard = r.heard.1 } in (
      laws.sends (link_of script files) (delay_of script) ts r.run.0 t ends (over laws script files ts r.run.0 limits before)
          (laws.one (wire_of script) ts t r.heard.0) r.run.2 role,
      all-checked laws script files ts r.run.0 limits before role,
    )

hears-plain : TellingLaws → (script : ScriptValue) (files bodies : Both (List ℕ)) (ts : List Turn) (ends : Accounts) (t : Turn)
    (mid : Accounts) → IsInLimits script → LineRun (wire_of script) (link_of script files) ts ends → HeardIn (wire_of script) ts t
    → run.Hears (length ts) ends t mid → Hears (tapping script bodies) (plains (check_in script files) ts) (plain (check_in script files) t)
hears-plain laws script files bodies ts ends t mid limits r h k =
    let link = link_of script files in
    let check = check_in script files in
    let terms = agreed_terms link in
    let v = over laws script files ts ends limits r in
    let known = laws.hears link (delay_of script) ts ends t mid v (laws.one (wire_of script) ts t h) k in
    record {
      heard = heard_in-plain (wire_of script) check ts t (all-checked laws script files ts ends limits r) h;
      checks = λ role. plain-check check role t ∙ (known role).check_is ∙ sym (plain-judged terms check role ts);
      given = λ role. plain-given check role t ∙ (known role).given_is ∙ sym (plain-given_to check role ts (of role t).heard)
          ∙ ap (given_to role (plains check ts)) (sym (plain-heard check role t));
    }

tells-run : TellingLaws → (script : ScriptValue) (files bodies : Both (List ℕ)) (ts : List Turn) (ends : Accounts) → IsInLimits script
    → LineRun (wire_of script) (link_of script files) ts ends → ((role : Role) → Within (wire_of script) role ts (of role bodies))
    → Tells (tapping script bodies) (plains (check_in script files) ts)
tells-run laws script files bodies [] ends limits r w = tt
tells-run laws script files bodies (t ∷ ts) ends limits r w =
    let c = wire_of script in
    let link = link_of script files in
    let check = check_in script files in
    let before : LineRun c link ts r.run.0 = record { run = r.run.1; heard = r.heard.1 } in
    let g = r.run.2 in
    let long = (laws.room script limits).0 in (
      record {
        hears = hears-plain laws script files bodies ts r.run.0 t g.mid limits before r.heard.0 g.hearing;
        sends = λ role.
            let slot : Spoken = spoken (g.speaking role).said in
            record {
              sent = slot.sent;
              holds = holds-next laws c check role ts t (of role bodies) slot (λ side n. refl) (g.speaking role).sent_is
                  (all-checked laws script files (t ∷ ts) ends limits r role) (w role);
              sent_is = plain-sent check role t ∙ ap (option_map (plain_slot check)) (g.speaking role).sent_is;
            };
      },
      tells-run laws script files bodies ts r.run.0 limits before
          (λ role. within-less laws c role ts t (of role bodies) (λ side n. refl) long (omega arith)
          (all-sent link role (t ∷ ts) ends r.run) (w role)),
    )

-- ---- how it ends

silent-plain : (check : Check) (t : Turn) → IsSilent t → IsSilent (plain check t)
silent-plain check t s role = plain-sent check role t ∙ ap (option_map (plain_slot check)) (s role)

in-turn : TellingLaws → (script : ScriptValue) (files bodies : Both (List ℕ)) (ts : List Turn) (ends : Accounts) (last : Turn)
    (mid : Accounts) (turn : ℕ) (left : Left) → IsInLimits script → LineRun (wire_of script) (link_of script files) ts ends
    → ((role : Role) → All (wire_of script) role ts (of role bodies)) → turn ≡ length ts → HeardIn (wire_of script) ts last
    → run.Hears (length ts) ends last mid → IsSilent last → runs.Leaves mid (trace_text (last ∷ ts)) left
    → EndsWhole (tapping script bodies) (plains (check_in script files) ts) (turn + 1) left
in-turn laws script files bodies ts ends last mid turn left limits r w e h k silent l =
    let link = link_of script files in
    let check = check_in script files in
    let v = over laws script files ts ends limits r in
    let known = laws.hears link (delay_of script) ts ends last mid v (laws.one (wire_of script) ts last h) k in
    let count = length-map ts (plain check) in
    record {
      number = omega (arith, e, count);
      last = record {
        last = plain check last;
        hears = hears-plain laws script files bodies ts ends last mid limits r h k;
        silent = silent-plain check last silent;
      };
      none = λ role. subst (λ n. length (of role bodies) ≤ octets_of (wire_of script) n) (sym count) (omega (arith, (w role).count));
      leaves = record {
        got_is = λ role. l.got_is role ∙ ap concat (known role).taken_are
            ∙ sym (ap (λ i. concat i.taken) (plain-received (agreed_terms link) check role (last ∷ ts)));
        trace_is = l.trace_is ∙ sym (plain-text check (last ∷ ts));
      };
    }

on-line : TellingLaws → (script : ScriptValue) (files bodies : Both (List ℕ)) (ts : List Turn) (ends : Accounts) (end : LineEnd)
    (text others : List ℕ) (left : Left) → IsInLimits script → LineRun (wire_of script) (link_of script files) ts ends
    → lines.EndsLine (wire_of script) ts ends end → runs.Leaves ends text left → text ≡ others
    → EndsOnLine (tapping script bodies) (plains (check_in script files) ts) end others left
on-line laws script files bodies ts ends end text others left limits r is l same =
    record {
      is = by end is;
      leaves = record {
        got_is = λ role. l.got_is role ∙ ap concat (known role).taken_are
            ∙ sym (ap (λ i. concat i.taken) (plain-received (agreed_terms link) check role ts));
        trace_is = l.trace_is ∙ same;
      };
    }
  where
    c : Wire
    c = wire_of script

    link : Link
    link = link_of script files

    check : Check
    check = check_in script files

    terms : Terms
    terms = agreed_terms link

    known : (role : Role) → StaysKnownByLine terms role ts (of role ends)
    known = laws.stays link (delay_of script) ts ends (over laws script files ts ends limits r)

    a : (role : Role) → AllChecked check role ts
    a = all-checked laws script files ts ends limits r

    judged : (role : Role) → check_of (of role ends) ≡ judged_by terms role (plains check ts)
    judged role = (known role).check_is ∙ sym (plain-judged terms check role ts)

    heard : (role : Role) → IsHeardOf c (other role) ts (check_of (of role ends)) Chance
        → IsHeardOf c (other role) (plains check ts) (judged_by terms role (plains check ts)) Chance
    heard role h = subst (λ k. IsHeardOf c (other role) (plains check ts) k Chance) (judged role)
        (heard_of-plain c check (other role) ts (check_of (of role ends)) Chance (a (other role)) h)

    well : IsHeardWell c Answerer ts (check_of ends.orig)
        → IsHeardWell c Answerer (plains check ts) (judged_by terms Originator (plains check ts))
    well h = grind (arith, c, check, judged, well-plain, a)

    by : (end : LineEnd) → lines.EndsLine c ts ends end → EndsLine (tapping script bodies) (plains check ts) end
    by (lines.LineLost Originator symbol) h = loses-plain c check Answerer ts symbol (a Answerer) h
    by (lines.ChanceMatch Originator) h = heard Originator h
    by (lines.LineLost Answerer symbol) h = (well h.0, loses-plain c check Originator ts symbol (a Originator) h.1)
    by (lines.ChanceMatch Answerer) h = (well h.0, heard Answerer h.1)

ended : TellingLaws → (script : ScriptValue) (files bodies : Both (List ℕ)) (ts : List Turn) (ends : Accounts) (end : RunEnd) (left : Left)
    → IsInLimits script → LineRun (wire_of script) (link_of script files) ts ends
    → ((role : Role) → All (wire_of script) role ts (of role bodies)) → runs.EndsBy (wire_of script) (link_of script files) ts ends end left
    → EndsBy (tapping script bodies) (plains (check_in script files) ts) (told_end end) left
ended laws script files bodies ts ends (runs.IsDone turn) left limits r w e =
    in-turn laws script files bodies ts ends e.last e.mid turn left limits r w e.number e.heard e.is.hearing e.is.silent e.leaves
ended laws script files bodies ts ends (runs.LinkLost role segment turn) left limits r w e =
    in-turn laws script files bodies ts ends e.1.last e.1.mid turn left limits r w e.1.number e.1.heard e.1.is.hearing e.1.is.silent
    e.1.leaves
ended laws script files bodies ts ends (runs.NotDetected turn) left limits r w e =
    in-turn laws script files bodies ts ends e.last e.mid turn left limits r w e.number e.heard e.is.hearing e.is.silent e.leaves
ended laws script files bodies ts ends (runs.LineLost role symbol) left limits r w e =
    on-line laws script files bodies ts ends (lines.LineLost role symbol) (trace_text ts) (trace_text (plains (check_in script files) ts))
    left limits r e.is e.leaves (sym (plain-text (check_in script files) ts))
ended laws script files bodies ts ends (runs.ChanceMatch role turn) left limits r w e =
    let check = check_in script files in
    let count = length-map ts (plain check) in (
      e.0 ∙ sym count,
      on-line laws script files bodies ts ends (lines.ChanceMatch role) (trace_text ts ++ chance_line (length ts) role)
          (trace_text (plains check ts) ++ chance_line (length (plains check ts)) role) left limits r e.1.is e.1.leaves
          (ap (λ l. l ++ chance_line (length ts) role) (sym (plain-text check ts))
          ∙ ap (λ n. trace_text (plains check ts) ++ chance_line n role) (sym count)),
    )

pub recordings_tell_runs : TellingLaws → RecordingsTellRuns
recordings_tell_runs laws script files end left bodies limits r coded recorded =
    let c = wire_of script in
    let link = link_of script files in
    let long = (laws.room script limits).0 in
    let all : (role : Role) → All c role r.turns (of role bodies) =
    λ role. within-all laws c role r.turns (of role bodies) (λ side n. refl) long (omega arith)
    (all-sent link role r.turns r.ends r.run.run) (coded role) (recorded role) in
    record {
      turns = plains (check_in script files) r.turns;
      tells = tells-run laws script files bodies r.turns r.ends limits r.run (λ role. (all role).within);
      ended = ended laws script files bodies r.turns r.ends end left limits r.run all r.ended;
    }

-- A link of a pair that has ended.
use Rattle.link_pair.proofs.Names.{◌≡◌, inl, inr, ℕ, suc, ◌-◌, ◌<◌, List, [], ◌++◌, length, refl, sym, ◌∙◌, ap, subst, arith, Option, Some}
use Rattle.link_pair.proofs.Names.{None, append-nil, false≢true, is_some, Signal, Check, Heard, Chance, RunEnd, Left, Written, outputs_of}
use Rattle.link_pair.proofs.Names.{Wire, IsHeardOf, LineEnd, EndsLine, EndsLineBy, wire_at, link_of, Carried, and_sent, RunFault}
use Rattle.link_pair.proofs.Names.{chance_line, IsApart, knows-later, none_got, kept-none, LinesWait, HaveArrived, held_of, KnowsFiles}
use Rattle.link_pair.proofs.Names.{Lines, check_of, StandsFor, HoldLeft, HasCome, IsEndedByLine, LinkStops, IsStopped, HalfEnds, idle_turn}
use Rattle.link_pair.proofs.Names.{lasting, Progress, Goes, Ended, turns_on_line, HearsIdly, IdlesFor, HasEnded, Lasts, Half, LinkEnd}
use Rattle.link_pair.proofs.Names.{Accounts, Turn, ScriptValue, Holds-kept, Holds-more, HoldsPart-more, FolderState, Holds, HoldEach}
use Rattle.link_pair.proofs.Names.{KeepsEach, Both, of, other, Role, Originator, Answerer}
use Rattle.std.specs.Prelude.{true}
use Rattle.outside_calls.specs.Folder.{Appended, PartlyAppended, OnlyWrites}
use Rattle.frame_check.specs.declared.check.Check.TheVariants.{Sixteen}
use Rattle.lapm_frames.specs.declared.sent.Sent.TheVariants as slots
use Rattle.line_run.specs.Sampled.{IsHeardWell}
use Rattle.line_run.specs.Sampled as lines
use Rattle.line_world.specs.Lines.{ArrivesBoth, ArePut}
use Rattle.line_run.specs.Names.{received_of}
use Rattle.line_world.proofs.Folders.{receives-none, lines-only}
use Rattle.link_pair.proofs.Pairs.Agreeing.{length-lasting}
use Rattle.line_world.specs.Turn.{IsWriting}
use Rattle.link_pair.specs.Half.{HasStopped}

-- ---- flags of both ends

abbrev pub flags_on : ℕ → Both Carried
flags_on dlci = record {
  orig = record { dlci = dlci; spoken = record { sent = slots.Flags; number = 0; check = Sixteen } };
  answ = record { dlci = dlci; spoken = record { sent = slots.Flags; number = 0; check = Sixteen } };
}

pub flags-put : (dlci at : ℕ) → dlci ≡ at
    → ArePut (flags_on dlci) (record { orig = slots.Flags; answ = slots.Flags }) (record { orig = Sixteen; answ = Sixteen }) at
flags-put dlci at e b = grind (arith)

-- ---- what a link is that has ended

pub record AtEnd (h : Half) (script : ScriptValue) (beside : Role → ℕ → Option Signal) (files : Both (List ℕ)) (round : ℕ)
    (p : Progress) : Type 0 where
  pub ts : List Turn
  pub ends : Accounts
  pub end : RunEnd
  pub left : Left
  pub found : LinkEnd
  pub is : p ≡ Ended ts ends end left
  pub found_is : h.ended ≡ Some found
  pub stopped : HasStopped h.modems found ends end
  pub ended : HasEnded (wire_at script h.dlci beside) (link_of script files) round ts ends end left

-- so many turns stand on the line
pub count-on-line : (c : Wire) (round : ℕ) (ts : List Turn) (ends : Accounts) (end : RunEnd) (left : Left) → length ts < round
    → length (turns_on_line round (Ended ts ends end left)) ≡ round
count-on-line c round ts ends end left before = omega (arith, length-lasting (round - length ts) ts, before)

-- ---- what its part of a round comes to

-- the line ends the pair, by the checks that both ends had last
by-ends : (c : Wire) (ts : List Turn) (checks : Both Check) (ends : Accounts) (end : LineEnd)
    → ((role : Role) → of role checks ≡ check_of (of role ends)) → EndsLineBy c ts (λ role. of role checks) end → EndsLine c ts ends end
by-ends c ts checks ends (lines.LineLost Originator symbol) same h = h
by-ends c ts checks ends (lines.ChanceMatch Originator) same h = subst (λ x. IsHeardOf c Answerer ts x Chance) (same Originator) h
by-ends c ts checks ends (lines.LineLost Answerer symbol) same h =
    (subst (IsHeardWell c Answerer ts) (same Originator) h.0, h.1)
by-ends c ts checks ends (lines.ChanceMatch Answerer) same h = (
  subst (IsHeardWell c Answerer ts) (same Originator) h.0,
  subst (λ x. IsHeardOf c Originator ts x Chance) (same Answerer) h.1,
)

module _ (h : Half) (script : ScriptValue) (beside : Role → ℕ → Option Signal) (files : Both (List ℕ)) (round : ℕ) (p : Progress) where
  pub at-end : is_some h.ended ≡ true → StandsFor h.ended h.modems files p
      → Lasts (wire_at script h.dlci beside) (link_of script files) round p → AtEnd h script beside files round p
  at-end some stands = by h.ended refl p (subst (λ o. StandsFor o h.modems files p) refl stands)
    where
      by : (o : Option LinkEnd) → h.ended ≡ o → (p : Progress) → StandsFor o h.modems files p
          → Lasts (wire_at script h.dlci beside) (link_of script files) round p → AtEnd h script beside files round p
      by None e p s l = absurd (false≢true (sym (ap is_some e) ∙ some))
      by (Some found) e (Ended ts ends end left) s l = record {
        ts = ts;
        ends = ends;
        end = end;
        left = left;
        found = found;
        is = refl;
        found_is = e;
        stopped = s;
        ended = l;
      }
      by (Some found) e (Goes ts ends) s l = absurd s

  pub count-at : AtEnd h script beside files round p → round ≡ length (turns_on_line round p)
  count-at a =
      sym (ap (λ x. length (turns_on_line round x)) a.is
      ∙ count-on-line (wire_at script h.dlci beside) round a.ts a.ends a.end a.left a.ended.before)

  -- its slots are heard well
  pub has-idled : (l m : Lines) (links : ℕ) (streams : Both (List Carried)) (f : FolderState) (n : Written) (checks : Both Check)
      (heard : Both Heard) (a : AtEnd h script beside files round p)
      → h.modems.dlci ≡ h.dlci → KnowsFiles f n files → HoldLeft f n p → checks ≡ h.modems.heard_by
      → ArrivesBoth (HaveArrived m (wire_at script h.dlci beside) links streams) (wire_at script h.dlci beside)
      (turns_on_line round p) checks heard
      → LinesWait l (wire_at script h.dlci beside) links (and_sent streams h.dlci idle_turn)
      → HasCome h l (wire_at script h.dlci beside) links streams f n round p
  has-idled l m links streams f n checks heard a channel knows holds same arrives waits =
      subst (λ x. HasCome h l c links streams f n round x) (sym a.is) (record {
        others = files;
        next = Ended a.ts a.ends a.end a.left;
        sent = idle_turn;
        lasts = record {
          ran = a.ended.ran;
          turns_are = a.ended.turns_are;
          ends_are = a.ended.ends_are;
          by_link = a.ended.by_link;
          before = omega (arith, a.ended.before);
          idles = subst (λ k. IdlesFor c a.ends k a.ts) (sym more) (idly, a.ended.idles);
        };
        stands = subst (λ o. StandsFor o h.modems files (Ended a.ts a.ends a.end a.left)) (sym a.found_is) a.stopped;
        channel = channel;
        follows = refl;
        on_line = ap (λ k. lasting k a.ts) one-more;
        waits = waits;
        knows = knows;
        holds = subst (HoldLeft f n) a.is holds;
      })
    where
      c : Wire
      c = wire_at script h.dlci beside

      more : suc round - suc (length a.ts) ≡ suc (round - suc (length a.ts))
      more = omega (arith, a.ended.before)

      one-more : suc round - length a.ts ≡ suc (round - length a.ts)
      one-more = omega (arith, a.ended.before)

      behind : round - length a.ts ≡ suc (round - suc (length a.ts))
      behind = omega (arith, a.ended.before)

      at : ArrivesBoth (HaveArrived m c links streams) c (lasting (round - length a.ts) a.ts) checks heard
      at = subst (λ x. ArrivesBoth (HaveArrived m c links streams) c (turns_on_line round x) checks heard) a.is arrives

      idly : HearsIdly c (lasting (suc (round - suc (length a.ts))) a.ts) a.ends
      idly role = record {
        heard = of role heard;
        is = subst (λ k. IsHeardOf c (other role) (lasting k a.ts) (check_of (of role a.ends)) (of role heard)) behind
            (subst (λ x. IsHeardOf c (other role) (lasting (round - length a.ts) a.ts) x (of role heard))
            (ap (of role) same ∙ a.stopped.checks role) (at.heard_of role));
        well = at.well role;
      }

  ends-of : (checks : Both Check) (end : LineEnd) (a : AtEnd h script beside files round p) → checks ≡ h.modems.heard_by
      → EndsLineBy (wire_at script h.dlci beside) (turns_on_line round p) (λ role. of role checks) end
      → EndsLine (wire_at script h.dlci beside) (turns_on_line round (Ended a.ts a.ends a.end a.left)) a.ends end
  ends-of checks end a same e = grind (arith, by-ends)

  pub lost-idly : (f : FolderState) (n : Written) (checks : Both Check) (role : Role) (symbol : ℕ) (a : AtEnd h script beside files round p)
      → KnowsFiles f n files → HoldLeft f n p → checks ≡ h.modems.heard_by
      → EndsLineBy (wire_at script h.dlci beside) (turns_on_line round p) (λ side. of side checks) (lines.LineLost role symbol)
      → IsEndedByLine (wire_at script h.dlci beside) f n files round p (lines.LineLost role symbol)
  lost-idly f n checks role symbol a knows holds same e =
      subst (λ x. IsEndedByLine (wire_at script h.dlci beside) f n files round x (lines.LineLost role symbol)) (sym a.is) (record {
        is = ends-of checks (lines.LineLost role symbol) a same e;
        knows = knows;
        left = record { got = a.left.got; trace = a.left.trace ++ [] };
        leaves = (refl, refl);
        holds = (held.0, (held.1.0, (subst (Holds f n.trace) (sym (append-nil a.left.trace)) held.1.1.0, tt)));
      })
    where
      held : HoldEach f (outputs_of n) (held_of a.left)
      held = subst (HoldLeft f n) a.is holds

  -- by a chance match, whose line is written,
  pub met-idly : (old new : FolderState) (n : Written) (checks : Both Check) (role : Role) (a : AtEnd h script beside files round p)
      → IsApart n → KnowsFiles old n files → HoldLeft old n p → checks ≡ h.modems.heard_by → OnlyWrites old new n.trace
      → Appended old new n.trace (chance_line round role)
      → EndsLineBy (wire_at script h.dlci beside) (turns_on_line round p) (λ side. of side checks) (lines.ChanceMatch role)
      → IsEndedByLine (wire_at script h.dlci beside) new n files round p (lines.ChanceMatch role)
  met-idly old new n checks role a apart knows holds same only put e =
      subst (λ x. IsEndedByLine (wire_at script h.dlci beside) new n files round x (lines.ChanceMatch role)) (sym a.is) (record {
        is = ends-of checks (lines.ChanceMatch role) a same e;
        knows = knows-later old new n files apart (lines-only old new n only) knows;
        left = record { got = a.left.got; trace = a.left.trace ++ chance_line round role };
        leaves = (refl, refl);
        holds = (
          Holds-kept old new n.got_o _ only.goes_on held.0 kept.0,
          (
            Holds-kept old new n.got_a _ only.goes_on held.1.0 kept.1.0,
            (Holds-more old new n.trace a.left.trace (chance_line round role) only.goes_on held.1.1.0 put, tt),
          ),
        );
      })
    where
      held : HoldEach old (outputs_of n) (held_of a.left)
      held = subst (HoldLeft old n) a.is holds

      kept : KeepsEach old new (received_of n)
      kept = receives-none old new n apart only

  -- or isn't
  pub stopped-idly : (old new : FolderState) (n : Written) (checks : Both Check) (role : Role) (a : AtEnd h script beside files round p)
      → IsApart n → KnowsFiles old n files → HoldLeft old n p → checks ≡ h.modems.heard_by → OnlyWrites old new n.trace
      → PartlyAppended old new n.trace (chance_line round role)
      → EndsLineBy (wire_at script h.dlci beside) (turns_on_line round p) (λ side. of side checks) (lines.ChanceMatch role)
      → IsStopped LinkStops (wire_at script h.dlci beside) new n round p
  stopped-idly old new n checks role a apart knows holds same only put e =
      subst (λ x. IsStopped LinkStops (wire_at script h.dlci beside) new n round x) (sym a.is) (record {
        others = files;
        knows = knows-later old new n files apart (lines-only old new n only) knows;
        lasts = a.ended;
        stops = record {
          more = record { got = none_got; trace = chance_line round role };
          adds = record {
            role = role;
            is = ends-of checks (lines.ChanceMatch role) a same e;
            got_is = none;
            trace_is = ap (λ k. chance_line k role)
                (sym (count-on-line (wire_at script h.dlci beside) round a.ts a.ends a.end a.left a.ended.before));
          };
          holds = inr (
            kept-none old new n.got_o _ only.goes_on held.0 kept.0,
            inr (
              kept-none old new n.got_a _ only.goes_on held.1.0 kept.1.0,
              inl (HoldsPart-more old new n.trace a.left.trace (chance_line round role) only.goes_on held.1.1.0 put, tt),
            ),
          );
        };
      })
    where
      held : HoldEach old (outputs_of n) (held_of a.left)
      held = subst (HoldLeft old n) a.is holds

      kept : KeepsEach old new (received_of n)
      kept = receives-none old new n apart only

      none : (side : Role) → of side none_got ≡ []
      none side = grind (arith)

-- so the folder ends the pair
pub writes-ends : (c : Wire) (f : FolderState) (n : Written) (files : Both (List ℕ)) (round : ℕ) (p : Progress) (fault : RunFault)
    → IsWriting fault → IsStopped LinkStops c f n round p → HalfEnds c f n files round p fault
writes-ends c f n files round p fault is h = grind (arith)

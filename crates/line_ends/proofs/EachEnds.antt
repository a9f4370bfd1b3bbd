-- Each run goes on or ends, and so it ends.
use Rattle.std.proofs.Common.{◌≡◌, ◌⊎◌, inl, inr, ℕ, zero, suc, ◌+◌, ◌^◌, ◌≤◌, List, [], ◌∷◌, ◌++◌, length, arith, refl, ◌∙◌, ap, subst}
use Rattle.line_ends.proofs.Names.{Accounts, Answerer, AreOfOctets, Both, Broken, ChanceMatch, Done, EachEndIsNamed, EachRunEnds}
use Rattle.line_ends.proofs.Names.{EachSlotBecomes, EachTurnIsDecided, EndsInTurn, EndsLine, Going, HasEnd, HeardTurnsAreMade, IsDone}
use Rattle.line_ends.proofs.Names.{IsHeardWell, IsInLimits, IsNamed, Left, LineEnd, LineLost, LineRun, LinkFault, LinkLost, MadeOver}
use Rattle.line_ends.proofs.Names.{NotDetected, OctetsAreSendable, Originator, Outcome, Role, ScriptValue, ScriptsHaveDelays}
use Rattle.line_ends.proofs.Names.{ScriptsMayPlay, SlotsAreCodable, SlotsHaveRoom, Turn, TurnIs, Wire, check_of, link_of, of, other, start}
use Rattle.line_ends.proofs.Names.{wire_of}
use Rattle.shared_terms.specs.declared.fault.LinkFault.TheVariants as faults
use Rattle.link_run.specs.Trace.{trace_text}
use Rattle.line_texts.specs.LineText.{chance_line}
use Rattle.turn_bound.specs.Limits.{file_limit}
use Rattle.line_run.specs.Sampled as lines
use Rattle.line_ends.specs.Scripts.{NoLineRunIsLong}
use Rattle.line_ends.proofs.Fitting.{fits-all}
use Rattle.line_ends.proofs.Becoming.{BecomeLaws, fit-becomes, line-or-heard}
use Rattle.line_run.proofs.WhatIsLeft.{left_of, leaves-so}

pub record SlotLaws : Type 0 where
  pub delays : ScriptsHaveDelays
  pub room : SlotsHaveRoom
  pub codable : SlotsAreCodable
  pub becomes : BecomeLaws
  pub octets : OctetsAreSendable

pub each-slot-becomes : SlotLaws → EachSlotBecomes
each-slot-becomes laws script files ts ends role h o r =
    fit-becomes laws.becomes script (other role) ts (check_of (of role ends)) (laws.room script h).0 (laws.delays script h (other role))
    (fits-all laws.codable script files ts ends h r (laws.octets (wire_of script) files ts ends h o r) (other role))

-- by what becomes of both slots
pub each-turn-is-decided : EachSlotBecomes → HeardTurnsAreMade → EachTurnIsDecided
each-turn-is-decided slots made script files ts ends h o r =
    go (line-or-heard c ts (λ role. check_of (of role ends)) (slots script files ts ends Originator h o r)
    (slots script files ts ends Answerer h o r))
  where
    c : Wire
    c = wire_of script

    go : ((end : LineEnd) × EndsLine c ts ends end) ⊎ ((role : Role) → IsHeardWell c (other role) ts (check_of (of role ends)))
        → ((end : LineEnd) × EndsLine c ts ends end) ⊎ MadeOver c files ts ends
    go (inl e) = inl e
    go (inr w) = inr (made c files ts ends h r w)

pub record EndLaws : Type 0 where
  pub play : ScriptsMayPlay
  pub decided : EachTurnIsDecided
  pub named : EachEndIsNamed
  pub short : NoLineRunIsLong

line-end : (script : ScriptValue) (files : Both (List ℕ)) (ts : List Turn) (ends : Accounts)
    → LineRun (wire_of script) (link_of script files) ts ends
    → (end : LineEnd) → EndsLine (wire_of script) ts ends end → HasEnd script files
line-end script files ts ends r (lines.LineLost role symbol) e = record {
  end = LineLost role symbol;
  left = left_of ends (trace_text ts);
  runs = record { turns = ts; ends = ends; run = r; ended = record { is = e; leaves = leaves-so ends (trace_text ts) } };
}
line-end script files ts ends r (lines.ChanceMatch role) e =
    let text : List ℕ = trace_text ts ++ chance_line (length ts) role in
    record {
      end = ChanceMatch role (length ts);
      left = left_of ends text;
      runs = record { turns = ts; ends = ends; run = r; ended = (refl, record { is = e; leaves = leaves-so ends text }) };
    }

in-turn : (script : ScriptValue) (files : Both (List ℕ)) (ts : List Turn) (ends : Accounts) (m : MadeOver (wire_of script) files ts ends)
    (o : Outcome) → m.outcome ≡ o
    → EndsInTurn (wire_of script) (link_of script files) ts ends o (length ts) (left_of m.mid (trace_text (m.turn ∷ ts)))
in-turn script files ts ends m o e = grind (arith)

broken-end : EndLaws → (script : ScriptValue) (files : Both (List ℕ)) (ts : List Turn) (ends : Accounts) → IsInLimits script
    → LineRun (wire_of script) (link_of script files) ts ends
    → (m : MadeOver (wire_of script) files ts ends) (role : Role) (fault : LinkFault)
    → m.outcome ≡ Broken role fault → HasEnd script files
broken-end laws script files ts ends h r m role fault e =
    let is : TurnIs (link_of script files) ts ends m.turn m.mid (Broken role fault) = grind (arith) in
    go role fault e (laws.named (link_of script files) ts ends m.turn m.mid role fault (laws.play script files h) r.run is)
  where
    left : Left
    left = left_of m.mid (trace_text (m.turn ∷ ts))

    go : (role : Role) (fault : LinkFault) → m.outcome ≡ Broken role fault → IsNamed role fault → HasEnd script files
    go role (faults.Spent segment since) e n = record {
      end = LinkLost role segment (length ts);
      left = left_of m.mid (trace_text (m.turn ∷ ts));
      runs = record {
        turns = ts;
        ends = ends;
        run = r;
        ended = (since, in-turn script files ts ends m (Broken role (faults.Spent segment since)) e);
      };
    }
    go role faults.NotDetected e n = record {
      end = NotDetected (length ts);
      left = left_of m.mid (trace_text (m.turn ∷ ts));
      runs = record {
        turns = ts;
        ends = ends;
        run = r;
        ended = in-turn script files ts ends m (Broken Originator faults.NotDetected) (e ∙ ap (λ x. Broken x faults.NotDetected) n);
      };
    }
    go role fault e n = grind (arith)

-- by the turns that follow, where one is made
goes : EndLaws → (script : ScriptValue) (files : Both (List ℕ)) → IsInLimits script → (ts : List Turn) (ends : Accounts)
    → LineRun (wire_of script) (link_of script files) ts ends
    → ((t : Turn) (after : Accounts) → LineRun (wire_of script) (link_of script files) (t ∷ ts) after → HasEnd script files)
    → ((end : LineEnd) × EndsLine (wire_of script) ts ends end) ⊎ MadeOver (wire_of script) files ts ends → HasEnd script files
goes laws script files h ts ends r on (inl e) = line-end script files ts ends r e.0 e.1
goes laws script files h ts ends r on (inr m) = made m.outcome refl
  where
    made : (o : Outcome) → m.outcome ≡ o → HasEnd script files
    made Going e =
        let is : TurnIs (link_of script files) ts ends m.turn m.mid Going =
        subst (TurnIs (link_of script files) ts ends m.turn m.mid) e m.is in
        on m.turn is.0 (record { run = (ends, r.run, is.1); heard = (m.heard, r.heard) })
    made Done e = record {
      end = IsDone (length ts);
      left = left_of m.mid (trace_text (m.turn ∷ ts));
      runs = record { turns = ts; ends = ends; run = r; ended = in-turn script files ts ends m Done e };
    }
    made (Broken role fault) e = broken-end laws script files ts ends h r m role fault e

-- with so many turns to go at most
ends-within : EndLaws → (script : ScriptValue) (files : Both (List ℕ)) → IsInLimits script
    → ((role : Role) → length (of role files) ≤ file_limit) → AreOfOctets script files
    → (n : ℕ) (ts : List Turn) (ends : Accounts) → LineRun (wire_of script) (link_of script files) ts ends → 2 ^ 39 ≤ length ts + n
    → HasEnd script files
ends-within laws script files h f o zero ts ends r l = absurd (omega (arith, l, laws.short (wire_of script) files ts ends h f r))
ends-within laws script files h f o (suc n) ts ends r l =
    goes laws script files h ts ends r (λ t after k. ends-within laws script files h f o n (t ∷ ts) after k (omega (arith, l)))
    (laws.decided script files ts ends h o r)

pub each-run-ends : EndLaws → EachRunEnds
each-run-ends laws script files h f o =
    ends-within laws script files h f o (2 ^ 39) [] (start (link_of script files)) (record { run = refl; heard = tt }) (omega arith)

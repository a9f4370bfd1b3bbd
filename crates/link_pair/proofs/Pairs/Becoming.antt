-- Whatever goes over the line, a slot of a link is lost, mistaken or heard; so each turn of a link is made, or the line ends the pair.
use Rattle.link_pair.proofs.Names.{◌≡◌, ◌⊎◌, inl, inr, ℕ, suc, ◌-◌, ◌<◌, ◌≤◌, true, false, List, ◌∷◌, length, arith, refl, sym, ◌∙◌, ap}
use Rattle.link_pair.proofs.Names.{subst, false≢true, left_of, leaves-so, RunEnd, IsDone, LinkLost, NotDetected, Left, EndsInTurn, RunsTo}
use Rattle.link_pair.proofs.Names.{Wire, LineRun, LineEnd, EndsLine, link_of, ScriptsMayPlay, wire_at, check_of, slot_in, lasting, is_going}
use Rattle.link_pair.proofs.Names.{Progress, Goes, Ended, turns_in, ends_in, turns_on_line, HearsIdly, IdlesFor, Lasts, Outcome, Going}
use Rattle.link_pair.proofs.Names.{Done, Broken, TurnIs, Link, Accounts, Turn, trace_text, ScriptValue, IsInLimits, delay_of, Both, of}
use Rattle.link_pair.proofs.Names.{other, Role, Originator, Answerer}
use Rattle.shared_terms.specs.declared.fault.LinkFault.{LinkFault}
use Rattle.shared_terms.specs.declared.fault.LinkFault.TheVariants as faults
use Rattle.link_run.specs.Laws.{EachEndIsNamed, IsNamed}
use Rattle.line_ends.specs.Causes.{MadeOver, HeardTurnsAreMade}
use Rattle.line_ends.specs.EachEnds.{Becomes}
use Rattle.line_ends.proofs.Becoming.{BecomeLaws, slot-becomes, line-or-heard}
use Rattle.link_pair.proofs.Pairs.Fitting.{AllFitting, fitting-lasting, BesideFits}
use Rattle.link_pair.proofs.Pairs.Clear.{Beside, bits_in, arriving-behind}
use Rattle.link_pair.proofs.Pairs.Agreeing.{slot-stays}

pub record NextLaws : Type 0 where
  pub slots : BecomeLaws
  pub made : HeardTurnsAreMade
  pub named : EachEndIsNamed
  pub play : ScriptsMayPlay

-- Both slots of a turn are heard well, or the line ends the pair in it.
turn-decided : NextLaws → (script : ScriptValue) (dlci : ℕ) (beside : Beside) (ts : List Turn) (ends : Accounts)
    → ((role : Role) → 1 ≤ delay_of script role) → AllFitting (bits_in script) dlci ts → BesideFits (bits_in script) beside
    → ((end : LineEnd) × EndsLine (wire_at script dlci beside) ts ends end) ⊎ HearsIdly (wire_at script dlci beside) ts ends
turn-decided laws script dlci beside ts ends delays fits b =
    line-or-heard (wire_at script dlci beside) ts (λ role. check_of (of role ends)) (becoming Originator) (becoming Answerer)
  where
    becoming : (role : Role) → Becomes (wire_at script dlci beside) (other role) ts (check_of (of role ends))
    becoming role =
        slot-becomes laws.slots (wire_at script dlci beside) (other role) ts (check_of (of role ends)) (omega arith) (delays (other role))
        (λ slot x. arriving-behind script dlci beside (other role) ts slot fits b x)

-- what a link comes to in one more turn
pub data NextOf (script : ScriptValue) (dlci : ℕ) (beside : Beside) (link : Link) (rounds : ℕ) (p : Progress) : Type 0 where
  On_line : (end : LineEnd) → EndsLine (wire_at script dlci beside) (turns_on_line rounds p) (ends_in p) end
      → NextOf script dlci beside link rounds p
  Made : (next : Progress) → Lasts (wire_at script dlci beside) link (suc rounds) next
      → ((at : ℕ) (role : Role) (round : ℕ) → round < rounds → slot_in at role (turns_in p) round ≡ slot_in at role (turns_in next) round)
      → (is_going next ≡ false → is_going p ≡ true → length (turns_in next) ≡ rounds)
      → (is_going p ≡ false → (is_going next ≡ false) × (length (turns_in next) ≡ length (turns_in p)))
      → (is_going next ≡ true → is_going p ≡ true)
      → NextOf script dlci beside link rounds p

ended-now : (script : ScriptValue) (dlci : ℕ) (beside : Beside) (link : Link) (ts : List Turn) (ends : Accounts)
    → LineRun (wire_at script dlci beside) link ts ends → (rounds : ℕ) → length ts ≡ rounds
    → (mid : Accounts) (end : RunEnd) (left : Left) → (r : RunsTo (wire_at script dlci beside) link end left)
    → Lasts (wire_at script dlci beside) link (suc rounds) (Ended ts mid end left) → NextOf script dlci beside link rounds (Goes ts ends)
ended-now script dlci beside link ts ends run rounds e mid end left r l =
    Made (Ended ts mid end left) l (λ at role round k. refl) (λ g h. e) (λ g. absurd (false≢true (sym g))) (λ g. refl)

goes-on : NextLaws → (script : ScriptValue) (files : Both (List ℕ)) (dlci : ℕ) (beside : Beside) (rounds : ℕ) (ts : List Turn)
    (ends : Accounts) → IsInLimits script
    → Lasts (wire_at script dlci beside) (link_of script files) rounds (Goes ts ends)
    → MadeOver (wire_at script dlci beside) files ts ends
    → NextOf script dlci beside (link_of script files) rounds (Goes ts ends)
goes-on laws script files dlci beside rounds ts ends h l m = go m.outcome refl
  where
    c : Wire
    c = wire_at script dlci beside

    link : Link
    link = link_of script files

    left : Left
    left = left_of m.mid (trace_text (m.turn ∷ ts))

    none-left : suc rounds - suc (length ts) ≡ 0
    none-left = omega (arith, l.count)

    in-turn : (o : Outcome) → m.outcome ≡ o → EndsInTurn c link ts ends o (length ts) left
    in-turn o e = grind (arith, link, leaves-so)

    idle : IdlesFor c m.mid (suc rounds - suc (length ts)) ts
    idle = subst (λ n. IdlesFor c m.mid n ts) (sym none-left) tt

    before : length ts < suc rounds
    before = omega (arith, l.count)

    broken : (role : Role) (fault : LinkFault) → m.outcome ≡ Broken role fault → IsNamed role fault
        → NextOf script dlci beside link rounds (Goes ts ends)
    broken role (faults.Spent segment since) e n =
        let r : RunsTo c link (LinkLost role segment (length ts)) left =
        record { turns = ts; ends = ends; run = l.run; ended = (since, in-turn (Broken role (faults.Spent segment since)) e) } in
        ended-now script dlci beside link ts ends l.run rounds l.count m.mid (LinkLost role segment (length ts)) left r
        (record { ran = r; turns_are = refl; ends_are = refl; by_link = tt; before = before; idles = idle })
    broken role faults.NotDetected e n =
        let r : RunsTo c link (NotDetected (length ts)) left =
        record {
          turns = ts;
          ends = ends;
          run = l.run;
          ended = in-turn (Broken Originator faults.NotDetected) (e ∙ ap (λ x. Broken x faults.NotDetected) n);
        } in
        ended-now script dlci beside link ts ends l.run rounds l.count m.mid (NotDetected (length ts)) left r
        (record { ran = r; turns_are = refl; ends_are = refl; by_link = tt; before = before; idles = idle })
    broken role other e n = absurd n

    go : (o : Outcome) → m.outcome ≡ o → NextOf script dlci beside link rounds (Goes ts ends)
    go Going e =
        let is : TurnIs link ts ends m.turn m.mid Going = subst (TurnIs link ts ends m.turn m.mid) e m.is in
        Made (Goes (m.turn ∷ ts) is.0)
        (record { run = record { run = (ends, l.run.run, is.1); heard = (m.heard, l.run.heard) }; count = ap suc l.count })
        (λ at role round k. sym (slot-stays at role m.turn ts round (omega (arith, k, l.count))))
        (λ g. absurd (false≢true (sym g))) (λ g. absurd (false≢true (sym g))) (λ g. refl)
    go Done e =
        let r : RunsTo c link (IsDone (length ts)) left = record { turns = ts; ends = ends; run = l.run; ended = in-turn Done e } in
        ended-now script dlci beside link ts ends l.run rounds l.count m.mid (IsDone (length ts)) left r
        (record { ran = r; turns_are = refl; ends_are = refl; by_link = tt; before = before; idles = idle })
    go (Broken role fault) e = broken role fault e
        (laws.named link ts ends m.turn m.mid role fault (laws.play script files h) l.run.run
        (subst (TurnIs link ts ends m.turn m.mid) e m.is))

-- So a link has a next turn, or the line ends the pair in it.
pub next-of : NextLaws → (script : ScriptValue) (files : Both (List ℕ)) (dlci : ℕ) (beside : Beside) (rounds : ℕ) (p : Progress)
    → IsInLimits script → ((role : Role) → 1 ≤ delay_of script role) → AllFitting (bits_in script) dlci (turns_in p)
    → BesideFits (bits_in script) beside
    → Lasts (wire_at script dlci beside) (link_of script files) rounds p → NextOf script dlci beside (link_of script files) rounds p
next-of laws script files dlci beside rounds (Goes ts ends) h delays fits b l = go
    (turn-decided laws script dlci beside ts ends delays fits b)
  where
    go : ((end : LineEnd) × EndsLine (wire_at script dlci beside) ts ends end) ⊎ HearsIdly (wire_at script dlci beside) ts ends
        → NextOf script dlci beside (link_of script files) rounds (Goes ts ends)
    go (inl e) = On_line e.0 e.1
    go (inr w) = goes-on laws script files dlci beside rounds ts ends h l
        (laws.made (wire_at script dlci beside) files ts ends h l.run w)
next-of laws script files dlci beside rounds (Ended ts ends end left) h delays fits b l =
    go (turn-decided laws script dlci beside (lasting k ts) ends delays (fitting-lasting (bits_in script) dlci k ts fits) b)
  where
    c : Wire
    c = wire_at script dlci beside

    k : ℕ
    k = rounds - length ts

    up : k ≡ suc (rounds - suc (length ts))
    up = omega (arith, l.before)

    more : suc (rounds - suc (length ts)) ≡ suc rounds - suc (length ts)
    more = omega (arith, l.before)

    go : ((end : LineEnd) × EndsLine c (lasting k ts) ends end) ⊎ HearsIdly c (lasting k ts) ends
        → NextOf script dlci beside (link_of script files) rounds (Ended ts ends end left)
    go (inl e) = On_line e.0 e.1
    go (inr w) =
        let now : HearsIdly c (lasting (suc (rounds - suc (length ts))) ts) ends = subst (λ n. HearsIdly c (lasting n ts) ends) up w in
        Made (Ended ts ends end left)
        (record {
          ran = l.ran;
          turns_are = l.turns_are;
          ends_are = l.ends_are;
          by_link = l.by_link;
          before = omega (arith, l.before);
          idles = subst (λ n. IdlesFor c ends n ts) more (now, l.idles);
        })
        (λ at role round q. refl) (λ g e. absurd (false≢true e)) (λ g. (refl, refl)) (λ g. absurd (false≢true g))

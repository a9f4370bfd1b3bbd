-- However a run ends, what was given begins the other's file; done means whole.
use Rattle.line_run.proofs.Cited.{arith, ◌≡◌, ℕ, List, ◌∷◌, sym, ◌∙◌, subst, ChanceMatch, DoneLeavesWhole, EndsInTurn, EndsOnLine, IsDone}
use Rattle.line_run.proofs.Cited.{Leaves, Left, LineLost, LinkLost, MayRun, NotDetected, RunsLeavePrefixes, RunsLeaveWhatPassed}
use Rattle.line_run.proofs.Cited.{OneIsCarried, SamplesAreCarried, LineEnd, LineRun, Wire, hearing-of, DoneIsWhole, HearsPrefixes}
use Rattle.line_run.proofs.Cited.{HearsWhatPassed, HoldPrefixes, RunsOver, TakesPrefixes, TakesWhatPassed, agreed_srej, Outcome, Done}
use Rattle.line_run.proofs.Cited.{Accounts, Link, Turn, delay_of, of, IsPrefixOf, other, Role}
use Rattle.link_run.specs.Taken.{taken_octets}

pub record RunLaws : Type 0 where
  pub takes : TakesPrefixes
  pub hears : HearsPrefixes
  pub whole : DoneIsWhole
  pub took : TakesWhatPassed
  pub heard : HearsWhatPassed
  pub carried : SamplesAreCarried
  pub one : OneIsCarried

-- what was given begins the other's file
abbrev ArePrefixes : Link → Left → Type 0
ArePrefixes link left = (role : Role) → IsPrefixOf (of role left.got) (of (other role) link).user.file

-- what was given is what passed in these turns
abbrev ArePassed : Wire → Link → List Turn → Left → Type 0
ArePassed c link ts left = (role : Role) → of role left.got ≡ taken_octets (agreed_srej link) (delay_of c.script) role ts

left-prefixes : (link : Link) (ends : Accounts) (text : List ℕ) (left : Left) → HoldPrefixes link ends → Leaves ends text left
    → ArePrefixes link left
left-prefixes link ends text left h l role = subst (λ g. IsPrefixOf g (of (other role) link).user.file) (sym (l.got_is role)) (h role)

-- the line of samples as any line
over : (laws : RunLaws) (c : Wire) (link : Link) (ts : List Turn) (ends : Accounts) → MayRun c link → LineRun c link ts ends
    → RunsOver link (delay_of c.script) ts ends
over laws c link ts ends m r = record { may_play = m.may_play; delays = m.delays; carried = laws.carried c ts r.heard; run = r.run }

in-turn : (laws : RunLaws) (c : Wire) (link : Link) (ts : List Turn) (ends : Accounts) (o : Outcome) (turn : ℕ) (left : Left)
    → MayRun c link
    → LineRun c link ts ends → EndsInTurn c link ts ends o turn left → ArePrefixes link left
in-turn laws c link ts ends o turn left m r e =
    left-prefixes link e.mid _ left
    (laws.hears link (delay_of c.script) ts ends e.last e.mid (over laws c link ts ends m r) (laws.one c ts e.last e.heard)
    (hearing-of link ts ends e.last e.mid o e.is)) e.leaves

on-line : (laws : RunLaws) (c : Wire) (link : Link) (ts : List Turn) (ends : Accounts) (end : LineEnd) (text : List ℕ) (left : Left)
    → MayRun c link → LineRun c link ts ends → EndsOnLine c ts ends end text left → ArePrefixes link left
on-line laws c link ts ends end text left m r e =
    left-prefixes link ends text left (laws.takes link (delay_of c.script) ts ends (over laws c link ts ends m r)) e.leaves

pub leave_prefixes : RunLaws → RunsLeavePrefixes
leave_prefixes laws c link (IsDone turn) left m r = in-turn laws c link r.turns r.ends Done turn left m r.run r.ended
leave_prefixes laws c link (LinkLost role segment turn) left m r = in-turn laws c link r.turns r.ends _ turn left m r.run r.ended.1
leave_prefixes laws c link (NotDetected turn) left m r = in-turn laws c link r.turns r.ends _ turn left m r.run r.ended
leave_prefixes laws c link (LineLost role symbol) left m r = on-line laws c link r.turns r.ends _ _ left m r.run r.ended
leave_prefixes laws c link (ChanceMatch role turn) left m r = on-line laws c link r.turns r.ends _ _ left m r.run r.ended.1

pub leaves_whole : RunLaws → DoneLeavesWhole
leaves_whole laws c link turn left m r role =
    let e = r.ended in
    e.leaves.got_is role ∙
    (laws.whole link (delay_of c.script) r.turns r.ends e.last e.mid (over laws c link r.turns r.ends m r.run)
    (laws.one c r.turns e.last e.heard) e.is role).file_is

passed-in-turn : (laws : RunLaws) (c : Wire) (link : Link) (ts : List Turn) (ends : Accounts) (o : Outcome) (turn : ℕ) (left : Left)
    → MayRun c link → LineRun c link ts ends → (e : EndsInTurn c link ts ends o turn left) → ArePassed c link (e.last ∷ ts) left
passed-in-turn laws c link ts ends o turn left m r e role =
    e.leaves.got_is role ∙ sym
    (laws.heard link (delay_of c.script) ts ends e.last e.mid (over laws c link ts ends m r) (laws.one c ts e.last e.heard)
    (hearing-of link ts ends e.last e.mid o e.is) role)

pub leave_what_passed : RunLaws → RunsLeaveWhatPassed
leave_what_passed laws c link (IsDone turn) left m r = passed-in-turn laws c link r.turns r.ends Done turn left m r.run r.ended
leave_what_passed laws c link (LinkLost role segment turn) left m r =
    passed-in-turn laws c link r.turns r.ends _ turn left m r.run r.ended.1
leave_what_passed laws c link (NotDetected turn) left m r = passed-in-turn laws c link r.turns r.ends _ turn left m r.run r.ended
leave_what_passed laws c link given left m r = grind (arith)

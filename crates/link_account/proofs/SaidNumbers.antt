-- Whatever an end sends can be heard: its numbers are below 128.
use Rattle.link_account.proofs.Names.{ℕ, Bool, arith, Account, SaysNumbers, arrives, Said, frame_for, nr_of, ready_frame, Answer}
use Rattle.link_account.specs.Numbers.{HasNumbers, IsNumbered}
use Rattle.link_account.proofs.SpeakWays.{Steps, Ways, by-ways, linked-alike, tries-alike}
use Rattle.link_account.specs.declared.answer.Answer.TheVariants as answers

abbrev IsHeard : Said → Type 0
IsHeard said = IsNumbered (arrives said.sent)

answer : (d : Answer) (a : Account) → IsNumbered (arrives (frame_for d a))
answer d a = grind (arith)

ready : (busy command pf : Bool) (a : Account) → HasNumbers (ready_frame busy command (nr_of a) pf)
ready busy command pf a = grind (arith)

steps : (turn : ℕ) (special : Bool) (a : Account) → Steps IsHeard turn special a
steps turn special a = grind (arith, answer, ready)

ways : (turn : ℕ) (release : Bool) (a : Account) → Ways IsHeard turn release a
ways turn release a = record {
  answers = λ alone d e. answer d a;
  flags = λ alone e. tt;
  mark = λ p r e. tt;
  odp = λ p r e. tt;
  xid = λ p r. tries-alike _ _ _ _ (λ w. (tt, tt)) tt;
  sabme = λ p. tries-alike _ _ _ _ (λ w. (tt, tt)) tt;
  linked = λ p r. linked-alike _ _ a (λ count awaited w own. steps turn a.special _);
  releases = λ p r. tries-alike _ _ _ _ (λ w. (tt, tt)) tt;
  disc = λ p. tries-alike _ _ _ _ (λ w. (tt, tt)) tt;
}

pub says_numbers : SaysNumbers
says_numbers turn release a said e = by-ways IsHeard turn release a (ways turn release a) said e

-- What a pair leaves of each link, and how many rounds it has.
use Rattle.link_pair.proofs.Names.{◌≡◌, ℕ, ◌^◌, ◌<◌, true, List, arith, sym, subst, false≢true, LostLinksWereStarved, RunEnd, IsDone, Left}
use Rattle.link_pair.proofs.Names.{SamplesAreCarried, LineEnd, link_of, ScriptsMayPlay, ScriptsHaveDelays, wire_at, LineRunsEndSoon}
use Rattle.link_pair.proofs.Names.{first_dlci, second_dlci, after_second, after_first, first_wire, second_wire, BothDone, end_of, line_end}
use Rattle.link_pair.proofs.Names.{is_going, LeavesOf, by_links, by_line, ArePrefixes, PairsLeavePrefixes, DonePairsAreWhole, AreFewRounds}
use Rattle.link_pair.proofs.Names.{AreShort, PairsHaveFewRounds, Progress, Goes, Ended, turns_in, Lasts, Accounts, Turn, ScriptValue}
use Rattle.link_pair.proofs.Names.{IsInLimits, delay_of, Both, of, IsPrefixOf, other, Role}
use Rattle.link_run.specs.Laws.{TakesPrefixes}
use Rattle.line_run.specs.Scripts.{NoLineRunIsLong}
use Rattle.line_run.specs.Ends.{MayRun, RunsLeavePrefixes, DoneLeavesWhole}
use Rattle.line_run.specs.Ends as runs
use Rattle.link_pair.specs.Pairs.Laws.{AreWhole, PairedLinksWereStarved, IsRunOver}
use Rattle.link_pair.specs.Pairs.Laws.{PairedLinksRun}
use Rattle.link_pair.proofs.Pairs.Clear.{Beside}
use Rattle.link_pair.proofs.Prefixes.{same-prefix}

pub record LeaveLaws : Type 0 where
  pub play : ScriptsMayPlay
  pub delays : ScriptsHaveDelays
  pub carried : SamplesAreCarried
  pub takes : TakesPrefixes
  pub prefixes : RunsLeavePrefixes
  pub whole : DoneLeavesWhole

may-run : LeaveLaws → (script : ScriptValue) (dlci : ℕ) (beside : Beside) (files : Both (List ℕ)) → IsInLimits script
    → MayRun (wire_at script dlci beside) (link_of script files)
may-run laws script dlci beside files h = record { may_play = laws.play script files h; delays = laws.delays script h }

same-whole : (script : ScriptValue) (files : Both (List ℕ)) (role : Role) (got : List ℕ)
    → got ≡ (of (other role) (link_of script files)).user.file → got ≡ of (other role) files
same-whole script files role got e = grind (arith)

-- what is left of a link that has ended
ended-prefixes : LeaveLaws → (script : ScriptValue) (files : Both (List ℕ)) (dlci : ℕ) (beside : Beside) (rounds : ℕ) → IsInLimits script
    → (ts : List Turn) (ends : Accounts) (end : RunEnd) (left : Left)
    → Lasts (wire_at script dlci beside) (link_of script files) rounds (Ended ts ends end left) → ArePrefixes left files
ended-prefixes laws script files dlci beside rounds h ts ends end left l role =
    same-prefix script files role (of role left.got)
    (laws.prefixes (wire_at script dlci beside) (link_of script files) end left (may-run laws script dlci beside files h) l.ran role)

-- and of one that goes on, or has ended, where the line ends the pair
left-prefixes : LeaveLaws → (script : ScriptValue) (files : Both (List ℕ)) (dlci : ℕ) (beside : Beside) (rounds : ℕ) → IsInLimits script
    → (p : Progress) → Lasts (wire_at script dlci beside) (link_of script files) rounds p → (text : List ℕ) (left : Left)
    → LeavesOf p text left → ArePrefixes left files
left-prefixes laws script files dlci beside rounds h (Goes ts ends) l text left k role =
    same-prefix script files role (of role left.got)
    (subst (λ g. IsPrefixOf g (of (other role) (link_of script files)).user.file) (sym (k.got_is role))
    (laws.takes (link_of script files) (delay_of script) ts ends
    (record {
      may_play = laws.play script files h;
      delays = laws.delays script h;
      carried = laws.carried (wire_at script dlci beside) ts l.run.heard;
      run = l.run.run;
    }) role))
left-prefixes laws script files dlci beside rounds h (Ended ts ends end had) l text left k role =
    subst (λ (g : Both (List ℕ)). IsPrefixOf (of role g) (of (other role) files)) (sym k.0)
    (ended-prefixes laws script files dlci beside rounds h ts ends end had l role)

pub pairs-leave-prefixes : LeaveLaws → PairsLeavePrefixes
pairs-leave-prefixes laws script files others end left leaves h (by_links first second b is) = (
  ended-prefixes laws script files first_dlci (after_second b.us) _ h b.ts b.ends first left b.at.first,
  ended-prefixes laws script others second_dlci (after_first b.ts) _ h b.us b.mids second leaves b.at.second,
)
pairs-leave-prefixes laws script files others end left leaves h (by_line link round cause e is) = (
  left-prefixes laws script files first_dlci (after_second (turns_in e.q)) _ h e.p e.at.first _ left e.first_leaves,
  left-prefixes laws script others second_dlci (after_first (turns_in e.p)) _ h e.q e.at.second _ leaves e.second_leaves,
)

pub record AreDone (first second : RunEnd) : Type 0 where
  pub turn : ℕ
  pub last : ℕ
  pub first_is : first ≡ IsDone turn
  pub second_is : second ≡ IsDone last

both-done : (m n : ℕ) (first second : RunEnd) → BothDone m n ≡ end_of first second → AreDone first second
both-done m n other second e = grind (arith)

line-not-done : (m n round : ℕ) (cause : LineEnd) → BothDone m n ≡ line_end round cause → ⊥
line-not-done m n round cause e = grind (arith)

ended-whole : LeaveLaws → (script : ScriptValue) (files : Both (List ℕ)) (dlci : ℕ) (beside : Beside) (rounds : ℕ) → IsInLimits script
    → (ts : List Turn) (ends : Accounts) (end : RunEnd) (left : Left) (turn : ℕ) → end ≡ IsDone turn
    → Lasts (wire_at script dlci beside) (link_of script files) rounds (Ended ts ends end left) → AreWhole left files
ended-whole laws script files dlci beside rounds h ts ends end left turn e l role =
    same-whole script files role (of role left.got)
    (laws.whole (wire_at script dlci beside) (link_of script files) turn left (may-run laws script dlci beside files h)
    (subst (λ x. runs.RunsTo (wire_at script dlci beside) (link_of script files) x left) e l.ran) role)

pub done-pairs-are-whole : LeaveLaws → DonePairsAreWhole
done-pairs-are-whole laws script files others m n left leaves h (by_links first second b is) =
    let d : AreDone first second = both-done m n first second is in (
      ended-whole laws script files first_dlci (after_second b.us) _ h b.ts b.ends first left d.turn d.first_is b.at.first,
      ended-whole laws script others second_dlci (after_first b.ts) _ h b.us b.mids second leaves d.last d.second_is b.at.second,
    )
done-pairs-are-whole laws script files others m n left leaves h (by_line link round cause e is) = absurd (line-not-done m n round cause is)

pub paired-links-were-starved : LostLinksWereStarved → PairedLinksWereStarved
paired-links-were-starved law script files others firsts seconds p q h a = (
  (λ end left ends e g. law (first_wire script (turns_in q)) files end left h e.ran g),
  (λ end left ends e g. law (second_wire script (turns_in p)) others end left h e.ran g),
)

-- a link as any run
is-run : SamplesAreCarried → (script : ScriptValue) (files : Both (List ℕ)) (dlci : ℕ) (beside : Beside) (rounds : ℕ) (p : Progress)
    → Lasts (wire_at script dlci beside) (link_of script files) rounds p → IsRunOver (link_of script files) script p
is-run carried script files dlci beside rounds (Goes ts ends) l = grind (arith)
is-run carried script files dlci beside rounds (Ended ts ends end left) l = grind (arith)

pub paired-links-run : SamplesAreCarried → PairedLinksRun
paired-links-run carried script files others firsts seconds p q a = grind (arith, is-run)

few-rounds : LineRunsEndSoon → NoLineRunIsLong → (script : ScriptValue) (files : Both (List ℕ)) (dlci : ℕ) (beside : Beside) (rounds : ℕ)
    → IsInLimits script → AreShort files → (p : Progress) → Lasts (wire_at script dlci beside) (link_of script files) rounds p
    → is_going p ≡ true → AreFewRounds script files rounds p
few-rounds soon long script files dlci beside rounds h f (Goes ts ends) l e = record {
  count = l.count;
  ends = ends;
  few = soon (wire_at script dlci beside) files ts ends h l.run;
  below = subst (λ n. n < 2 ^ 39) l.count (long (wire_at script dlci beside) files ts ends h f l.run);
}
few-rounds soon long script files dlci beside rounds h f (Ended ts ends end left) l e = absurd (false≢true e)

pub pairs-have-few-rounds : LineRunsEndSoon → NoLineRunIsLong → PairsHaveFewRounds
pairs-have-few-rounds soon long script files others firsts seconds p q h f g a = grind (arith, few-rounds)

-- However a pair ends, each received file is as it was, or holds the beginning of the file of the other end of its link.
use Rattle.link_pair.proofs.Names.{◌≡◌, inl, inr, ℕ, suc, List, [], ◌++◌, Some, Result, Ok, Err, refl, sym, ◌∙◌, ap, subst, arith}
use Rattle.link_pair.proofs.Names.{append-nil, concat, Stop, RunLaws, may-run, runs-over, Left, Written, Wire, LineRun, link_of, AddsTurn}
use Rattle.link_pair.proofs.Names.{held_of, result_of, AreFiles, StopsInRound, EndsBy, left_by, LinkStops, LinkStopsReading, first_wire}
use Rattle.link_pair.proofs.Names.{second_wire, Which, First, Second, BothDone, firsts_at, ArePrefixes, PairsLeavePrefixes}
use Rattle.link_pair.proofs.Names.{DonePairsAreWhole, FaintPairsAreIsolated, Progress, Goes, Ended, turns_in, Lasts, PairAt, Names}
use Rattle.link_pair.proofs.Names.{LastTurns, hearing-of, deliveries, Link, Accounts, Turn, BreaksAreOctets, ScriptValue, IsInLimits}
use Rattle.link_pair.proofs.Names.{delay_of, FolderState, GoesOn, Holds, HoldEach, KeepsAll, CreatesPart, LIMITS, Both, of, IsPrefixOf}
use Rattle.link_pair.proofs.Names.{other, Role, Originator, Answerer}
use Rattle.std.proofs.lemmas.List.Folds.{concat-append}
use Rattle.outside_calls.specs.Outputs.{HoldsPart, HoldPart}
use Rattle.link_run.specs.Laws.{HoldPrefixes, TakesWhatPassed}
use Rattle.command_base.specs.declared.stop.Stop.TheVariants as stops
use Rattle.line_run.specs.Names as written
use Rattle.run_inputs.specs.Files.{KeptOrPrefix}
use Rattle.run_inputs.proofs.Files.{prefix-of, part-of}
use Rattle.link_pair.specs.Half.{AddsMore}
use Rattle.link_pair.specs.Pair.{StopsTurn}
use Rattle.link_pair.specs.Words.{outputs_of}
use Rattle.link_pair.specs.Ends as ends

-- the laws that the headline rests on
pub record HeadLaws : Type 0 where
  pub runs : RunLaws
  pub took : TakesWhatPassed
  pub prefixes : PairsLeavePrefixes
  pub whole : DonePairsAreWhole
  pub isolated : FaintPairsAreIsolated
  pub breaks : BreaksAreOctets

-- the files of the link are those
pub same-prefix : (script : ScriptValue) (files : Both (List ℕ)) (role : Role) (got : List ℕ)
    → IsPrefixOf got (of (other role) (link_of script files)).user.file → IsPrefixOf got (of (other role) files)
same-prefix script files role got h = grind (arith)

-- what a link that goes on has given its users
pub given-is : (ts : List Turn) (ends : Accounts) (role : Role)
    → of role (left_by (Goes ts ends)).got ≡ concat (of role ends).incoming.taken
given-is ts ends role = grind (arith)

-- what is left of a link
pub left-prefixes : HeadLaws → (c : Wire) (files : Both (List ℕ)) (rounds : ℕ) (p : Progress) → IsInLimits c.script
    → Lasts c (link_of c.script files) rounds p → ArePrefixes (left_by p) files
left-prefixes laws c files rounds (Goes ts ends) h l role =
    same-prefix c.script files role (of role (left_by (Goes ts ends)).got)
    (subst (λ g. IsPrefixOf g (of (other role) (link_of c.script files)).user.file) (sym (given-is ts ends role))
    (laws.runs.takes (link_of c.script files) (delay_of c.script) ts ends (runs-over laws.runs c files ts ends h l.run) role))
left-prefixes laws c files rounds (Ended ts ends end left) h l role =
    same-prefix c.script files role (of role left.got)
    (laws.runs.prefixes c (link_of c.script files) end left (may-run laws.runs c files h) l.ran role)

-- and of it with what a turn adds
turn-prefix : HeadLaws → (c : Wire) (files : Both (List ℕ)) (ts : List Turn) (ends : Accounts) (more : Left) → IsInLimits c.script
    → LineRun c (link_of c.script files) ts ends → AddsTurn c (link_of c.script files) ts ends more → (role : Role)
    → IsPrefixOf (of role (left_by (Goes ts ends)).got ++ of role more.got) (of (other role) files)
turn-prefix laws c files ts ends more h run a role =
    let link : Link = link_of c.script files in
    let hears = hearing-of link ts ends a.turn a.mid a.outcome a.is in
    let whole : HoldPrefixes link a.mid =
    laws.runs.hears link (delay_of c.script) ts ends a.turn a.mid (runs-over laws.runs c files ts ends h run)
    (laws.runs.one c ts a.turn a.heard) hears
    in
    let all : of role (left_by (Goes ts ends)).got ++ of role more.got ≡ concat (of role a.mid).incoming.taken =
    ap (λ x. x ++ of role more.got) (given-is ts ends role) ∙ ap (λ x. concat (of role ends).incoming.taken ++ x) (a.got_is role)
    ∙ sym (concat-append (of role ends).incoming.taken (deliveries (of role a.mid)))
    ∙ ap concat (sym (laws.runs.delivers link ts ends a.turn a.mid run.run hears role)) in
    same-prefix c.script files role _ (subst (λ x. IsPrefixOf x (of (other role) link).user.file) (sym all) (whole role))

none-prefix : (files : Both (List ℕ)) (left more : Left) → ArePrefixes left files → (role : Role) → of role more.got ≡ []
    → IsPrefixOf (of role left.got ++ of role more.got) (of (other role) files)
none-prefix files left more h role e =
    subst (λ x. IsPrefixOf x (of (other role) files)) (sym (ap (λ x. of role left.got ++ x) e ∙ append-nil (of role left.got))) (h role)

more-prefixes : HeadLaws → (c : Wire) (files : Both (List ℕ)) (f : FolderState) (n : Written) (rounds : ℕ) (p : Progress)
    → IsInLimits c.script → Lasts c (link_of c.script files) rounds p → (s : LinkStops c (link_of c.script files) f n rounds p)
    → (role : Role)
    → IsPrefixOf (of role (left_by p).got ++ of role s.more.got) (of (other role) files)
more-prefixes laws c files f n rounds p h l s role = by p l s.adds
  where
    by : (p : Progress) → Lasts c (link_of c.script files) rounds p → AddsMore c (link_of c.script files) rounds p s.more
        → IsPrefixOf (of role (left_by p).got ++ of role s.more.got) (of (other role) files)
    by (Goes ts ends) l (inl a) = turn-prefix laws c files ts ends s.more h l.run a role
    by (Goes ts ends) l (inr a) =
        none-prefix files (left_by (Goes ts ends)) s.more (left-prefixes laws c files rounds (Goes ts ends) h l) role (a.got_is role)
    by (Ended ts ends end left) l a =
        none-prefix files left s.more (left-prefixes laws c files rounds (Ended ts ends end left) h l) role (a.got_is role)

-- ---- both received files of a link

pub record LinkPrefix (old before : FolderState) (n : Written) : Type 0 where
  pub got_o : KeptOrPrefix old before n.got_o n.answ
  pub got_a : KeptOrPrefix old before n.got_a n.orig

link-held : (old before : FolderState) (n : Written) (files : Both (List ℕ)) (left : Left) → GoesOn old before → AreFiles old n files
    → ArePrefixes left files → HoldEach before (written.outputs_of n) (held_of left) → LinkPrefix old before n
link-held old before n files left g are prefixes holds = record {
  got_o = prefix-of old before n.got_o n.answ files.answ left.got.orig g are.answ holds.0 (prefixes Originator);
  got_a = prefix-of old before n.got_a n.orig files.orig left.got.answ g are.orig holds.1.0 (prefixes Answerer);
}

-- each received file holds what is left, and a part of what comes behind it
part-none : (f : FolderState) (name octets piece : List ℕ) → Holds f name octets → HoldsPart f name octets piece
part-none f name octets piece holds told = ([], (piece, refl), holds told ∙ ap Some (sym (append-nil octets)))

part-all : (f : FolderState) (name octets piece : List ℕ) → Holds f name (octets ++ piece) → HoldsPart f name octets piece
part-all f name octets piece holds told = (piece, ([], append-nil piece), holds told)

part-o : (f : FolderState) (n : Written) (left more : Left) → HoldPart f (written.outputs_of n) (held_of left) (held_of more)
    → HoldsPart f n.got_o left.got.orig more.got.orig
part-o f n left more given = grind (arith, part-all)

part-a : (f : FolderState) (n : Written) (left more : Left) → HoldPart f (written.outputs_of n) (held_of left) (held_of more)
    → HoldsPart f n.got_a left.got.answ more.got.answ
part-a f n left more given = grind (arith, part-none, part-all)

link-stopped : HeadLaws → (old before : FolderState) (n : Written) (c : Wire) (files : Both (List ℕ)) (rounds : ℕ) (p : Progress)
    → GoesOn old before → IsInLimits c.script → AreFiles old n files → Lasts c (link_of c.script files) rounds p
    → LinkStops c (link_of c.script files) before n rounds p → LinkPrefix old before n
link-stopped laws old before n c files rounds p g h are l s = record {
  got_o = part-of old before n.got_o n.answ files.answ (left_by p).got.orig s.more.got.orig g are.answ
      (part-o before n (left_by p) s.more s.holds) (more-prefixes laws c files before n rounds p h l s Originator);
  got_a = part-of old before n.got_a n.orig files.orig (left_by p).got.answ s.more.got.answ g are.orig
      (part-a before n (left_by p) s.more s.holds) (more-prefixes laws c files before n rounds p h l s Answerer);
}

-- ---- of both links

pub record BothPrefix (old before : FolderState) (n : Names) : Type 0 where
  pub first : LinkPrefix old before n.first
  pub second : LinkPrefix old before n.second

-- the pair ended by itself
both-ran : HeadLaws → (old before : FolderState) (n : Names) (result : Result LastTurns Stop) → GoesOn old before
    → (e : ends.RanBy LIMITS old before n result) → BothPrefix old before n
both-ran laws old before n result g e =
    let r = e.ran in
    let ended = r.ended in
    let pre = laws.prefixes r.script ended.files ended.others e.end ended.left ended.leaves r.takes.limits ended.runs in record {
      first = link-held old before n.first ended.files ended.left g r.takes.first pre.0 ended.first_holds;
      second = link-held old before n.second ended.others ended.leaves g r.takes.second pre.1 ended.second_holds;
    }

-- the folder failed in a round
abbrev Stopping : Type 1
Stopping = Wire → Link → FolderState → Written → ℕ → Progress → Type 0

both-stopped : (S : Stopping) → ((c : Wire) (link : Link) (f : FolderState) (n : Written) (rounds : ℕ) (p : Progress)
    → S c link f n rounds p
    → LinkStops c link f n rounds p)
    → HeadLaws → (old before : FolderState) (n : Names) → GoesOn old before → StopsInRound S LIMITS old before n → BothPrefix old before n
both-stopped S to laws old before n g e = by e.stops.link e.stops.at e.stops.stops
  where
    p : Progress
    p = e.stops.p

    q : Progress
    q = e.stops.q

    c : Wire
    c = first_wire e.script (turns_in q)

    d : Wire
    d = second_wire e.script (turns_in p)

    files : Both (List ℕ)
    files = e.stops.files

    others : Both (List ℕ)
    others = e.stops.others

    by : (link : Which) → PairAt e.script files others (firsts_at link e.stops.round) e.stops.round p q
        → StopsTurn S link e.script before n.first n.second files others e.stops.round p q → BothPrefix old before n
    by First at k = record {
      first = link-stopped laws old before n.first c files e.stops.round p g e.takes.limits e.takes.first at.first
          (to c (link_of e.script files) before n.first e.stops.round p k.0);
      second = link-held old before n.second others (left_by q) g e.takes.second
          (left-prefixes laws d others e.stops.round q e.takes.limits at.second) k.1;
    }
    by Second at k = record {
      first = link-held old before n.first files (left_by p) g e.takes.first
          (left-prefixes laws c files (suc e.stops.round) p e.takes.limits at.first) k.0;
      second = link-stopped laws old before n.second d others e.stops.round q g e.takes.limits e.takes.second at.second
          (to d (link_of e.script others) before n.second e.stops.round q k.1);
    }

both-creating : (old before : FolderState) (n : Names) → GoesOn old before → CreatesPart old before (outputs_of n) → BothPrefix old before n
both-creating old before n g c = grind (arith)

both-kept : (old before : FolderState) (n : Names) → KeepsAll old before → BothPrefix old before n
both-kept old before n kept = grind (arith)

both-by : HeadLaws → (old before : FolderState) (n : Names) (stop : Stop) → GoesOn old before → EndsBy LIMITS old before n stop
    → BothPrefix old before n
both-by laws old before n (stops.Own answer) g (inl refused) = both-kept old before n refused.0
both-by laws old before n (stops.Own answer) g (inr e) = both-ran laws old before n _ g e
both-by laws old before n (stops.Read fault) g (inl refused) = both-kept old before n refused.0
both-by laws old before n (stops.Read fault) g (inr (failed, rose, s)) =
    both-stopped LinkStopsReading (λ c link f m r p k. k.stops) laws old before n g s
both-by laws old before n stops.NoMemory g e = both-kept old before n e.0
both-by laws old before n (stops.Write fault) g (inl c) = both-creating old before n g c.creates
both-by laws old before n (stops.Write fault) g (inr e) = both-stopped LinkStops (λ c link f m r p k. k) laws old before n g e
both-by laws old before n (stops.Say fault) g never = absurd never

pub both-of : HeadLaws → (old before : FolderState) (n : Names) (end : Result LastTurns Stop) → GoesOn old before
    → ends.Ends LIMITS old before n end → BothPrefix old before n
both-of laws old before n (Ok turns) g e =
    both-ran laws old before n (result_of (BothDone turns.first turns.second)) g
    (record { end = BothDone turns.first turns.second; result_is = refl; ran = e })
both-of laws old before n (Err stop) g e = both-by laws old before n stop g e

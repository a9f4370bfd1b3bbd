-- The calls that are made of two ends are the events of a play.
use Rattle.gateway.proofs.Names.{◌≡◌, ◌∙◌, ℕ, ◌+◌, ◌<◌, ◌≤◌, Bool, true, false, cond, List, [], ◌∷◌, ◌++◌, length, Option, Some, None}
use Rattle.gateway.proofs.Names.{Result, Ok, Err, refl, sym, ap, subst, take, drop, inl, inr, arith, length-append, take-append-le}
use Rattle.gateway.proofs.Names.{take_more, HeardAs, SaysAs, Arrives, told_as, Carried, Told, has_number, IsSendable, StandsFor, AnyEnd}
use Rattle.gateway.proofs.Names.{false≢true, Check, Role, Originator, Answerer, other, Frame, Arrived, Sent, Account, fresh, check_of, hear}
use Rattle.gateway.proofs.Names.{Said, speak, Slot, arrives, KeepsTaken, has_begun, Phase, Setup}
use Rattle.std.proofs.Common.{◌&&◌, nat_le, nat_lt}
use Rattle.link_account.proofs.Names.{is_some, take-append-drop, append_assoc, nat_tests}
use Rattle.link_account.proofs.Names.{Both, of, IsPrefixOf, LinkFault, ReadsWritten}
use Rattle.link_account.proofs.Names.{wants, piece_size, after_given, after_offer, after_break_asked, after_busy, is_connected}
use Rattle.link_account.proofs.Names.{Play, MayPlay}
use Rattle.std.specs.Prelude.{slice_index_or}
use Rattle.lapm_frames.specs.Frame.{IsFrame}
use Rattle.lapm_frames.specs.Checked.{checked, SpellsFrame}
use Rattle.link_account.specs.Account.{after_delivery, delivers}
use Rattle.link_account.specs.Play.{Event, heard, happens, start, seen_from}
use Rattle.link_account.proofs.Events.{side, at, slot_of, play-append, hears-event, passes-event, loses-event, speaks-event, gives-event}
use Rattle.link_account.proofs.Events.{delivers-event, asked-event, busy-event, offered-event}
use Rattle.link_account.specs.Laws.{played, TakesInOrder, WantsAnswers, BreaksForWantAlone}
use Rattle.gateway.specs.declared.link.Endpoint.{Endpoint}
use Rattle.gateway.specs.declared.link.BreakAsked.{BreakAsked}
use Rattle.gateway.specs.Endpoints.{OfferedAs, AnswersBreak, longest_wanted, is_taken}
use Rattle.gateway.specs.Histories.{EndSide, Move, Speaks, Passes, Is_lost, Hears_nothing, Is_offered, Is_asked, Is_delivered, Is_busy}
use Rattle.gateway.specs.Histories.{CarriesTold, HearsNothing, SpeaksOf, LosesOf, PassesOf, OfferedOf, AskedOf, DeliveredOf}
use Rattle.gateway.specs.Histories.{SpeakingBreaksForWant, HearingNeverBreaks, IsMade, Step, Begins, History, HistoriesArePlays}
use Rattle.gateway.specs.Histories.{HistoriesKeepPrefixes, with_offered, with_delivered}
use Rattle.gateway.proofs.Lists.{Lists, lists, Grows, grows-heard, kept-spoken}
use Rattle.link_account.proofs.HearWays.{breaks-not}
use Rattle.gateway.proofs.Agreeing.{OnSent, Reads, face, KnowsAt, knows-turned, knows-as, nothing-arrives, first-arrives, knows-less}
use Rattle.gateway.proofs.Agreeing.{knows-heard, knows-spoken, agreed_check, check-sent, check-heard, knows-first}
use Rattle.lapm_frames.specs.declared.arrived.Arrived.TheVariants as arrivals
use Rattle.lapm_frames.specs.declared.sent.Sent.TheVariants as slots
use Rattle.link_account.specs.Play as plays
use Rattle.gateway.specs.declared.turns.Carried.TheVariants as loads
use Rattle.gateway.specs.declared.turns.Told.TheVariants as told
use Rattle.gateway.specs.declared.link.BreakAsked.TheVariants as asked

-- what is known of frames and their octets, of receivers and of offers
pub record HistoryLaws : Type 0 where
  pub exists : (check : Check) (frame : Frame) (sender : Role) (dlci : ℕ) → IsFrame frame
      → SpellsFrame check sender dlci (checked check sender dlci frame) frame
  pub one : (check : Check) (frame other : Frame) (sender : Role) (dlci : ℕ) (whole : List ℕ)
      → SpellsFrame check sender dlci whole frame → SpellsFrame check sender dlci whole other → frame ≡ other
  pub keeps : KeepsTaken
  pub written : ReadsWritten

-- ---- plays

-- a piece that is taken is wanted
taken-wanted : (count size : ℕ) (number : Option ℕ) → true ≡ is_taken count (longest_wanted number size)
    → (is_some number && nat_le count size) ≡ true
taken-wanted count size number e = grind (arith)

-- ---- a side

-- what was said spells what was sent, and a frame with numbers with this check
pub record IsToldAs (check : Check) (role : Role) (sent : Sent) (said : Told) : Type 0 where
  pub written : Check
  pub told_is : said ≡ told_as written role sent
  pub can : IsSendable sent
  pub numbered : OnSent (λ frame. has_number frame ≡ true → written ≡ check) sent

abbrev AllTold : Check → Role → List Slot → List Told → Type 0
AllTold check role [] [] = Unit {0}
AllTold check role (slot ∷ slots) (said ∷ line) = IsToldAs check role slot.sent said × AllTold check role slots line
AllTold check role [] (said ∷ line) = ⊥
AllTold check role (slot ∷ slots) [] = ⊥

told-snoc : (check : Check) (role : Role) (slots : List Slot) (line : List Told) (slot : Slot) (said : Told)
    → AllTold check role slots line → IsToldAs check role slot.sent said → AllTold check role (slots ++ slot ∷ []) (line ++ said ∷ [])
told-snoc check role [] [] slot said h last = (last, tt)
told-snoc check role (s ∷ slots) (t ∷ line) slot said h last = (h.0, told-snoc check role slots line slot said h.1 last)
told-snoc check role [] (t ∷ line) slot said h last = absurd h
told-snoc check role (s ∷ slots) [] slot said h last = absurd h

-- what the user of an end handed over and was given, by its account
pub record IsBook (offered delivered : List (List ℕ)) (l : Lists) : Type 0 where
  pub pieces_are : offered ≡ l.pieces
  pub given_are : delivered ≡ take l.given l.taken
  pub within : l.given ≤ length l.taken
  pub blank : l.begun ≡ false → (l.pieces ≡ []) × (l.given ≡ 0)

book-grows : (offered delivered : List (List ℕ)) (a b : Account) → Grows a b → IsBook offered delivered (lists a)
    → IsBook offered delivered (lists b)
book-grows offered delivered a b (inl (more, e)) h = subst (IsBook offered delivered) (sym e) (record {
  pieces_are = h.pieces_are;
  given_are = h.given_are ∙ sym (take-append-le a.incoming.given a.incoming.taken more h.within);
  within = let w : a.incoming.given ≤ length a.incoming.taken =
      h.within in omega (arith, w, length-append {A = List ℕ} a.incoming.taken more);
  blank = h.blank;
})
book-grows offered delivered a b (inr (was, e)) h =
    let none = h.blank was in
    subst (IsBook offered delivered) (sym e) (record {
      pieces_are = h.pieces_are ∙ none.0;
      given_are = h.given_are ∙ ap (λ (n : ℕ). take n a.incoming.taken) none.1;
      within = omega arith;
      blank = λ z. absurd (false≢true (sym z));
    })

connected-begun : (p : Phase) → is_connected p ≡ true → has_begun p ≡ true
connected-begun q0 e = grind (arith)

-- a segment is given
book-given : (offered delivered : List (List ℕ)) (a : Account) (segment : Option (List ℕ)) → delivers a ≡ segment
    → IsBook offered delivered (lists a) → IsBook offered (with_delivered segment delivered) (lists (after_delivery a))
book-given offered delivered a segment e h =
    go (is_connected a.phase) (nat_lt a.incoming.given (length a.incoming.taken)) refl refl segment e
  where
    go : (c l : Bool) → is_connected a.phase ≡ c → nat_lt a.incoming.given (length a.incoming.taken) ≡ l → (segment : Option (List ℕ))
        → cond c (cond l (Some (slice_index_or a.incoming.taken a.incoming.given [])) None) None ≡ segment
        → IsBook offered (with_delivered segment delivered)
        (lists (cond c (record a { incoming = cond l (record a.incoming { given = a.incoming.given + 1 }) a.incoming }) a))
    go true true j k segment e =
        let within : a.incoming.given < length a.incoming.taken = grind (arith, nat_tests) in
        subst (λ (o : Option (List ℕ)). IsBook offered (with_delivered o delivered) (record (lists a) { given = a.incoming.given + 1 })) e
        (record {
          pieces_are = h.pieces_are;
          given_are = ap (λ (l : List (List ℕ)). l ++ slice_index_or a.incoming.taken a.incoming.given [] ∷ []) h.given_are
              ∙ sym (take_more a.incoming.taken a.incoming.given [] within);
          within = omega arith;
          blank = λ z. absurd (false≢true (sym z ∙ connected-begun a.phase j));
        })
    go true false j k segment e = subst (λ (o : Option (List ℕ)). IsBook offered (with_delivered o delivered) (lists a)) e h
    go false l j k segment e = subst (λ (o : Option (List ℕ)). IsBook offered (with_delivered o delivered) (lists a)) e h

-- a piece is taken
book-offered : (offered delivered : List (List ℕ)) (a : Account) (piece : List ℕ) → has_begun a.phase ≡ true
    → IsBook offered delivered (lists a) → IsBook (with_offered true piece offered) delivered (lists (after_offer piece a))
book-offered offered delivered a piece begun h = grind (arith)

-- an end that wants a piece is Connected
wants-begun : (a : Account) (b : Bool) → (is_some (wants a) && b) ≡ true → has_begun a.phase ≡ true
wants-begun a b e = grind (arith, connected-begun)

busy-lists : (busy : Bool) (a : Account) → lists (after_busy busy a) ≡ lists a
busy-lists busy a = grind (arith)

asked-lists : (turn units : ℕ) (a : Account) → lists (after_break_asked turn units a) ≡ lists a
asked-lists turn units a = grind (arith)

busy-face : (busy : Bool) (a : Account) → face (after_busy busy a) ≡ face a
busy-face busy a = grind (arith)

asked-face : (turn units : ℕ) (a : Account) → face (after_break_asked turn units a) ≡ face a
asked-face turn units a = grind (arith)

given-face : (a : Account) → face (after_delivery a) ≡ face a
given-face a = grind (arith)

-- a side of a play and an end that stands for it
pub record IsSide (check : Check) (role : Role) (x : Account) (slots : List Slot) (side : EndSide) : Type 0 where
  pub stands : StandsFor side.end.link x
  pub role_is : side.end.role ≡ role
  pub line : AllTold check role slots side.line
  pub book : IsBook side.offered side.delivered (lists x)

pub record LastsAt (so sa : Setup) (role : Role) (own peer : EndSide) : Type 0 where
  pub x : Account
  pub lx : List Slot
  pub y : Account
  pub ly : List Slot
  pub events : List Event
  pub led : played so sa events ≡ at role x lx y ly
  pub own_side : IsSide (agreed_check so sa) role x lx own
  pub peer_side : IsSide (agreed_check so sa) (other role) y ly peer
  pub known : KnowsAt role so sa x lx y ly

other-other : (role : Role) → other (other role) ≡ role
other-other q0 = grind (arith)

-- the same from the other end
turned : (so sa : Setup) (role : Role) (own peer : EndSide) → LastsAt so sa role own peer → LastsAt so sa (other role) peer own
turned so sa role own peer h = grind (arith)

-- one event more
led-on : (so sa : Setup) (events : List Event) (event : Event) (p q : Play) → played so sa events ≡ p → happens event p ≡ q
    → played so sa (events ++ event ∷ []) ≡ q
led-on so sa events event p q e h = play-append events (event ∷ []) (start (fresh so) (fresh sa)) ∙ ap (happens event) e ∙ h

-- the own side has another form
side-of : (check : Check) (role : Role) (x : Account) (slots : List Slot) (new form : EndSide) → new ≡ form → StandsFor new.end.link x
    → new.end.role ≡ role
    → AllTold check role slots form.line → IsBook form.offered form.delivered (lists x) → IsSide check role x slots new
side-of check role x slots new form e stands role_is line book = grind (arith)

-- the own end comes to this account by one event, and its line stays
changes : (so sa : Setup) (role : Role) (own peer new : EndSide) (h : LastsAt so sa role own peer) (event : Event) (b : Account)
    → happens event (at role h.x h.lx h.y h.ly) ≡ at role b h.lx h.y h.ly → face b ≡ face h.x → IsSide (agreed_check so sa) role b h.lx new
    → LastsAt so sa role new peer
changes so sa role own peer new h event b e same side = record {
  x = b;
  lx = h.lx;
  y = h.y;
  ly = h.ly;
  events = h.events ++ event ∷ [];
  led = led-on so sa h.events event (at role h.x h.lx h.y h.ly) (at role b h.lx h.y h.ly) h.led e;
  own_side = side;
  peer_side = h.peer_side;
  known = knows-as role so sa h.x b h.lx h.y h.ly same h.known;
}

-- ---- what arrives

-- two ends that have one check for a frame write it alike
same-octets : (written check : Check) (role : Role) (frame : Frame) → (has_number frame ≡ true → written ≡ check)
    → checked written role 0 frame ≡ checked check role 0 frame
same-octets written check role frame h = grind (arith)

octets-heard : HistoryLaws → (check : Check) (role : Role) (frame : Frame) (whole : List ℕ) (carried : Carried) (arrived : Arrived)
    → SpellsFrame check role 0 whole frame → CarriesTold (told.Octets whole) carried → Arrives check role carried arrived
    → arrived ≡ arrivals.Frame frame
octets-heard laws check role frame whole (loads.Octets lent) arrived s c h = go arrived h
  where
    there : SpellsFrame check role 0 lent.now frame
    there = subst (λ (v : List ℕ). SpellsFrame check role 0 v frame) (sym c) s

    go : (arrived : Arrived) → Arrives check role (loads.Octets lent) arrived → arrived ≡ arrivals.Frame frame
    go (arrivals.Frame found) h = ap arrivals.Frame (laws.one check found frame role 0 lent.now h there)
    go arrivals.Nothing h = absurd (h frame there)
    go (arrivals.Pattern pattern) h = absurd h
octets-heard laws check role frame whole loads.Nothing arrived s c h = absurd c
octets-heard laws check role frame whole (loads.Pattern pattern) arrived s c h = absurd c

-- what was said arrives as what was sent, where its frame has one check at both ends
told-arrives : HistoryLaws → (written check : Check) (role : Role) (sent : Sent) (carried : Carried) (arrived : Arrived) → IsSendable sent
    → OnSent (λ frame. has_number frame ≡ true → written ≡ check) sent
    → CarriesTold (told_as written role sent) carried → Arrives check role carried arrived → arrived ≡ arrives sent
told-arrives laws written check role slots.Mark carried arrived can j c h = subst (λ (v : Carried). Arrives check role v arrived) c h
told-arrives laws written check role slots.Flags carried arrived can j c h = subst (λ (v : Carried). Arrives check role v arrived) c h
told-arrives laws written check role slots.Odp carried arrived can j c h = subst (λ (v : Carried). Arrives check role v arrived) c h
told-arrives laws written check role slots.Adp carried arrived can j c h = subst (λ (v : Carried). Arrives check role v arrived) c h
told-arrives laws written check role (slots.Frame frame) carried arrived can j c h =
    octets-heard laws check role frame (checked written role 0 frame) carried arrived
    (subst (λ (v : List ℕ). SpellsFrame check role 0 v frame) (sym (same-octets written check role frame j))
    (laws.exists check frame role 0 can.0)) c h

both-checks : (one other check : Check) (sent : Sent) → OnSent (λ frame. has_number frame ≡ true → one ≡ check) sent
    → OnSent (λ frame. has_number frame ≡ true → other ≡ check) sent → OnSent (λ frame. has_number frame ≡ true → one ≡ other) sent
both-checks one other check q3 h k = grind (arith)

arrives-as-sent : HistoryLaws → (agreed check : Check) (role : Role) (sent : Sent) (said : Told) (carried : Carried) (arrived : Arrived)
    → IsToldAs agreed role sent said → OnSent (λ frame. has_number frame ≡ true → check ≡ agreed) sent → CarriesTold said carried
    → Arrives check role carried arrived → arrived ≡ arrives sent
arrives-as-sent laws agreed check role sent said carried arrived is j c h =
    told-arrives laws is.written check role sent carried arrived is.can (both-checks is.written check agreed sent is.numbered j)
    (subst (λ (t : Told). CarriesTold t carried) is.told_is c) h

-- ---- moves

-- a hearing that isn't a break
pub record HasHeard (becomes : Result Account LinkFault) (link : AnyEnd) : Type 0 where
  pub account : Account
  pub becomes_is : becomes ≡ Ok account
  pub stands : StandsFor link (after_given account)

has-heard : (becomes : Result Account LinkFault) (a : Account) (link : AnyEnd) (given : Option ℕ) → HeardAs becomes a link (Ok given)
    → HasHeard becomes link
has-heard q0 a link given h = grind (arith)

-- an end that has heard this, by the account that it came to
heard-side : HistoryLaws → (check : Check) (role : Role) (turn : ℕ) (arrived : Arrived) (x b : Account) (slots : List Slot)
    (old new : EndSide)
    → IsSide check role x slots old → hear turn arrived x ≡ Ok b → new ≡ record old { end = new.end } → new.end.role ≡ old.end.role
    → StandsFor new.end.link (after_given b) → IsSide check role (after_given b) slots new
heard-side laws check role turn arrived x b slots old new h e is role_is stands =
    side-of check role (after_given b) slots new (record old { end = new.end }) is stands (role_is ∙ h.role_is) h.line
    (book-grows old.offered old.delivered x b (grows-heard laws.keeps turn x arrived b e) h.book)

-- what arrives as nothing arrives as nothing else
one-nothing : (check : Check) (role : Role) (carried : Carried) (arrived : Arrived) → Arrives check role carried arrived
    → Arrives check role carried arrivals.Nothing → arrived ≡ arrivals.Nothing
one-nothing check role q2 arrived h k = grind (arith)

hears-step : HistoryLaws → (so sa : Setup) → Reads so sa → (role : Role) (own peer new : EndSide) → LastsAt so sa role own peer
    → HearsNothing own new → LastsAt so sa role new peer
hears-step laws so sa reads role own peer new h nothing =
    let m = nothing.hears in
    let turn : ℕ = own.end.state.turn in
    let k = m.hears.hears h.x h.own_side.stands in
    let none : k.arrived ≡ arrivals.Nothing =
    one-nothing (check_of h.x) (other own.end.role) nothing.carried k.arrived k.arrives (nothing.is_nothing h.x h.own_side.stands) in
    let heard = has-heard (hear turn k.arrived h.x) h.x new.end.link m.given k.becomes in
    let is : hear turn arrivals.Nothing h.x ≡ Ok heard.account =
    subst (λ (v : Arrived). hear turn v h.x ≡ Ok heard.account) none heard.becomes_is in
    record {
      x = after_given heard.account;
      lx = h.lx;
      y = h.y;
      ly = h.ly;
      events = h.events ++ plays.Hears_nothing role turn ∷ [] ++ plays.Gives_break role ∷ [];
      led = led-on so sa (h.events ++ plays.Hears_nothing role turn ∷ []) (plays.Gives_break role) _ _
          (led-on so sa h.events (plays.Hears_nothing role turn) _ _ h.led (hears-event role turn h.x heard.account h.y h.lx h.ly is))
          (gives-event role heard.account h.y h.lx h.ly);
      own_side = heard-side laws (agreed_check so sa) role turn arrivals.Nothing h.x heard.account h.lx own new h.own_side is m.new_is
          m.hears.role_is heard.stands;
      peer_side = h.peer_side;
      known = knows-as role so sa heard.account (after_given heard.account) h.lx h.y h.ly refl
          (knows-heard role so sa reads h.x heard.account h.lx h.y h.ly turn arrivals.Nothing (nothing-arrives role so sa h.x h.y) is
          h.known);
    }

gives-at-peer : (role : Role) (x y : Account) (lx ly : List Slot)
    → happens (plays.Gives_break (other role)) (at role x lx y ly) ≡ at role x lx (after_given y) ly
gives-at-peer q0 x y lx ly = grind (arith)

-- an end whose oldest utterance is gone
shorter-side : (check : Check) (role : Role) (x : Account) (slots left : List Slot) (old new : EndSide) (rest : List Told)
    → IsSide check role x slots old
    → new ≡ record old { line = rest } → AllTold check role left rest → IsSide check role x left new
shorter-side check role x slots left old new rest h is t = grind (arith)

passes-step : HistoryLaws → (so sa : Setup) → Reads so sa → (role : Role) (own peer new after : EndSide) → LastsAt so sa role own peer
    → PassesOf own peer new after → LastsAt so sa role new after
passes-step laws so sa reads role own peer new after h m =
    go h.lx refl (subst (AllTold (agreed_check so sa) role h.lx) m.line_was h.own_side.line)
  where
    go : (slots : List Slot) → h.lx ≡ slots → AllTold (agreed_check so sa) role slots (m.said ∷ m.rest) → LastsAt so sa role new after
    go [] e t = absurd t
    go (slot ∷ left) e t =
        let known : KnowsAt role so sa h.x (slot ∷ left) h.y h.ly =
        subst (λ (l : List Slot). KnowsAt role so sa h.x l h.y h.ly) e h.known in
        let turn : ℕ = peer.end.state.turn in
        let k = m.hears.hears.hears h.y h.peer_side.stands in
        let from : other peer.end.role ≡ role = ap other h.peer_side.role_is ∙ other-other role in
        let arrived : k.arrived ≡ arrives slot.sent =
        arrives-as-sent laws (agreed_check so sa) (check_of h.y) role slot.sent m.said m.carried k.arrived t.0
        (check-heard role so sa h.x slot left h.y h.ly known) m.carries
        (subst (λ (r : Role). Arrives (check_of h.y) r m.carried k.arrived) from k.arrives) in
        let heard = has-heard (hear turn k.arrived h.y) h.y after.end.link m.hears.given k.becomes in
        let is : hear turn (arrives slot.sent) h.y ≡ Ok heard.account =
        subst (λ (v : Arrived). hear turn v h.y ≡ Ok heard.account) arrived heard.becomes_is in
        record {
          x = h.x;
          lx = left;
          y = after_given heard.account;
          ly = h.ly;
          events = h.events ++ plays.Passes role turn ∷ [] ++ plays.Gives_break (other role) ∷ [];
          led = led-on so sa (h.events ++ plays.Passes role turn ∷ []) (plays.Gives_break (other role)) _ _
              (led-on so sa h.events (plays.Passes role turn) (at role h.x (slot ∷ left) h.y h.ly) _
              (h.led ∙ ap (λ (l : List Slot). at role h.x l h.y h.ly) e) (passes-event role turn h.x h.y heard.account slot left h.ly is))
              (gives-at-peer role h.x heard.account left h.ly);
          own_side = shorter-side (agreed_check so sa) role h.x h.lx left own new m.rest h.own_side m.new_is t.1;
          peer_side = heard-side laws (agreed_check so sa) (other role) turn (arrives slot.sent) h.y heard.account h.ly peer after
              h.peer_side is m.hears.new_is
              m.hears.hears.role_is heard.stands;
          known = subst (λ (r : Role). KnowsAt r so sa h.x left (after_given heard.account) h.ly) (other-other role)
              (knows-turned (other role) so sa (after_given heard.account) h.ly h.x left
              (knows-as (other role) so sa heard.account (after_given heard.account) h.ly h.x left refl
              (knows-heard (other role) so sa reads h.y heard.account h.ly h.x left turn (arrives slot.sent)
              (first-arrives role so sa h.x slot left h.y h.ly known) is
              (knows-turned role so sa h.x left h.y h.ly (knows-less role so sa h.x slot left h.y h.ly known)))));
        }

loses-step : (so sa : Setup) (role : Role) (own peer new : EndSide) → LastsAt so sa role own peer → LosesOf own new
    → LastsAt so sa role new peer
loses-step so sa role own peer new h m = go h.lx refl (subst (AllTold (agreed_check so sa) role h.lx) m.line_was h.own_side.line)
  where
    go : (slots : List Slot) → h.lx ≡ slots → AllTold (agreed_check so sa) role slots (m.said ∷ m.rest) → LastsAt so sa role new peer
    go [] e t = absurd t
    go (slot ∷ left) e t = record {
      x = h.x;
      lx = left;
      y = h.y;
      ly = h.ly;
      events = h.events ++ plays.Is_lost role ∷ [];
      led = led-on so sa h.events (plays.Is_lost role) (at role h.x (slot ∷ left) h.y h.ly) _
          (h.led ∙ ap (λ (l : List Slot). at role h.x l h.y h.ly) e) (loses-event role h.x h.y slot left h.ly);
      own_side = shorter-side (agreed_check so sa) role h.x h.lx left own new m.rest h.own_side m.new_is t.1;
      peer_side = h.peer_side;
      known = knows-less role so sa h.x slot left h.y h.ly (subst (λ (l : List Slot). KnowsAt role so sa h.x l h.y h.ly) e h.known);
    }

speaks-step : (so sa : Setup) → Reads so sa → (role : Role) (release : Bool) (own peer new : EndSide) → LastsAt so sa role own peer
    → SpeaksOf release own new
    → LastsAt so sa role new peer
speaks-step so sa reads role release own peer new h m =
    go (speak own.end.state.turn release h.x) refl (m.speaks.says h.x h.own_side.stands)
  where
    go : (r : Result Said LinkFault) → speak own.end.state.turn release h.x ≡ r
        → SaysAs r own.end.role h.x new.end.link (Ok m.said) → LastsAt so sa role new peer
    go (Err fault) e s = absurd s
    go (Ok said) e s =
        let told_is : m.said ≡ told_as (check_of said.account) role said.sent =
        subst (λ (r : Role). m.said ≡ told_as (check_of said.account) r said.sent) h.own_side.role_is s.0 in
        record {
          x = said.account;
          lx = h.lx ++ slot_of h.x said ∷ [];
          y = h.y;
          ly = h.ly;
          events = h.events ++ plays.Speaks role own.end.state.turn release ∷ [];
          led = led-on so sa h.events (plays.Speaks role own.end.state.turn release) _ _ h.led
              (speaks-event role own.end.state.turn release h.x h.y h.lx h.ly said e);
          own_side = side-of (agreed_check so sa) role said.account (h.lx ++ slot_of h.x said ∷ []) new
              (record own { end = new.end; line = own.line ++ m.said ∷ [] }) m.new_is s.2 (m.speaks.role_is ∙ h.own_side.role_is)
              (told-snoc (agreed_check so sa) role h.lx own.line (slot_of h.x said) m.said h.own_side.line (record {
                written = check_of said.account;
                told_is = told_is;
                can = s.1;
                numbered = check-sent role so sa h.x h.lx h.y h.ly own.end.state.turn release said e h.known;
              }))
              (subst (IsBook own.offered own.delivered) (sym (kept-spoken own.end.state.turn h.x release said e)) h.own_side.book);
          peer_side = h.peer_side;
          known = knows-spoken role so sa reads h.x h.lx h.y h.ly own.end.state.turn release said (slot_of h.x said) refl e h.known;
        }

-- the own end is as it was
stays : (so sa : Setup) (role : Role) (own peer new : EndSide) → LastsAt so sa role own peer → new.end ≡ own.end
    → new ≡ record own { end = new.end } → LastsAt so sa role new peer
stays so sa role own peer new h e is = grind (arith)

-- its account changes, and none of its segments
alters : (so sa : Setup) (role : Role) (own peer new : EndSide) (h : LastsAt so sa role own peer) (event : Event) (b : Account)
    → happens event (at role h.x h.lx h.y h.ly) ≡ at role b h.lx h.y h.ly → lists b ≡ lists h.x → face b ≡ face h.x
    → StandsFor new.end.link b
    → new.end.role ≡ own.end.role → new ≡ record own { end = new.end } → LastsAt so sa role new peer
alters so sa role own peer new h event b e same shown stands role_is is =
    changes so sa role own peer new h event b e shown
    (side-of (agreed_check so sa) role b h.lx new (record own { end = new.end }) is stands (role_is ∙ h.own_side.role_is) h.own_side.line
    (subst (IsBook own.offered own.delivered) (sym same) h.own_side.book))

offered-step : (so sa : Setup) (role : Role) (piece : List ℕ) (own peer new : EndSide) → LastsAt so sa role own peer
    → OfferedOf piece own new → LastsAt so sa role new peer
offered-step so sa role piece own peer new h m = go m.taken refl m.offers.account m.new_is
  where
    go : (taken : Bool) → m.taken ≡ taken → OfferedAs taken piece own.end new.end
        → new ≡ record own { end = new.end; offered = with_offered taken piece own.offered } → LastsAt so sa role new peer
    go true e k is =
        let wanted = taken-wanted (length piece) (piece_size h.x) (wants h.x) (sym e ∙ m.offers.answer h.x h.own_side.stands) in
        changes so sa role own peer new h (plays.Is_offered role piece) (after_offer piece h.x)
        (offered-event role piece h.x h.y h.lx h.ly wanted) refl
        (side-of (agreed_check so sa) role (after_offer piece h.x) h.lx new
        (record own { end = new.end; offered = with_offered true piece own.offered }) is
        (k h.x h.own_side.stands) (m.offers.same.role_is ∙ h.own_side.role_is) h.own_side.line
        (book-offered own.offered own.delivered h.x piece (wants-begun h.x (nat_le (length piece) (piece_size h.x)) wanted)
        h.own_side.book))
    go false e k is = stays so sa role own peer new h k is

delivered-step : (so sa : Setup) (role : Role) (own peer new : EndSide) → LastsAt so sa role own peer → DeliveredOf own new
    → LastsAt so sa role new peer
delivered-step so sa role own peer new h m =
    changes so sa role own peer new h (plays.Delivers role) (after_delivery h.x) (delivers-event role h.x h.y h.lx h.ly) (given-face h.x)
    (side-of (agreed_check so sa) role (after_delivery h.x) h.lx new
    (record own { end = new.end; delivered = with_delivered m.segment own.delivered }) m.new_is
    (m.delivers.account h.x h.own_side.stands) (m.delivers.role_is ∙ h.own_side.role_is) h.own_side.line
    (book-given own.offered own.delivered h.x m.segment (m.delivers.next h.x h.own_side.stands) h.own_side.book))

asked-step : (so sa : Setup) (role : Role) (units : ℕ) (own peer new : EndSide) → LastsAt so sa role own peer → AskedOf units own new
    → LastsAt so sa role new peer
asked-step so sa role units own peer new h m = go m.answer m.answers
  where
    go : (answer : BreakAsked) → AnswersBreak own.end units new.end answer → LastsAt so sa role new peer
    go asked.Taken k =
        alters so sa role own peer new h (plays.Is_asked role own.end.state.turn units) (after_break_asked own.end.state.turn units h.x)
        (asked-event role own.end.state.turn units h.x h.y h.lx h.ly) (asked-lists own.end.state.turn units h.x)
        (asked-face own.end.state.turn units h.x)
        (k.account h.x h.own_side.stands) k.same.role_is m.new_is
    go asked.Refused k =
        alters so sa role own peer new h (plays.Is_asked role own.end.state.turn units) (after_break_asked own.end.state.turn units h.x)
        (asked-event role own.end.state.turn units h.x h.y h.lx h.ly) (asked-lists own.end.state.turn units h.x)
        (asked-face own.end.state.turn units h.x)
        (k.account h.x h.own_side.stands) k.same.role_is m.new_is
    go asked.Late k = stays so sa role own peer new h k.1 m.new_is

made-at : HistoryLaws → (so sa : Setup) → Reads so sa → (role : Role) (move : Move) (own peer new after : EndSide)
    → LastsAt so sa role own peer
    → IsMade move own peer new after → LastsAt so sa role new after
made-at laws so sa reads role Passes own peer new after h m = passes-step laws so sa reads role own peer new after h m
made-at laws so sa reads role (Speaks release) own peer new after h m =
    subst (LastsAt so sa role new) (sym m.1) (speaks-step so sa reads role release own peer new h m.0)
made-at laws so sa reads role Is_lost own peer new after h m = grind (arith, loses-step)
made-at laws so sa reads role Hears_nothing own peer new after h m = grind (arith, hears-step)
made-at laws so sa reads role (Is_offered piece) own peer new after h m =
    subst (LastsAt so sa role new) (sym m.1) (offered-step so sa role piece own peer new h m.0)
made-at laws so sa reads role (Is_asked units) own peer new after h m =
    subst (LastsAt so sa role new) (sym m.1) (asked-step so sa role units own peer new h m.0)
made-at laws so sa reads role Is_delivered own peer new after h m = grind (arith, delivered-step)
made-at laws so sa reads role (Is_busy busy) own peer new after h m =
    subst (LastsAt so sa role new) (sym m.1) (alters so sa role own peer new h (plays.Is_busy role busy) (after_busy busy h.x)
    (busy-event role busy h.x h.y h.lx h.ly) (busy-lists busy h.x) (busy-face busy h.x) (m.0.told.account h.x h.own_side.stands)
    m.0.told.same.role_is m.0.new_is)

-- ---- histories

from-role : (so sa : Setup) (ends : Both EndSide) (r role : Role) → LastsAt so sa r (of r ends) (of (other r) ends)
    → LastsAt so sa role (of role ends) (of (other role) ends)
from-role so sa ends q3 q4 h = grind (arith)

new-side : (check : Check) (role : Role) (setup : Setup) (side : EndSide) → setup.role ≡ role → Begins setup side
    → IsSide check role (fresh setup) [] side
new-side check role setup side e b = grind (arith)

reads-both : HistoryLaws → (so sa : Setup) → MayPlay so sa → Reads so sa
reads-both laws so sa m = grind (arith)

lasts : HistoryLaws → (so sa : Setup) (steps : List Step) (ends : Both EndSide) → MayPlay so sa → History so sa steps ends
    → (role : Role) → LastsAt so sa role (of role ends) (of (other role) ends)
lasts laws so sa [] ends m h role = from-role so sa ends Originator role (record {
  x = fresh so;
  lx = [];
  y = fresh sa;
  ly = [];
  events = [];
  led = refl;
  own_side = new-side (agreed_check so sa) Originator so ends.orig m.originates h.0;
  peer_side = new-side (agreed_check so sa) Answerer sa ends.answ m.answers h.1;
  known = knows-first so sa;
})
lasts laws so sa (step ∷ steps) ends m h role =
    from-role so sa ends step.role role
    (made-at laws so sa (reads-both laws so sa m) step.role step.move (of step.role h.0) (of (other step.role) h.0)
    (of step.role ends) (of (other step.role) ends) (lasts laws so sa steps h.0 m h.1 step.role) h.2)

pub histories_are_plays : HistoryLaws → HistoriesArePlays
histories_are_plays laws so sa steps ends m h =
    let l = lasts laws so sa steps ends m h Originator in
    record { events = l.events; stand = stand l }
  where
    stand : (l : LastsAt so sa Originator ends.orig ends.answ) (role : Role)
        → StandsFor (of role ends).end.link (seen_from role (played so sa l.events)).own.account
    stand l role = grind (arith)

-- what was given begins what was taken
given-begins : (n : ℕ) (taken pieces delivered offered : List (List ℕ)) → delivered ≡ take n taken → offered ≡ pieces
    → IsPrefixOf taken pieces → IsPrefixOf delivered offered
given-begins n taken pieces delivered offered d o (rest, e) = (
  drop n taken ++ rest,
  ap (λ (l : List (List ℕ)). l ++ (drop n taken ++ rest)) d ∙ sym (append_assoc (take n taken) (drop n taken) rest)
      ∙ ap (λ (l : List (List ℕ)). l ++ rest) (take-append-drop n taken) ∙ e ∙ sym o,
)

pub histories_keep_prefixes : HistoryLaws → TakesInOrder → HistoriesKeepPrefixes
histories_keep_prefixes laws in_order so sa steps ends m h role = go role (lasts laws so sa steps ends m h role)
  where
    begins : (role : Role) (own peer : EndSide) (l : LastsAt so sa role own peer) → IsPrefixOf l.x.incoming.taken l.y.outgoing.pieces
        → IsPrefixOf own.delivered peer.offered
    begins role own peer l p =
        given-begins l.x.incoming.given l.x.incoming.taken l.y.outgoing.pieces own.delivered peer.offered l.own_side.book.given_are
        l.peer_side.book.pieces_are p

    go : (role : Role) → LastsAt so sa role (of role ends) (of (other role) ends)
        → IsPrefixOf (of role ends).delivered (of (other role) ends).offered
    go Originator l = begins Originator ends.orig ends.answ l
        (subst (λ (p : Play). IsPrefixOf p.originator.account.incoming.taken p.answerer.account.outgoing.pieces) l.led
        (in_order so sa l.events m).1)
    go Answerer l = begins Answerer ends.answ ends.orig l
        (subst (λ (p : Play). IsPrefixOf p.answerer.account.incoming.taken p.originator.account.outgoing.pieces) l.led
        (in_order so sa l.events m).0)

-- ---- breaks

-- where an event leaves a fault, the law of plays says of which kind
wanted-fault : BreaksForWantAlone → (so sa : Setup) → MayPlay so sa → (role : Role) (events : List Event) (event : Event) (p : Play)
    (fault : LinkFault) → played so sa events ≡ p → (seen_from role (happens event p)).own.fault ≡ Some fault → WantsAnswers (Some fault)
wanted-fault wants_alone so sa m role events event p fault e f =
    subst WantsAnswers f (subst (λ (q : Play). WantsAnswers (seen_from role q).own.fault)
    (led-on so sa events event p (happens event p) e refl) (go role))
  where
    go : (role : Role) → WantsAnswers (seen_from role (played so sa (events ++ event ∷ []))).own.fault
    go q0 = grind (arith)

speaking-fault : (role : Role) (turn : ℕ) (release : Bool) (x y : Account) (lx ly : List Slot) (fault : LinkFault)
    → speak turn release x ≡ Err fault
    → (seen_from role (happens (plays.Speaks role turn release) (at role x lx y ly))).own.fault ≡ Some fault
speaking-fault role turn release x y lx ly fault e = grind (arith)

passing-fault : (role : Role) (turn : ℕ) (x y : Account) (slot : Slot) (rest ly : List Slot) (fault : LinkFault)
    → hear turn (arrives slot.sent) y ≡ Err fault
    → (seen_from (other role) (happens (plays.Passes role turn) (at role x (slot ∷ rest) y ly))).own.fault ≡ Some fault
passing-fault q0 turn x y slot rest ly fault e = grind (arith)

pub speaking_breaks_for_want : HistoryLaws → BreaksForWantAlone → SpeakingBreaksForWant
speaking_breaks_for_want laws wants_alone so sa steps ends m hist role release new fault s =
    let h = lasts laws so sa steps ends m hist role in
    go h (speak (of role ends).end.state.turn release h.x) refl (s.says h.x h.own_side.stands)
  where
    go : (h : LastsAt so sa role (of role ends) (of (other role) ends)) (r : Result Said LinkFault)
        → speak (of role ends).end.state.turn release h.x ≡ r → SaysAs r (of role ends).end.role h.x new.link (Err fault)
        → WantsAnswers (Some fault)
    go h (Ok said) e k = absurd k
    go h (Err broken) e k =
        wanted-fault wants_alone so sa m role h.events (plays.Speaks role (of role ends).end.state.turn release)
        (at role h.x h.lx h.y h.ly) fault h.led
        (speaking-fault role (of role ends).end.state.turn release h.x h.y h.lx h.ly fault (e ∙ ap Err (sym k.0)))

pub hearing_never_breaks : HistoryLaws → BreaksForWantAlone → HearingNeverBreaks
hearing_never_breaks laws wants_alone so sa steps ends m hist role said rest carried new fault line carries s =
    let h = lasts laws so sa steps ends m hist role in
    at-line h h.lx refl (subst (AllTold (agreed_check so sa) role h.lx) line h.own_side.line)
  where
    at-line : (h : LastsAt so sa role (of role ends) (of (other role) ends)) (slots : List Slot) → h.lx ≡ slots
        → AllTold (agreed_check so sa) role slots (said ∷ rest) → ⊥
    at-line h [] e t = absurd t
    at-line h (slot ∷ left) e t =
        let peer : Endpoint = (of (other role) ends).end in
        let known : KnowsAt role so sa h.x (slot ∷ left) h.y h.ly =
        subst (λ (l : List Slot). KnowsAt role so sa h.x l h.y h.ly) e h.known in
        let k = s.hears h.y h.peer_side.stands in
        let from : other peer.role ≡ role = ap other h.peer_side.role_is ∙ other-other role in
        let arrived : k.arrived ≡ arrives slot.sent =
        arrives-as-sent laws (agreed_check so sa) (check_of h.y) role slot.sent said carried k.arrived t.0
        (check-heard role so sa h.x slot left h.y h.ly known) carries
        (subst (λ (r : Role). Arrives (check_of h.y) r carried k.arrived) from k.arrives) in
        go h slot left (h.led ∙ ap (λ (l : List Slot). at role h.x l h.y h.ly) e)
        (hear peer.state.turn (arrives slot.sent) h.y) refl
        (subst (λ (v : Arrived). HeardAs (hear peer.state.turn v h.y) h.y new.link (Err fault)) arrived k.becomes)
      where
        go : (h : LastsAt so sa role (of role ends) (of (other role) ends)) (slot : Slot) (left : List Slot)
            → played so sa h.events ≡ at role h.x (slot ∷ left) h.y h.ly → (r : Result Account LinkFault)
            → hear (of (other role) ends).end.state.turn (arrives slot.sent) h.y ≡ r → HeardAs r h.y new.link (Err fault) → ⊥
        go h slot left led (Ok b) e k = absurd k
        go h slot left led (Err broken) e k =
            breaks-not (of (other role) ends).end.state.turn (arrives slot.sent) h.y broken e
            (wanted-fault wants_alone so sa m (other role) h.events (plays.Passes role (of (other role) ends).end.state.turn)
            (at role h.x (slot ∷ left) h.y h.ly) broken led
            (passing-fault role (of (other role) ends).end.state.turn h.x h.y slot left h.ly broken e))

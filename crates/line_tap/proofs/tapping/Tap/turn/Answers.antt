use Rattle.line_tap.proofs.Cited.{List, ◌≡◌, ◌+◌, ◌∙◌, refl, sym, ap, subst, stop-earlier, Read, Write, EndsLine, TapNames, named}
use Rattle.line_tap.proofs.Cited.{outputs_of, recordings_of, AreReadTo, HearsSo, InTurn, IsToGo, TapAfter, going_in, slots_as, Tapping}
use Rattle.line_tap.proofs.Cited.{end_of, Turn, IsInLimits, OnlyPuts-refl, CountsStand-refl, CountsStand-trans, FolderState}
use Rattle.line_world.specs.declared.directions.LineEnd.{LineEnd}
use Rattle.line_tap.proofs.Turning.{HasPieces, now_of, loses-line, stops-delivering, stops-reading, ends-whole, stops-ending, ends-badly}
use Rattle.line_tap.proofs.Turning.{so-heard, has-pieces, only-read, is-stopped, is-done, within-still, early-still, nearer-by, within-by}
use Rattle.line_tap.proofs.Turning.{to-go, goes-on-by, stops-going, only-written, whole-orig, some-octets, ready-again}
use Rattle.line_tap.proofs.tapping.Tap.turn.Given.{Over}
use Rattle.line_tap.proofs.tapping.Tap.turn.Goals.{In-Ok-read, In-Ok-look}
use Rattle.line_tap.proofs.tapping.Tap.turn.Goals as goal

-- both pieces were read
pieces-read : (g : Over) (c : In-Ok-read g) (start : FolderState) (x : Tapping) (ts : List Turn) → TapAfter c.args.self.now x ts
    → AreReadTo start (g.F.Folder.state c.args.folder.now) (named c.args.names.now) x.bodies
    → HasPieces c.read.new.self start (g.F.Folder.state c.args.folder.now) (g.F.Folder.state c.deliver.new.folder)
    (g.F.Folder.state c.read.new.folder) (named c.args.names.now) x ts c.in-Ok.hearing c.in-Ok-read.counts
pieces-read g c start x ts h read =
    has-pieces c.hear.new.self c.deliver.new.self c.read.new.self start (g.F.Folder.state c.args.folder.now)
    (g.F.Folder.state c.deliver.new.folder) (g.F.Folder.state c.read.new.folder) (named c.args.names.now) x ts c.in-Ok.hearing
    c.in-Ok-read.counts c.requires.apart read (c.in-Ok.ensures.hears x ts h) c.in-Ok-deliver.ensures.only c.in-Ok-read.ensures.reads
    (c.in-Ok-deliver.ensures.ok x ts c.in-Ok.hearing.heard) (c.in-Ok-deliver.ensures.stands x ts c.in-Ok.hearing.heard)
    (c.in-Ok-read.ensures.pieces start x ts c.in-Ok.hearing.heard)

-- both were looked at, and the turn goes on
going-on : (g : Over) (c : In-Ok-look g) (x : Tapping) (ts : List Turn) → InTurn c.read.new.self x ts c.in-Ok.hearing.heard
    → HearsSo x ts c.in-Ok.hearing → IsToGo c.look.new.self (now_of c.read.new.self x c.in-Ok-read.counts) ts c.in-Ok.hearing
    (slots_as c.in-Ok-look.sent c.look.new.labels)
going-on g c x ts turn hears =
    to-go c.read.new.self c.look.new.self x ts c.in-Ok.hearing c.in-Ok-read.counts (slots_as c.in-Ok-look.sent c.look.new.labels) turn hears
    (c.in-Ok-look.ensures.looks x ts c.in-Ok.hearing.heard turn) c.in-Ok-look.ensures.script c.in-Ok-look.ensures.turn
    c.in-Ok-look.ensures.at c.in-Ok-look.ensures.orig c.in-Ok-look.ensures.answ c.in-Ok-look.ensures.orig_piece
    c.in-Ok-look.ensures.answ_piece

pub returns-in-Ok-go_on : goal.returns-in-Ok-go_on
returns-in-Ok-go_on g c =
    let r0 = c.requires.ready in
    let x = r0.what in
    let ts = r0.turns in
    let heard = c.in-Ok.ensures.hears x ts r0.after in
    let turn = c.in-Ok-read.ensures.stands x ts c.in-Ok.hearing.heard (c.in-Ok-deliver.ensures.stands x ts c.in-Ok.hearing.heard heard.0) in
    let room = some-octets c.read.new.self c.look.new.self x ts c.in-Ok.hearing.heard
    (c.slots_have_room.ensures.room x.script (subst IsInLimits r0.after.behind.script_is r0.limits)).0 turn
    c.in-Ok-look.ensures.orig_piece in
    record {
      turn = λ start x ts h read.
          let n : TapNames = named c.args.names.now in
          let k = pieces-read g (goal.at.returns-in-Ok-go_on g c).In-Ok-read start x ts h read in
          let go = going-on g (goal.at.returns-in-Ok-go_on g c).In-Ok-look x ts k.pieces.turn k.hears in
          let after = c.in-Ok-go_on.ensures.ok (now_of c.read.new.self x c.in-Ok-read.counts) ts go in
          goes-on-by c.read.new.self start _ _ _ _ n x ts c.in-Ok.hearing c.in-Ok-read.counts k c.in-Ok-go_on.ensures.only
          c.go_on.new.self (slots_as c.in-Ok-look.sent c.look.new.labels) after.0 after.1;
      script =
          c.in-Ok-go_on.ensures.script ∙ c.in-Ok-look.ensures.script ∙ c.in-Ok-read.ensures.script
          ∙ c.in-Ok-deliver.ensures.script ∙ c.in-Ok.ensures.script;
      ready = λ same.
          let go = going-on g (goal.at.returns-in-Ok-go_on g c).In-Ok-look x ts turn (so-heard c.hear.new.self x ts c.in-Ok.hearing heard)
          in
          let same : c.look.new.self.at ≡ c.args.self.now.at =
          c.in-Ok-look.ensures.at ∙ c.in-Ok-read.ensures.at ∙ c.in-Ok-deliver.ensures.at ∙ c.in-Ok.ensures.at in
          let more = nearer-by c.args.self.now c.look.new.self c.go_on.new.self same room c.in-Ok-go_on.ensures.at in
          let whole = whole-orig c.read.new.self c.look.new.self x ts c.in-Ok.hearing c.in-Ok-read.counts
          (slots_as c.in-Ok-look.sent c.look.new.labels) turn c.in-Ok-read.ensures.orig_few go in
          let within = within-by c.read.new.self c.look.new.self c.go_on.new.self c.deliver.new.self.at c.in-Ok-read.counts.orig
          c.in-Ok-read.ensures.at
          c.in-Ok-look.ensures.at c.in-Ok-look.ensures.orig_piece whole c.in-Ok-read.ensures.within c.in-Ok-go_on.ensures.at in
          ready-again c.args.self.now c.deliver.new.self c.go_on.new.self (now_of c.read.new.self x c.in-Ok-read.counts)
          (going_in (now_of c.read.new.self x c.in-Ok-read.counts) ts c.in-Ok.hearing.heard
          (slots_as c.in-Ok-look.sent c.look.new.labels)) ts r0
          (c.in-Ok-go_on.ensures.ok (now_of c.read.new.self x c.in-Ok-read.counts) ts go).0
          (c.in-Ok-go_on.ensures.script ∙ c.in-Ok-look.ensures.script ∙ c.in-Ok-read.ensures.script ∙ c.in-Ok-deliver.ensures.script
          ∙ c.in-Ok.ensures.script) (c.in-Ok-deliver.ensures.orig (c.args.self.now.turn + 1) c.in-Ok.ensures.orig)
          (c.in-Ok-deliver.ensures.answ (c.args.self.now.turn + 1) c.in-Ok.ensures.answ)
          (c.in-Ok-go_on.ensures.orig ∙ c.in-Ok-look.ensures.orig ∙ c.in-Ok-read.ensures.orig)
          (c.in-Ok-go_on.ensures.answ ∙ c.in-Ok-look.ensures.answ ∙ c.in-Ok-read.ensures.answ) (c.in-Ok-go_on.ensures.turn
          ∙ ap (λ n. n + 1) (c.in-Ok-look.ensures.turn ∙ c.in-Ok-read.ensures.turn ∙ c.in-Ok-deliver.ensures.turn ∙ c.in-Ok.ensures.turn))
          more within;
      nearer = λ same. nearer-by c.args.self.now c.look.new.self c.go_on.new.self
          (c.in-Ok-look.ensures.at ∙ c.in-Ok-read.ensures.at ∙ c.in-Ok-deliver.ensures.at ∙ c.in-Ok.ensures.at) room
          c.in-Ok-go_on.ensures.at;
      only =
          only-written _ _ _ _ (named c.args.names.now) c.in-Ok-deliver.ensures.only c.in-Ok-read.ensures.reads c.in-Ok-go_on.ensures.only;
      counts = CountsStand-trans (CountsStand-trans c.in-Ok-deliver.ensures.stand c.in-Ok-read.ensures.stand) c.in-Ok-go_on.ensures.stand;
    }

pub returns-in-Err-read : goal.returns-in-Err-read
returns-in-Err-read g c = record {
  turn = λ start x ts h read.
      let n : TapNames = named c.args.names.now in
      let heard = c.in-Ok.ensures.hears x ts h in
      stops-reading start _ _ _ n x ts c.in-Ok.hearing.heard c.requires.apart h.behind.tells read heard.0.hears c.in-Ok-deliver.ensures.only
      (c.in-Ok-deliver.ensures.ok x ts c.in-Ok.hearing.heard heard.0) c.in-Err-read.ensures.reads;
  script = c.in-Err-read.ensures.script ∙ c.in-Ok-deliver.ensures.script ∙ c.in-Ok.ensures.script;
  ready = λ same. is-stopped same;
  nearer = λ same. is-stopped same;
  only = only-read _ _ _ (named c.args.names.now) c.in-Ok-deliver.ensures.only c.in-Err-read.ensures.reads;
  counts =
      stop-earlier (g.F.Folder.state c.args.folder.now) (g.F.Folder.state c.deliver.new.folder) (g.F.Folder.state c.read.new.folder)
      (recordings_of (named c.args.names.now)) (outputs_of (named c.args.names.now)) (Read c.in-Err-read.fault)
      c.in-Ok-deliver.ensures.stand c.in-Err-read.ensures.fails;
}

pub returns-in-Ok-finish : goal.returns-in-Ok-finish
returns-in-Ok-finish g c = record {
  turn = λ start x ts h read.
      let n : TapNames = named c.args.names.now in
      let k = pieces-read g (goal.at.returns-in-Ok-finish g c).In-Ok-read start x ts h read in
      ends-whole c.read.new.self start _ _ _ _ n x ts c.in-Ok.hearing c.in-Ok-read.counts k c.in-Ok-finish.ensures.only
      c.keeps_taken.ensures (c.read.new.self.turn + 1) (c.if-are_none.ensures.orig refl) (c.if-are_none.ensures.answ refl)
      (ap (λ m. m + 1) k.pieces.turn.behind.turn) (c.in-Ok-finish.ensures.ok x ts k.pieces.turn.behind.turn k.hears);
  script = c.in-Ok-read.ensures.script ∙ c.in-Ok-deliver.ensures.script ∙ c.in-Ok.ensures.script;
  ready = λ same. is-done same;
  nearer = λ same. is-done same;
  only = only-written _ _ _ _ (named c.args.names.now) c.in-Ok-deliver.ensures.only c.in-Ok-read.ensures.reads c.in-Ok-finish.ensures.only;
  counts = CountsStand-trans (CountsStand-trans c.in-Ok-deliver.ensures.stand c.in-Ok-read.ensures.stand) c.in-Ok-finish.ensures.stand;
}

pub returns-in-Err-finish : goal.returns-in-Err-finish
returns-in-Err-finish g c = record {
  turn = λ start x ts h read.
      let n : TapNames = named c.args.names.now in
      let k = pieces-read g (goal.at.returns-in-Err-finish g c).In-Ok-read start x ts h read in
      stops-ending c.read.new.self start _ _ _ _ n x ts c.in-Ok.hearing c.in-Ok-read.counts k c.in-Err-finish.ensures.only
      (c.if-are_none.ensures.orig refl) (c.if-are_none.ensures.answ refl)
      (c.in-Err-finish.ensures.err x ts k.pieces.turn.behind.turn k.hears);
  script = c.in-Ok-read.ensures.script ∙ c.in-Ok-deliver.ensures.script ∙ c.in-Ok.ensures.script;
  ready = λ same. is-stopped same;
  nearer = λ same. is-stopped same;
  only = only-written _ _ _ _ (named c.args.names.now) c.in-Ok-deliver.ensures.only c.in-Ok-read.ensures.reads c.in-Err-finish.ensures.only;
  counts =
      stop-earlier (g.F.Folder.state c.args.folder.now) (g.F.Folder.state c.read.new.folder) (g.F.Folder.state c.finish.new.folder)
      (recordings_of (named c.args.names.now)) (outputs_of (named c.args.names.now)) (Write c.in-Err-finish.fault)
      (CountsStand-trans c.in-Ok-deliver.ensures.stand c.in-Ok-read.ensures.stand) c.in-Err-finish.ensures.fails;
}

pub returns-in-Err-look : goal.returns-in-Err-look
returns-in-Err-look g c = record {
  turn = λ start x ts h read.
      let n : TapNames = named c.args.names.now in
      let k = pieces-read g (goal.at.returns-in-Err-look g c).In-Ok-read start x ts h read in
      ends-badly c.keeps_taken.ensures c.read.new.self start _ _ _ n x ts c.in-Ok.hearing c.in-Ok-read.counts c.in-Err-look.role
      c.look.new.self.turn k (c.if-are_none.ensures.some refl) (c.in-Err-look.ensures.turn ∙ k.pieces.turn.behind.turn)
      (c.in-Err-look.ensures.looks x ts c.in-Ok.hearing.heard k.pieces.turn);
  script =
      c.in-Err-look.ensures.script ∙ c.in-Ok-read.ensures.script ∙ c.in-Ok-deliver.ensures.script
      ∙ c.in-Ok.ensures.script;
  ready = λ same. is-stopped same;
  nearer = λ same. is-stopped same;
  only = only-read _ _ _ (named c.args.names.now) c.in-Ok-deliver.ensures.only c.in-Ok-read.ensures.reads;
  counts = (tt, CountsStand-trans c.in-Ok-deliver.ensures.stand c.in-Ok-read.ensures.stand);
}

pub returns-in-Err-go_on : goal.returns-in-Err-go_on
returns-in-Err-go_on g c = record {
  turn = λ start x ts h read.
      let n : TapNames = named c.args.names.now in
      let k = pieces-read g (goal.at.returns-in-Err-go_on g c).In-Ok-read start x ts h read in
      let go = going-on g (goal.at.returns-in-Err-go_on g c).In-Ok-look x ts k.pieces.turn k.hears in
      stops-going c.read.new.self start _ _ _ _ n x ts c.in-Ok.hearing c.in-Ok-read.counts k c.in-Err-go_on.ensures.only c.look.new.self
      (slots_as c.in-Ok-look.sent c.look.new.labels) go (c.in-Err-go_on.ensures.err (now_of c.read.new.self x c.in-Ok-read.counts) ts go);
  script =
      c.in-Err-go_on.ensures.script ∙ c.in-Ok-look.ensures.script ∙ c.in-Ok-read.ensures.script
      ∙ c.in-Ok-deliver.ensures.script ∙ c.in-Ok.ensures.script;
  ready = λ same. is-stopped same;
  nearer = λ same. is-stopped same;
  only = only-written _ _ _ _ (named c.args.names.now) c.in-Ok-deliver.ensures.only c.in-Ok-read.ensures.reads c.in-Err-go_on.ensures.only;
  counts =
      stop-earlier (g.F.Folder.state c.args.folder.now) (g.F.Folder.state c.read.new.folder) (g.F.Folder.state c.go_on.new.folder)
      (recordings_of (named c.args.names.now)) (outputs_of (named c.args.names.now)) (Write c.in-Err-go_on.fault)
      (CountsStand-trans c.in-Ok-deliver.ensures.stand c.in-Ok-read.ensures.stand) c.in-Err-go_on.ensures.fails;
}

pub returns-in-Err-Lost : goal.returns-in-Err-Lost
returns-in-Err-Lost g c = record {
  turn = λ start x ts h read. rw (c.in-Err-Lost.field-0-is)
      (loses-line start (g.F.Folder.state c.args.folder.now) (named c.args.names.now) x ts c.in-Err-Lost.role c.in-Err-Lost.symbol
      h.behind.tells read
      (subst (λ (e : LineEnd). EndsLine x ts (end_of e)) c.in-Err-Lost.field-0-is (c.in-Err-Lost.ensures.hears x ts h)));
  script = c.in-Err-Lost.ensures.script;
  ready = λ same. is-stopped same;
  nearer = λ same. is-stopped same;
  only = OnlyPuts-refl (g.F.Folder.state c.args.folder.now) (outputs_of (named c.args.names.now));
  counts = (tt, CountsStand-refl (g.F.Folder.state c.args.folder.now));
}

pub returns-in-Err-Chance : goal.returns-in-Err-Chance
returns-in-Err-Chance g c = record {
  turn = λ start x ts h read. c.meet_chance.ensures.meets start x ts (c.in-Err-Chance.ensures.turn ∙ h.behind.turn) h.behind.tells
      (rw (c.in-Err-Chance.field-0-is)
      (subst (λ (e : LineEnd). EndsLine x ts (end_of e)) c.in-Err-Chance.field-0-is (c.in-Err-Chance.ensures.hears x ts h))) read;
  script = c.in-Err-Chance.ensures.script;
  ready = λ same. is-stopped same;
  nearer = λ same. is-stopped same;
  only = c.meet_chance.ensures.only;
  counts = c.meet_chance.ensures.counts;
}

pub returns-in-Err : goal.returns-in-Err
returns-in-Err g c = record {
  turn = λ start x ts h read.
      let heard = c.in-Ok.ensures.hears x ts h in
      stops-delivering start (g.F.Folder.state c.args.folder.now) (g.F.Folder.state c.deliver.new.folder) (named c.args.names.now) x ts
      c.in-Ok.hearing.heard c.requires.apart h.behind.tells read heard.0.hears c.in-Err.ensures.only
      (c.in-Err.ensures.err x ts c.in-Ok.hearing.heard heard.0);
  script = c.in-Err.ensures.script ∙ c.in-Ok.ensures.script;
  ready = λ same. is-stopped same;
  nearer = λ same. is-stopped same;
  only = c.in-Err.ensures.only;
  counts = c.in-Err.ensures.fails;
}

pub hear-requires : goal.hear-requires
hear-requires g c = c.requires.ready

pub meet_chance-requires : goal.meet_chance-requires
meet_chance-requires g c = c.requires.apart

pub deliver-requires : goal.deliver-requires
deliver-requires g c = c.requires.apart

pub read-requires : goal.read-requires
read-requires g c = within-still c.args.self.now c.deliver.new.self c.requires.ready (c.in-Ok-deliver.ensures.at ∙ c.in-Ok.ensures.at)

pub look-requires : goal.look-requires
look-requires g c = record {
  limits =
      subst IsInLimits
      (sym (c.in-Ok-read.ensures.script ∙ c.in-Ok-deliver.ensures.script ∙ c.in-Ok.ensures.script)) c.requires.ready.limits;
  orig = c.in-Ok-read.ensures.orig_few;
  answ = c.in-Ok-read.ensures.answ_few;
  stands =
      let r0 = c.requires.ready in
      let heard = c.in-Ok.ensures.hears r0.what r0.turns r0.after in
      let turn = c.in-Ok-read.ensures.stands r0.what r0.turns c.in-Ok.hearing.heard
      (c.in-Ok-deliver.ensures.stands r0.what r0.turns c.in-Ok.hearing.heard heard.0) in
      (r0.what, r0.turns, c.in-Ok.hearing.heard, turn);
}

pub go_on-requires : goal.go_on-requires
go_on-requires g c = record {
  early =
      early-still c.args.self.now c.look.new.self c.requires.ready
      (c.in-Ok-look.ensures.turn ∙ c.in-Ok-read.ensures.turn ∙ c.in-Ok-deliver.ensures.turn ∙ c.in-Ok.ensures.turn);
  within =
      within-still c.args.self.now c.look.new.self c.requires.ready
      (c.in-Ok-look.ensures.at ∙ c.in-Ok-read.ensures.at ∙ c.in-Ok-deliver.ensures.at ∙ c.in-Ok.ensures.at);
  stands =
      let r0 = c.requires.ready in
      let x = r0.what in
      let ts = r0.turns in
      let heard = c.in-Ok.ensures.hears x ts r0.after in
      let turn = c.in-Ok-read.ensures.stands x ts c.in-Ok.hearing.heard
      (c.in-Ok-deliver.ensures.stands x ts c.in-Ok.hearing.heard heard.0) in
      let go = going-on g (goal.at.go_on-requires g c).In-Ok-look x ts turn (so-heard c.hear.new.self x ts c.in-Ok.hearing heard) in
      (now_of c.read.new.self x c.in-Ok-read.counts, ts, go);
}

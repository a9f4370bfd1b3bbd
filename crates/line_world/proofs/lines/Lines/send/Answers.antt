use Rattle.line_world.proofs.Cited.{◌-◌, ap, and_more, Lines, Kept, Originator, Answerer}
use Rattle.line_world.proofs.Waiting.{room-of, sends-behind, waits-both, codes-next}
use Rattle.line_world.proofs.Coded.{both-coded}
use Rattle.line_world.proofs.lines.Lines.send.Goals as goal

pub code-labels-requires-clause-codable : goal.code-labels-requires-clause-codable
code-labels-requires-clause-codable c =
    let w = c.requires.room in
    rw (w.3.coders Originator).sends (c.requires.codable Originator)

pub code-labels-requires-2-clause-codable : goal.code-labels-requires-2-clause-codable
code-labels-requires-2-clause-codable c =
    let w = c.requires.room in
    rw (w.3.coders Answerer).sends (c.requires.codable Answerer)

pub put-requires-clause-room : goal.put-requires-clause-room
put-requires-clause-room c =
    let w = c.requires.room in
    room-of c.args.self.now.directions.from_orig w.0 Originator w.1 w.2.orig (w.3.directions Originator)

pub put-requires-2-clause-room : goal.put-requires-2-clause-room
put-requires-2-clause-room c =
    let w = c.requires.room in
    room-of c.args.self.now.directions.from_answ w.0 Answerer w.1 w.2.answ (w.3.directions Answerer)

pub returns : goal.returns
returns c = record {
  waits = λ channel links streams more h p.
      let o = p Originator in
      let a = p Answerer in
      let from_orig = c.args.self.now.directions.from_orig in
      let from_answ = c.args.self.now.directions.from_answ in
      let lines : Lines = record {
        directions = record { from_orig = c.put.new.self; from_answ = c.put-2.new.self };
        orig = c.code-labels.new.self;
        answ = c.code-labels-2.new.self;
      } in
      record {
        directions = waits-both c.put.new.self c.put-2.new.self channel links streams more
            (sends-behind from_orig c.put.new.self channel Originator links streams.orig more.orig (h.directions Originator)
            (assumption (ap (λ (l : Kept). l.symbols) c.put.ensures.line))
            (c.put.ensures.stands channel.script _ _ more.orig (h.directions Originator).stands
            (codes-next from_orig channel Originator links streams.orig (from_orig.lag - 1) more.orig c.code-labels.result
            (h.directions Originator)
            (c.code-labels.ensures.labels channel Originator streams.orig more.orig (h.coders Originator) o)) o.sent_is))
            (sends-behind from_answ c.put-2.new.self channel Answerer links streams.answ more.answ (h.directions Answerer)
            (assumption (ap (λ (l : Kept). l.symbols) c.put-2.ensures.line))
            (c.put-2.ensures.stands channel.script _ _ more.answ (h.directions Answerer).stands
            (codes-next from_answ channel Answerer links streams.answ (from_answ.lag - 1) more.answ c.code-labels-2.result
            (h.directions Answerer)
            (c.code-labels-2.ensures.labels channel Answerer streams.answ more.answ (h.coders Answerer) a)) a.sent_is));
        coders = both-coded lines channel (and_more streams more)
            (c.code-labels.ensures.stands channel Originator streams.orig more.orig (h.coders Originator) o)
            (c.code-labels-2.ensures.stands channel Answerer streams.answ more.answ (h.coders Answerer) a);
      };
}

use Rattle.sample_line.proofs.Names.{◌++◌, subst, append-nil, at_beginning, line_depth, octet_bits, LineRead}
use Rattle.sample_line.proofs.hearer.Hearer.read_two.Goals as goal

pub returns-in-Some-clause-stands : goal.returns-in-Some-clause-stands
returns-in-Some-clause-stands c = λ mode samples earlier h. record {
  read = h.read ++ octet_bits c.in-Some.octet;
  hears = record {
    reader = c.in-Some.ensures.stands mode at_beginning samples h.read h.hears.reader;
    ear = c.push_octet.ensures.stands h.read h.hears.ear;
  };
  tallies = c.push_octet.ensures.tallies earlier h.read h.hears.ear h.tallies;
}

pub returns-in-None-clause-stands : goal.returns-in-None-clause-stands
returns-in-None-clause-stands c = λ mode samples earlier h. record {
  read = h.read;
  hears = record {
    reader = subst (LineRead mode at_beginning line_depth c.take_two.new.self samples) (append-nil h.read)
        (c.in-None.ensures.stands mode at_beginning samples h.read h.hears.reader);
    ear = h.hears.ear;
  };
  tallies = h.tallies;
}

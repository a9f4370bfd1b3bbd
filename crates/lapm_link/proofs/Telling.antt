-- What an account tells of an end that stands for it.
use Rattle.lapm_link.proofs.Names.{length, refl, sym, ap, arith, Negotiates, Talk, Account}
use Rattle.std.proofs.Common.{length-drop}
use Rattle.lapm_link.specs.declared.any_end.AnyEnd.TheVariants as ends
use Rattle.lapm_link.specs.declared.negotiating.Negotiating.{Negotiating}
use Rattle.lapm_link.specs.declared.negotiating.Talk.TheVariants as talks
use Rattle.lapm_link.specs.EndLaws.{Tells, AccountTells}

negotiating : (end : Negotiating) (talk : Talk) (a : Account) → Negotiates talk a → Tells (ends.Negotiating end) a
negotiating end (talks.Asking asking) a h =
    record { phase = sym h.phase_is; taken = omega arith; undelivered = omega arith; waiting = rw h.phase_is refl }
negotiating end (talks.Answering answering) a h =
    record { phase = sym h.phase_is; taken = omega arith; undelivered = omega arith; waiting = rw h.phase_is refl }

pub account_tells : AccountTells
account_tells (ends.Detecting end) a h =
    record { phase = sym h.phase_is; taken = omega arith; undelivered = omega arith; waiting = rw h.phase_is refl }
account_tells (ends.Negotiating end) a h = negotiating end end.talk a h
account_tells (ends.Establishing end) a h =
    record { phase = sym h.0; taken = omega arith; undelivered = omega arith; waiting = rw h.0 refl }
account_tells (ends.Connected end) a h = record {
  phase = sym h.beside.phase_is;
  taken = omega (arith, h.beside.receiver_stands.taken_is);
  undelivered = omega (arith, ap length h.beside.receiver_stands.ready_is, length-drop a.incoming.given a.incoming.taken);
  waiting = rw h.beside.phase_is h.beside.breaks_stand.given_is;
}
account_tells (ends.Releasing end) a h = record { phase = sym h.0; taken = omega arith; undelivered = omega arith; waiting = rw h.0 refl }
account_tells (ends.Closed end) a h = record { phase = sym h.0; taken = omega arith; undelivered = omega arith; waiting = rw h.0 refl }

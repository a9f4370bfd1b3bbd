use Rattle.std.proofs.Common.{refl}
use Rattle.modem_c.specs.Offers.OfferRead.{Faulty, Spelled}
use Rattle.modem_c.proofs.xid.modem_xid_read.Goals as goal

pub returns-in-Ok : goal.returns-in-Ok
returns-in-Ok c = Spelled c.in-Ok.read c.in-Ok.ensures.ok c.fields_of.ensures refl refl

pub returns-in-Err : goal.returns-in-Err
returns-in-Err c = Faulty c.in-Err.first ((c.in-Err.ensures.fault c.in-Err.first).0 refl) c.fault_of.ensures.kind c.fault_of.ensures.at refl
    refl

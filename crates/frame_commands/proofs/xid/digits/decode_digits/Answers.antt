use Rattle.frame_commands.proofs.Names.{sym, subst, IsBadHex}
use Rattle.frame_commands.proofs.Explaining.Decoding.{written-err, why}
use Rattle.frame_commands.proofs.xid.digits.decode_digits.Goals as goal

pub returns-in-Err : goal.returns-in-Err
returns-in-Err c =
    let refused = written-err _ _ _ _ c.decode_to_slice.ensures.value c.in-Err.is in
    record {
      ok = tt;
      err = subst (IsBadHex c.args.digits.now) (sym c.place_named.ensures) (why c.args.digits.now _ c.in-Err.error c.requires refused);
    }

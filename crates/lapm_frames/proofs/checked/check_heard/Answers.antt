use Rattle.lapm_frames.proofs.Names.{◌%◌, nat_eq, if◌then◌else◌, length, sym, ◌∙◌, ap, Sixteen}
use Rattle.std.proofs.lemmas.Bool.{ltb-true}
use Rattle.std.proofs.lemmas.Grind.{get_or_default_zero}
use Rattle.lapm_frames.proofs.checked.check_heard.Goals as goal

pub returns-in-Some : goal.returns-in-Some
returns-in-Some c =
    let octets = c.args.octets.now in
    let lookup = c.in-Some.ensures.lookup in
    sym (ap (λ low. if nat_eq low 3 then Sixteen else c.args.check) c.if-control-eq3.true)
    ∙ ap (λ control. if nat_eq (control % 4) 3 then Sixteen else c.args.check)
    (lookup.1 ∙ get_or_default_zero octets 1 c.in-Some.control.now (ltb-true 1 (length octets) (sym lookup.0)))

use Rattle.lapm_frames.proofs.Names.{◌≡◌, ◌∷◌, Err, sym, ◌∙◌, ap, subst, IfOk, IfErr, FirstFault, address_of, FrameSpelling, Address, Short}
use Rattle.std.proofs.lemmas.Result.{IfOk-weaker, IfErr-weaker}
use Rattle.lapm_frames.proofs.Faults.{nothing-short, address-fault}
use Rattle.lapm_frames.proofs.Exact.{all-frames, all-faults}
use Rattle.lapm_frames.proofs.spelling.read_lent.Goals as goal
use Rattle.lapm_frames.proofs.spelling.read_lent.Goals.{After-read_addressed, In-None}

pub returns-in_default-clause-fault : goal.returns-in_default-clause-fault
returns-in_default-clause-fault c =
    all-faults c.args.sender c.args.dlci c.args.octets.now (Err Short) tt
    (nothing-short c.args.sender c.args.dlci c.args.octets.now c.in_default.ensures.cases)

address_is_wrong : (c : In-None) → FirstFault c.args.sender c.args.dlci c.args.octets.now (Address c.in-Some.address.now)
address_is_wrong c = address-fault c.args.sender c.args.dlci c.args.octets.now c.in-Some.address.now c.in-Some.rest.now
    c.in-Some.ensures.cases.0 c.in-None.ensures.none

pub returns-in-None-clause-all : goal.returns-in-None-clause-all
returns-in-None-clause-all c =
    all-frames c.args.sender c.args.dlci c.args.octets.now (Err (Address c.in-Some.address.now)) tt (address_is_wrong c)

pub returns-in-None-clause-fault : goal.returns-in-None-clause-fault
returns-in-None-clause-fault c =
    all-faults c.args.sender c.args.dlci c.args.octets.now (Err (Address c.in-Some.address.now)) tt (address_is_wrong c)

whole : (c : After-read_addressed)
    → address_of c.in-Some-is_command.command c.args.sender c.args.dlci ∷ c.in-Some.rest.now ≡ c.args.octets.now
whole c = ap (λ a. a ∷ c.in-Some.rest.now) (sym c.in-Some-is_command.ensures.some) ∙ sym c.in-Some.ensures.cases.0

frame_is_right : (c : After-read_addressed)
    → IfOk c.read_addressed.result (λ frame. FrameSpelling frame c.args.sender c.args.dlci c.args.octets.now)
frame_is_right c = subst (λ o. IfOk c.read_addressed.result (λ frame. FrameSpelling frame c.args.sender c.args.dlci o)) (whole c)
    (IfOk-weaker c.read_addressed.result _ _ (λ frame h. h c.args.sender c.args.dlci) c.read_addressed.ensures.ok)

fault_is_right : (c : After-read_addressed) → IfErr c.read_addressed.result (FirstFault c.args.sender c.args.dlci c.args.octets.now)
fault_is_right c = subst (λ o. IfErr c.read_addressed.result (FirstFault c.args.sender c.args.dlci o)) (whole c)
    (IfErr-weaker c.read_addressed.result _ _ (λ fault h. h c.args.sender c.args.dlci) c.read_addressed.ensures.err)

pub returns-in-Some-is_command-clause-all : goal.returns-in-Some-is_command-clause-all
returns-in-Some-is_command-clause-all c =
    all-frames c.args.sender c.args.dlci c.args.octets.now c.read_addressed.result (frame_is_right c) (fault_is_right c)

pub returns-in-Some-is_command-clause-fault : goal.returns-in-Some-is_command-clause-fault
returns-in-Some-is_command-clause-fault c =
    all-faults c.args.sender c.args.dlci c.args.octets.now c.read_addressed.result (frame_is_right c) (fault_is_right c)

use Rattle.std.proofs.Common.{Option, to_z, of_z, w32, subst, inl, inr, refl}
use Rattle.std.specs.Option.{MatchOption}
use Rattle.link_account.specs.declared.setup.Setup.{Setup}
use Rattle.lapm_link.specs.Fits.{IsSetUp}
use Rattle.gateway.specs.declared.link.Endpoint.{Endpoint}
use Rattle.gateway.specs.Endpoints.{IsNew}
use Rattle.modem_c.specs.declared.codes.TheConstants.{NO_MEMORY}
use Rattle.modem_c.specs.Links.{AnswersSetup}
use Rattle.modem_c.proofs.Linking.{made}
use Rattle.modem_c.proofs.link.modem_link_new.Goals as goal

pub returns-in-Ok-Some : goal.returns-in-Ok-Some
returns-in-Ok-Some c =
    let setup : Setup = c.in-Some.setup in
    let is = subst (λ (v : Option Endpoint). MatchOption v (IsSetUp setup → ⊥) (λ end. IsSetUp setup × IsNew setup end))
    c.in-Ok-Some.field-0-is c.in-Ok-Some.ensures in
    subst (λ (v : Option Setup). AnswersSetup v c.args.handle.now.value c.make.new.handle.value (to_z w32 (of_z w32 c.make.result)))
    c.in-Some.ensures
    (made setup c.in-Ok-Some.end c.args.handle.now.value c.make.new.handle.value c.make.result is.0 is.1 c.make.ensures)

pub returns-in-Err : goal.returns-in-Err
returns-in-Err c =
    subst (λ (v : Option Setup). AnswersSetup v c.args.handle.now.value c.args.handle.now.value NO_MEMORY) c.in-Some.ensures
    (inl (c.in-Err.ensures, inr (refl, refl)))

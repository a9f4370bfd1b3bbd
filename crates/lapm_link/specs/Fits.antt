-- How an end may be set up, and for which terms its parts have room.
use Rattle.std.specs.Prelude.{◌≡◌, ◌≤◌, true}
use Rattle.frame_check.specs.declared.sizes.TheConstants.{INFO}
use Rattle.shared_terms.specs.declared.role.Role.{Role}
use Rattle.shared_terms.specs.declared.role.Role.TheVariants.{Originator, Answerer}
use Rattle.xid_params.specs.declared.offer.Offer.{Offer}
use Rattle.xid_params.specs.declared.terms.Terms.{Terms}
use Rattle.xid_params.specs.Offers.{IsAllowed}
use Rattle.xid_params.specs.Terms.{agree}
use Rattle.link_account.specs.declared.setup.Setup.{Setup}
use Rattle.shared_terms.specs.Role.{other}
use Rattle.link_account.specs.Account.{size_for, window_for}

-- an end may be set up so
pub record IsSetUp (setup : Setup) : Type 0 where
  pub offer : IsAllowed setup.offer
  pub tries_low : 1 ≤ setup.tries
  pub tries_high : setup.tries ≤ 20
  pub period_low : 1 ≤ setup.period
  pub period_high : setup.period ≤ 65535

-- an end that offers this has room for these terms
pub record Fits (setup : Setup) (terms : Terms) : Type 0 where
  pub window_low : 1 ≤ window_for setup.role terms
  pub window_high : window_for setup.role terms ≤ setup.offer.tx_window
  pub other_low : 1 ≤ window_for (other setup.role) terms
  pub other_high : window_for (other setup.role) terms ≤ setup.offer.rx_window
  pub size_low : 1 ≤ size_for setup.role terms
  pub size_high : size_for setup.role terms ≤ INFO
  pub selective : terms.srej ≡ true → window_for (other setup.role) terms ≤ 64

-- what an end of this role agrees on where it offers the one and the other end the other: the originator's offer goes first
abbrev pub agreed_by : Role → Offer → Offer → Terms
agreed_by Originator own theirs = agree own theirs
agreed_by Answerer own theirs = agree theirs own

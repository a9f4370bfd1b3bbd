use Rattle.std.proofs.Common.{arith}
use Rattle.noise_script.proofs.Names.{◌∙◌, refl, sym, ap, length, kind_of, standing, whole, each, delays_said, tries_said, window_said}
use Rattle.noise_script.proofs.Names.{length_said, loss_said, hit_said, noise_said, break_said, pause_said, Entry, Offered}
use Rattle.noise_script.specs.declared.forms.Form.TheVariants as forms
use Rattle.noise_script.proofs.Order.{in_order-length}
use Rattle.noise_script.proofs.Entries.{counted-once, counted-flag, offered-held, counts-delay, counts-tries, counts-window, counts-length}
use Rattle.noise_script.proofs.Entries.{standing-said, counts-lose, counts-hit, counts-noise, counts-break, counts-busy}
use Rattle.noise_script.proofs.draft.Draft.standing.Goals as goal

pub returns-in-Lose : goal.returns-in-Lose
returns-in-Lose c said h a =
    c.len.ensures ∙ c.args.self.now.losses.ok.0 ∙ ap length h.losses ∙ sym (standing-said (whole forms.Lose) loss_said counts-lose said)
    ∙ ap (λ (e : Entry). standing (kind_of e) said) (sym c.in-Lose.is)

pub returns-in-Hit : goal.returns-in-Hit
returns-in-Hit c said h a =
    c.len-in-Hit.ensures ∙ c.args.self.now.hits.ok.0 ∙ ap length h.hits ∙ sym (standing-said (whole forms.Hit) hit_said counts-hit said)
    ∙ ap (λ (e : Entry). standing (kind_of e) said) (sym c.in-Hit.is)

pub returns-in-Noise : goal.returns-in-Noise
returns-in-Noise c said h a =
    c.len-in-Noise.ensures ∙ c.args.self.now.noises.ok.0 ∙ ap length h.noises ∙ sym
    (standing-said (whole forms.Noise) noise_said counts-noise _) ∙ ap (λ (e : Entry). standing (kind_of e) said) (sym c.in-Noise.is)

pub returns-in-Busy : goal.returns-in-Busy
returns-in-Busy c said h a =
    c.len-in-Busy.ensures ∙ c.args.self.now.pauses.ok.0 ∙ ap length h.pauses
    ∙ sym (standing-said (whole forms.Busy) pause_said counts-busy said) ∙ ap (λ (e : Entry). standing (kind_of e) said) (sym c.in-Busy.is)

pub returns-in-Break : goal.returns-in-Break
returns-in-Break c said h a =
    c.len-in-Break.ensures ∙ c.args.self.now.breaks.ok.0 ∙ ap length h.breaks ∙ in_order-length _ ∙ sym
    (standing-said (whole forms.Break) break_said counts-break _) ∙ ap (λ (e : Entry). standing (kind_of e) said) (sym c.in-Break.is)

pub returns-in-Delay : goal.returns-in-Delay
returns-in-Delay c said h a =
    counted-once (whole forms.Delay) delays_said counts-delay refl said a c.args.entry
    (ap kind_of c.in-Delay.is) c.args.self.now.delays h.delays _ _ c.is_some.ensures c.from.ensures

pub returns-in-Tries : goal.returns-in-Tries
returns-in-Tries c said h a =
    counted-once (whole forms.Tries) tries_said counts-tries refl said a c.args.entry
    (ap kind_of c.in-Tries.is) c.args.self.now.tries h.tries _ _ c.is_some-in-Tries.ensures c.from-in-Tries.ensures

pub returns-in-Window : goal.returns-in-Window
returns-in-Window c said h a =
    let role = c.in-Window.window.role in
    let held = ap (λ (o : Offered). o.window) (c.offered.ensures ∙ offered-held c.args.self.now said h role) in
    counted-once (each forms.Window role) (window_said role) (counts-window role) refl said a c.args.entry
    (ap kind_of c.in-Window.is) c.offered.result.window held _ _ c.is_some-in-Window.ensures c.from-in-Window.ensures

pub returns-in-Length : goal.returns-in-Length
returns-in-Length c said h a =
    let role = c.in-Length.length.role in
    let held = ap (λ (o : Offered). o.length) (c.offered-in-Length.ensures ∙ offered-held c.args.self.now said h role) in
    counted-once (each forms.Length role) (length_said role) (counts-length role) refl said a c.args.entry
    (ap kind_of c.in-Length.is) c.offered-in-Length.result.length held _ _ c.is_some-in-Length.ensures c.from-in-Length.ensures

pub returns-in-Srej : goal.returns-in-Srej
returns-in-Srej c said h a =
    let role = c.in-Srej.role in
    let held = ap (λ (o : Offered). o.srej) (c.offered-in-Srej.ensures ∙ offered-held _ _ h _) in grind (arith, counted-flag)

pub returns-in-Check32 : goal.returns-in-Check32
returns-in-Check32 c said h a =
    let role = c.in-Check32.role in
    let held = ap (λ (o : Offered). o.check32) (c.offered-in-Check32.ensures ∙ offered-held _ _ h _) in
    counted-flag _ refl _ a _ (ap kind_of c.in-Check32.is) _ held _ c.from-in-Check32.ensures

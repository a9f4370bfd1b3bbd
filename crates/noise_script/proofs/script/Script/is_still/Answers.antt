use Rattle.noise_script.proofs.Names.{◌∙◌, Bool, List, sym, ap, ◌&&◌, not-true, list_any, meets, ScriptValue, Hit, Noise, same_role}
use Rattle.noise_script.proofs.Still.{still}
use Rattle.noise_script.proofs.script.Script.is_still.Goals as goal

pub returns : goal.returns
returns c = λ e.
    let any_hit : List Hit → Bool =
    list_any (λ hit. same_role hit.role c.args.sender && meets hit.from hit.count c.args.from c.args.count) in
    let any_noise : List Noise → Bool =
    list_any (λ noise. same_role noise.role c.args.sender && meets noise.from noise.count c.args.from c.args.count) in
    let hits = ap any_hit (sym (c.deref.ensures.value ∙ ap (λ (v : ScriptValue). v.hits) c.self.view_is)) in
    let noises = ap any_noise (sym (c.deref-2.ensures.value ∙ ap (λ (v : ScriptValue). v.noises) c.self.view_is)) in
    still c.args.self.now c.args.sender c.args.from c.args.count (hits ∙ sym c.some_hit.ensures ∙ c.if-some_hit.false)
    (noises ∙ sym c.some_noise.ensures ∙ not-true c.some_noise.result e)

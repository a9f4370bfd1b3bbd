use Rattle.noise_script.proofs.Names.{◌≢◌, ◌<◌, ℕ, get_or, word_of}
use Rattle.noise_script.specs.declared.forms.TheConstants.{FORMS}
use Rattle.noise_script.specs.declared.forms.Form.TheVariants as forms
use Rattle.noise_script.proofs.forms.Form.of_word.Given as goal

abbrev pub invariant-loop-form : goal.invariant-loop-form
invariant-loop-form l = (at : ℕ) → at < l.form-index → l.word ≢ word_of (get_or FORMS at forms.Delay)

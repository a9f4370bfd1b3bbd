-- Each form stands in the table.
use Rattle.noise_script.proofs.Names.{◌≡◌, ◌≢◌, ◌∙◌, ℕ, ◌<◌, List, get_or, ap, sym, refl, arith, word_of, Form}
use Rattle.noise_script.specs.declared.forms.Form.TheVariants as forms
use Rattle.noise_script.specs.declared.forms.TheConstants.{FORMS}

place : (form : Form) → (at : ℕ) × (at < 11) × (get_or FORMS at forms.Delay ≡ form)
place forms.Delay = (0, omega arith, refl)
place forms.Window = (1, omega arith, refl)
place forms.Length = (2, omega arith, refl)
place forms.Tries = (3, omega arith, refl)
place forms.Srej = (4, omega arith, refl)
place forms.Check32 = (5, omega arith, refl)
place forms.Lose = (6, omega arith, refl)
place forms.Hit = (7, omega arith, refl)
place forms.Noise = (8, omega arith, refl)
place forms.Break = (9, omega arith, refl)
place forms.Busy = (10, omega arith, refl)

-- a word that none in the table is the word of is of no form
pub none-in-table : (word : List ℕ) → ((at : ℕ) → at < 11 → word ≢ word_of (get_or FORMS at forms.Delay)) → (form : Form)
    → word ≢ word_of form
none-in-table word h form e =
    let p = place form in
    h p.0 p.1 (e ∙ sym (ap word_of p.2))

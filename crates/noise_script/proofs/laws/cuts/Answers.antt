use Rattle.noise_script.proofs.Names.{◌∙◌, [], ◌∷◌, refl, sym, ap, append-nil, words_of}
use Rattle.noise_script.proofs.Cuts.{line-cut, line-last, blank-first, word-cut, blank-ends}
use Rattle.noise_script.proofs.laws.cuts.Goals as goal

pub returns-clause-lines : goal.returns-clause-lines
returns-clause-lines c = record { none = refl; ended = line-cut; last = line-last }

pub returns-clause-words : goal.returns-clause-words
returns-clause-words c = record {
  none = refl;
  blank = blank-first;
  ended = λ word octet line n w b. word-cut _ _ n w (blank-ends octet line b) ∙ ap (λ ws. word ∷ ws) (blank-first octet line b);
  last = λ word n w. ap words_of (sym (append-nil word)) ∙ word-cut _ [] n w refl;
}

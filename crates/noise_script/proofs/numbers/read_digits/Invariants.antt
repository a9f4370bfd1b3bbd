use Rattle.noise_script.proofs.Names.{◌≡◌, true, take, list_all, is_digit, value_of}
use Rattle.noise_script.proofs.numbers.read_digits.Given as goal

abbrev pub invariant-loop-octet : goal.invariant-loop-octet
invariant-loop-octet l = record {
  value : l.value ≡ value_of (take l.octet-index l.word);
  digits : list_all is_digit (take l.octet-index l.word) ≡ true;
}

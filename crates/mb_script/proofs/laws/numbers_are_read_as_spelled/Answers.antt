-- Proof of `laws::numbers_are_read_as_spelled`: the decimal of a number below 2^64 is read as that number.
use Rattle.mb_script.proofs.Spelled.{decimal_word, decimal_words, number_again, numbers_again, number_takes, numbers_take}
use Rattle.mb_script.proofs.laws.numbers_are_read_as_spelled.Goals as goal

pub returns : goal.returns
returns c = record {
  word = decimal_word;
  read = number_again;
  spelled = number_takes;
  words = decimal_words;
  all_read = numbers_again;
  all_spelled = numbers_take;
}

-- What falls with each call that `set_number` makes of itself: the number of registers.
use Rattle.mb_quorum.proofs.middle.+set_number.Given as goal

abbrev pub decreases-set_number : goal.decreases-set_number
decreases-set_number l = l.registers

-- What falls with each call that `choose` makes of itself: the number of registers.
use Rattle.mb_quorum.proofs.middle.+choose.Given as goal

abbrev pub decreases-choose : goal.decreases-choose
decreases-choose l = l.registers

-- Proof of `laws::checks_keep_out`: what a clear read of a ratifier rules out (`ChecksKeepOut`).
use Rattle.std.proofs.Common.{◌∷◌}
use Rattle.mb_deciding.proofs.Histories.{longer}
use Rattle.mb_deciding.proofs.Winner.{ratifier_keeps_out}
use Rattle.mb_deciding.proofs.laws.checks_keep_out.Goals as goal

pub returns-clause-kept : goal.returns-clause-kept
returns-clause-kept c o h p turn sound kind lawful within words reads goes_on =
    ratifier_keeps_out o (record { process = p; turn = turn } ∷ h) sound kind
    (longer o h p turn lawful within words reads goes_on)

pub returns-clause-lawful : goal.returns-clause-lawful
returns-clause-lawful c = ratifier_keeps_out

-- Proof of `samples::small_histories`: small histories of one process with the input 0.
use Rattle.mb_deciding.proofs.SmallHistories.{clear_lawful, clear_output, hasty_refused, invented_refused}
use Rattle.mb_deciding.proofs.SmallHistories.{patient_lawful, patient_output, impatient_refused, impatient_no_part}
use Rattle.mb_deciding.proofs.samples.small_histories.Goals as goal

pub returns-clause-clear : goal.returns-clause-clear
returns-clause-clear c = clear_lawful

pub returns-clause-clear_output : goal.returns-clause-clear_output
returns-clause-clear_output c = clear_output

pub returns-clause-hasty : goal.returns-clause-hasty
returns-clause-hasty c = hasty_refused

pub returns-clause-invented : goal.returns-clause-invented
returns-clause-invented c = invented_refused

pub returns-clause-patient : goal.returns-clause-patient
returns-clause-patient c = patient_lawful

pub returns-clause-patient_output : goal.returns-clause-patient_output
returns-clause-patient_output c = patient_output

pub returns-clause-impatient : goal.returns-clause-impatient
returns-clause-impatient c = impatient_refused

pub returns-clause-impatient_part : goal.returns-clause-impatient_part
returns-clause-impatient_part c = impatient_no_part

use Rattle.trial_disks.proofs.file.taken.Goals as goal

pub as_file-requires-clause-fit : goal.as_file-requires-clause-fit
as_file-requires-clause-fit c κs = λ at store here. (c.take_stores.ensures.out.each at store here).fits

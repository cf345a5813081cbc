use Rattle.file_stores.proofs.FileLaws.{short-file}
use Rattle.trial_disks.proofs.stores.part.Goals as goal

pub by_file-requires-clause-fit : goal.by_file-requires-clause-fit
by_file-requires-clause-fit c κs = λ at store here. (c.take_stores.ensures.out.each at store here).fits

pub put_files-requires-clause-short : goal.put_files-requires-clause-short
put_files-requires-clause-short c κs = λ at f here. short-file c.args.mount.now f (c.by_file.ensures.each at f here).1

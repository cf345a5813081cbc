use Rattle.hist_plain.proofs.Places.{in_file_read, in_file_write, in_file_clear}
use Rattle.hist_plain.proofs.plain.effect.Goals as goal

pub read_at-requires : goal.read_at-requires
read_at-requires c = rw (c.place.ensures, c.requires.out) (rw c.in-Read.is (in_file_read c.args.page_size c.in-Read.page c.in-Read.off c.in-Read.len c.args.bytes.now (rw c.in-Read.is at c.requires.in_file)))

pub write_at-requires : goal.write_at-requires
write_at-requires c = rw (c.place-in-Write.ensures, c.as_slice.ensures) (in_file_write c.args.page_size c.in-Write.page c.in-Write.off c.in-Write.new c.args.bytes.now (rw c.in-Write.is at c.requires.in_file))

pub clear_at-requires : goal.clear_at-requires
clear_at-requires c = rw c.place-in-Clear.ensures (in_file_clear c.args.page_size c.in-Clear.page c.args.bytes.now (rw c.in-Clear.is at c.requires.in_file))

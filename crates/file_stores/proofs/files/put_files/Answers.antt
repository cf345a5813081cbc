use Rattle.std.proofs.Common.{rules, List, length, sym, ap, ◌∙◌, arith, length-append}
use Rattle.std.proofs.lemmas.List.{map-id}
use Rattle.std.proofs.lemmas.Iterator.Adapters.{YieldsList-from_vec}
use Rattle.std.proofs.lemmas.Iterator.Consumers.{YieldsList-turn, YieldsList-so_far}
use Rattle.file_stores.specs.Files.{FileSeen, stores_in}
use Rattle.file_stores.proofs.FileLaws.{part-of}
use Rattle.file_stores.proofs.files.put_files.Goals as goal

pub put_file-requires-clause-room : goal.put_file-requires-clause-room
put_file-requires-clause-room g c κs within =
    let from = c.into_iter-file-iterator.ensures.into_iter_gives in
    let road = YieldsList-from_vec {s = c.into_iter-file-iterator.result} c.args.files.items from.0 (search rules) in
    let turn = YieldsList-turn road c.loop-file.yielded c.loop-file.file-iterator c.loop-file.yielded_by c.next.result c.next.new.self c.in-Some.file c.in-Some.is c.next.ensures.steps in
    let so_far = YieldsList-so_far road c.loop-file.yielded c.loop-file.file-iterator c.loop-file.yielded_by in
    let files : List FileSeen = c.loop-file.yielded in
    let part = part-of c.args.files.items files c.in-Some.file turn.0 turn.1 (sym (map-id files) ∙ so_far) in
    let long = ap length c.loop-file.invariant.behind in
    let both = length-append c.args.stores.now.items (stores_in files) in
    let whole = c.requires.room in
    let same = c.loop-file.invariant.room in
    omega (arith, part, long, both, whole, same)

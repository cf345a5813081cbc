use Rattle.std.proofs.Common.{rules, ◌++◌, ◌∷◌, [], List, length, ap, ◌∙◌, arith, append_assoc, length-append}
use Rattle.std.proofs.lemmas.Iterator.Adapters.{YieldsList-from_vec}
use Rattle.std.proofs.lemmas.Iterator.Consumers.{YieldsList-turn}
use Rattle.file_stores.specs.Files.{FileSeen}
use Rattle.run_files.proofs.held.put_rest.Goals as goal

pub push_reserved-requires : goal.push_reserved-requires
push_reserved-requires g c =
    let inv = c.loop-file.invariant in
    let from = c.into_iter-file-iterator.ensures.into_iter_gives in
    let turn = YieldsList-turn (YieldsList-from_vec {s = c.into_iter-file-iterator.result} c.args.rest.items from.0 (search rules)) c.loop-file.yielded c.loop-file.file-iterator c.loop-file.yielded_by c.next.result c.next.new.self c.in-Some.file c.in-Some.is c.next.ensures.steps in
    let less = turn.0 in
    let long = ap length inv.items ∙ length-append c.args.files.now.items c.loop-file.yielded in
    let room = c.requires in
    let same = inv.room in
    omega (arith, less, long, room, same)

pub loop-file-preserved : goal.loop-file-preserved
loop-file-preserved g c =
    let inv = c.loop-file.invariant in
    record {
      items = c.push_reserved.ensures.items ∙ (ap (λ (l : List FileSeen). l ++ c.in-Some.file ∷ []) inv.items ∙ append_assoc c.args.files.now.items c.loop-file.yielded (c.in-Some.file ∷ []));
      room = c.push_reserved.ensures.capacity ∙ inv.room;
    }

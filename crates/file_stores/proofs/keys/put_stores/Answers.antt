use Rattle.std.proofs.Common.{◌++◌, ◌∷◌, [], ℕ, List, ap, sym, ◌∙◌, arith, append_assoc}
use Rattle.std.proofs.lemmas.List.FromFn.{map-range_with_len_more}
use Rattle.script_meaning.specs.declared.store.StoreKey.{StoreKey}
use Rattle.file_stores.specs.Keys.{stores_of_file}
use Rattle.file_stores.proofs.keys.put_stores.Goals as goal

pub loop-disk-preserved : goal.loop-disk-preserved
loop-disk-preserved c =
    let file = c.args.file in
    let disk = c.loop-disk.disk in
    let one : StoreKey = record { file = file; disk = disk } in
    let more = map-range_with_len_more (λ (d : ℕ). let k : StoreKey = record { file = file; disk = d } in k) 0 disk disk (omega arith) in
    c.in_ok-push.ensures.items
    ∙ (ap (λ (l : List StoreKey). l ++ one ∷ []) c.loop-disk.invariant ∙ (append_assoc c.args.keys.now.items (stores_of_file disk file) (one ∷ []) ∙ ap (λ (l : List StoreKey). c.args.keys.now.items ++ l) (sym more)))

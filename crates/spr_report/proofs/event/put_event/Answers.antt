use Rattle.std.proofs.Common.{◌∷◌, [], map, codes}
use Rattle.std.specs.Fmt.{decimal}
use Rattle.script_meaning.specs.Stack.{name_in, node_names}
use Rattle.spr_report.proofs.Words.{then_word}
use Rattle.spr_report.proofs.event.put_event.Goals as goal

pub returns-in_ok-put_who-in-DestroyCache : goal.returns-in_ok-put_who-in-DestroyCache
returns-in_ok-put_who-in-DestroyCache c = rw c.in-DestroyCache.is (then_word c.put_word.result c.args.out.now.items c.put_who-in-DestroyCache.new.out.items c.put_word.new.out.items
    (name_in (map (λ n. n.now) c.args.names.now.callers.now) c.in-DestroyCache.caller ∷ decimal c.in-DestroyCache.number ∷ name_in (node_names c.args.names.now.nodes.now) c.in-DestroyCache.node ∷ [])
    (codes "destroy_cache") c.in_ok-put_who-in-DestroyCache.ensures c.put_word.ensures)

pub returns-in_ok-put_who-in-DonePager : goal.returns-in_ok-put_who-in-DonePager
returns-in_ok-put_who-in-DonePager c = rw c.in-DonePager.is (then_word c.put_word-in-DonePager.result c.args.out.now.items c.put_who-in-DonePager.new.out.items c.put_word-in-DonePager.new.out.items
    (name_in (map (λ n. n.now) c.args.names.now.callers.now) c.in-DonePager.caller ∷ decimal c.in-DonePager.number ∷ name_in (node_names c.args.names.now.nodes.now) c.in-DonePager.node ∷ [])
    (codes "done_with_pager_object") c.in_ok-put_who-in-DonePager.ensures c.put_word-in-DonePager.ensures)

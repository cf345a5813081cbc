use Rattle.std.proofs.Common.{List, Option, sym, subst, ◌∙◌}
use Rattle.std.proofs.lemmas.List.{with_items_is}
use Rattle.mirror_layer.specs.declared.came.Notice.{Notice}
use Rattle.file_stores.specs.Notices.{AreAtClose}
use Rattle.file_stores.specs.Under.{Under}
use Rattle.run_files.specs.Held.{IsShut}
use denote.Exit.{no}
use denote.Param.Send.{arg_send, param_send}
use Rattle.file_stores.proofs.Crossing.{ground_send}
use Rattle.run_files.proofs.held.close.Goals as goal

pub close-ground-requires-send-G : goal.close-ground-requires-send-G
close-ground-requires-send-G g c κs within = param_send _ _ (arg_send _ no _ (ground_send _ _ c.type_bounds.send-S))

pub returns-clause-ended : goal.returns-clause-ended
returns-clause-ended g c =
    let under : Under = c.close-ground.result.0 in
    let shut : IsShut c.args.file c.args.tower c.close_file.result = record {
      under = under;
      ground = c.close-ground.ensures.ground;
      file_is = c.close_file.ensures.file;
      keys = c.close_file.ensures.keys;
      left = c.close_file.ensures.left;
      under_sound = c.sound.ensures;
      sound = c.close-ground.ensures.sound;
    } in
    let long = c.end_notices.ensures.many ∙ c.deref_mut.ensures.len in (
      shut,
      subst (λ (l : List (Option Notice)). AreAtClose under c.args.made.items l) (sym (with_items_is c.args.made c.end_notices.new.notices long))
          (subst (λ (l : List (Option Notice)). AreAtClose under l c.end_notices.new.notices) c.deref_mut.ensures.value c.end_notices.ensures),
    )

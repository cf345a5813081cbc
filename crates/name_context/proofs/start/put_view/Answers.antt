use Rattle.std.proofs.Common.{◌≡◌, ℕ, List, [], ◌∷◌, ◌++◌, take, append-nil, append_assoc, sym, ap, ◌∙◌}
use Rattle.name_context.specs.Names.{Name, context, kept_at}
use Rattle.name_context.specs.History.{with_name}
use Rattle.name_context.specs.Start.{file_object, object_names}
use Rattle.name_context.proofs.StartLaws.{objects-step, file-fresh, view-done}
use Rattle.name_context.proofs.start.put_view.Goals as goal

pub loop-at-init : goal.loop-at-init
loop-at-init c =
    let path : c.in_ok-path.path ≡ c.args.view.now ∷ [] = c.in_ok-path.ensures ∙ ap (λ (part : List ℕ). part ∷ []) c.as_str.ensures in
    c.in_ok-put.ensures.ok ∙ (ap (λ (p : List (List ℕ)). with_name c.args.tree.now p context) path ∙ sym (append-nil _))

pub put_file-requires : goal.put_file-requires
put_file-requires c =
    ap (λ (names : List Name). kept_at names (c.args.view.now ∷ c.index-files-at.result ∷ [])) c.loop-at.invariant
    ∙ file-fresh c.args.tree.now c.args.view.now c.args.node c.args.files.now c.loop-at.at c.index-files-at.result (c.requires.fresh (c.index-files-at.result ∷ [])) c.requires.files c.loop-at-test.true c.index-files-at.is

pub loop-at-preserved : goal.loop-at-preserved
loop-at-preserved c =
    let name : Name = record { path = c.args.view.now ∷ c.index-files-at.result ∷ []; kept = file_object c.args.node c.loop-at.at } in
    let before = c.args.tree.now ++ record { path = c.args.view.now ∷ []; kept = context } ∷ [] in
    c.in_ok-put_file.ensures ∙ (ap (λ (names : List Name). names ++ name ∷ []) c.loop-at.invariant
    ∙ (append_assoc before (object_names c.args.view.now c.args.node 0 (take c.loop-at.at c.args.files.now)) (name ∷ [])
    ∙ ap (λ (names : List Name). before ++ names) (sym (objects-step c.args.view.now c.args.node c.args.files.now c.loop-at.at c.index-files-at.result c.loop-at-test.true c.index-files-at.is))))

pub returns : goal.returns
returns c = view-done c.args.tree.now c.loop-at.tree c.args.view.now c.args.node c.args.files.now c.loop-at.at c.loop-at-test.false c.loop-at.invariant

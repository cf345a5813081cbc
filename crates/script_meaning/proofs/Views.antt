-- A view is a layer above the ground.
use Rattle.std.proofs.Common.{◌≡◌, ℕ, zero, suc, ◌<◌, List, [], ◌∷◌, length, Bool, true, false, Some, refl, ap, subst, ◌∙◌, arith}
use Rattle.std.specs.Prelude.{position, slice_index_or, ◌&&◌}
use Rattle.std.specs.Str.{bytes_eq}
use Rattle.std.proofs.lemmas.Bool.{false≢true}
use Rattle.std.proofs.lemmas.List.{length-map}
use Rattle.std.proofs.lemmas.List.Quantifiers.{position-Some}
use Rattle.tower_core.specs.TreeShape.{TreeShape, IsUpper}
use Rattle.stack_accept.specs.declared.entries.NodeEntry.{NodeEntry}
use Rattle.stack_accept.specs.Mount.{Mount, is_view}
use Rattle.stack_accept.specs.Sound.{IsGroundNode, IsMount}
use Rattle.stack_accept.proofs.KindLaws.{storage_unseen}

-- the ground is no view
above : (machines : List (List ℕ)) (nodes : List NodeEntry) (name : List ℕ) (node : ℕ) → ((d : NodeEntry) → IsGroundNode machines (slice_index_or nodes 0 d))
    → position (λ n. is_view n.kind && bytes_eq n.name name) nodes ≡ Some node → 0 < node
above machines [] name node ground is = absurd cc
above machines (x ∷ xs) name zero ground is =
    absurd (false≢true (subst (λ (b : Bool). (b && bytes_eq x.name name) ≡ true) (storage_unseen x.kind (ground x).kind) (position-Some (λ n. is_view n.kind && bytes_eq n.name name) (x ∷ xs) 0 x is).1))
above machines (x ∷ xs) name (suc node) ground is = omega arith

pub view-upper : (mount : Mount) (name : List ℕ) (node : ℕ) → IsMount mount → position (λ n. is_view n.kind && bytes_eq n.name name) mount.nodes ≡ Some node → node < length mount.nodes → IsUpper mount.tree node
view-upper mount name node sound is inside =
    let counted : length mount.tree.parents ≡ length mount.nodes = ap (λ (t : TreeShape). length t.parents) sound.served ∙ length-map mount.nodes _ in
    record { above = above mount.machines mount.nodes name node sound.ground_node is; inside = omega arith }

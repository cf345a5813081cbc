use Rattle.std.proofs.Common.{◌≡◌, length, sym, ap, ◌∙◌}
use Rattle.std.specs.List.{length_refill}
use Rattle.link_lossy.proofs.ends.ServerEnd.serve.Goals as goal

pub invariant_of-self : goal.invariant_of-self
invariant_of-self g c =
    let room = c.self.inside.room in
    let long : room.len ≡ length room.items = sym c.deref_mut.ensures.len ∙ ap length c.deref_mut.ensures.value in
    (sym (length_refill room.len room.items c.serve_into.new.room long) ∙ long ∙ c.self.invariant.0, c.serve_into.ensures.room, c.serve_into.ensures.small)

pub invariant_of-self-2 : goal.invariant_of-self-2
invariant_of-self-2 g c =
    let room = c.self.inside.room in
    let long : room.len ≡ length room.items = sym c.deref_mut.ensures.len ∙ ap length c.deref_mut.ensures.value in
    (sym (length_refill room.len room.items c.serve_into.new.room long) ∙ long ∙ c.self.invariant.0, c.serve_into.ensures.room, c.serve_into.ensures.small)
